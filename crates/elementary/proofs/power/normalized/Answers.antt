use Rattle.std.proofs.Common.{◌≡◌, ℕ, ◌+◌, ◌-◌, ◌*◌, ◌%◌, ◌^◌, ◌≤◌, sym, ◌∙◌, lt_of_lt_of_le, mod-eq_of_lt, arith, lit≤}
use lib.Count.{count_leading_zeros}
use Rattle.elementary.proofs.power.Parts.{normalized-sub, normalized-normal}
use Rattle.elementary.proofs.ln.Parts.{Sub, sub32}
use Rattle.elementary.proofs.power.normalized.Goals as goal

sub : (c : goal.Then-b-lt8388608) → Sub c.args.b (count_leading_zeros 32 c.args.b)
sub c = sub32 c.args.b c.requires.0 c.if-b-lt8388608.true

small : (c : goal.Then-b-lt8388608) → c.args.b * 2 ^ (count_leading_zeros 32
    c.args.b - 8) % 2 ^ 32 ≡ c.args.b * 2 ^ (count_leading_zeros 32 c.args.b - 8)
small c = mod-eq_of_lt (lt_of_lt_of_le (sub c).high (lit≤ tt))

pub overflow_sub-result-then-b-lt8388608 : goal.overflow_sub-result-then-b-lt8388608
overflow_sub-result-then-b-lt8388608 c = omega (arith, (sub c).least)

pub overflow_add-result : goal.overflow_add-result
overflow_add-result c = omega (arith, (sub c).least, small c, (sub c).high)

pub returns-then-b-lt8388608 : goal.returns-then-b-lt8388608
returns-then-b-lt8388608 c =
    cut (count_leading_zeros 32 c.args.b) (sub c).most (small c)
    ∙ sym (normalized-sub c.args.b c.if-b-lt8388608.true)
  where
    cut : (z : ℕ) {m n : ℕ} → z ≤ 31 → m ≡ n → (40 - z) * 2 ^ 23 + m ≡ (41 - z - 1) * 2 ^ 23 + n
    cut z h e = omega arith

pub returns : goal.returns
returns c = sym (normalized-normal c.args.b c.if-b-lt8388608.false)

use Rattle.std.proofs.Common.{◌≡◌, ℕ, ◌+◌, ◌/◌, ◌%◌, ◌^◌, ◌<◌, ◌≤◌, Bool, cond, ltb, sym, ap, ◌∙◌, subst, le_trans, le_of_eq, lt_of_lt_of_le, arith, le-ltb, lt-ltb}
use lib.Ieee.{binary32, of_bits}
use Rattle.series.specs.Exp.{ln2}
use Rattle.elementary.specs.Exp.{fixed, packed, shifted, limit, exp_bits}
use Rattle.elementary.proofs.exp.Cases.{abs-one, abs-mid, abs-end, bits_is, limit-le}
use Rattle.elementary.proofs.exp.Law.{fixed_fits, shifted-le, shifted-ge}
use Rattle.elementary.proofs.exp.exp_at.Goals as goal

-- |x| is below the limit
below : (b l : ℕ) → l ≡ limit (ltb b (2 ^ 31)) → b % 2 ^ 31 < l → b % 2 ^ 31 < limit (ltb b (2 ^ 31))
below b l e h = lt_of_lt_of_le h (le_of_eq e)

-- what shift gives
z_is : (c : goal.After-shift-z)
    → c.shift-z.result ≡ shifted (ltb c.args.b (2 ^ 31))
    (fixed (c.args.b % 2 ^ 31))
z_is c = c.shift-z.ensures ∙ ap (shifted (ltb c.args.b (2 ^ 31)))
    c.to_fixed.ensures

-- past the limit
past : (b l : ℕ) → l ≡ limit (ltb b (2 ^ 31)) → l ≤ b % 2 ^ 31 → exp_bits b ≡ cond (ltb b (2 ^ 31)) 0x7F800000 0
past b l e h = bits_is b ∙ abs-end (ltb b (2 ^ 31)) (b % 2 ^ 31) (le_trans (le_of_eq (sym e)) h)

pub returns-then-a-lt-PATTERN_ONE : goal.returns-then-a-lt-PATTERN_ONE
returns-then-a-lt-PATTERN_ONE c =
    let b = c.args.b in
    ap (of_bits binary32) (sym (bits_is b ∙ abs-one (ltb b (2 ^ 31)) (b % 2 ^ 31) c.if-a-lt-PATTERN_ONE.true))

pub to_fixed-requires : goal.to_fixed-requires
to_fixed-requires c =
    let b = c.args.b in
    omega (arith, c.if-a-limit_of.true, c.limit_of.ensures, limit-le (ltb b (2 ^ 31)))

pub shift-z-requires : goal.shift-z-requires
shift-z-requires c =
    let b = c.args.b in
    subst (λ (x : ℕ). (x < 2 ^ 55) × (2 ^ 31 ≤ b → x ≤ 24778155486156208)) (sym c.to_fixed.ensures)
    (fixed_fits b (b % 2 ^ 31) (below b c.limit_of.result c.limit_of.ensures
    c.if-a-limit_of.true))

pub pack-requires : goal.pack-requires
pack-requires c =
    let b = c.args.b in
    let l = below b c.limit_of.result c.limit_of.ensures
    c.if-a-limit_of.true in
    omega (arith, z_is c, shifted-le (ltb b (2 ^ 31)) (b % 2 ^ 31) l, shifted-ge (ltb b (2 ^ 31)) (b % 2 ^ 31) l)

pub returns-then-a-limit_of : goal.returns-then-a-limit_of
returns-then-a-limit_of c =
    let b = c.args.b in
    let l = below b c.limit_of.result c.limit_of.ensures c.if-a-limit_of.true in
    c.pack.ensures
    ∙ ap (of_bits binary32)
    (ap (λ (z : ℕ). packed (z / (ln2 + 1)) (z % (ln2 + 1))) (z_is c.before)
    ∙ sym (bits_is b ∙ abs-mid (ltb b (2 ^ 31)) (b % 2 ^ 31) c.if-a-lt-PATTERN_ONE.false l))

pub returns-then-b-lt2147483648 : goal.returns-then-b-lt2147483648
returns-then-b-lt2147483648 c =
    let b = c.args.b in
    ap (of_bits binary32)
    (sym (past b c.limit_of.result c.limit_of.ensures c.if-a-limit_of.false
    ∙ ap (λ (s : Bool). cond s 0x7F800000 0) (lt-ltb b (2 ^ 31) c.if-b-lt2147483648.true)))

pub returns-else-b-lt2147483648 : goal.returns-else-b-lt2147483648
returns-else-b-lt2147483648 c =
    let b = c.args.b in
    ap (of_bits binary32)
    (sym (past b c.limit_of.result c.limit_of.ensures c.if-a-limit_of.false
    ∙ ap (λ (s : Bool). cond s 0x7F800000 0) (le-ltb b (2 ^ 31) c.if-b-lt2147483648.false)))

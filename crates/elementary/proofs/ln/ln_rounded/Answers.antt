use Rattle.std.proofs.Common.{◌≡◌, ℕ, ◌+◌, ◌^◌, ◌≤◌, Bool, true, false, cond, ltb, sym, ap, ◌∙◌, ap₂, zero-add, arith, lit≤}
use Rattle.elementary.specs.Ln.{ln_size, ln_sign, rounded, ln_rounded}
use Rattle.elementary.proofs.ln.Rounding.{rounded_zero, rounded-lt, size-lt}
use Rattle.elementary.proofs.ln.ln_rounded.Goals as goal

sign_le : (w : ℕ) → ln_sign w ≤ 2 ^ 31
unfolding ln_sign
sign_le w = go (ltb w 496343524069145961)
  where
    go : (t : Bool) → cond t (2 ^ 31) 0 ≤ 2 ^ 31
    go true = lit≤ tt
    go false = lit≤ tt

size_is : (c : goal.After-sign_of-else-s-eq0) → c.round_fixed.result
    ≡ rounded (ln_size c.args.w)
size_is c = c.round_fixed.ensures ∙ ap rounded c.size_of-s.ensures

pub returns-then-s-eq0 : goal.returns-then-s-eq0
unfolding ln_rounded
returns-then-s-eq0 c =
    c.sign_of.ensures ∙ sym (ap (λ (i : ℕ). i + ln_sign c.args.w)
    (ap rounded (sym c.size_of-s.ensures ∙ c.if-s-eq0.true) ∙ rounded_zero)
    ∙ zero-add (ln_sign c.args.w))

pub overflow_add-result : goal.overflow_add-result
overflow_add-result c =
    let w = c.args.w in
    omega (arith, size_is c, rounded-lt (ln_size w) (size-lt w (omega arith)), c.sign_of-else-s-eq0.ensures, sign_le w)

pub returns-else-s-eq0 : goal.returns-else-s-eq0
unfolding ln_rounded
returns-else-s-eq0 c = ap₂ (λ (i j : ℕ). i + j) (size_is c) c.sign_of-else-s-eq0.ensures

-- e to a number is a number.
use Rattle.std.proofs.Common.{◌≡◌, ℕ, ◌+◌, ◌/◌, ◌%◌, ◌^◌, ◌<◌, ◌≤◌, Bool, true, false, cond, not, T, ltb, ◌⊎◌, sym, ap, ◌∙◌, subst, inl, inr, le_trans, le_of_eq, arith, lit≤}
use native.Mathlib.Nat.{mod-le}
use Rattle.series.specs.Exp.{ln2}
use Rattle.series.proofs.Cuts.{lt_or_ge}
use lib.Ieee.{Float, binary32, is_nan, nan_bits, to_bits}
use lib.Ieee.Bits.{is_false, nan_bits_is}
use Rattle.elementary.specs.Exp.{fixed, shifted, limit, exp_abs, exp_bits, exp_of}
use Rattle.elementary.proofs.Common.{no_nan_bits}
use Rattle.elementary.proofs.exp.Cases.{packed-le, abs-one, abs-mid, abs-end, bits_is}
use Rattle.elementary.proofs.exp.Law.{of_x, shifted-le}

past_le : (s : Bool) → cond s 0x7F800000 0 ≤ 0x7F800000
past_le true = lit≤ tt
past_le false = lit≤ tt

abs-le : (s : Bool) (a : ℕ) → exp_abs s a ≤ 0x7F800000
abs-le s a = go (lt_or_ge a 855638016) (lt_or_ge a (limit s))
  where
    go : (a < 855638016) ⊎ (855638016 ≤ a) → (a < limit s) ⊎ (limit s ≤ a) → exp_abs s a ≤ 0x7F800000
    go (inl h) k = le_trans (le_of_eq (abs-one s a h)) (lit≤ tt)
    go (inr h) (inl k) =
        let z = shifted s (fixed a) in
        let top : z ≤ 49751412479956400 = shifted-le s a k in
        le_trans (le_of_eq (abs-mid s a h k)) (packed-le (z / (ln2 + 1)) (z % (ln2 + 1)) (omega arith) (omega arith))
    go (inr h) (inr k) = le_trans (le_of_eq (abs-end s a k)) (past_le s)

pub exp-number : (x : Float) → is_nan x ≡ false → is_nan (exp_of x) ≡ false
exp-number x h =
    let b = to_bits binary32 x in
    let n = exp_bits b in
    ap is_nan (of_x x (subst (λ (t : Bool). T (not t)) (sym h) tt))
    ∙ sym (nan_bits_is binary32 n)
    ∙ is_false (nan_bits binary32 n)
    (no_nan_bits n (le_trans (mod-le n (2 ^ 31))
    (le_trans (le_of_eq (bits_is b)) (abs-le (ltb b (2 ^ 31)) (b % 2 ^ 31)))))

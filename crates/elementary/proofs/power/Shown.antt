-- What is shown of a result for x^y, from bounds of the exponent of 2 or from a bound beyond an end.
--   Sign y c, sign    the sign and the size of a finite y, from its pattern
--   ratio_order       a bound from below is at most one from above
--   num_pos           a finite x above 0 has a numerator above 0
--   Shown x y r       what IsPow asks for a finite x above 0 and a finite y
--   is_inf, is_zero   it is shown of +infinity past the upper end, and of 0 past the lower one
--   shown             and of exp2_bits z, where x^y is about that power of 2
use Rattle.std.proofs.Common.{◌≡◌, ℕ, zero, suc, ◌+◌, ◌-◌, ◌*◌, ◌/◌, ◌%◌, ◌^◌, ◌<◌, ◌≤◌, Bool, true, false, not, ltb, ◌⊎◌, pos, sym, ap, ◌∙◌, subst, inl, inr, mul-le-mul_right, mul-le-mul_left, mul-pos, not-le_of_lt, le_of_mul-le-mul_right, arith, lit<, lit≤, le-ltb, lt-ltb}
use native.Mathlib.Nat.{one-le-pow}
use native.Mathlib.Nat.{pow-le-pow_left}
use lib.Ieee.{Float, inf, fin, binary32, of_bits}
use lib.Ieee.Exact.{HasValue}
use lib.Ieee.Positive.{num, den, den_pos}
use Rattle.series.specs.Exp.{Within}
use Rattle.series.proofs.Cuts.{lt_or_ge, mul-pow}
use Rattle.series.proofs.Value.{units, units_pos, value_pos, value-neg}
use Rattle.series.proofs.Two.{TwoLe, TwoGe, root}
use Rattle.elementary.specs.Power.{exp2_bits}
use Rattle.elementary.specs.Accuracy.{sign_of, RatioGe, RatioLe, PowGe, PowLe}
use Rattle.elementary.proofs.Common.{infinity_is, zero_is, fraction_is}
use Rattle.elementary.proofs.exp2.Value.{value_zero, value_inf, not_under, is_under, is_over, not-over, sub_near}
use Rattle.elementary.proofs.exp2.Value.{normal_near}

-- ---- y: its sign, and |y| = u 2^-149
pub record Sign (y : Float) (c : ℕ) : Type 0 where
  pub t : Bool
  pub is : not (ltb c (2 ^ 31)) ≡ t
  pub hy : HasValue y t (units (c % 2 ^ 31 / 2 ^ 23) (c % 2 ^ 31 % 2 ^ 23)) (2 ^ 149)

pub sign : (y : Float) (c : ℕ) → y ≡ of_bits binary32 c → c < 2 ^ 32 → c % 2 ^ 31 < 0x7F800000 → Sign y c
sign y c ey l k = go (lt_or_ge c (2 ^ 31))
  where
    go : (c < 2 ^ 31) ⊎ (2 ^ 31 ≤ c) → Sign y c
    go (inl i) =
        let e : c ≡ c % 2 ^ 31 = omega arith in
        record {
          t = false;
          is = ap not (lt-ltb c (2 ^ 31) i);
          hy = subst (λ (n : ℕ). HasValue y false (units (n / 2 ^ 23) (n % 2 ^ 23)) (2 ^ 149)) e
              (subst (λ (z : Float). HasValue z false (units (c / 2 ^ 23) (c % 2 ^ 23)) (2 ^ 149)) (sym ey)
              (value_pos c (omega arith)));
        }
    go (inr i) =
        let e : c - 2 ^ 31 ≡ c % 2 ^ 31 = omega arith in
        record {
          t = true;
          is = ap not (le-ltb c (2 ^ 31) i);
          hy = subst (λ (n : ℕ). HasValue y true (units (n / 2 ^ 23) (n % 2 ^ 23)) (2 ^ 149)) e
              (subst (λ (z : Float). HasValue z true (units ((c - 2 ^ 31) / 2 ^ 23) ((c - 2 ^ 31) % 2 ^ 23))
              (2 ^ 149)) (sym ey) (value-neg c i (omega arith)));
        }

-- ---- the order of the bounds
pub ratio_order : (t : Bool) (a b n m c d c' d' : ℕ) → 0 < a → 0 < b → 0 < m → RatioGe t a b n m c d
    → RatioLe t a b n m c' d' → c * d' ≤ c' * d
ratio_order t a b n m c d c' d' A B M f g = root (c * d') (c' * d) m M (rw (mul-pow c d' m, mul-pow c' d m) (go t f g))
  where
    cross : (x y c d c' d' : ℕ) → 0 < x → 0 < y → c * y ≤ x * d → x * d' ≤ c' * y → c * d' ≤ c' * d
    cross x y c d c' d' X Y f g =
        le_of_mul-le-mul_right {k = x * y} (omega (arith, mul-le-mul_left (d' * x) f, mul-le-mul_left (d * x) g))
        (mul-pos X Y)

    go : (t : Bool) → RatioGe t a b n m c d → RatioLe t a b n m c' d' → c ^ m * d' ^ m ≤ c' ^ m * d ^ m
    go false f g = cross (a ^ n) (b ^ n) (c ^ m) (d ^ m) (c' ^ m) (d' ^ m) (one-le-pow n a A) (one-le-pow n b B) f g
    go true f g = cross (b ^ n) (a ^ n) (c ^ m) (d ^ m) (c' ^ m) (d' ^ m) (one-le-pow n b B) (one-le-pow n a A) f g

-- a weaker bound
weak : (t : Bool) (a b n m c d c' d' : ℕ) → 0 < d → c' * d ≤ c * d' → RatioGe t a b n m c d → RatioGe t a b n m c' d'
weak t a b n m c d c' d' D h = go t
  where
    base : c' ^ m * d ^ m ≤ c ^ m * d' ^ m
    base = rw (mul-pow c d' m) at (rw (mul-pow c' d m) at (pow-le-pow_left h m))

    last : (x y c d c' d' : ℕ) → 0 < d → c' * d ≤ c * d' → c * y ≤ x * d → c' * y ≤ x * d'
    last x y c d c' d' D h f =
        le_of_mul-le-mul_right {k = d} (omega (arith, mul-le-mul_right y h, mul-le-mul_right d' f)) D

    go : (t : Bool) → RatioGe t a b n m c d → RatioGe t a b n m c' d'
    go false f = last (a ^ n) (b ^ n) (c ^ m) (d ^ m) (c' ^ m) (d' ^ m) (one-le-pow m d D) base f
    go true f = last (b ^ n) (a ^ n) (c ^ m) (d ^ m) (c' ^ m) (d' ^ m) (one-le-pow m d D) base f

pub num_pos : (x : Float) (b : ℕ) → x ≡ of_bits binary32 b → 0 < b → b < 0x7F800000 → 0 < num x
num_pos x b ex B h =
    go (num x) (units (b / 2 ^ 23) (b % 2 ^ 23)) (2 ^ 149) (units_pos b B)
    (fraction_is x false (units (b / 2 ^ 23) (b % 2 ^ 23)) (2 ^ 149)
    (subst (λ (z : Float). HasValue z false (units (b / 2 ^ 23) (b % 2 ^ 23)) (2 ^ 149)) (sym ex) (value_pos b h)))
  where
    go : (n u t : ℕ) → 0 < u → n * t ≡ u * den x → 0 < n
    go zero u t U e = absurd (no (mul-pos U (den_pos x)))
      where
        no : 0 < u * den x → ⊥
        no k = omega arith
    go (suc n) u t U e = omega arith

-- ---- the three ranges of IsPow
pub record Shown (x y r : Float) : Type 0 where
  pub near : PowGe x y 1 (2 ^ 126) → PowLe x y (2 ^ 127) 1 → Within (PowGe x y) (PowLe x y) 2 r
  pub under : (PowGe x y 1 (2 ^ 127) → ⊥) → r ≡ fin false 0 (pos 0)
  pub over : PowGe x y (2 ^ 129) 1 → r ≡ inf false

module _ (x y : Float) (X : 0 < num x) where
  ordered : (p q p' q' : ℕ) → PowGe x y p q → PowLe x y p' q' → p * q' ≤ p' * q
  unfolding PowGe PowLe
  ordered p q p' q' f g = ratio_order (sign_of y) (num x) (den x) (num y) (den y) p q p' q' X (den_pos x) (den_pos y) f g

  no_near : PowGe x y (3 * 2 ^ 126) 1 → PowLe x y (2 ^ 127) 1 → ⊥
  no_near g hi = not-le_of_lt (lit< tt) (ordered (3 * 2 ^ 126) 1 (2 ^ 127) 1 g hi)

  pub is_inf : (r : Float) → r ≡ inf false → PowGe x y (3 * 2 ^ 126) 1 → Shown x y r
  unfolding PowGe
  is_inf r e g = record {
    near = λ lo hi. absurd (no_near g hi);
    under =
        λ none. absurd (none (weak (sign_of y) (num x) (den x) (num y) (den y) (3 * 2 ^ 126) 1 1 (2 ^ 127) (lit< tt)
        (lit≤ tt) g));
    over = λ _. e;
  }

  pub is_zero : (r : Float) → r ≡ fin false 0 (pos 0) → PowLe x y 3 (2 ^ 128) → Shown x y r
  is_zero r e g = record {
    near = λ lo hi. absurd (not-le_of_lt (lit< tt) (ordered 1 (2 ^ 126) 3 (2 ^ 128) lo g));
    under = λ _. e;
    over = λ o. absurd (not-le_of_lt (lit< tt) (ordered (2 ^ 129) 1 3 (2 ^ 128) o g));
  }

  -- x^y is about 2^(z / 2^39 - 2^16 - 126)
  module _ (z : ℕ)
      (low : (v p q : ℕ) → 32769 ≤ v → (2 ^ 16 - 1) * 2 ^ 39 + v ≤ z → TwoGe (v - 32769) (2 ^ 39) (2 ^ 127 * p) q
      → PowGe x y p q)
      (high : (v p q : ℕ) → z ≤ (2 ^ 16 - 1) * 2 ^ 39 + v → TwoLe (v + 32769) (2 ^ 39) (2 ^ 127 * p) q → PowLe x y p q)
    where
      near : PowGe x y 1 (2 ^ 126) → PowLe x y (2 ^ 127) 1
          → Within (PowGe x y) (PowLe x y) 2 (of_bits binary32 (exp2_bits z))
      near lo hi = go (lt_or_ge z (2 ^ 55 - 2 ^ 38)) (lt_or_ge z (2 ^ 55)) (lt_or_ge z (2 ^ 55 + 254 * 2 ^ 39))
        where
          go : (z < 2 ^ 55 - 2 ^ 38) ⊎ (2 ^ 55 - 2 ^ 38 ≤ z) → (z < 2 ^ 55) ⊎ (2 ^ 55 ≤ z)
              → (z < 2 ^ 55 + 254 * 2 ^ 39) ⊎ (2 ^ 55 + 254 * 2 ^ 39 ≤ z)
              → Within (PowGe x y) (PowLe x y) 2 (of_bits binary32 (exp2_bits z))
          go (inl i) _ _ =
              absurd (not-le_of_lt (lit< tt) (ordered 1 (2 ^ 126) 3 (2 ^ 128) lo
              (is_under (PowGe x y) (PowLe x y) z low high i)))
          go (inr i) (inl j) _ = sub_near (PowGe x y) (PowLe x y) z low high i j
          go (inr i) (inr j) (inl m) =
              elim (normal_near (PowGe x y) (PowLe x y) z low high j m) [ inl w ↦ w | inr g ↦ absurd (no_near g hi) ]
          go (inr i) (inr j) (inr m) = absurd (no_near (is_over (PowGe x y) (PowLe x y) z low high m) hi)

      under : (PowGe x y 1 (2 ^ 127) → ⊥) → of_bits binary32 (exp2_bits z) ≡ fin false 0 (pos 0)
      under none = go (lt_or_ge z (2 ^ 55 - 2 ^ 38))
        where
          go : (z < 2 ^ 55 - 2 ^ 38) ⊎ (2 ^ 55 - 2 ^ 38 ≤ z) → of_bits binary32 (exp2_bits z) ≡ fin false 0 (pos 0)
          go (inl i) = ap (of_bits binary32) (value_zero z i) ∙ zero_is
          go (inr i) = absurd (none (not_under (PowGe x y) (PowLe x y) z low high i))

      over : PowGe x y (2 ^ 129) 1 → of_bits binary32 (exp2_bits z) ≡ inf false
      over g = go (lt_or_ge z (2 ^ 55 + 254 * 2 ^ 39))
        where
          go : (z < 2 ^ 55 + 254 * 2 ^ 39) ⊎ (2 ^ 55 + 254 * 2 ^ 39 ≤ z) → of_bits binary32 (exp2_bits z) ≡ inf false
          go (inl i) =
              absurd (not-le_of_lt (lit< tt) (ordered (2 ^ 129) 1 (3 * 2 ^ 127) 1 g
              (not-over (PowGe x y) (PowLe x y) z low high i)))
          go (inr i) = ap (of_bits binary32) (value_inf z i) ∙ infinity_is

      pub shown : Shown x y (of_bits binary32 (exp2_bits z))
      shown = record { near = near; under = under; over = over }

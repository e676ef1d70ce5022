-- The whole part of an `f32` from 1 below 2 ^ 24 is the significand of its bit pattern, shifted down.
use Rattle.std.proofs.Common.{◌≡◌, ℕ, ◌+◌, ◌-◌, ◌*◌, ◌/◌, ◌%◌, ◌^◌, ◌<◌, ◌≤◌, min, Bool, true, false, cond, not, T, eqb, leb, pos, sym, ap, ◌∙◌, le_trans, le_of_eq, lt_of_lt_of_le, lt_of_le_of_lt, mul-le-mul_right, mul_comm, lt_of_mul-lt-mul_right, mul-lt-mul_of_pos_right, mul_right_comm, le_of_mul-le-mul_right, arith, ltb→lt, pow_pos, pow-add, shl_lt, ne_eqb}
use lib.Dec.{nleb→lt}
use lib.Ieee.{Float, nan, inf, fin, binary32, up, down, fits, to_bits, lt, le, eq, to_unsigned}
use lib.Ieee.Fits.{down_pos}
use lib.Ieee.Exact.{HasValue}
use lib.Ieee.Nearest.{div_same}
use Rattle.float32.specs.Float32.{is_finite}
use Rattle.float32.specs.Encoding.{significand, exponent}
use Rattle.float32.proofs.Cmp.{no, le_pos}
use Rattle.float32.proofs.Casts.{two_to, below, above_zero, not-zero}
use Rattle.float32.proofs.Decode.{decode, significand-lt}
use Rattle.float32.proofs.Normal.{pow_lt_back}
use Rattle.float32.proofs.Whole.{cross}

-- ---- n / d is q * 2 ^ k / 2 ^ 149
module _ (n d q k : ℕ) (D : 0 < d) (v : n * 2 ^ 149 ≡ q * 2 ^ k * d) where
  at_least : 1 * 1 * d ≤ n * 1 → 2 ^ 149 ≤ q * 2 ^ k
  at_least h = le_of_mul-le-mul_right {k = d} (le_trans (le_of_eq (mul_comm (2 ^ 149) d))
      (le_trans (mul-le-mul_right (2 ^ 149) (go h)) (le_of_eq v))) D
    where
      go : 1 * 1 * d ≤ n * 1 → d ≤ n
      go g = omega arith

  under : n * 1 < 1 * 2 ^ 24 * d → q * 2 ^ k < 2 ^ 173
  under h = lt_of_mul-lt-mul_right d
      (lt_of_le_of_lt (le_of_eq (sym v)) (lt_of_lt_of_le (mul-lt-mul_of_pos_right (go h) (pow_pos 149))
      (le_of_eq (mul_right_comm (2 ^ 24) d (2 ^ 149)))))
    where
      go : n * 1 < 1 * 2 ^ 24 * d → n < 2 ^ 24 * d
      go g = omega arith

  cut : k ≤ 149 → q / 2 ^ (149 - k) ≡ n / d
  cut K = sym (div_same n d q (2 ^ (149 - k)) D (pow_pos (149 - k)) (cross n d q k D v K))

small : (w : ℕ) → w < 2 ^ 24 → w ≡ min w (2 ^ 32 - 1)
small w h = omega arith

-- ---- the float
pub between_finite : (x : Float) → T (le (two_to 0) x) → T (lt x (two_to 24)) → T (is_finite x)
unfolding le lt eq is_finite
between_finite nan a b = absurd a
between_finite (inf true) a b = absurd a
between_finite (inf false) a b = absurd b
between_finite (fin s m e) a b = tt

abbrev Sized : Float → Bool → ℕ → ℕ → Type 0
Sized x s q k = T (not s) × (2 ^ 149 ≤ q * 2 ^ k) × (q * 2 ^ k < 2 ^ 173)
    × (k ≤ 149 → q / 2 ^ (149 - k) ≡ to_unsigned 32 x)

sized : (x : Float) (s : Bool) (q k : ℕ) → HasValue x s (q * 2 ^ k) (2 ^ 149) → T (le (two_to 0) x)
    → T (lt x (two_to 24)) → Sized x s q k
unfolding le lt eq to_unsigned
sized nan s q k v a b = absurd v
sized (inf t) s q k v a b = absurd v
sized (fin true m e) s q k v a b = absurd (not-zero (1 * 1 * down e) (eqb (1 * 1 * down e) (m * up e * 1))
    (above_zero 0 (down e) (down_pos e)) a)
sized (fin false m e) s q k v a b =
    let n = m * up e in
    let d = down e in
    let h : n * 1 < 1 * 2 ^ 24 * d = ltb→lt (n * 1) (1 * 2 ^ 24 * d) b in (
      no (sym v.0),
      at_least n d q k (down_pos e) v.1 (le_pos 1 (pos 0) m e a),
      under n d q k (down_pos e) v.1 h,
      λ (K : k ≤ 149). cut n d q k (down_pos e) v.1 K ∙ small (n / d) (below n d (2 ^ 24) (down_pos e) h),
    )

module _ (x : Float) (F : T (fits binary32 x)) (L : T (le (two_to 0) x)) (H : T (lt x (two_to 24))) where
  abbrev b : ℕ
  b = to_bits binary32 x

  is : Sized x (leb (2 ^ 31) b) (significand binary32 b) (exponent binary32 b)
  is = sized x (leb (2 ^ 31) b) (significand binary32 b) (exponent binary32 b)
      (decode binary32 x F (between_finite x L H)).0 L H

  plain : b < 2 ^ 31
  plain = nleb→lt (2 ^ 31) b is.0

  lowest : 126 ≤ exponent binary32 b
  lowest = let h : 149 < 24 + exponent binary32 b = pow_lt_back 149 (24 + exponent binary32 b)
      (lt_of_le_of_lt is.1 (shl_lt 24 (exponent binary32 b) (significand-lt binary32 b))) in omega arith

  field_is : b / 2 ^ 23 ≡ exponent binary32 b + 1
  unfolding exponent
  field_is = omega (arith, plain, lowest)

  digits_are : significand binary32 b ≡ b % 2 ^ 23 + 2 ^ 23
  unfolding significand
  digits_are = ap (λ (z : Bool). cond z (b % 2 ^ 23) (2 ^ 23 + b % 2 ^ 23))
      (ne_eqb (b / 2 ^ 23 % 2 ^ 8) 0 (λ (e : b / 2 ^ 23 % 2 ^ 8 ≡ 0). omega (arith, plain, lowest, field_is)))
      ∙ omega arith

  highest : exponent binary32 b ≤ 149
  highest =
      let g : 2 ^ 23 ≤ significand binary32 b = omega (arith, digits_are) in
      let h : 23 + exponent binary32 b < 173 = pow_lt_back (23 + exponent binary32 b) 173
      (lt_of_le_of_lt (le_trans (le_of_eq (pow-add 2 23 (exponent binary32 b)))
      (mul-le-mul_right (2 ^ exponent binary32 b) g)) is.2) in
      omega arith

  pub cut_low : 127 ≤ b / 2 ^ 23
  cut_low = omega (arith, field_is, lowest)

  pub cut_high : b / 2 ^ 23 ≤ 150
  cut_high = omega (arith, field_is, highest)

  pub cut_is : (b % 2 ^ 23 + 2 ^ 23) / 2 ^ (150 - b / 2 ^ 23) ≡ to_unsigned 32 x
  cut_is =
      ap (λ (z : ℕ). z / 2 ^ (150 - b / 2 ^ 23)) (sym digits_are)
      ∙ ap (λ (z : ℕ). significand binary32 b / 2 ^ z) (omega (arith, field_is))
      ∙ is.3 highest

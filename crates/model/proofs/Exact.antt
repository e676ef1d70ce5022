-- A retention from 10^-6 to 1 is squeezed without an error in `f64`: times `inner` it has at most 48 digits, and with
-- `edge` at most 52.
--     least                         10^-6
--     finite_there r                such an r is finite
--     squeezed-sum r                r * inner + edge is exact, as float32's laws ask
use Rattle.std.proofs.Common.{ℕ, ◌+◌, ◌-◌, ◌*◌, ◌^◌, ◌<◌, ◌≤◌, Bool, true, false, T, leb, refl, le_trans, le_of_eq, lt_of_le_of_lt, mul-le-mul_right, le_of_mul-le-mul_right, arith, lit<, lit≤, pow_pos, pow_mono, pow-add, shl_lt}
use lib.Ieee.{Float, nan, inf, fin, binary32, fits, to_bits, of_bits, of_fields, round, sub, le}
use lib.Ieee.Exact.{HasValue}
use lib.Ieee.Positive.{positive, positive_of_value, values_of_le, between}
use Rattle.float32.specs.Float32.{is_finite}
use Rattle.float32.specs.Encoding.{significand, exponent}
use Rattle.float32.specs.Numbers.{1ᶠ}
use Rattle.float32.proofs.Decode.{decode, significand-lt, normal}
use Rattle.float32.proofs.Normal.{pow_lt_back}
use Rattle.float32.proofs.Exact.{ExactSum}
use Rattle.model.specs.Constants.{inner, edge}

abbrev pub least : Float
least = round binary32 false 1 1000000

-- ---- the constants, in units of the smallest `f32`
inner-value : HasValue inner false (16776880 * 2 ^ 125) (2 ^ 149)
unfolding of_bits of_fields round sub
inner-value = (refl, refl)

edge-value : HasValue edge false (10995116 * 2 ^ 109) (2 ^ 149)
unfolding round
edge-value = (refl, refl)

least-value : HasValue least false (8796093 * 2 ^ 106) (2 ^ 149)
unfolding round
least-value = (refl, refl)

one_value : HasValue 1ᶠ false (2 ^ 149) (2 ^ 149)
unfolding of_bits of_fields
one_value = (refl, refl)

least_positive : T (positive least)
least_positive = positive_of_value least (8796093 * 2 ^ 106) (2 ^ 149) least-value (lit< tt)

one_positive : T (positive 1ᶠ)
one_positive = positive_of_value 1ᶠ (2 ^ 149) (2 ^ 149) one_value (lit< tt)

-- ---- a positive float
positive_is_finite : (x : Float) → T (positive x) → T (is_finite x)
unfolding is_finite
positive_is_finite nan p = absurd p
positive_is_finite (inf s) p = absurd p
positive_is_finite (fin s m e) p = tt

clear : (x : Float) (s : Bool) (a c : ℕ) → T (positive x) → HasValue x s a c → HasValue x false a c
clear nan s a c p v = v
clear (inf t) s a c p v = v
clear (fin true m e) s a c p v = absurd p
clear (fin false m e) s a c p v = (refl, v.1)

module _ (r : Float) (F : T (fits binary32 r)) (low : T (le least r)) (high : T (le r 1ᶠ)) where
  r_positive : T (positive r)
  r_positive = between least r 1ᶠ least_positive one_positive low high

  pub finite_there : T (is_finite r)
  finite_there = positive_is_finite r r_positive

  abbrev q : ℕ
  q = significand binary32 (to_bits binary32 r)

  abbrev i : ℕ
  i = exponent binary32 (to_bits binary32 r)

  q-lt : q < 2 ^ 24
  q-lt = significand-lt binary32 (to_bits binary32 r)

  r-value : HasValue r false (q * 2 ^ i) (2 ^ 149)
  r-value =
      clear r (leb (2 ^ 31) (to_bits binary32 r)) (q * 2 ^ i) (2 ^ 149) r_positive (decode binary32 r F finite_there).0

  at_least : 2 ^ 129 ≤ q * 2 ^ i
  at_least = le_of_mul-le-mul_right {k = 2 ^ 149} (le_trans (lit≤ tt) go) (pow_pos 149)
    where
      go : 8796093 * 2 ^ 106 * 2 ^ 149 ≤ q * 2 ^ i * 2 ^ 149
      go = values_of_le least r _ _ _ _ least_positive r_positive least-value r-value low

  at_most : q * 2 ^ i ≤ 2 ^ 149
  at_most = le_of_mul-le-mul_right {k = 2 ^ 149} go (pow_pos 149)
    where
      go : q * 2 ^ i * 2 ^ 149 ≤ 2 ^ 149 * 2 ^ 149
      go = values_of_le r 1ᶠ _ _ _ _ r_positive one_positive r-value one_value high

  i-low : 106 ≤ i
  i-low = go (pow_lt_back 129 (24 + i) (lt_of_le_of_lt at_least (shl_lt 24 i q-lt)))
    where
      go : 129 < 24 + i → 106 ≤ i
      go h = omega arith

  i-high : i ≤ 126
  i-high = go (pow_lt_back (23 + i) 150 (lt_of_le_of_lt (le_trans (le_of_eq (pow-add 2 23 i)) most) (lit< tt)))
    where
      most : 2 ^ 23 * 2 ^ i ≤ 2 ^ 149
      most = le_trans (mul-le-mul_right (2 ^ i) (normal binary32 (to_bits binary32 r) (omega (arith, i-low)))) at_most

      go : 23 + i < 150 → i ≤ 126
      go h = omega arith

  few_digits : q * 16776880 + 10995116 * 2 ^ (109 + 149 - (i + 125)) < 2 ^ 53
  few_digits =
      go q (2 ^ (109 + 149 - (i + 125))) q-lt (pow_mono {i = 109 + 149 - (i + 125)} {j = 27} (omega (arith, i-low)))
    where
      go : (n p : ℕ) → n < 2 ^ 24 → p ≤ 2 ^ 27 → n * 16776880 + 10995116 * p < 2 ^ 53
      go n p g h = omega arith

  pub squeezed-sum : ExactSum r inner edge q 16776880 10995116 i 125 109
  squeezed-sum =
      record {
        x_is = r-value;
        y_is = inner-value;
        z_is = edge-value;
        x_short = q-lt;
        y_short = lit< tt;
        z_normal = lit≤ tt;
        small = omega (arith, i-high);
        lower = omega (arith, i-high);
        digits = few_digits;
      }

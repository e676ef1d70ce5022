-- x * y + z of three `f32` whose sum is exact in `f64`: of the fused operation only the rounding of that `f64` to an
-- `f32` is left, which is done on its bit pattern.
--     even m                                 m / 2 ^ 29 to the nearest whole number, at a tie to the even one
--     even_is b                              the nearest `f32`, from the pattern b of an `f64` within the normal `f32`
--     ExactSum x y z a d c i j k             x, y and z are positive, and the sum has at most 53 digits
--     exact-number, exact-low, exact-high    that sum has such a pattern b
--     exact_is                               and, rounded to an `f32`, it is mul_add x y z
use Rattle.std.proofs.Common.{◌≡◌, ℕ, ◌+◌, ◌-◌, ◌*◌, ◌/◌, ◌%◌, ◌^◌, ◌<◌, ◌≤◌, Bool, false, cond, not, T, leb, sym, refl, ap, ◌∙◌, subst, le_trans, le_of_eq, lt_of_lt_of_le, lt_of_le_of_lt, mul-le-mul_right, mul_assoc, add-mul, le_antisymm, arith, lit≤, pow_pos, pow_mono, pow-add, shl_lt, ne_eqb}
use Prim.Native.Nat.{compare}
use Prim.Native.Nat.{Ordering}
use lib.Dec.{nleb→lt}
use lib.Ieee.{Float, nan, inf, fin, binary32, binary64, to_bits, of_bits, is_nan}
use lib.Ieee.{size, nearest, units, round, add, mul}
use lib.Ieee.Digits.{size-le}
use lib.Ieee.Exact.{HasValue, round_exact}
use lib.Ieee.Fits.{add-fits}
use lib.Ieee.Nearest.{closest}
use Rattle.float32.specs.Float32.{is_finite, mul_add}
use Rattle.float32.specs.Encoding.{significand, exponent}
use Rattle.float32.proofs.Cmp.{no}
use Rattle.float32.proofs.Decode.{Decoded, decode, significand-lt, finite_no_nan, normal}
use Rattle.float32.proofs.Normal.{pow_lt_back}
use Rattle.float32.proofs.Patterns.{pack-units}
use Rattle.float32.proofs.Product.{fma_is}
use Rattle.float32.proofs.Rescale.{packed, shifted_down, pow_split}
use Rattle.float32.proofs.Sticky.{Cmp, cmp, size-gt}
use Rattle.float32.proofs.Sums.{sum_like}
use Rattle.float32.proofs.Twice.{one_value}
use Rattle.float32.proofs.Widened.{sum_64}

-- ---- to the nearest whole number
abbrev pub even : ℕ → ℕ
even m = (m + 268435455 + m / 2 ^ 29 % 2) / 2 ^ 29

even_closest : (m : ℕ) → closest m (2 ^ 29) ≡ even m
even_closest m = go (compare (m % 2 ^ 29 * 2) (2 ^ 29)) (cmp (m % 2 ^ 29 * 2) (2 ^ 29))
  where
    go : (o : Ordering) → Cmp o (m % 2 ^ 29 * 2) (2 ^ 29) → nearest (m / 2 ^ 29) o ≡ even m
    go Ordering.lt h = omega arith
    go Ordering.eq h = omega arith
    go Ordering.gt h = omega arith

-- ---- the pattern b
module _ (b : ℕ) (low : 897 ≤ b / 2 ^ 52) (high : b / 2 ^ 52 ≤ 1149) where
  abbrev m : ℕ
  m = significand binary64 b

  abbrev e : ℕ
  e = exponent binary64 b

  m_is : m ≡ 2 ^ 52 + b % 2 ^ 52
  unfolding significand
  m_is =
      ap (λ (z : Bool). cond z (b % 2 ^ 52) (2 ^ 52 + b % 2 ^ 52))
      (ne_eqb (b / 2 ^ 52 % 2 ^ 11) 0 (λ (z : b / 2 ^ 52 % 2 ^ 11 ≡ 0). omega arith))

  e_is : e ≡ b / 2 ^ 52 - 1
  unfolding exponent
  e_is = omega arith

  m_pos : 0 < m
  m_pos = omega (arith, m_is)

  size_is : size m ≡ 53
  size_is = le_antisymm (size-le m 53 (significand-lt binary64 b)) (size-gt m 52 (omega (arith, m_is)))

  digits_are : closest (m * 2 ^ e) (2 ^ (925 + (e - 896))) ≡ even m
  digits_are =
      sym (shifted_down m e (925 + (e - 896)) (omega (arith, e_is)))
      ∙ ap (λ (z : ℕ). closest m (2 ^ z)) gap
      ∙ even_closest m
    where
      gap : 925 + (e - 896) - e ≡ 29
      gap = omega (arith, e_is)

  rounded : units binary32 false (even m) (e - 896) ≡ round binary32 false (m * 2 ^ e) (2 ^ 1074)
  rounded =
      ap (λ (z : ℕ). units binary32 false z (e - 896)) (sym digits_are)
      ∙ ap (λ (z : ℕ). units binary32 false (closest (m * 2 ^ e) (2 ^ (925 + z))) z) drop
      ∙ packed m e m_pos false
    where
      drop : e - 896 ≡ size m + e - 949
      drop = omega (arith, size_is)

  even-le : even m ≤ 2 ^ 24
  even-le = go m (significand-lt binary64 b)
    where
      go : (n : ℕ) → n < 2 ^ 53 → even n ≤ 2 ^ 24
      go n h = omega arith

  even-ge : 2 ^ 23 ≤ even m
  even-ge = omega (arith, m_is)

  -- the digit that decides a tie
  tie_is : b / 2 ^ 29 % 2 ≡ m / 2 ^ 29 % 2
  tie_is = go (b / 2 ^ 52) (b % 2 ^ 52) b (omega arith) ∙ sym (go 1 (b % 2 ^ 52) m m_is)
    where
      go : (f t x : ℕ) → x ≡ f * 2 ^ 52 + t → x / 2 ^ 29 % 2 ≡ t / 2 ^ 29 % 2
      go f t x h = let w : x / 2 ^ 29 ≡ f * 2 ^ 23 + t / 2 ^ 29 = omega arith in omega arith

  short_is : even b - 7516192768 ≡ 0 + ((e - 896) * 2 ^ 23 + even m)
  short_is = go b (b / 2 ^ 52) (b % 2 ^ 52) m e (b / 2 ^ 29 % 2) (m / 2 ^ 29 % 2) (omega arith) m_is e_is low tie_is
    where
      go : (x f t n i p q : ℕ) → x ≡ f * 2 ^ 52 + t → n ≡ 2 ^ 52 + t → i ≡ f - 1 → 897 ≤ f → p ≡ q
          → (x + 268435455 + p) / 2 ^ 29 - 7516192768 ≡ 0 + ((i - 896) * 2 ^ 23 + (n + 268435455 + q) / 2 ^ 29)
      go x f t n i p q a c d g h = omega arith

  few : e - 896 < 254
  few = omega (arith, e_is)

  pub even_is : of_bits binary32 (even b - 7516192768) ≡ round binary32 false (m * 2 ^ e) (2 ^ 1074)
  even_is =
      ap (λ (n : ℕ). of_bits binary32 n) short_is
      ∙ pack-units false (even m) (e - 896) few even-le (λ (h : 0 < e - 896). even-ge)
      ∙ rounded

-- ---- the sum: x is a * 2 ^ i, y is d * 2 ^ j, and z is c * 2 ^ k, in units of the smallest `f32`
pub record ExactSum (x y z : Float) (a d c i j k : ℕ) : Type 0 where
  pub x_is : HasValue x false (a * 2 ^ i) (2 ^ 149)
  pub y_is : HasValue y false (d * 2 ^ j) (2 ^ 149)
  pub z_is : HasValue z false (c * 2 ^ k) (2 ^ 149)
  pub x_short : a < 2 ^ 24
  pub y_short : d < 2 ^ 24
  pub z_normal : 2 ^ 23 ≤ c
  pub small : i + j ≤ 253
  pub lower : i + j ≤ k + 149
  pub digits : a * d + c * 2 ^ (k + 149 - (i + j)) < 2 ^ 53

module _ {x y z : Float} {a d c i j k : ℕ} (t : ExactSum x y z a d c i j k) where
  abbrev S : Float
  S = add binary64 (mul binary64 x y) z

  abbrev num : ℕ
  num = a * d * 2 ^ (i + j + 776) + c * 2 ^ (k + 925)

  abbrev q : ℕ
  q = a * d + c * 2 ^ (k + 149 - (i + j))

  num_is : num ≡ q * 2 ^ (i + j + 776)
  num_is =
      ap (λ (n : ℕ). a * d * 2 ^ (i + j + 776) + n) up
      ∙ sym (add-mul (a * d) (c * 2 ^ (k + 149 - (i + j))) (2 ^ (i + j + 776)))
    where
      up : c * 2 ^ (k + 925) ≡ c * 2 ^ (k + 149 - (i + j)) * 2 ^ (i + j + 776)
      up =
          ap (λ (n : ℕ). c * n) (sym (pow_split (k + 149 - (i + j)) (i + j + 776) (k + 925) (omega (arith, t.lower))))
          ∙ sym (mul_assoc c (2 ^ (k + 149 - (i + j))) (2 ^ (i + j + 776)))

  S-is : S ≡ round binary64 false num (2 ^ 1074)
  S-is =
      sum_64 x y z false false false a d c i j k t.x_short t.y_short
      (omega (arith, t.small)) (omega (arith, t.small)) t.x_is t.y_is t.z_is
      ∙ sum_like binary64 _ _ _ false false refl

  fused_is : round binary32 false num (2 ^ 1074) ≡ mul_add x y z
  fused_is =
      sym (sum_like binary32 _ _ _ false false refl)
      ∙ fma_is x y z false false false a d c i j k t.x_is t.y_is t.z_is

  q_under : (n : ℕ) → 1082 ≤ n → q * 2 ^ (i + j + 776) < 2 ^ n
  q_under n h =
      lt_of_lt_of_le (shl_lt 53 (i + j + 776) t.digits)
      (pow_mono {i = 53 + (i + j + 776)} {j = n} (omega (arith, t.small)))

  num-lt : num < 2 ^ 1201
  num-lt = lt_of_le_of_lt (le_of_eq num_is) (q_under 1201 (lit≤ tt))

  num-ge : 2 ^ 948 ≤ num
  num-ge =
      le_trans (pow_mono {i = 948} {j = 23 + (k + 925)} (omega arith))
      (le_trans (le_of_eq (pow-add 2 23 (k + 925)))
      (le_trans (mul-le-mul_right (2 ^ (k + 925)) t.z_normal) (go (a * d * 2 ^ (i + j + 776)) (c * 2 ^ (k + 925)))))
    where
      go : (u w : ℕ) → w ≤ u + w
      go u w = omega arith

  exact : HasValue S false num (2 ^ 1074)
  exact =
      subst (λ (f : Float). HasValue f false num (2 ^ 1074)) (sym S-is)
      (round_exact binary64 false num (2 ^ 1074) q (i + j + 776) (pow_pos 1074) t.digits (q_under 2098 (lit≤ tt))
      (ap (λ (n : ℕ). n * 2 ^ 1074) num_is))

  finite_of : (f : Float) → HasValue f false num (2 ^ 1074) → T (is_finite f)
  unfolding is_finite
  finite_of nan v = absurd v
  finite_of (inf s) v = absurd v
  finite_of (fin s n g) v = tt

  abbrev b : ℕ
  b = to_bits binary64 S

  abbrev M : ℕ
  M = significand binary64 b

  abbrev E : ℕ
  E = exponent binary64 b

  read : Decoded binary64 b S
  read = decode binary64 S (add-fits binary64 (mul binary64 x y) z) (finite_of S exact)

  same : (leb (2 ^ 63) b ≡ false) × (M * 2 ^ E ≡ num)
  same = one_value S (leb (2 ^ 63) b) false (M * 2 ^ E) num (2 ^ 1074) read.0 exact

  pub exact-number : T (not (is_nan S))
  exact-number = finite_no_nan S (finite_of S exact)

  pub exact_is : round binary32 false (M * 2 ^ E) (2 ^ 1074) ≡ mul_add x y z
  exact_is = ap (λ (n : ℕ). round binary32 false n (2 ^ 1074)) same.1 ∙ fused_is

  e-ge : 896 ≤ E
  e-ge = go (pow_lt_back 948 (53 + E) (lt_of_le_of_lt num-ge num_under))
    where
      num_under : num < 2 ^ (53 + E)
      num_under = lt_of_le_of_lt (le_of_eq (sym same.1)) (shl_lt 53 E (significand-lt binary64 b))

      go : 948 < 53 + E → 896 ≤ E
      go h = omega arith

  e-le : E ≤ 1148
  e-le = go (pow_lt_back (52 + E) 1201 (lt_of_le_of_lt (le_trans (le_of_eq (pow-add 2 52 E)) m-ge) num-lt))
    where
      m-ge : 2 ^ 52 * 2 ^ E ≤ num
      m-ge = le_trans (mul-le-mul_right (2 ^ E) (normal binary64 b (omega (arith, e-ge)))) (le_of_eq same.1)

      go : 52 + E < 1201 → E ≤ 1148
      go h = omega arith

  plain : b < 2 ^ 63
  plain = nleb→lt (2 ^ 63) b (no same.0)

  field_is : b / 2 ^ 52 ≡ E + 1
  unfolding exponent
  field_is = omega (arith, plain, e-ge)

  pub exact-low : 897 ≤ b / 2 ^ 52
  exact-low = omega (arith, field_is, e-ge)

  pub exact-high : b / 2 ^ 52 ≤ 1149
  exact-high = omega (arith, field_is, e-le)

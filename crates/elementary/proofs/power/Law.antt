-- The recipe for |y| up to 128 is right for x^y.
use Rattle.std.proofs.Common.{◌≡◌, ℕ, ◌+◌, ◌-◌, ◌*◌, ◌/◌, ◌%◌, ◌^◌, ◌<◌, ◌≤◌, Bool, true, false, ltb, sym, subst, mul-le-mul, le_of_mul-le-mul_right, arith}
use lib.Ieee.{Float, binary32, unlike, of_bits}
use lib.Ieee.Positive.{num, den, den_pos}
use Rattle.series.proofs.Value.{units}
use Rattle.series.proofs.Two.{TwoLe, TwoGe, two_le_up, two_ge_up}
use Rattle.elementary.specs.Power.{normalized, log2_of, abs_diff, product, arg_of, near_bits}
use Rattle.elementary.specs.Accuracy.{sign_of, RatioGe, RatioLe, PowGe, PowLe}
use Rattle.elementary.proofs.Common.{sign_is, fraction_is}
use Rattle.elementary.proofs.power.Parts.{float-low, float-high, float_range}
use Rattle.elementary.proofs.power.Order.{Sized, Side, side, diff_le, Around, arg_around, low-at, high-at}
use Rattle.elementary.proofs.power.Arg.{sized, at_most}
use Rattle.elementary.proofs.power.Shown.{Sign, sign, num_pos, Shown}
use Rattle.elementary.proofs.power.Shown as S

-- in units of 2^-35
eight : (s : Bool) (l g : ℕ) → Side (159 * 2 ^ 32) s l g → Side (159 * 2 ^ 35) s (8 * l) (8 * g)
eight false l g h = omega arith
eight true l g h = omega arith

module _ (x y : Float) (b c : ℕ) (ex : x ≡ of_bits binary32 b) (ey : y ≡ of_bits binary32 c) (B : 0 < b)
    (h : b < 0x7F800000) (l : c < 2 ^ 32) (k : c % 2 ^ 31 ≤ 0x43000000) where
  abbrev L : ℕ
  L = log2_of (normalized b)

  abbrev Z : ℕ
  Z = arg_of L c

  abbrev U : ℕ
  U = product (abs_diff L (159 * 2 ^ 32)) (c % 2 ^ 31)

  y_is : Sign y c
  y_is = sign y c ey l (omega arith)

  n_is : num y * 2 ^ 149 ≡ units (c % 2 ^ 31 / 2 ^ 23) (c % 2 ^ 31 % 2 ^ 23) * den y
  n_is = fraction_is y y_is.t (units (c % 2 ^ 31 / 2 ^ 23) (c % 2 ^ 31 % 2 ^ 23)) (2 ^ 149) y_is.hy

  few : num y ≤ 128 * den y
  few = at_most (num y) (den y) (c % 2 ^ 31) k n_is

  L-range : (42949672960 ≤ L) × (L ≤ 1232655613952)
  L-range = float_range x b ex B h

  g_le : abs_diff L (159 * 2 ^ 32) ≤ 2 ^ 40
  g_le = diff_le (159 * 2 ^ 32) L (2 ^ 40) (omega arith) (omega (arith, L-range))

  S8 : Sized (num y) (den y) (8 * abs_diff L (159 * 2 ^ 32)) U
  S8 = sized (num y) (den y) (abs_diff L (159 * 2 ^ 32)) (c % 2 ^ 31) (den_pos y) g_le n_is

  u-le : U ≤ (2 ^ 16 + 126) * 2 ^ 39
  u-le = go (num y) (den y) (abs_diff L (159 * 2 ^ 32)) U (den_pos y) few g_le S8.low
    where
      go : (n m g u : ℕ) → 0 < m → n ≤ 128 * m → g ≤ 2 ^ 40 → u * m ≤ 16 * (n * (8 * g)) → u ≤ (2 ^ 16 + 126) * 2 ^ 39
      go n m g u M N G e = le_of_mul-le-mul_right {k = m} (omega (arith, mul-le-mul N G)) M

  arg_is : Around (unlike (ltb L (159 * 2 ^ 32)) y_is.t) Z U
  unfolding arg_of
  arg_is =
      subst (λ (w : Bool). Around (unlike (ltb L (159 * 2 ^ 32)) w) Z U) y_is.is
      (arg_around (159 * 2 ^ 32) L c U u-le)

  lo : TwoLe (8 * L - 8) (2 ^ 35) (num x * 2 ^ 159) (den x)
  lo =
      subst (λ (n : ℕ). TwoLe n (2 ^ 35) (num x * 2 ^ 159) (den x)) (less L L-range.0)
      (two_le_up 8 (L - 1) (2 ^ 32) (num x * 2 ^ 159) (den x) (float-low x b ex B h))
    where
      less : (l : ℕ) → 42949672960 ≤ l → 8 * (l - 1) ≡ 8 * l - 8
      less l h = omega arith

  hi : TwoGe (8 * L + 16) (2 ^ 35) (num x * 2 ^ 159) (den x)
  hi =
      subst (λ (n : ℕ). TwoGe n (2 ^ 35) (num x * 2 ^ 159) (den x)) (more L)
      (two_ge_up 8 (L + 2) (2 ^ 32) (num x * 2 ^ 159) (den x) (float-high x b ex B h))
    where
      more : (l : ℕ) → 8 * (l + 2) ≡ 8 * l + 16
      more l = omega arith

  sign_y : y_is.t ≡ sign_of y
  sign_y = sym (sign_is y y_is.t (units (c % 2 ^ 31 / 2 ^ 23) (c % 2 ^ 31 % 2 ^ 23)) (2 ^ 149) y_is.hy)

  low : (v p q : ℕ) → 32769 ≤ v → (2 ^ 16 - 1) * 2 ^ 39 + v ≤ Z → TwoGe (v - 32769) (2 ^ 39) (2 ^ 127 * p) q
      → PowGe x y p q
  unfolding PowGe
  low v p q i j e =
      subst (λ (w : Bool). RatioGe w (num x) (den x) (num y) (den y) p q) sign_y
      (low-at (num x) (den x) (num y) (den y) (8 * L) (8 * abs_diff L (159 * 2 ^ 32)) U Z (ltb L (159 * 2 ^ 32))
      y_is.t S8
      few (eight (ltb L (159 * 2 ^ 32)) L (abs_diff L (159 * 2 ^ 32)) (side (159 * 2 ^ 32) L)) (omega (arith, L-range))
      lo
      hi arg_is v p q i j e)

  high : (v p q : ℕ) → Z ≤ (2 ^ 16 - 1) * 2 ^ 39 + v → TwoLe (v + 32769) (2 ^ 39) (2 ^ 127 * p) q → PowLe x y p q
  unfolding PowLe
  high v p q j e =
      subst (λ (w : Bool). RatioLe w (num x) (den x) (num y) (den y) p q) sign_y
      (high-at (num x) (den x) (num y) (den y) (8 * L) (8 * abs_diff L (159 * 2 ^ 32)) U Z (ltb L (159 * 2 ^ 32))
      y_is.t
      S8 few (eight (ltb L (159 * 2 ^ 32)) L (abs_diff L (159 * 2 ^ 32)) (side (159 * 2 ^ 32) L))
      (omega (arith, L-range))
      lo hi arg_is v p q j e)

  pub near_law : Shown x y (of_bits binary32 (near_bits b c))
  unfolding near_bits
  near_law = S.shown x y (num_pos x b ex B h) Z low high

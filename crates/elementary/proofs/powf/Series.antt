-- What the series put below or above e^(y ln x) is below or above x^y by the whole-number powers.
use Rattle.std.proofs.Common.{◌≡◌, ℕ, ◌*◌, ◌^◌, ◌<◌, ◌≤◌, Bool, true, false, mul-pos, arith}
use lib.Ieee.{Float, unlike}
use lib.Ieee.Positive.{num, den, den_pos}
use Rattle.series.specs.Exp.{ExpGe, ExpLe, SignedGe, SignedLe}
use Rattle.series.proofs.Cuts.{le-pow, ge-pow, le_same, ge-same, cut}
use Rattle.elementary.specs.Accuracy.{sign_of, RatioGe, RatioLe, PowGe, PowLe}
use Rattle.elementary.specs.Series.{LogGe, LogLe, SeriesGe, SeriesLe}

-- ---- u / v and its power n / m
module _ (a b n m u v c d : ℕ) (B : 0 < b) (M : 0 < m) where
  same : m * (n * a) * b ≡ n * a * (m * b)
  same = go (n * a)
    where
      go : (z : ℕ) → m * z * b ≡ z * (m * b)
      go z = omega arith

  -- e^(a / b) ≤ u / v and c / d ≤ e^(n a / (m b))
  below : ExpLe a b u v → ExpGe (n * a) (m * b) c d → c ^ m * v ^ n ≤ u ^ n * d ^ m
  below f g =
      cut (n * a) b (c ^ m) (d ^ m) (u ^ n) (v ^ n) B
      (ge-same (m * (n * a)) (m * b) (n * a) b (c ^ m) (d ^ m) (mul-pos M B) same
      (ge-pow (m * b) (n * a) c d (mul-pos M B) g m))
      (le-pow b a u v B f n)

  -- u / v ≤ e^(a / b) and e^(n a / (m b)) ≤ c / d
  above : ExpGe a b u v → ExpLe (n * a) (m * b) c d → u ^ n * d ^ m ≤ c ^ m * v ^ n
  above f g =
      cut (n * a) b (u ^ n) (v ^ n) (c ^ m) (d ^ m) B
      (ge-pow b a u v B f n)
      (le_same (m * (n * a)) (m * b) (n * a) b (c ^ m) (d ^ m) (mul-pos M B) same
      (le-pow (m * b) (n * a) c d (mul-pos M B) g m))

  flip : (p q r s : ℕ) → p * q ≤ r * s → q * p ≤ s * r
  flip p q r s h = omega arith

  below_swapped : ExpLe a b u v → ExpGe (n * a) (m * b) c d → v ^ n * c ^ m ≤ d ^ m * u ^ n
  below_swapped f g = flip (c ^ m) (v ^ n) (u ^ n) (d ^ m) (below f g)

  above_swapped : ExpGe a b u v → ExpLe (n * a) (m * b) c d → d ^ m * u ^ n ≤ v ^ n * c ^ m
  above_swapped f g = flip (u ^ n) (d ^ m) (c ^ m) (v ^ n) (above f g)

module _ (x y : Float) (a b c d : ℕ) (B : 0 < b) where
  ge_cases : (s t : Bool) → LogGe (unlike s t) s x a b → SignedGe (unlike s t) (num y * a) (den y * b) c d
      → RatioGe t (num x) (den x) (num y) (den y) c d
  ge_cases false false l p = below a b (num y) (den y) (num x) (den x) c d B (den_pos y) l p
  ge_cases true false l p = above_swapped a b (num y) (den y) (den x) (num x) d c B (den_pos y) l p
  ge_cases false true l p = above_swapped a b (num y) (den y) (num x) (den x) d c B (den_pos y) l p
  ge_cases true true l p = below a b (num y) (den y) (den x) (num x) c d B (den_pos y) l p

  le_cases : (s t : Bool) → LogLe (unlike s t) s x a b → SignedLe (unlike s t) (num y * a) (den y * b) c d
      → RatioLe t (num x) (den x) (num y) (den y) c d
  le_cases false false l p = above a b (num y) (den y) (num x) (den x) c d B (den_pos y) l p
  le_cases true false l p = below_swapped a b (num y) (den y) (den x) (num x) d c B (den_pos y) l p
  le_cases false true l p = below_swapped a b (num y) (den y) (num x) (den x) d c B (den_pos y) l p
  le_cases true true l p = above a b (num y) (den y) (den x) (num x) c d B (den_pos y) l p

pub ge_of_series : (x y : Float) (c d : ℕ) → SeriesGe x y c d → PowGe x y c d
unfolding PowGe
ge_of_series x y c d g = ge_cases x y g.a g.b c d g.b_pos g.s (sign_of y) g.log g.power

pub le_of_series : (x y : Float) (c d : ℕ) → SeriesLe x y c d → PowLe x y c d
unfolding PowLe
le_of_series x y c d g = le_cases x y g.a g.b c d g.b_pos g.s (sign_of y) g.log g.power

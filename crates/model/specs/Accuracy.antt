-- HOW NEAR A CURVE'S RETENTION IS TO ITS EXACT VALUE. Definitions only.
--
-- The exact retention of a curve after t days is the real number 0.99998 (w1 B1^d1 + w2 B2^d2) / (w1 + w2) + 0.00001,
-- where B1 is 1 + factor1 t / fast, B2 is 1 + rate2 t / stability, and w1, w2, d1, d2 are the weights and the decays,
-- all of them the curve's f32 as they are. What B^d is, is said by whole-number powers (`RatioGe`, `RatioLe` of
-- elementary/specs/Accuracy): a real number is known by the fractions that it is at least, and those that it is at
-- most.
--     base_top, base_bottom factor t s      1 + factor t / s as a fraction
--     BasePowGe, BasePowLe factor t s d p q       p / q ≤ B^d, B^d ≤ p / q
--     RetentionGe, RetentionLe c t a b    a / b ≤ the exact retention, and it is ≤ a / b
--     InRange c t                         where the bound is claimed
--     IsRetention c t r                   r is within a millionth of the exact retention
use Rattle.std.specs.Prelude.{◌≡◌, ℕ, ◌+◌, ◌*◌, ◌^◌, ◌<◌, ◌≤◌, true, false, Float}
use Rattle.std.specs.Float.Ieee.Exact.{HasValue}
use Rattle.std.specs.Float.Ieee.Positive.{num, den}
use Rattle.float32.specs.Ops.{◌+ᶠ◌}
use Rattle.elementary.specs.Accuracy.{sign_of, RatioGe, RatioLe}
use Rattle.model.specs.declared.forgetting_curve.Curve.{Curve}
use Rattle.model.specs.Model.{time}

-- ---- a power
abbrev pub base_bottom : Float → Float → Float → ℕ
base_bottom factor t s = den factor * (num s * den t)

abbrev pub base_top : Float → Float → Float → ℕ
base_top factor t s = base_bottom factor t s + num factor * (num t * den s)

abbrev pub BasePowGe : Float → Float → Float → Float → ℕ → ℕ → Type 0
BasePowGe factor t s d p q = RatioGe (sign_of d) (base_top factor t s) (base_bottom factor t s) (num d) (den d) p q

abbrev pub BasePowLe : Float → Float → Float → Float → ℕ → ℕ → Type 0
BasePowLe factor t s d p q = RatioLe (sign_of d) (base_top factor t s) (base_bottom factor t s) (num d) (den d) p q

-- ---- the exact retention
-- the two weights, and their sum, by a common denominator
abbrev pub part1 : Curve → ℕ
part1 c = num c.weight1 * den c.weight2

abbrev pub part2 : Curve → ℕ
part2 c = num c.weight2 * den c.weight1

abbrev pub parts : Curve → ℕ
parts c = part1 c + part2 c

-- 0.99998 m + 0.00001 as a fraction, with m the weighted mean of p1 / q1 and p2 / q2
abbrev pub squeezed_top : Curve → ℕ → ℕ → ℕ → ℕ → ℕ
squeezed_top c p1 q1 p2 q2 = 99998 * (part1 c * (p1 * q2) + part2 c * (p2 * q1)) + parts c * (q1 * q2)

abbrev pub squeezed_bottom : Curve → ℕ → ℕ → ℕ
squeezed_bottom c q1 q2 = 100000 * (parts c * (q1 * q2))

-- a / b is at most that of two fractions that the powers reach
pub record RetentionGe (c : Curve) (t : Float) (a b : ℕ) : Type 0 where
  pub p1 : ℕ
  pub q1 : ℕ
  pub p2 : ℕ
  pub q2 : ℕ
  pub some1 : 0 < q1
  pub some2 : 0 < q2
  pub first : BasePowGe c.factor1 t c.fast c.decay1 p1 q1
  pub second : BasePowGe c.rate2 t c.stability c.decay2 p2 q2
  pub least : a * squeezed_bottom c q1 q2 ≤ squeezed_top c p1 q1 p2 q2 * b

-- a / b is at least that of two fractions that the powers do not pass
pub record RetentionLe (c : Curve) (t : Float) (a b : ℕ) : Type 0 where
  pub p1 : ℕ
  pub q1 : ℕ
  pub p2 : ℕ
  pub q2 : ℕ
  pub some1 : 0 < q1
  pub some2 : 0 < q2
  pub first : BasePowLe c.factor1 t c.fast c.decay1 p1 q1
  pub second : BasePowLe c.rate2 t c.stability c.decay2 p2 q2
  pub most : squeezed_top c p1 q1 p2 q2 * b ≤ a * squeezed_bottom c q1 q2

-- ---- where the bound is claimed
-- x is finite, not below 0, and at most k, or at least 1 / k
pub record UpTo (k : ℕ) (x : Float) : Type 0 where
  pub number : HasValue x false (num x) (den x)
  pub most : num x ≤ k * den x

pub record DownTo (k : ℕ) (x : Float) : Type 0 where
  pub number : HasValue x false (num x) (den x)
  pub least : den x ≤ num x * k

-- x is from -1 to 0
pub record Decay (x : Float) : Type 0 where
  pub number : HasValue x true (num x) (den x)
  pub most : num x ≤ den x

-- a time of up to 20,000,000 days
abbrev pub Days : Float → Type 0
Days t = UpTo 20000000 t

-- a stability of at least 1 / 10001: S_MIN is 0.0001
abbrev pub Stability : Float → Type 0
Stability s = DownTo 10001 s

-- a factor of up to 12 * 10^25: e^60 is below
abbrev pub Factor : Float → Type 0
Factor f = UpTo (12 * 10 ^ 25) f

-- the sum of the weights is from 2^-100 to 2^100, and the curve's total is that sum, rounded
pub record InRange (c : Curve) (t : Float) : Type 0 where
  pub days : Days (time t)
  pub fast : Stability c.fast
  pub stability : Stability c.stability
  pub factor1 : Factor c.factor1
  pub rate2 : Factor c.rate2
  pub decay1 : Decay c.decay1
  pub decay2 : Decay c.decay2
  pub weight1 : HasValue c.weight1 false (num c.weight1) (den c.weight1)
  pub weight2 : HasValue c.weight2 false (num c.weight2) (den c.weight2)
  pub sum_least : den c.weight1 * den c.weight2 ≤ parts c * 2 ^ 100
  pub sum_most : parts c ≤ 2 ^ 100 * (den c.weight1 * den c.weight2)
  pub total : c.total ≡ c.weight1 +ᶠ c.weight2

-- r is a number from 0, and within a millionth of itself of the exact retention
pub record IsRetention (c : Curve) (t r : Float) : Type 0 where
  pub number : HasValue r false (num r) (den r)
  pub low : RetentionGe c (time t) (num r * 999999) (den r * 1000000)
  pub high : RetentionLe c (time t) (num r * 1000001) (den r * 1000000)

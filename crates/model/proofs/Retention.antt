-- A CURVE'S RETENTION IS WITHIN A MILLIONTH OF ITS EXACT VALUE.
--     retention_near c t      where the curve and the time are in range
--     retention_ordered c t   the definition of the exact value speaks of one number
-- The roundings: three in the base of a power, five for the two steps of powf, one in each product with a weight, in
-- their sum, in the sum of the weights, in the quotient and in the last fused operation, and one for the two numbers of
-- that: 14, each of at most 2^-24.
use Rattle.std.proofs.Common.{◌≡◌, ℕ, ◌+◌, ◌*◌, ◌^◌, ◌<◌, ◌≤◌, Bool, true, false, T, sym, refl, subst, le_trans, mul-le-mul_right, mul-le-mul_left, mul-pos, le_of_mul-le-mul_right, arith, lit<, lit≤}
use lib.Ieee.{Float, binary32, fits}
use lib.Ieee.Positive.{num, den, den_pos}
use Rattle.elementary.specs.Pow.{pow_of}
use Rattle.elementary.specs.Accuracy.{sign_of, RatioGe, RatioLe}
use Rattle.elementary.proofs.Common.{sign_is}
use Rattle.model.specs.declared.forgetting_curve.Curve.{Curve}
use Rattle.model.specs.Model.{base, weighted, retention, time}
use Rattle.model.specs.Accuracy.{Days, Stability, Factor, Decay, base_top, base_bottom, BasePowGe, BasePowLe}
use Rattle.model.specs.Accuracy.{part1, part2, parts, squeezed_top, squeezed_bottom, RetentionGe, RetentionLe}
use Rattle.model.specs.Accuracy.{InRange, IsRetention}
use Rattle.model.proofs.Fractions.{Fraction, Toward, ◌⊕◌, ◌⊗◌, quotient, toward_exact, toward_swap}
use Rattle.model.proofs.Rounding.{Clear, val}
use Rattle.model.proofs.Powers.{IsPower, meet, power_of_exact}
use Rattle.model.proofs.Base.{exact, base_near, base_fits, base-clear, base-least, base_most}
use Rattle.model.proofs.Mean.{exact_inner, ratio, Terms, sum, sum_pos, squeezed-clear, squeezed_near}

-- ---- a power
power : (f t s d : Float) → Factor f → Days t → Stability s → T (fits binary32 d) → Decay d
    → IsPower 8 (base_top f t s) (base_bottom f t s) (num d) (den d) (pow_of (base f t s) d)
power f t s d F D S fd Y =
    power_of_exact (base f t s) d (base_fits f t s F D S) fd (base-clear f t s F D S) (base-least f t s F D S)
    (base_most f t s F D S) Y 3 (exact f t s F D S) (λ b. toward_swap (base_near f t s F D S))

-- its bounds, as the definition has them
module _ (f t s d p : Float) (Y : Decay d)
    (w : IsPower 8 (base_top f t s) (base_bottom f t s) (num d) (den d) p) where
  sign : true ≡ sign_of d
  sign = sym (sign_is d true (num d) (den d) Y.number)

  power-ge : BasePowGe f t s d (w.bracket false).top (w.bracket false).bottom
  power-ge =
      subst (λ (z : Bool). RatioGe z (base_top f t s) (base_bottom f t s) (num d) (den d) (w.bracket false).top
      (w.bracket false).bottom) sign (w.bound false)

  power_le : BasePowLe f t s d (w.bracket true).top (w.bracket true).bottom
  power_le =
      subst (λ (z : Bool). RatioLe z (base_top f t s) (base_bottom f t s) (num d) (den d) (w.bracket true).top
      (w.bracket true).bottom) sign (w.bound true)

-- ---- the exact retention of two fractions, as the definition writes it
same : (a b c d p q r s : ℕ)
    → 99998 * ((a * p * (d * s) + c * r * (b * q)) * (b * d) * 99998 + 1 * ((a * d + c * b) * (b * q * (d * s))))
    * (100000 * ((a * d + c * b) * (q * s)))
    ≡ (99998 * (a * d * (p * s) + c * b * (r * q)) + (a * d + c * b) * (q * s))
    * (100000 * ((a * d + c * b) * (b * q * (d * s)) * 99998))
same a b c d p q r s = omega arith

-- ---- fourteen roundings are less than a millionth
lower : (n d a b p q : ℕ) → 0 < p → q * 999999 ≤ p * 1000000 → n * b * p ≤ a * d * q
    → n * 999999 * b ≤ a * (d * 1000000)
lower n d a b p q P h g =
    le_of_mul-le-mul_right {k = p} (omega (arith, mul-le-mul_right 999999 g, mul-le-mul_left (a * d) h)) P

upper : (n d a b p q : ℕ) → 0 < p → q * 1000000 ≤ p * 1000001 → a * d * p ≤ n * b * q
    → a * (d * 1000000) ≤ n * 1000001 * b
upper n d a b p q P h g =
    le_of_mul-le-mul_right {k = p} (omega (arith, mul-le-mul_right 1000000 g, mul-le-mul_left (n * b) h)) P

module _ (c : Curve) (t₀ : Float) (f1 : T (fits binary32 c.decay1)) (f2 : T (fits binary32 c.decay2))
    (i : InRange c t₀) where
  abbrev t : Float
  t = time t₀

  abbrev p1 : Float
  p1 = pow_of (base c.factor1 t c.fast) c.decay1

  abbrev p2 : Float
  p2 = pow_of (base c.rate2 t c.stability) c.decay2

  power1 : IsPower 8 (base_top c.factor1 t c.fast) (base_bottom c.factor1 t c.fast) (num c.decay1)
      (den c.decay1) p1
  power1 = power c.factor1 t c.fast c.decay1 i.factor1 i.days i.fast f1 i.decay1

  power2 : IsPower 8 (base_top c.rate2 t c.stability) (base_bottom c.rate2 t c.stability) (num c.decay2)
      (den c.decay2) p2
  power2 = power c.rate2 t c.stability c.decay2 i.rate2 i.days i.stability f2 i.decay2

  abbrev r : Float
  r = retention c t₀

  terms : Terms c.weight1 c.weight2 p1 p2 c.total
  terms = record {
    weight1 = i.weight1;
    weight2 = i.weight2;
    power1 = power1.clear;
    power2 = power2.clear;
    power1_most = power1.most;
    power2_most = power2.most;
    sum_least = i.sum_least;
    sum_most = i.sum_most;
    total_is = i.total;
  }

  -- the exact retention of the powers' brackets
  abbrev exactly : Bool → Fraction
  exactly b =
      record {
        top =
            squeezed_top c (power1.bracket b).top (power1.bracket b).bottom (power2.bracket b).top
            (power2.bracket b).bottom;
        bottom = squeezed_bottom c (power1.bracket b).bottom (power2.bracket b).bottom;
        positive =
            mul-pos (lit< {m = 0} {n = 100000} tt)
            (mul-pos (sum_pos terms) (mul-pos (power1.bracket b).positive (power2.bracket b).positive));
      }

  near : (b : Bool) → Toward b 14 (val r) (exactly b)
  unfolding retention weighted
  near b =
      let q1 = power1.bracket b in
      let q2 = power2.bracket b in
      toward_exact (val r) (val r)
      (exact_inner ⊗ (quotient (val c.weight1 ⊗ q1 ⊕ val c.weight2 ⊗ q2) (sum terms) (sum_pos terms) ⊕ ratio))
      (exactly b) refl
      (same (num c.weight1) (den c.weight1) (num c.weight2) (den c.weight2) q1.top q1.bottom q2.top
      q2.bottom)
      (squeezed_near terms b 8 q1 q2 (power1.near b) (power2.near b))

  number : Clear r
  unfolding retention weighted
  number = squeezed-clear terms

  low : RetentionGe c t (num r * 999999) (den r * 1000000)
  low = record {
    p1 = (power1.bracket false).top;
    q1 = (power1.bracket false).bottom;
    p2 = (power2.bracket false).top;
    q2 = (power2.bracket false).bottom;
    some1 = (power1.bracket false).positive;
    some2 = (power2.bracket false).positive;
    first = power-ge c.factor1 t c.fast c.decay1 p1 i.decay1 power1;
    second = power-ge c.rate2 t c.stability c.decay2 p2 i.decay2 power2;
    least =
        lower (num r) (den r) (exactly false).top (exactly false).bottom ((2 ^ 24) ^ 14) ((2 ^ 24 + 1) ^ 14) (lit< tt)
        (lit≤ tt) (near false).side.holds;
  }

  high : RetentionLe c t (num r * 1000001) (den r * 1000000)
  high = record {
    p1 = (power1.bracket true).top;
    q1 = (power1.bracket true).bottom;
    p2 = (power2.bracket true).top;
    q2 = (power2.bracket true).bottom;
    some1 = (power1.bracket true).positive;
    some2 = (power2.bracket true).positive;
    first = power_le c.factor1 t c.fast c.decay1 p1 i.decay1 power1;
    second = power_le c.rate2 t c.stability c.decay2 p2 i.decay2 power2;
    most =
        upper (num r) (den r) (exactly true).top (exactly true).bottom ((2 ^ 24) ^ 14) ((2 ^ 24 + 1) ^ 14) (lit< tt)
        (lit≤ tt) (near true).side.holds;
  }

  pub retention_near : IsRetention c t₀ r
  retention_near = record { number = number; low = low; high = high }

-- ---- the definition speaks of one number: what it is at least is at most what it is at most
-- of two fractions that are in order
ordered_means : (x y z p q r s p' q' r' s' : ℕ) → p * q' ≤ p' * q → r * s' ≤ r' * s
    → (99998 * (x * (p * s) + y * (r * q)) + z * (q * s)) * (100000 * (z * (q' * s')))
    ≤ (99998 * (x * (p' * s') + y * (r' * q')) + z * (q' * s')) * (100000 * (z * (q * s)))
ordered_means x y z p q r s p' q' r' s' h g =
    go (x * (p * s)) (y * (r * q)) (q * s) (x * (p' * s')) (y * (r' * q')) (q' * s')
    (omega (arith, mul-le-mul_left (x * (s * s')) h)) (omega (arith, mul-le-mul_left (y * (q * q')) g))
  where
    go : (a b c a' b' c' : ℕ) → a * c' ≤ a' * c → b * c' ≤ b' * c
        → (99998 * (a + b) + z * c) * (100000 * (z * c')) ≤ (99998 * (a' + b') + z * c') * (100000 * (z * c))
    go a b c a' b' c' i j = omega (arith, mul-le-mul_left z i, mul-le-mul_left z j)

chain : (a b c d t s t' s' : ℕ) → 0 < s → 0 < s' → a * s ≤ t * b → t * s' ≤ t' * s → t' * d ≤ c * s' → a * d ≤ c * b
chain a b c d t s t' s' S S' h g k =
    le_of_mul-le-mul_right {k = s * s'}
    (omega (arith, mul-le-mul_left (d * s') h, mul-le-mul_left (b * d) g, mul-le-mul_left (b * s) k)) (mul-pos S S')

module _ (f t s d : Float) (S : Stability s) (Y : Decay d) where
  power_ordered : (p q p' q' : ℕ) → BasePowGe f t s d p q → BasePowLe f t s d p' q' → p * q' ≤ p' * q
  power_ordered p q p' q' h g =
      meet (num d) (den d) (base_top f t s) (base_bottom f t s) p q p' q' (den_pos d) (go (base_bottom f t s) _ bottom)
      (subst (λ (z : Bool). RatioGe z (base_top f t s) (base_bottom f t s) (num d) (den d) p q) sign h)
      (subst (λ (z : Bool). RatioLe z (base_top f t s) (base_bottom f t s) (num d) (den d) p' q') sign g)
    where
      sign : sign_of d ≡ true
      sign = sign_is d true (num d) (den d) Y.number

      some : (n : ℕ) → 0 < n * 10001 → 0 < n
      some n h = omega arith

      bottom : 0 < base_bottom f t s
      bottom = mul-pos (den_pos f) (mul-pos (some (num s) (le_trans (den_pos s) S.least)) (den_pos t))

      go : (b n : ℕ) → 0 < b → 0 < b + n
      go b n h = omega arith

pub retention_ordered : (c : Curve) (t : Float) (a b a' b' : ℕ) → Stability c.fast → Stability c.stability
    → Decay c.decay1 → Decay c.decay2 → 0 < parts c → RetentionGe c t a b → RetentionLe c t a' b'
    → a * b' ≤ a' * b
retention_ordered c t a b a' b' S1 S2 D1 D2 P h g =
    chain a b a' b' (squeezed_top c h.p1 h.q1 h.p2 h.q2) (squeezed_bottom c h.q1 h.q2)
    (squeezed_top c g.p1 g.q1 g.p2 g.q2) (squeezed_bottom c g.q1 g.q2)
    (bottom h.q1 h.q2 h.some1 h.some2) (bottom g.q1 g.q2 g.some1 g.some2) h.least
    (ordered_means (part1 c) (part2 c) (parts c) h.p1 h.q1 h.p2 h.q2 g.p1 g.q1 g.p2 g.q2
    (power_ordered c.factor1 t c.fast c.decay1 S1 D1 h.p1 h.q1 g.p1 g.q1 h.first g.first)
    (power_ordered c.rate2 t c.stability c.decay2 S2 D2 h.p2 h.q2 g.p2 g.q2 h.second
    g.second))
    g.most
  where
    bottom : (q1 q2 : ℕ) → 0 < q1 → 0 < q2 → 0 < squeezed_bottom c q1 q2
    bottom q1 q2 h g = mul-pos (lit< {m = 0} {n = 100000} tt) (mul-pos P (mul-pos h g))

-- From bounds of log2 x to bounds of x^y, by the signs of y and of log2 x. log2 x + 159 is l in units of 2^-35, at most
-- 8 too high and 16 too low, and z is y log2 x + 2^16 + 126 in units of 2^-39.
--   Sized n m g u              u is |y| g in units of 2^-39, rounded down
--   Side n s l g, side         l is g above n, or with s set below; abs_diff gives that g
--   diff_is, diff_le           abs_diff from the differences, and from above
--   Around s z u, arg_around   z is 2^16 + 126 and u, or with s set less u; signed_arg gives that z
--   low-at, high-at            the bounds of x^y
use Rattle.std.proofs.Common.{◌≡◌, ℕ, ◌+◌, ◌-◌, ◌*◌, ◌^◌, ◌<◌, ◌≤◌, Bool, true, false, cond, not, ltb, ◌⊎◌, sym, refl, ap, ◌∙◌, inl, inr, mul-le-mul_left, arith, lit<, le-ltb, lt-ltb}
use lib.Ieee.{unlike}
use Rattle.series.proofs.Cuts.{lt_or_ge}
use Rattle.series.proofs.Two.{TwoLe, TwoGe}
use Rattle.elementary.specs.Power.{abs_diff, signed_arg}
use Rattle.elementary.specs.Accuracy.{RatioGe, RatioLe}
use Rattle.elementary.proofs.power.Meet.{ge_pos, le_pos, ge-neg, le-neg}

-- u is |y| g 2^4, cut down, with |y| = n / m and g in units of 2^-35
pub record Sized (n m g u : ℕ) : Type 0 where
  pub low : u * m ≤ 16 * (n * g)
  pub high : 16 * (n * g) < (u + 1) * m

-- l is n and g, or n less g
abbrev pub Side : ℕ → Bool → ℕ → ℕ → Type 0
Side n false l g = l ≡ n + g
Side n true l g = l + g ≡ n

pub side : (n l : ℕ) → Side n (ltb l n) l (abs_diff l n)
unfolding abs_diff
side n l = go (lt_or_ge l n)
  where
    go : (l < n) ⊎ (n ≤ l) → Side n (ltb l n) l (abs_diff l n)
    go (inl h) = rw (lt-ltb l n h) (omega arith)
    go (inr h) = rw (le-ltb l n h) (omega arith)

-- the library's is the sum of both differences, of which one is 0
pub diff_is : (l n : ℕ) → l - n + (n - l) ≡ abs_diff l n
unfolding abs_diff
diff_is l n = go (lt_or_ge l n)
  where
    go : (l < n) ⊎ (n ≤ l) → l - n + (n - l) ≡ abs_diff l n
    go (inl h) = rw (lt-ltb l n h) (omega arith)
    go (inr h) = rw (le-ltb l n h) (omega arith)

pub diff_le : (n l k : ℕ) → n ≤ l + k → l ≤ n + k → abs_diff l n ≤ k
unfolding abs_diff
diff_le n l k lo hi = go (lt_or_ge l n)
  where
    go : (l < n) ⊎ (n ≤ l) → abs_diff l n ≤ k
    go (inl h) = rw (lt-ltb l n h) (omega arith)
    go (inr h) = rw (le-ltb l n h) (omega arith)

-- z is 2^16 + 126 and u, or less u
abbrev pub Around : Bool → ℕ → ℕ → Type 0
Around false z u = z ≡ (2 ^ 16 + 126) * 2 ^ 39 + u
Around true z u = z + u ≡ (2 ^ 16 + 126) * 2 ^ 39

pub arg_around : (n l c u : ℕ) → u ≤ (2 ^ 16 + 126) * 2 ^ 39
    → Around (unlike (ltb l n) (not (ltb c (2 ^ 31)))) (signed_arg n l c u) u
unfolding signed_arg
arg_around n l c u h = go (unlike (ltb l n) (not (ltb c (2 ^ 31))))
  where
    go : (b : Bool) → Around b (cond b ((2 ^ 16 + 126) * 2 ^ 39 - u) ((2 ^ 16 + 126) * 2 ^ 39 + u)) u
    go false = refl
    go true = omega arith

neg_sum : (n m nk ng mu mz mv : ℕ) → nk + 8 * n ≡ 159 * 2 ^ 35 * n + ng → mz + mu ≡ (2 ^ 16 + 126) * 2 ^ 39 * m
    → mz ≤ (2 ^ 16 - 1) * 2 ^ 39 * m + mv → mu ≤ 16 * ng → n ≤ 128 * m
    → 2 ^ 39 * n * 159 + 2 ^ 39 * m * 127 ≤ 16 * nk + mv + 32769 * m
neg_sum n m nk ng mu mz mv e1 e2 h1 h2 h3 = omega arith

-- ---- the exponents in order: v is at most, or at least, z - (2^16 - 1) 2^39
module _ (n m l g u z v : ℕ) (S : Sized n m g u) (N : n ≤ 128 * m) where
  ge_pos_order : (s : Bool) → Side (159 * 2 ^ 35) s l g → Around s z u → 8 ≤ l → 32769 ≤ v
      → (2 ^ 16 - 1) * 2 ^ 39 + v ≤ z
      → 2 ^ 39 * n * 159 + m * (v - 32769) ≤ 16 * n * (l - 8) + 2 ^ 39 * m * 127
  ge_pos_order s i o L d h = go s (l - 8) (v - 32769) (omega arith) (omega arith) i o
    where
      go : (s : Bool) (k w : ℕ) → k + 8 ≡ l → w + 32769 ≡ v → Side (159 * 2 ^ 35) s l g → Around s z u
          → 2 ^ 39 * n * 159 + m * w ≤ 16 * n * k + 2 ^ 39 * m * 127
      go false k w ek ew i o =
          omega (arith, ap (λ (x : ℕ). n * x) (ek ∙ i), mul-le-mul_left m (rw (sym ew, o) at h), S.low)
      go true k w ek ew i o =
          omega (
            arith,
            ap (λ (x : ℕ). n * x) (rw (sym ek) at i),
            ap (λ (x : ℕ). m * x) o,
            mul-le-mul_left m
                (rw (sym ew) at h),
            S.high,
          )

  le_pos_order : (s : Bool) → Side (159 * 2 ^ 35) s l g → Around s z u → z ≤ (2 ^ 16 - 1) * 2 ^ 39 + v
      → 16 * n * (l + 16) + 2 ^ 39 * m * 127 ≤ 2 ^ 39 * n * 159 + m * (v + 32769)
  le_pos_order false i o h =
      omega (arith, ap (λ (x : ℕ). n * x) i, ap (λ (x : ℕ). m * x) o, mul-le-mul_left m h, S.high)
  le_pos_order true i o h = omega (arith, ap (λ (x : ℕ). n * x) i, ap (λ (x : ℕ). m * x) o, mul-le-mul_left m h, S.low)

  ge_neg_order : (s : Bool) → Side (159 * 2 ^ 35) s l g → Around (not s) z u → 32769 ≤ v → (2 ^ 16 - 1) * 2 ^ 39 + v ≤ z
      → 16 * n * (l + 16) + m * (v - 32769) ≤ 2 ^ 39 * n * 159 + 2 ^ 39 * m * 127
  ge_neg_order s i o d h = go s (v - 32769) (omega arith) i o
    where
      go : (s : Bool) (w : ℕ) → w + 32769 ≡ v → Side (159 * 2 ^ 35) s l g → Around (not s) z u
          → 16 * n * (l + 16) + m * w ≤ 2 ^ 39 * n * 159 + 2 ^ 39 * m * 127
      go false w ew i o =
          omega (arith, ap (λ (x : ℕ). n * x) i, ap (λ (x : ℕ). m * x) o, mul-le-mul_left m (rw (sym ew) at h), S.high)
      go true w ew i o =
          omega (arith, ap (λ (x : ℕ). n * x) i, ap (λ (x : ℕ). m * x) o, mul-le-mul_left m (rw (sym ew) at h), S.low)

  le_neg_order : (s : Bool) → Side (159 * 2 ^ 35) s l g → Around (not s) z u → 8 ≤ l → z ≤ (2 ^ 16 - 1) * 2 ^ 39 + v
      → 2 ^ 39 * n * 159 + 2 ^ 39 * m * 127 ≤ 16 * n * (l - 8) + m * (v + 32769)
  le_neg_order s i o L h = go s (l - 8) (omega arith) i o
    where
      go : (s : Bool) (k : ℕ) → k + 8 ≡ l → Side (159 * 2 ^ 35) s l g → Around (not s) z u
          → 2 ^ 39 * n * 159 + 2 ^ 39 * m * 127 ≤ 16 * n * k + m * (v + 32769)
      go false k ek i o =
          let r : 2 ^ 39 * n * 159 + 2 ^ 39 * m * 127 ≤ 16 * (n * k) + m * v + 32769 * m =
          neg_sum n m (n * k) (n * g) (m * u) (m * z) (m * v) (omega (arith, ap (λ (x : ℕ). n * x) (ek ∙ i)))
          (omega (arith, ap (λ (x : ℕ). m * x) o)) (omega (arith, mul-le-mul_left m h)) (omega (arith, S.low)) N in
          omega (arith, r)
      go true k ek i o =
          omega (arith, ap (λ (x : ℕ). n * x) (rw (sym ek) at i), ap (λ (x : ℕ). m * x) o, mul-le-mul_left m h, S.high)

-- ---- x = a / b with the bounds of its logarithm, |y| = n / m, t the sign of y
module _ (a b n m l g u z : ℕ) (s t : Bool) (S : Sized n m g u) (N : n ≤ 128 * m) (i : Side (159 * 2 ^ 35) s l g)
    (L : 8 ≤ l)
    (lo : TwoLe (l - 8) (2 ^ 35) (a * 2 ^ 159) b) (hi : TwoGe (l + 16) (2 ^ 35) (a * 2 ^ 159) b) where
  common : 16 * n * 2 ^ 35 ≡ 2 ^ 39 * n
  common = omega arith

  pub low-at : Around (unlike s t) z u → (v c d : ℕ) → 32769 ≤ v → (2 ^ 16 - 1) * 2 ^ 39 + v ≤ z
      → TwoGe (v - 32769) (2 ^ 39) (2 ^ 127 * c) d → RatioGe t a b n m c d
  low-at o v c d k h e = go s t refl refl o
    where
      go : (p q : Bool) → s ≡ p → t ≡ q → Around (unlike p q) z u → RatioGe q a b n m c d
      go false false es et o =
          ge_pos 159 127 (2 ^ 35) (2 ^ 39) n m a b c d (l - 8) (v - 32769) (16 * n) (lit< tt) common lo e
          (ge_pos_order n m l g u z v S N false (rw es at i) o L k h)
      go true false es et o =
          ge_pos 159 127 (2 ^ 35) (2 ^ 39) n m a b c d (l - 8) (v - 32769) (16 * n) (lit< tt) common lo e
          (ge_pos_order n m l g u z v S N true (rw es at i) o L k h)
      go false true es et o =
          ge-neg 159 127 (2 ^ 35) (2 ^ 39) n m a b c d (l + 16) (v - 32769) (16 * n) (lit< tt) common hi e
          (ge_neg_order n m l g u z v S N false (rw es at i) o k h)
      go true true es et o =
          ge-neg 159 127 (2 ^ 35) (2 ^ 39) n m a b c d (l + 16) (v - 32769) (16 * n) (lit< tt) common hi e
          (ge_neg_order n m l g u z v S N true (rw es at i) o k h)

  pub high-at : Around (unlike s t) z u → (v c d : ℕ) → z ≤ (2 ^ 16 - 1) * 2 ^ 39 + v
      → TwoLe (v + 32769) (2 ^ 39) (2 ^ 127 * c) d → RatioLe t a b n m c d
  high-at o v c d h e = go s t refl refl o
    where
      go : (p q : Bool) → s ≡ p → t ≡ q → Around (unlike p q) z u → RatioLe q a b n m c d
      go false false es et o =
          le_pos 159 127 (2 ^ 35) (2 ^ 39) n m a b c d (l + 16) (v + 32769) (16 * n) (lit< tt) common hi e
          (le_pos_order n m l g u z v S N false (rw es at i) o h)
      go true false es et o =
          le_pos 159 127 (2 ^ 35) (2 ^ 39) n m a b c d (l + 16) (v + 32769) (16 * n) (lit< tt) common hi e
          (le_pos_order n m l g u z v S N true (rw es at i) o h)
      go false true es et o =
          le-neg 159 127 (2 ^ 35) (2 ^ 39) n m a b c d (l - 8) (v + 32769) (16 * n) (lit< tt) common lo e
          (le_neg_order n m l g u z v S N false (rw es at i) o L h)
      go true true es et o =
          le-neg 159 127 (2 ^ 35) (2 ^ 39) n m a b c d (l - 8) (v + 32769) (16 * n) (lit< tt) common lo e
          (le_neg_order n m l g u z v S N true (rw es at i) o L h)

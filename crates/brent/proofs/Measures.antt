-- A state's measures, where its ends and its best retention are multiples of 2^-24 within 0.70 to 0.95. In those
-- multiples: the least step lies within 117,000 to 160,000, twice it within 234,000 to 320,000, the middle is at most
-- one off.
--   k_min, k_max           0.70 and 0.95 in multiples of 2^-24
--   tol1_in, tol2_in     the least step, and twice it
--   middle-at            the middle, at most one off
--   passes               the test of convergence passes near the middle of a small span
--   Room i k j c, room   a state that has not converged leaves 233,000 on the side of x where the middle is
use mathlib.Core.Path.{◌≡◌, refl, sym, ap, ◌∙◌, subst}
use mathlib.Core.Bool.{Bool, true, false, true≢false}
use Prim.Native.Nat.{ℕ, ◌+◌, ◌-◌, ◌*◌, ◌/◌, ◌^◌, ◌≤◌, ◌<◌}
use native.Mathlib.Nat.{le_trans, le_of_eq, mul_assoc, mul_left_comm, mul-pos, mul-le-mul_right, add-mul}
use native.Mathlib.Nat.{one-mul}
use native.Mathlib.Omega.{arith}
use borrow.Author.Tests.{leb-true, leb-false}
use lib.Dec.{leb}
use lib.Ieee.{Float, binary32, of_bits, of_fields, round, neg, lt}
use lib.Ieee.Fits.{mul-fits}
use lib.Ieee.Exact.{HasValue}
use lib.Ieee.Positive.{num, den, den_pos}
use Rattle.float32.specs.Float32 as Float32
use Rattle.float32.specs.Ops.{◌+ᶠ◌, ◌-ᶠ◌, ◌*ᶠ◌}
use Rattle.float32.proofs.Sums.{sum_like, sum_under, Order, less, same, more, order}
use Rattle.brent.specs.Step.{tol, min_tol, two, half, tol1, tol2, middle}
use Rattle.brent.proofs.Values.{neg_value, abs-value, scaled, below-yes}
use Rattle.brent.proofs.Multiples.{N, At, In, InOf, Place, placed, rounded_in, rounded_in_of}
use Rattle.brent.proofs.Operations.{add_at, mul_at, mul_add-at, minus_over, minus_under}

-- 0.70 and 0.95
abbrev pub k_min : ℕ
k_min = 11744051

abbrev pub k_max : ℕ
k_max = 15938355

tol_is : HasValue tol false 5368709 (2 ^ 29)
unfolding of_bits of_fields round
tol_is = (refl, refl)

min_tol_is : HasValue min_tol false 14411519 (2 ^ 57)
unfolding of_bits of_fields round
min_tol_is = (refl, refl)

two_is : HasValue two false 2 1
unfolding of_bits of_fields round
two_is = (refl, refl)

half_is : HasValue half false 1 2
unfolding of_bits of_fields round
half_is = (refl, refl)

-- ---- the least step
pub tol1_in : (x : Float) (k : ℕ) → At x k → k_min ≤ k → k ≤ k_max → In 117000 160000 (tol1 x)
unfolding tol1
tol1_in x k p l h =
    subst (λ (z : Float). In 117000 160000 z)
    (sym (mul_add-at tol (Float32.abs x) min_tol false false false 5368709 (2 ^ 29) k N 14411519 (2 ^ 57) (85899344 * k)
    (omega arith) (omega arith) (omega arith) tol_is (abs-value x false k N p) min_tol_is (omega arith)
    ∙ sum_like binary32 (85899344 * k) 14411519 (2 ^ 57) false false refl))
    (rounded_in 117000 160000 (85899344 * k + 14411519) (2 ^ 57) (omega arith) (omega arith) (omega arith)
    (omega arith))

twice_in : (t : Float) → In 117000 160000 t → In 234000 320000 (two *ᶠ t)
twice_in t r =
    subst (λ (z : Float). In 234000 320000 z) (sym
    (mul_at two t false false 2 1 (num t) (den t) (omega arith) (den_pos t) two_is r.value))
    (rounded_in 234000 320000 (2 * num t) (1 * den t) (mul-pos (omega arith) (den_pos t)) (omega arith)
    (low (den t) (num t) r.least) (high (den t) (num t) r.most))
  where
    low : (d n : ℕ) → 117000 * d ≤ n * N → 234000 * (1 * d) ≤ 2 * n * N
    low d n h = omega arith

    high : (d n : ℕ) → n * N ≤ 160000 * d → 2 * n * N ≤ 320000 * (1 * d)
    high d n h = omega arith

pub tol2_in : (x : Float) (k : ℕ) → At x k → k_min ≤ k → k ≤ k_max → In 234000 320000 (tol2 x)
unfolding tol2
tol2_in x k p l h = twice_in (tol1 x) (tol1_in x k p l h)

-- ---- the middle
half_in : (s : Float) (h : ℕ) → h + 1 < 2 ^ 24 → InOf 8388608 h (h + 1) s → In h (h + 1) (half *ᶠ s)
half_in s h H r =
    subst (λ (z : Float). In h (h + 1) z) (sym (mul_at half s false false 1 2 (num s) (den s) (omega arith)
    (den_pos s) half_is r.value))
    (rounded_in h (h + 1) (1 * num s) (2 * den s) (mul-pos (omega arith) (den_pos s)) H
    (go h (den s) (num s) r.least) (back (h + 1) (den s) (num s) r.most))
  where
    go : (x d n : ℕ) → x * d ≤ n * 8388608 → x * (2 * d) ≤ 1 * n * N
    go x d n h = let e : x * (2 * d) ≡ 2 * (x * d) = mul_left_comm x 2 d in omega arith

    back : (x d n : ℕ) → n * 8388608 ≤ x * d → 1 * n * N ≤ x * (2 * d)
    back x d n h = let e : x * (2 * d) ≡ 2 * (x * d) = mul_left_comm x 2 d in omega arith

pub middle-at : (a b : Float) (i j : ℕ) → At a i → At b j → k_min ≤ i → i ≤ j → j ≤ k_max
    → Place ((i + j) / 2) ((i + j) / 2 + 1) (middle a b)
unfolding middle
middle-at a b i j p q l m h =
    placed ((i + j) / 2) ((i + j) / 2 + 1) (half *ᶠ (a +ᶠ b)) (mul-fits binary32 half (a +ᶠ b)) (omega arith)
    (omega arith)
    (half_in (a +ᶠ b) ((i + j) / 2) (omega arith)
    (subst (λ (z : Float). InOf 8388608 ((i + j) / 2) ((i + j) / 2 + 1) z)
    (sym (add_at a b false false i j N (omega arith) p q ∙ sum_like binary32 i j N false false refl))
    (rounded_in_of 8388608 126 (omega arith) (omega arith) refl ((i + j) / 2) ((i + j) / 2 + 1) (i + j) N (omega arith)
    (omega arith) (omega arith) (omega arith))))

-- ---- the test of convergence passes where x is D from the middle of a span of W, both small
module _ (W D : ℕ) (small : 2 * (D + 1) + W ≤ 468000) (t : Float) (r : In 234000 320000 t) (y : Float)
    (w : HasValue y true W N) where
  abbrev n : ℕ
  n = num t

  abbrev d : ℕ
  d = den t

  spread : 2 * ((D + 1) * d) + W * d ≤ 468000 * d
  spread = le_trans (le_of_eq (ap (λ (z : ℕ). z + W * d) (sym (mul_assoc 2 (D + 1) d)) ∙ sym
      (add-mul (2 * (D + 1)) W d))) (mul-le-mul_right d small)

  less_than : W * d < n * (2 * N)
  less_than = go (W * d) ((D + 1) * d) d n (mul-pos (omega arith) (den_pos t)) spread r.least
    where
      go : (x y d n : ℕ) → 0 < y → 2 * y + x ≤ 468000 * d → 234000 * d ≤ n * N → x < n * (2 * N)
      go x y d n p h k = omega arith

  low : (D + 1) * (d * (2 * N)) ≤ (n * (2 * N) - W * d) * N
  low = go ((D + 1) * d) (W * d) d n ((D + 1) * (d * (2 * N))) (sym (mul_assoc (D + 1) d (2 * N))) spread r.least
    where
      go : (y x d n z : ℕ) → z ≡ y * (2 * N) → 2 * y + x ≤ 468000 * d → 234000 * d ≤ n * N → z ≤ (n * (2 * N) - x) * N
      go y x d n z e h k = omega arith

  high : (n * (2 * N) - W * d) * N ≤ 320000 * (d * (2 * N))
  high = go (W * d) d n r.most
    where
      go : (x d n : ℕ) → n * N ≤ 320000 * d → (n * (2 * N) - x) * N ≤ 320000 * (d * (2 * N))
      go x d n h = omega arith

  fused : In (D + 1) 320000 (Float32.mul_add half y t)
  fused =
      subst (λ (z : Float). In (D + 1) 320000 z)
      (sym (mul_add-at half y t false true false 1 2 W N (n * (2 * N)) (d * (2 * N)) (W * d) (omega arith) (omega arith)
      (mul-pos (den_pos t) (omega arith)) half_is w (scaled t false n d (2 * N) r.value) even
      ∙ sum_under binary32 (W * d) (n * (2 * N)) (d * (2 * N)) true false refl less_than))
      (rounded_in (D + 1) 320000 (n * (2 * N) - W * d) (d * (2 * N)) (mul-pos (den_pos t) (omega arith))
      (omega arith) low high)
    where
      even : 1 * W * (d * (2 * N)) ≡ W * d * (2 * N)
      even = ap (λ (z : ℕ). z * (d * (2 * N))) (one-mul W) ∙ sym (mul_assoc W d (2 * N))

  pub passes : (x : Float) → HasValue x false D N → lt x (Float32.mul_add half y t) ≡ true
  passes x v =
      below-yes x (Float32.mul_add half y t) D N (num (Float32.mul_add half y t)) (den (Float32.mul_add half y t))
      (omega arith) (den_pos (Float32.mul_add half y t)) v fused.value
      (go (den (Float32.mul_add half y t)) (num (Float32.mul_add half y t)) (den_pos (Float32.mul_add half y t))
      fused.least)
    where
      go : (e m : ℕ) → 0 < e → (D + 1) * e ≤ m * N → D * e < m * N
      go e m p h = let s : (D + 1) * e ≡ D * e + 1 * e = add-mul D 1 e in omega arith

-- ---- the ends i and j, the best retention k, the middle c
pub record Room (i k j c : ℕ) : Type 0 where
  pub right : c ≤ k → i + 233000 ≤ k
  pub left : k ≤ c → k + 233000 ≤ j

module _ (a b x : Float) (i k j : ℕ) (p : At a i) (q : At b j) (r : At x k) (low : k_min ≤ i) (ik : i ≤ k) (kj : k ≤ j)
    (high : j ≤ k_max) where
  abbrev mid : Float
  mid = middle a b

  abbrev Fails : Type 0
  Fails = lt (Float32.abs (x -ᶠ mid)) (Float32.mul_add half (neg (b -ᶠ a)) (tol2 x)) ≡ false

  never : (D : ℕ) → HasValue (Float32.abs (x -ᶠ mid)) false D N → 2 * (D + 1) + (j - i) ≤ 468000 → Fails → ⊥
  never D v s f =
      true≢false
      (sym (passes (j - i) D s (tol2 x) (tol2_in x k r (omega arith) (omega arith)) (neg (b -ᶠ a))
      (neg_value (b -ᶠ a) false (j - i) N (minus_over b a j i q p (omega arith) (omega arith)))
      (Float32.abs (x -ᶠ mid)) v) ∙ f)

  pub room : (m : Place ((i + j) / 2) ((i + j) / 2 + 1) mid) → Fails → Room i k j m.k
  room m f =
      record {
        right = λ h. go (leb (i + 233000) k) (leb-true (i + 233000) k)
            (leb-false (i + 233000) k) h;
        left = λ h. back (leb (k + 233000) j) (leb-true (k + 233000) j)
            (leb-false (k + 233000) j) h (order k m.k);
      }
    where
      go : (t : Bool) → (t ≡ true → i + 233000 ≤ k) → (t ≡ false → k < i + 233000) → m.k ≤ k → i + 233000 ≤ k
      go true y n h = y refl
      go false y n h =
          let z = n refl in absurd (never (k - m.k) (abs-value (x -ᶠ mid) false (k - m.k) N
          (minus_over x mid k m.k r m.at h (omega arith))) (omega arith) f)

      back : (t : Bool) → (t ≡ true → k + 233000 ≤ j) → (t ≡ false → j < k + 233000) → k ≤ m.k → Order k m.k
          → k + 233000 ≤ j
      back true y n h o = y refl
      back false y n h (less u) =
          let z = n refl in absurd (never (m.k - k) (abs-value (x -ᶠ mid) true (m.k - k) N
          (minus_under x mid k m.k r m.at u (omega arith))) (omega arith) f)
      back false y n h (same u) =
          let z = n refl in absurd (never (k - m.k) (abs-value (x -ᶠ mid) false (k - m.k) N
          (minus_over x mid k m.k r m.at (omega arith) (omega arith))) (omega arith) f)
      back false y n h (more u) = absurd (omega arith)

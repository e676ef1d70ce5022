-- The law of the logarithm: for the significand m = (512 + i) 2^14 + t, log2 (m / 2^23) is between log2_at i t + i 2^23
-- - 1 and log2_at i t + i 2^23 + 2 in units of 2^-32.
--   floor                                  a division and what it leaves
--   B-is, C-is                             the slope and the curvature as such divisions
--   B-lt, B-gt, C-lt, curvature-le         their sizes, and that the curvature's part is the smaller
--   log-below, log_above                   the two bounds
--   significand-below, significand_above   the same by the digits of a significand
--   log_zero                               exact at a power of two
use Rattle.std.proofs.Common.{◌≡◌, ℕ, ◌+◌, ◌-◌, ◌*◌, ◌/◌, ◌%◌, ◌^◌, ◌<◌, ◌≤◌, sym, refl, ap, subst, mul-le-mul_right, mod-lt, mul-le-mul, mul-le-mul_left, mul-pos, div-add-mod', arith, lit<}
use Rattle.series.proofs.Two.{TwoLe, TwoGe, two_le_mono, two_ge_mono, two_le_weaken, two_ge_weaken, two_le_mul}
use Rattle.series.proofs.Two.{two_ge_mul, two_le_up, two_ge_up, two_le_down, two_ge_down}
use Rattle.power_tables.specs.Tables.{height, heights, slope, curvature}
use Rattle.power_tables.proofs.Rules.{height_rule}
use Rattle.elementary.specs.Power.{log2_at}
use Rattle.elementary.proofs.log2.Line.{line-below, line_above}

-- ---- the divisions
pub floor : (a n : ℕ) → 0 < n → (a / n * n ≤ a) × (a < (a / n + 1) * n)
floor a n N = go (a / n) (a % n) (div-add-mod' a n) (mod-lt a N)
  where
    go : (x y : ℕ) → x * n + y ≡ a → y < n → (x * n ≤ a) × (a < (x + 1) * n)
    go x y e l = (omega arith, omega arith)

module _ (i t n D : ℕ) (I : i < 512) (Small : t < 2 ^ 14) (en : n ≡ 512 + i) (eD : D ≡ n * 2 ^ 14) where
  D-pos : 0 < D
  D-pos = omega arith

  small-t : t * 512 ≤ D
  small-t = omega arith

  n_pos : 0 < n
  n_pos = omega arith

  n-low : 512 ≤ n
  n-low = omega arith

  n-high : n ≤ 1023
  n-high = omega arith

  pub B-is : (slope i * n ≤ 49570588694) × (49570588694 < (slope i + 1) * n)
  unfolding slope
  B-is = rw (sym en) (floor 49570588694 n n_pos)

  pub C-is : (curvature i * (n * n) ≤ 395790452196) × (395790452196 < (curvature i + 1) * (n * n))
  unfolding curvature
  C-is = rw (sym en) (floor 395790452196 (n * n) (mul-pos n_pos n_pos))

  pub B-lt : slope i < 2 ^ 27
  B-lt = go (slope i) B-is.0
    where
      go : (B : ℕ) → B * n ≤ 49570588694 → B < 2 ^ 27
      go B h = omega (arith, mul-le-mul_left B n-low)

  pub B-gt : 48000000 < slope i
  B-gt = go (slope i) B-is.1
    where
      go : (B : ℕ) → 49570588694 < (B + 1) * n → 48000000 < B
      go B h = omega (arith, mul-le-mul_left (B + 1) n-high)

  pub C-lt : curvature i < 2 ^ 21
  C-lt = go (curvature i) C-is.0
    where
      go : (C : ℕ) → C * (n * n) ≤ 395790452196 → C < 2 ^ 21
      go C h = omega (arith, mul-le-mul_left C (mul-le-mul n-low n-low))

  -- the curvature's part is the smaller
  pub curvature-le : (curvature i + 1) * (t * t) ≤ slope i * t * 2 ^ 18
  curvature-le = go (curvature i) (slope i) C-lt B-gt
    where
      go : (C B : ℕ) → C < 2 ^ 21 → 48000000 < B → (C + 1) * (t * t) ≤ B * t * 2 ^ 18
      go C B c b =
          let c1 : C + 1 ≤ 2 ^ 21 = omega arith in
          let t1 : t ≤ 2 ^ 14 = omega arith in
          let b1 : 48000000 ≤ B = omega arith in
          let x : (C + 1) * t ≤ 2 ^ 21 * 2 ^ 14 = mul-le-mul c1 t1 in
          let y : 48000000 * t ≤ B * t = mul-le-mul_right t b1 in
          omega (arith, mul-le-mul_right t x)

  -- ---- from below
  -- the slope and the curvature: 2^((w - 3888119808) / 2^67) ≤ 1 + t / D
  below : (w : ℕ) → w + (curvature i + 1) * (t * t) ≡ slope i * t * 2 ^ 18
      → TwoLe (w - 3888119808) (2 ^ 67) (D + t) D
  below w ew = line-below t D w small-t D-pos (start (slope i) (curvature i) B-is.0 C-is.1 ew)
    where
      start : (B C : ℕ) → B * n ≤ 49570588694 → 395790452196 < (C + 1) * (n * n)
          → w + (C + 1) * (t * t) ≡ B * t * 2 ^ 18
          → w * (D * D) + 395790452196 * 2 ^ 28 * (t * t) ≤ 49570588694 * 2 ^ 32 * (t * D)
      start B C b c e =
          let x : B * D * (t * D) ≤ 49570588694 * 2 ^ 14 * (t * D) = mul-le-mul_right (t * D) (by_n B b eD) in
          let y : 395790452196 * 2 ^ 28 * (t * t) ≤ (C + 1) * (D * D) * (t * t) = mul-le-mul_right (t * t)
          (by_nn C c eD) in
          omega (arith, ap (λ (z : ℕ). z * (D * D)) e)
        where
          by_n : (B : ℕ) → B * n ≤ 49570588694 → D ≡ n * 2 ^ 14 → B * D ≤ 49570588694 * 2 ^ 14
          by_n B b e = rw e (omega arith)

          by_nn : (C : ℕ) → 395790452196 < (C + 1) * (n * n) → D ≡ n * 2 ^ 14
              → 395790452196 * 2 ^ 28 ≤ (C + 1) * (D * D)
          by_nn C c e = rw e (omega arith)

  below_sums : (w : ℕ) → w + (curvature i + 1) * (t * t) ≡ slope i * t * 2 ^ 18 → 7 ≤ height i
      → 2 ^ 35 * (log2_at i t + i * 2 ^ 23 - 1) ≤ 2 ^ 32 * (height i - 7 + i * 2 ^ 26) + (w - 3888119808)
  unfolding log2_at
  below_sums w ew l = go (height i) (slope i) (curvature i) l B-lt ew
    where
      go : (A B C : ℕ) → 7 ≤ A → B < 2 ^ 27 → w + (C + 1) * (t * t) ≡ B * t * 2 ^ 18
          → 2 ^ 35 * ((A * 2 ^ 32 + B + B * t * 2 ^ 18 - C * (t * t)) / 2 ^ 35 + i * 2 ^ 23 - 1)
          ≤ 2 ^ 32 * (A - 7 + i * 2 ^ 26) + (w - 3888119808)
      go A B C l b e =
          let t1 : t ≤ 2 ^ 14 = omega arith in
          let s : t * t ≤ 2 ^ 28 = mul-le-mul t1 t1 in
          omega arith

  pub log-below : TwoLe (log2_at i t + i * 2 ^ 23 - 1) (2 ^ 32) (D + t) (2 ^ 23)
  log-below =
      let A = height_rule i I in
      let w = slope i * t * 2 ^ 18 - (curvature i + 1) * (t * t) in
      let ew : w + (curvature i + 1) * (t * t) ≡ slope i * t * 2 ^ 18 = omega (arith, curvature-le) in
      two_le_down (2 ^ 35) (log2_at i t + i * 2 ^ 23 - 1) (2 ^ 32) (D + t) (2 ^ 23) (lit< tt)
      (two_le_mono (2 ^ 35 * (log2_at i t + i * 2 ^ 23 - 1))
      (2 ^ 32 * (height i - 7 + i * 2 ^ 26) + (w - 3888119808)) (2 ^ 67) (D + t) (2 ^ 23)
      (below_sums w ew A.low)
      (two_le_weaken (2 ^ 32 * (height i - 7 + i * 2 ^ 26) + (w - 3888119808)) (2 ^ 67)
      ((512 + i) * (D + t)) (512 * D) (D + t) (2 ^ 23) (mul-pos (lit< tt) D-pos)
      (omega (arith, ap (λ (z : ℕ). z * (D + t)) en, ap (λ (z : ℕ). z * (D + t)) eD))
      (two_le_mul (2 ^ 67) (2 ^ 32 * (height i - 7 + i * 2 ^ 26)) (w - 3888119808) (512 + i) 512
      (D + t) D
      (two_le_up (2 ^ 32) (height i - 7 + i * 2 ^ 26) (2 ^ 35) (512 + i) 512 A.below) (below w ew))))

  -- ---- from above
  -- 1 + t / D ≤ 2^((w + 12 * 2^32) / 2^67)
  above : (w : ℕ) → w + curvature i * (t * t) ≡ (slope i + 1) * t * 2 ^ 18
      → TwoGe (w + 51539607552) (2 ^ 67) (D + t) D
  above w ew = line_above t D w small-t D-pos (start (slope i) (curvature i) B-is.1 C-is.0 ew)
    where
      start : (B C : ℕ) → 49570588694 < (B + 1) * n → C * (n * n) ≤ 395790452196
          → w + C * (t * t) ≡ (B + 1) * t * 2 ^ 18
          → 49570588694 * 2 ^ 32 * (t * D) ≤ w * (D * D) + 395790452196 * 2 ^ 28 * (t * t)
      start B C b c e =
          let x : 49570588694 * 2 ^ 14 * (t * D) ≤ (B + 1) * D * (t * D) = mul-le-mul_right (t * D) (by_n B b eD) in
          let y : C * (D * D) * (t * t) ≤ 395790452196 * 2 ^ 28 * (t * t) = mul-le-mul_right (t * t)
          (by_nn C c eD) in
          omega (arith, ap (λ (z : ℕ). z * (D * D)) e)
        where
          by_n : (B : ℕ) → 49570588694 < (B + 1) * n → D ≡ n * 2 ^ 14 → 49570588694 * 2 ^ 14 ≤ (B + 1) * D
          by_n B b e = rw e (omega arith)

          by_nn : (C : ℕ) → C * (n * n) ≤ 395790452196 → D ≡ n * 2 ^ 14 → C * (D * D) ≤ 395790452196 * 2 ^ 28
          by_nn C c e = rw e (omega arith)

  above_sums : (w : ℕ) → w + curvature i * (t * t) ≡ (slope i + 1) * t * 2 ^ 18 → 7 ≤ height i
      → 2 ^ 32 * (height i - 7 + i * 2 ^ 26 + 1) + (w + 51539607552) ≤ 2 ^ 35 * (log2_at i
      t + i * 2 ^ 23 + 2)
  unfolding log2_at
  above_sums w ew l = go (height i) (slope i) (curvature i) l curvature-le ew
    where
      go : (A B C : ℕ) → 7 ≤ A → (C + 1) * (t * t) ≤ B * t * 2 ^ 18 → w + C * (t * t) ≡ (B + 1) * t * 2 ^ 18
          → 2 ^ 32 * (A - 7 + i * 2 ^ 26 + 1) + (w + 51539607552) ≤ 2 ^ 35
          * ((A * 2 ^ 32 + B + B * t * 2 ^ 18 - C * (t * t)) / 2 ^ 35 + i * 2 ^ 23 + 2)
      go A B C l b e = omega arith

  pub log_above : TwoGe (log2_at i t + i * 2 ^ 23 + 2) (2 ^ 32) (D + t) (2 ^ 23)
  log_above =
      let A = height_rule i I in
      let w = (slope i + 1) * t * 2 ^ 18 - curvature i * (t * t) in
      let ew : w + curvature i * (t * t) ≡ (slope i + 1) * t * 2 ^ 18 = omega (arith, curvature-le) in
      two_ge_down (2 ^ 35) (log2_at i t + i * 2 ^ 23 + 2) (2 ^ 32) (D + t) (2 ^ 23) (lit< tt)
      (two_ge_mono (2 ^ 32 * (height i - 7 + i * 2 ^ 26 + 1) + (w + 51539607552))
      (2 ^ 35 * (log2_at i t + i * 2 ^ 23 + 2)) (2 ^ 67) (D + t) (2 ^ 23)
      (above_sums w ew A.low)
      (two_ge_weaken (2 ^ 32 * (height i - 7 + i * 2 ^ 26 + 1) + (w + 51539607552)) (2 ^ 67)
      ((512 + i) * (D + t)) (512 * D) (D + t) (2 ^ 23) (mul-pos (lit< tt) D-pos)
      (omega (arith, ap (λ (z : ℕ). z * (D + t)) en, ap (λ (z : ℕ). z * (D + t)) eD))
      (two_ge_mul (2 ^ 67) (2 ^ 32 * (height i - 7 + i * 2 ^ 26 + 1)) (w + 51539607552) (512 + i) 512
      (D + t) D
      (two_ge_up (2 ^ 32) (height i - 7 + i * 2 ^ 26 + 1) (2 ^ 35) (512 + i) 512 A.above) (above w ew))))

-- the logarithm of a significand m: at least one and at most two units off, and exact at a power of two
pub significand-below : (m : ℕ) → m < 2 ^ 23
    → TwoLe (log2_at (m / 2 ^ 14) (m % 2 ^ 14) + m / 2 ^ 14 * 2 ^ 23 - 1) (2 ^ 32) (2 ^ 23 + m) (2 ^ 23)
significand-below m h =
    subst (λ (z : ℕ). TwoLe (log2_at (m / 2 ^ 14) (m % 2 ^ 14) + m / 2 ^ 14 * 2 ^ 23 - 1) (2 ^ 32) z (2 ^ 23)) whole
    (log-below (m / 2 ^ 14) (m % 2 ^ 14) (512 + m / 2 ^ 14) ((512 + m / 2 ^ 14) * 2 ^ 14) (omega arith) (omega arith)
    refl
    refl)
  where
    whole : (512 + m / 2 ^ 14) * 2 ^ 14 + m % 2 ^ 14 ≡ 2 ^ 23 + m
    whole = omega arith

pub significand_above : (m : ℕ) → m < 2 ^ 23
    → TwoGe (log2_at (m / 2 ^ 14) (m % 2 ^ 14) + m / 2 ^ 14 * 2 ^ 23 + 2) (2 ^ 32) (2 ^ 23 + m) (2 ^ 23)
significand_above m h =
    subst (λ (z : ℕ). TwoGe (log2_at (m / 2 ^ 14) (m % 2 ^ 14) + m / 2 ^ 14 * 2 ^ 23 + 2) (2 ^ 32) z (2 ^ 23)) whole
    (log_above (m / 2 ^ 14) (m % 2 ^ 14) (512 + m / 2 ^ 14) ((512 + m / 2 ^ 14) * 2 ^ 14) (omega arith) (omega arith)
    refl
    refl)
  where
    whole : (512 + m / 2 ^ 14) * 2 ^ 14 + m % 2 ^ 14 ≡ 2 ^ 23 + m
    whole = omega arith

pub log_zero : log2_at 0 0 ≡ 0
unfolding log2_at slope curvature height heights
log_zero = refl

-- A finer logarithm, for |y| above 128: of a significand of 36 digits, in units of 2^-35, at most 8 below and 8 above.
use Rattle.std.proofs.Common.{◌≡◌, ℕ, ◌+◌, ◌-◌, ◌*◌, ◌/◌, ◌%◌, ◌^◌, ◌<◌, ◌≤◌, ◌⊎◌, refl, ap, ◌∙◌, inl, inr, mul-le-mul_right, mul-le-mul, mul-pos, arith, lit<}
use Rattle.series.proofs.Cuts.{lt_or_ge}
use Rattle.series.proofs.Two.{TwoLe, TwoGe, two_le_mono, two_ge_mono, two_le_weaken, two_ge_weaken, two_le_mul}
use Rattle.series.proofs.Two.{two_ge_mul, two_le_up, two_ge_up, two_le_down, two_ge_down}
use Rattle.power_tables.specs.Tables.{height, slope, curvature, line_word}
use Rattle.power_tables.proofs.Rules.{height_rule}
use Rattle.elementary.specs.Power.{fine_log2_at}
use Rattle.elementary.proofs.log2.Line.{line-below, line_above}
use Rattle.elementary.proofs.log2.Law.{floor, B-is, C-is, B-lt, B-gt, C-lt}

-- ---- with the table: t below 2^26
module _ (i t n D q : ℕ) (I : i < 512) (Small : t < 2 ^ 26) (en : n ≡ 512 + i) (eD : D ≡ n * 2 ^ 26)
    (lo : q * 2 ^ 24 ≤ t * t) (hi : t * t < (q + 1) * 2 ^ 24) where
  D-pos : 0 < D
  D-pos = omega arith

  small-t : t * 512 ≤ D
  small-t = omega arith

  Bi : (slope i * n ≤ 49570588694) × (49570588694 < (slope i + 1) * n)
  Bi = B-is i 0 n (n * 2 ^ 14) I (lit< tt) en refl

  CI : (curvature i * (n * n) ≤ 395790452196) × (395790452196 < (curvature i + 1) * (n * n))
  CI = C-is i 0 n (n * 2 ^ 14) I (lit< tt) en refl

  below-start : (w : ℕ) → w + (curvature i + 1) * (q + 1) ≡ slope i * t * 64
      → w * (D * D) + 395790452196 * 2 ^ 28 * (t * t) ≤ 49570588694 * 2 ^ 32 * (t * D)
  below-start w e = start (slope i) (curvature i) Bi.0 CI.1 e
    where
      start : (B C : ℕ) → B * n ≤ 49570588694 → 395790452196 < (C + 1) * (n * n) → w + (C + 1) * (q + 1) ≡ B * t * 64
          → w * (D * D) + 395790452196 * 2 ^ 28 * (t * t) ≤ 49570588694 * 2 ^ 32 * (t * D)
      start B C b c e =
          let x : B * D * (t * D) ≤ 49570588694 * 2 ^ 26 * (t * D) = mul-le-mul_right (t * D) (by_n B b eD) in
          let t1 : t * t ≤ (q + 1) * 2 ^ 24 = omega arith in
          let y : 395790452196 * 2 ^ 52 * (t * t) ≤ (C + 1) * (D * D) * ((q + 1) * 2 ^ 24) = mul-le-mul
          (by_nn C c eD) t1 in
          last (w * (D * D)) (t * D * (B * D)) (t * D) (t * t) ((C + 1) * (D * D) * (q + 1))
          (omega (arith, ap (λ (z : ℕ). z * (D * D)) e)) (omega arith) (omega arith)
        where
          by_n : (B : ℕ) → B * n ≤ 49570588694 → D ≡ n * 2 ^ 26 → B * D ≤ 49570588694 * 2 ^ 26
          by_n B b e = rw e (omega arith)

          by_nn : (C : ℕ) → 395790452196 < (C + 1) * (n * n) → D ≡ n * 2 ^ 26
              → 395790452196 * 2 ^ 52 ≤ (C + 1) * (D * D)
          by_nn C c e = rw e (omega arith)

          last : (U x a b y : ℕ) → U + y ≡ 64 * x → x ≤ 49570588694 * 2 ^ 26 * a → 395790452196 * 2 ^ 28 * b ≤ y
              → U + 395790452196 * 2 ^ 28 * b ≤ 49570588694 * 2 ^ 32 * a
          last U x a b y e h k = omega arith

  above_start : (w : ℕ) → w + curvature i * q ≡ (slope i + 1) * t * 64
      → 49570588694 * 2 ^ 32 * (t * D) ≤ w * (D * D) + 395790452196 * 2 ^ 28 * (t * t)
  above_start w e = start (slope i) (curvature i) Bi.1 CI.0 e
    where
      start : (B C : ℕ) → 49570588694 < (B + 1) * n → C * (n * n) ≤ 395790452196 → w + C * q ≡ (B + 1) * t * 64
          → 49570588694 * 2 ^ 32 * (t * D) ≤ w * (D * D) + 395790452196 * 2 ^ 28 * (t * t)
      start B C b c e =
          let x : 49570588694 * 2 ^ 26 * (t * D) ≤ (B + 1) * D * (t * D) = mul-le-mul_right (t * D) (by_n B b eD) in
          let y : C * (D * D) * (q * 2 ^ 24) ≤ 395790452196 * 2 ^ 52 * (t * t) = mul-le-mul (by_nn C c eD)
          lo in
          last (w * (D * D)) (t * D * ((B + 1) * D)) (t * D) (t * t) (C * (D * D) * q)
          (omega (arith, ap (λ (z : ℕ). z * (D * D)) e)) (omega arith) (omega arith)
        where
          by_n : (B : ℕ) → 49570588694 < (B + 1) * n → D ≡ n * 2 ^ 26 → 49570588694 * 2 ^ 26 ≤ (B + 1) * D
          by_n B b e = rw e (omega arith)

          by_nn : (C : ℕ) → C * (n * n) ≤ 395790452196 → D ≡ n * 2 ^ 26
              → C * (D * D) ≤ 395790452196 * 2 ^ 52
          by_nn C c e = rw e (omega arith)

          last : (U x a b y : ℕ) → U + y ≡ 64 * x → 49570588694 * 2 ^ 26 * a ≤ x → y ≤ 395790452196 * 2 ^ 28 * b
              → 49570588694 * 2 ^ 32 * a ≤ U + 395790452196 * 2 ^ 28 * b
          last U x a b y e h k = omega arith

  q-le : q ≤ 2 ^ 28
  q-le = go (mul-le-mul t1 t1)
    where
      t1 : t ≤ 2 ^ 26
      t1 = omega arith

      go : t * t ≤ 2 ^ 26 * 2 ^ 26 → q ≤ 2 ^ 28
      go h = omega arith

  -- the curvature's part is the smaller, but at t = 0
  curvature-lt : 0 < t → (curvature i + 1) * (q + 1) ≤ slope i * t * 64
  curvature-lt T =
      go (curvature i) (slope i) (C-lt i 0 n (n * 2 ^ 14) I (lit< tt) en refl)
      (B-gt i 0 n (n * 2 ^ 14) I (lit< tt) en refl)
    where
      go : (C B : ℕ) → C < 2 ^ 21 → 48000000 < B → (C + 1) * (q + 1) ≤ B * t * 64
      go C B c b =
          let c1 : C + 1 ≤ 2 ^ 21 = omega arith in
          let b1 : 48000000 ≤ B = omega arith in
          let t1 : t ≤ 2 ^ 26 = omega arith in
          let x : (C + 1) * (q + 1) ≤ 2 ^ 21 * (q + 1) = mul-le-mul_right (q + 1) c1 in
          let y : 48000000 * t ≤ B * t = mul-le-mul_right t b1 in
          let z : t * t ≤ 2 ^ 26 * t = mul-le-mul_right t t1 in
          omega arith

  curvature-le : curvature i * q ≤ slope i * t * 64
  curvature-le = go (lt_or_ge 0 t)
    where
      zero_q : t ≤ 0 → q ≡ 0
      zero_q h = last (mul-le-mul h h)
        where
          last : t * t ≤ 0 * 0 → q ≡ 0
          last k = omega arith

      go : (0 < t) ⊎ (t ≤ 0) → curvature i * q ≤ slope i * t * 64
      go (inl h) = omega (arith, curvature-lt h)
      go (inr h) = rw (zero_q h) (omega arith)

  below-w : (w : ℕ) → w ≡ slope i * t * 64 - (curvature i + 1) * (q + 1)
      → TwoLe (w - 3888119808) (2 ^ 67) (D + t) D
  below-w w e = line-below t D w small-t D-pos (go (lt_or_ge 0 t))
    where
      go : (0 < t) ⊎ (t ≤ 0) → w * (D * D) + 395790452196 * 2 ^ 28 * (t * t) ≤ 49570588694 * 2 ^ 32 * (t * D)
      go (inl h) = below-start w (omega (arith, curvature-lt h))
      go (inr h) =
          let t0 : t ≡ 0 = omega arith in
          let w0 : w ≡ 0 = omega (arith, ap (λ (z : ℕ). slope i * z) t0) in
          rw (w0, t0) (omega arith)

  fine_is : fine_log2_at i t ≡ (height i * 2 ^ 32 + slope i + slope i * t * 64 - curvature
      i * (t * t / 2 ^ 24)) / 2 ^ 32
  unfolding fine_log2_at
  fine_is = refl

  q_is : t * t / 2 ^ 24 ≡ q
  q_is = omega arith

  pub fine-below : TwoLe (fine_log2_at i t + i * 2 ^ 26 - 8) (2 ^ 35) (D + t) (2 ^ 35)
  fine-below =
      let A = height_rule i I in
      let w = slope i * t * 64 - (curvature i + 1) * (q + 1) in
      two_le_down (2 ^ 32) (fine_log2_at i t + i * 2 ^ 26 - 8) (2 ^ 35) (D + t) (2 ^ 35) (lit< tt)
      (two_le_mono (2 ^ 32 * (fine_log2_at i t + i * 2 ^ 26 - 8))
      (2 ^ 32 * (height i - 7 + i * 2 ^ 26) + (w - 3888119808)) (2 ^ 67) (D + t) (2 ^ 35)
      (sums (fine_log2_at i t) (height i) (slope i) (curvature i)
      (fine_is ∙ ap (λ (z : ℕ). (height i * 2 ^ 32 + slope i + slope i * t * 64 - curvature i * z) / 2 ^ 32)
      q_is) A.low (B-lt i 0 n (n * 2 ^ 14) I (lit< tt) en refl) (C-lt i 0 n (n * 2 ^ 14) I (lit< tt) en refl) q-le)
      (two_le_weaken (2 ^ 32 * (height i - 7 + i * 2 ^ 26) + (w - 3888119808)) (2 ^ 67)
      ((512 + i) * (D + t)) (512 * D) (D + t) (2 ^ 35) (mul-pos (lit< tt) D-pos)
      (omega (arith, ap (λ (z : ℕ). z * (D + t)) en, ap (λ (z : ℕ). z * (D + t)) eD))
      (two_le_mul (2 ^ 67) (2 ^ 32 * (height i - 7 + i * 2 ^ 26)) (w - 3888119808) (512 + i) 512
      (D + t) D
      (two_le_up (2 ^ 32) (height i - 7 + i * 2 ^ 26) (2 ^ 35) (512 + i) 512 A.below) (below-w w refl))))
    where
      sums : (F A B C : ℕ) → F ≡ (A * 2 ^ 32 + B + B * t * 64 - C * q) / 2 ^ 32 → 7 ≤ A → B < 2 ^ 27
          → C < 2 ^ 21 → q ≤ 2 ^ 28
          → 2 ^ 32 * (F + i * 2 ^ 26 - 8) ≤ 2 ^ 32 * (A - 7 + i * 2 ^ 26)
          + (B * t * 64 - (C + 1) * (q + 1) - 3888119808)
      sums F A B C e l b c k = omega arith

  pub fine_above : TwoGe (fine_log2_at i t + i * 2 ^ 26 + 8) (2 ^ 35) (D + t) (2 ^ 35)
  fine_above =
      let A = height_rule i I in
      let w = (slope i + 1) * t * 64 - curvature i * q in
      let ew : w + curvature i * q ≡ (slope i + 1) * t * 64 = omega (arith, curvature-le) in
      two_ge_down (2 ^ 32) (fine_log2_at i t + i * 2 ^ 26 + 8) (2 ^ 35) (D + t) (2 ^ 35) (lit< tt)
      (two_ge_mono (2 ^ 32 * (height i - 7 + i * 2 ^ 26 + 1) + (w + 51539607552))
      (2 ^ 32 * (fine_log2_at i t + i * 2 ^ 26 + 8)) (2 ^ 67) (D + t) (2 ^ 35)
      (sums (fine_log2_at i t) (height i) (slope i) (curvature i)
      (fine_is ∙ ap (λ (z : ℕ). (height i * 2 ^ 32 + slope i + slope i * t * 64 - curvature i * z) / 2 ^ 32)
      q_is) A.low w ew)
      (two_ge_weaken (2 ^ 32 * (height i - 7 + i * 2 ^ 26 + 1) + (w + 51539607552)) (2 ^ 67)
      ((512 + i) * (D + t)) (512 * D) (D + t) (2 ^ 35) (mul-pos (lit< tt) D-pos)
      (omega (arith, ap (λ (z : ℕ). z * (D + t)) en, ap (λ (z : ℕ). z * (D + t)) eD))
      (two_ge_mul (2 ^ 67) (2 ^ 32 * (height i - 7 + i * 2 ^ 26 + 1)) (w + 51539607552) (512 + i) 512
      (D + t) D
      (two_ge_up (2 ^ 32) (height i - 7 + i * 2 ^ 26 + 1) (2 ^ 35) (512 + i) 512 A.above)
      (line_above t D w small-t D-pos (above_start w ew)))))
    where
      sums : (F A B C : ℕ) → F ≡ (A * 2 ^ 32 + B + B * t * 64 - C * q) / 2 ^ 32 → 7 ≤ A → (w : ℕ)
          → w + C * q ≡ (B + 1) * t * 64
          → 2 ^ 32 * (A - 7 + i * 2 ^ 26 + 1) + (w + 51539607552) ≤ 2 ^ 32 * (F + i * 2 ^ 26 + 8)
      sums F A B C e l w k = omega arith

-- ---- for the code
pub record FineFits (w e i t : ℕ) : Type 0 where
  pub product : w % 2 ^ 32 * (t * 64) ≤ 2 ^ 60
  pub sum : w + w % 2 ^ 32 * (t * 64) ≤ 18446744073709551615
  pub square : t * t ≤ 2 ^ 52
  pub bent : e % 2 ^ 32 * (t * t / 2 ^ 24) ≤ 2 ^ 60
  pub less : e % 2 ^ 32 * (t * t / 2 ^ 24) ≤ w + w % 2 ^ 32 * (t * 64)
  pub is : (w + w % 2 ^ 32 * (t * 64) - e % 2 ^ 32 * (t * t / 2 ^ 24)) / 2 ^ 32 ≡ fine_log2_at i t

line_is : (i : ℕ) → line_word i ≡ height i * 2 ^ 32 + slope i
unfolding line_word
line_is i = refl

pub fine_fits : (w e i t : ℕ) → i < 512 → t < 2 ^ 26 → w ≡ line_word i → e ≡ curvature i → FineFits w e i t
fine_fits w e i t I X ew ee =
    let q = t * t / 2 ^ 24 in
    let f = floor (t * t) (2 ^ 24) (lit< tt) in
    go (height i) (slope i) (curvature i) q (ew ∙ line_is i) ee (height_rule i I).high
    (B-lt i 0 (512 + i) ((512 + i) * 2 ^ 14) I (lit< tt) refl refl)
    (C-lt i 0 (512 + i) ((512 + i) * 2 ^ 14) I (lit< tt) refl refl)
    (curvature-le i t (512 + i) ((512 + i) * 2 ^ 26) q I X refl refl f.0 f.1)
    (q-le i t (512 + i) ((512 + i) * 2 ^ 26) q I X refl refl f.0 f.1) refl
    (fine_is i t (512 + i) ((512 + i) * 2 ^ 26) q I X refl refl f.0 f.1)
  where
    go : (A B C q : ℕ) → w ≡ A * 2 ^ 32 + B → e ≡ C → A ≤ 3221225471 → B < 2 ^ 27 → C < 2 ^ 21
        → C * q ≤ B * t * 64 → q ≤ 2 ^ 28 → t * t / 2 ^ 24 ≡ q
        → fine_log2_at i t ≡ (A * 2 ^ 32 + B + B * t * 64 - C * (t * t / 2 ^ 24)) / 2 ^ 32 → FineFits w e i t
    go A B C q ew ee a b c h k eq d =
        let lower : w % 2 ^ 32 ≡ B = omega arith in
        let bend' : e % 2 ^ 32 ≡ C = omega arith in
        let t1 : t ≤ 2 ^ 26 = omega arith in
        let b1 : B ≤ 2 ^ 27 = omega arith in
        let c1 : C ≤ 2 ^ 21 = omega arith in
        let bt : B * t ≤ 2 ^ 27 * 2 ^ 26 = mul-le-mul b1 t1 in
        let cq : C * q ≤ 2 ^ 21 * 2 ^ 28 = mul-le-mul c1 k in
        record {
          product = rw lower (omega arith);
          sum = rw lower (omega arith);
          square = mul-le-mul t1 t1;
          bent = rw (bend', eq) (omega arith);
          less = rw (lower, bend', eq) (omega arith);
          is = rw (lower, bend', d, eq) (ap (λ (z : ℕ). z / 2 ^ 32) (same A B (C * q) w ew));
        }
      where
        same : (A B y w : ℕ) → w ≡ A * 2 ^ 32 + B → w + B * (t * 64) - y ≡ A * 2 ^ 32 + B + B * t * 64 - y
        same A B y w e = omega arith

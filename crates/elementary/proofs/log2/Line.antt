-- log2 (1 + t / D) between the slope and the curvature's quadratic, in units of 2^-67, for t / D below 2^-9 and any
-- number of digits.
use Rattle.std.proofs.Common.{◌≡◌, ℕ, ◌+◌, ◌-◌, ◌*◌, ◌^◌, ◌<◌, ◌≤◌, ◌⊎◌, ap, subst, inl, inr, le_trans, le_of_eq, mul-le-mul_right, mul-le-mul_left, mul-pos, arith, lit<, lit≤}
use Rattle.series.specs.Exp.{sum, scale, ln2}
use Rattle.series.proofs.Cuts.{lt_or_ge, le_below, ge_above}
use Rattle.series.proofs.Two.{TwoLe, TwoGe, two_le_weaken, two_ge_weaken, two_ge_mul, two_le_quot, two_le_one}
use Rattle.series.proofs.Two.{two_le_exp, two_ge_exp, ln2-le, ln2-ge}
use Rattle.elementary.proofs.log2.Curve.{curve-le, curve-ge}

-- 2^(3888119808 / 2^67) ≥ 1 + 2^-36, and 2^(12 / 2^35) ≥ 1 + 8.25 / 2^35
spare : TwoGe 3888119808 (2 ^ 67) 68719476737 (2 ^ 36)
spare =
    two_ge_exp ln2 (2 ^ 48) 3888119808 (2 ^ 67) 68719476737 (2 ^ 36) (lit< tt)
    (lit< tt) ln2-le (1, unfold sum scale in lit≤ tt)

room : TwoGe 51539607552 (2 ^ 67) 137438953505 (2 ^ 37)
room =
    two_ge_exp ln2 (2 ^ 48) 51539607552 (2 ^ 67) 137438953505 (2 ^ 37) (lit< tt)
    (lit< tt) ln2-le (1, unfold sum scale in lit≤ tt)

covers : (t D c : ℕ) → c + D ≡ 2 ^ 32 * (D + t) → (D + t) * (2 ^ 32 * D * 2 ^ 37) ≤ c * 137438953505 * D
covers t D c e = le_trans (le_of_eq (left t D)) (mul-le-mul_right D (go t D c e))
  where
    go : (t D c : ℕ) → c + D ≡ 2 ^ 32 * (D + t) → 590295810358705651712 * (D + t) ≤ c * 137438953505
    go t D c e = omega arith

    left : (t D : ℕ) → (D + t) * (2 ^ 32 * D * 2 ^ 37) ≡ 590295810358705651712 * (D + t) * D
    left t D = omega arith

-- multiples of an inequality between U, a and b
scaled-le : (U a b u v n k l : ℕ) → U + v * b ≤ u * a → n * u ≤ k → l ≤ n * v → n * U + l * b ≤ k * a
scaled-le U a b u v n k l h x y = omega (arith, mul-le-mul_left n h, mul-le-mul_right a x, mul-le-mul_right b y)

scaled-ge : (U a b u v n k l : ℕ) → u * a ≤ U + v * b → k ≤ n * u → n * v ≤ l → k * a ≤ n * U + l * b
scaled-ge U a b u v n k l h x y = omega (arith, mul-le-mul_left n h, mul-le-mul_right a x, mul-le-mul_right b y)

-- ---- the quadratic w at d = t / D, of any number of digits
module _ (t D w : ℕ) (small : t * 512 ≤ D) (D-pos : 0 < D) where
  pub line-below : w * (D * D) + 395790452196 * 2 ^ 28 * (t * t) ≤ 49570588694 * 2 ^ 32 * (t * D)
      → TwoLe (w - 3888119808) (2 ^ 67) (D + t) D
  line-below h = go (lt_or_ge w 3888119808)
    where
      p : ℕ
      p = 1073741056 * (t * D) - 535822336 * (t * t)

      ep : p + 535822336 * (t * t) ≡ 1073741056 * (t * D)
      ep = omega (arith, mul-le-mul_left t small)

      order : w * (ln2 + 1) * (2 ^ 30 * (D * D)) ≤ p * 41538374868278621028243970633760768
      order =
          last (w * (D * D)) (t * D) (t * t) 41538374868278621028243970633760768
          (scaled-le (w * (D * D)) (t * D) (t * t) (49570588694 * 2 ^ 32) (395790452196 * 2 ^ 28)
          (2 ^ 30 * (ln2 + 1)) (1073741056 * 41538374868278621028243970633760768)
          (535822336 * 41538374868278621028243970633760768) h (lit≤ tt) (lit≤ tt))
          ep (omega arith)
        where
          last : (U a b h : ℕ) → 2 ^ 30 * (ln2 + 1) * U + 535822336 * h * b ≤ 1073741056 * h * a
              → p + 535822336 * b ≡ 1073741056 * a
              → w * (ln2 + 1) * (2 ^ 30 * (D * D)) ≡ 2 ^ 30 * (ln2 + 1) * U
              → w * (ln2 + 1) * (2 ^ 30 * (D * D)) ≤ p * h
          last U a b h g e k = rw k (omega (arith, ap (λ (z : ℕ). z * h) e))

      by_two : TwoLe w (2 ^ 67) (2 ^ 36 * (D + t) + D) (2 ^ 36 * D)
      by_two =
          two_le_exp (ln2 + 1) (2 ^ 48) w (2 ^ 67) (2 ^ 36 * (D + t) + D)
          (2 ^ 36 * D) (lit< tt) (lit< tt) ln2-ge
          (le_below (w * (ln2 + 1)) 41538374868278621028243970633760768 p (2 ^ 30 * (D * D))
          (2 ^ 36 * (D + t) + D) (2 ^ 36 * D) (lit< tt) (mul-pos (lit< tt) (mul-pos D-pos D-pos))
          order (curve-le t D small D-pos p ep))

      go : (w < 3888119808) ⊎ (3888119808 ≤ w) → TwoLe (w - 3888119808) (2 ^ 67) (D + t) D
      go (inl l) =
          subst (λ (z : ℕ). TwoLe z (2 ^ 67) (D + t) D) (none l)
          (two_le_one (2 ^ 67) (D + t) D (omega arith))
        where
          none : w < 3888119808 → 0 ≡ w - 3888119808
          none l = omega arith
      go (inr l) =
          two_le_weaken (w - 3888119808) (2 ^ 67) ((2 ^ 36 * (D + t) + D) * 2 ^ 36)
          (2 ^ 36 * D * 68719476737) (D + t) D (mul-pos (mul-pos (lit< tt) D-pos) (lit< tt)) (flat t D)
          (two_le_quot (2 ^ 67) (w - 3888119808) 3888119808 (2 ^ 36 * (D + t) + D) (2 ^ 36 * D)
          68719476737 (2 ^ 36)
          (subst (λ (z : ℕ). TwoLe z (2 ^ 67) (2 ^ 36 * (D + t) + D) (2 ^ 36 * D)) (whole l)
          by_two) spare)
        where
          whole : 3888119808 ≤ w → w ≡ w - 3888119808 + 3888119808
          whole l = omega arith

          flat : (t D : ℕ) → (2 ^ 36 * (D + t) + D) * 2 ^ 36 * D ≤ (D + t) * (2 ^ 36 * D * 68719476737)
          flat t D = omega arith

  pub line_above : 49570588694 * 2 ^ 32 * (t * D) ≤ w * (D * D) + 395790452196 * 2 ^ 28 * (t * t)
      → TwoGe (w + 51539607552) (2 ^ 67) (D + t) D
  line_above h =
      let c = 2 ^ 32 * (D + t) - D in
      two_ge_weaken (w + 51539607552) (2 ^ 67) (c * 137438953505) (2 ^ 32 * D * 2 ^ 37) (D + t) D
      (mul-pos (mul-pos (lit< tt) D-pos) (lit< tt)) (covers t D c (omega arith))
      (two_ge_mul (2 ^ 67) w 51539607552 c (2 ^ 32 * D) 137438953505 (2 ^ 37)
      (two_ge_exp ln2 (2 ^ 48) w (2 ^ 67) c (2 ^ 32 * D) (lit< tt) (lit< tt) ln2-le
      (ge_above (w * ln2) 41538374868278621028243970633760768 p (2 ^ 30 * (D * D)) c (2 ^ 32 * D)
      (lit< tt) (mul-pos (lit< tt) (mul-pos D-pos D-pos))
      order (curve-ge t D small D-pos p ep)))
      room)
    where
      p : ℕ
      p = 1073741055 * (t * D) - 535822337 * (t * t)

      ep : p + 535822337 * (t * t) ≡ 1073741055 * (t * D)
      ep = omega (arith, mul-le-mul_left t small)

      order : p * 41538374868278621028243970633760768 ≤ w * ln2 * (2 ^ 30 * (D * D))
      order =
          last (w * (D * D)) (t * D) (t * t) 41538374868278621028243970633760768
          (scaled-ge (w * (D * D)) (t * D) (t * t) (49570588694 * 2 ^ 32) (395790452196 * 2 ^ 28)
          (2 ^ 30 * ln2) (1073741055 * 41538374868278621028243970633760768)
          (535822337 * 41538374868278621028243970633760768) h (lit≤ tt) (lit≤ tt))
          ep (omega arith)
        where
          last : (U a b h : ℕ) → 1073741055 * h * a ≤ 2 ^ 30 * ln2 * U + 535822337 * h * b
              → p + 535822337 * b ≡ 1073741055 * a
              → w * ln2 * (2 ^ 30 * (D * D)) ≡ 2 ^ 30 * ln2 * U
              → p * h ≤ w * ln2 * (2 ^ 30 * (D * D))
          last U a b h g e k = rw k (omega (arith, ap (λ (z : ℕ). z * h) e))

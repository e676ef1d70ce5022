-- ln (1 + t / D) against a quadratic in t / D, for 0 ≤ t / D ≤ 2^-9: the leading part of what is left is a square.
use Rattle.std.proofs.Common.{◌≡◌, ℕ, ◌+◌, ◌-◌, ◌*◌, ◌^◌, ◌<◌, ◌≤◌, ap, mul-le-mul_right, mul-le-mul, mul-le-mul_left, mul-pos, arith, lit<}
use Rattle.series.specs.Exp.{ExpGe, ExpLe}
use Rattle.series.proofs.Cuts.{le_weaken, ge_weaken}
use Rattle.series.proofs.Horner.{tail_ge_one, tail-ge, tail-two, tail-le, ge-tail, le-tail}
use Rattle.elementary.proofs.Cubics.{square, cube_high}

module _ (t D : ℕ) (small : t * 512 ≤ D) (D-pos : 0 < D) where
  t-1 : t * (D * D * D) * 512 ≤ D * D * D * D
  t-1 = omega (arith, mul-le-mul_left (D * D * D) small)

  t-2 : t * t * (D * D) * 2 ^ 18 ≤ D * D * D * D
  t-2 = omega (arith, mul-le-mul_left (D * D) (mul-le-mul small small))

  t-3 : t * t * t * D * 2 ^ 27 ≤ D * D * D * D
  t-3 = omega (arith, mul-le-mul_left D (mul-le-mul small (mul-le-mul small small)))

  t-4 : t * t * t * t * 2 ^ 36 ≤ D * D * D * D
  t-4 = omega (arith, mul-le-mul (mul-le-mul small small) (mul-le-mul small small))

  -- s = (1 - 3 / 2^22) d - (1 - 2^-9) d^2 / 2 with d = t / D, p = 2^30 D^2 s: e^s ≤ 1 + d + 2^-36
  module _ (p : ℕ) (ep : p + 535822336 * (t * t) ≡ 1073741056 * (t * D)) where
    p-le : p ≤ 1073741056 * (t * D)
    p-le = omega arith

    q_pos : 0 < 2 ^ 30 * (D * D)
    q_pos = mul-pos (lit< tt) (mul-pos D-pos D-pos)

    -- E 3 ≤ 1 + 2^-10
    le_3 : 206158430208 * (D * D) * (2 ^ 30 * (D * D) * 4) + p * (2 * (206158430208 * (D * D))) ≤ 206359756800
        * (D * D) * (2 ^ 30 * (D * D) * 4)
    le_3 = omega (arith, mul-le-mul_right (D * D) p-le, t-1)

    -- E 2 ≤ 1 + d / 3 (1 + 2^-10)
    le_2 : 206158430208 * (D * D) * (2 ^ 30 * (D * D) * 3) + p * (206359756800 * (D * D))
        ≤ (206158430208 * (D * D) + 68786585600 * (t * D)) * (2 ^ 30 * (D * D) * 3)
    le_2 = omega (arith, mul-le-mul_right (D * D) p-le)

    -- E 1 ≤ 1 + d / 2 - 127 / 1536 d^2
    le_1 : (g : ℕ) → g + 254 * (t * t) ≡ 3072 * (D * D) + 1536 * (t * D)
        → 206158430208 * (D * D) * (2 ^ 30 * (D * D) * 2) + p * (206158430208 * (D * D) + 68786585600 * (t * D))
        ≤ 2 ^ 26 * g * (2 ^ 30 * (D * D) * 2)
    le_1 g eg =
        omega (arith, ap (λ (z : ℕ). z * (D * D)) ep, ap (λ (z : ℕ). z * (t * D)) ep, ap (λ (z : ℕ). z * (D * D)) eg)

    -- E 0, times 2^-26: the square t (2^11 t - 3 D)^2 takes up the quadratic's part
    le_0_is : (g : ℕ) → g + 254 * (t * t) ≡ 3072 * (D * D) + 1536 * (t * D)
        → p * g + 1095753336320 * (t * t * t * D) + 2359296 * (t * (D * D * D)) ≡ 3298534883328 * (t * (D * D * D))
        + 3220045824 * (t * t * (D * D)) + 136098873344 * (t * t * t * t)
    le_0_is g eg =
        omega (
          arith,
          ap (λ (z : ℕ). z * (D * D)) ep,
          ap (λ (z : ℕ). z * (t * D)) ep,
          ap (λ (z : ℕ). z * (t * t)) ep,
          ap
              (λ (z : ℕ). p * z) eg,
        )

    le_0_square : 3220045824 * (t * t * (D * D)) ≤ 2 ^ 40 * (t * t * t * D) + 2359296 * (t * (D * D * D))
    le_0_square = omega (arith, mul-le-mul_left (t * D) (square (2048 * t) (3 * D)))

    le_0_cube : 2 ^ 40 * (t * t * t * D) ≤ 1095753336320 * (t * t * t * D) + 32 * (D * D * D * D)
    le_0_cube = omega (arith, t-3)

    le_0_fourth : 136098873344 * (t * t * t * t) ≤ 4 * (D * D * D * D)
    le_0_fourth = omega (arith, t-4)

    le_0 : (g : ℕ) → g + 254 * (t * t) ≡ 3072 * (D * D) + 1536 * (t * D)
        → 206158430208 * (D * D) * (2 ^ 30 * (D * D) * 1) + p * (2 ^ 26 * g)
        ≤ (206158430208 * (D * D) + 206158430208 * (t * D) + 3 * (D * D)) * (2 ^ 30 * (D * D) * 1)
    le_0 g eg =
        let h : p * g ≤ 3298534883328 * (t * (D * D * D)) + 36 * (D * D * D * D) =
        sums (p * g) (3220045824 * (t * t * (D * D))) (1095753336320 * (t * t * t * D)) (136098873344 * (t * t * t * t))
        (2 ^ 40 * (t * t * t * D)) (D * D * D * D) (2359296 * (t * (D * D * D)))
        (3298534883328 * (t * (D * D * D))) (le_0_is g eg) le_0_square le_0_cube le_0_fourth in
        omega (arith, mul-le-mul_left (2 ^ 26) h)
      where
        sums : (x u v w y a k l : ℕ) → x + v + k ≡ l + u + w → u ≤ y + k → y ≤ v + 32 * a → w ≤ 4 * a → x ≤ l + 36 * a
        sums x u v w y a k l e h1 h2 h3 = omega arith

    pub curve-le : ExpLe p (2 ^ 30 * (D * D)) (2 ^ 36 * (D + t) + D) (2 ^ 36 * D)
    curve-le =
        let f = 206158430208 * (D * D) in
        let q = 2 ^ 30 * (D * D) in
        let g = 3072 * (D * D) + 1536 * (t * D) - 254 * (t * t) in
        let tt_le : t * t * 512 ≤ t * D = omega (arith, mul-le-mul_left t small) in
        let eg : g + 254 * (t * t) ≡ 3072 * (D * D) + 1536 * (t * D) = omega arith in
        le_weaken p q (f + 206158430208 * (t * D) + 3 * (D * D)) f (2 ^ 36 * (D + t) + D) (2 ^ 36 * D)
        (mul-pos (lit< tt) (mul-pos D-pos D-pos)) (omega arith)
        (le-tail p q (f + 206158430208 * (t * D) + 3 * (D * D)) f
        (tail-le 0 p q f (2 ^ 26 * g) (f + 206158430208 * (t * D) + 3 * (D * D)) q_pos (le_0 g eg)
        (tail-le 1 p q f (f + 68786585600 * (t * D)) (2 ^ 26 * g) q_pos (le_1 g eg)
        (tail-le 2 p q f (206359756800 * (D * D)) (f + 68786585600 * (t * D)) q_pos le_2
        (tail-le 3 p q f (2 * f) (206359756800 * (D * D)) q_pos le_3
        (tail-two 4 p q f (two p-le)))))))
      where
        two : p ≤ 1073741056 * (t * D) → 2 * p ≤ 2 ^ 30 * (D * D) * 5
        two h = omega (arith, mul-le-mul_right D small)

  -- the same from below, with s a little less: 1 + d - 2^-32 ≤ e^s
  module _ (p : ℕ) (ep : p + 535822337 * (t * t) ≡ 1073741055 * (t * D)) where
    tt_le : t * t * 512 ≤ t * D
    tt_le = omega (arith, mul-le-mul_left t small)

    p-ge : 1071644672 * (t * D) ≤ p
    p-ge = omega (arith, tt_le)

    -- E 2 ≥ 1 + 511 / 1536 d
    ge_2 : (12884901888 * (D * D) + 4286578688 * (t * D)) * (2 ^ 30 * (D * D) * 3) ≤ 12884901888 * (D * D)
        * (2 ^ 30 * (D * D) * 3) + p * (12884901888 * (D * D))
    ge_2 = omega (arith, mul-le-mul_right (D * D) p-ge)

    -- E 1 ≥ 1 + (1 - 769 / 2^30) d / 2 - d^2 / 12
    ge_1_bend : 273805214207 * (t * t * t * D) ≤ 536476417 * (t * t * (D * D))
    ge_1_bend = omega (arith, mul-le-mul_right (t * D) tt_le)

    ge_1_is : (g : ℕ) → g + 2 ^ 30 * (t * t) ≡ 12884901888 * (D * D) + 6442446330 * (t * D)
        → 256 * (g * (D * D)) ≤ 3298534883328 * (D * D * D * D) + p * (1536 * (D * D) + 511 * (t * D))
    ge_1_is g eg =
        let h : 256 * (g * (D * D)) ≤ 3298534883328 * (D * D * D * D) + (1536 * (p * (D * D)) + 511 * (p * (t * D))) =
        go (g * (D * D)) (p * (D * D)) (p * (t * D)) (D * D * D * D) (t * (D * D * D)) (t * t * (D * D)) (t * t * t * D)
        (omega (arith, ap (λ (z : ℕ). z * (D * D)) eg)) (omega (arith, ap (λ (z : ℕ). z * (D * D)) ep))
        (omega (arith, ap (λ (z : ℕ). z * (t * D)) ep)) ge_1_bend in
        omega arith
      where
        go : (G P R a b c d : ℕ) → G + 2 ^ 30 * c ≡ 12884901888 * a + 6442446330 * b
            → P + 535822337 * c ≡ 1073741055 * b → R + 535822337 * d ≡ 1073741055 * c → 273805214207 * d ≤ 536476417 * c
            → 256 * G ≤ 3298534883328 * a + (1536 * P + 511 * R)
        go G P R a b c d e1 e2 e3 h = omega arith

    ge_1 : (g : ℕ) → g + 2 ^ 30 * (t * t) ≡ 12884901888 * (D * D) + 6442446330 * (t * D)
        → g * (2 ^ 30 * (D * D) * 2) ≤ 12884901888 * (D * D) * (2 ^ 30 * (D * D) * 2) + p
        * (12884901888 * (D * D) + 4286578688 * (t * D))
    ge_1 g eg = omega (arith, mul-le-mul_left (2 ^ 23) (ge_1_is g eg))

    ge_0_is : (g : ℕ) → g + 2 ^ 30 * (t * t) ≡ 12884901888 * (D * D) + 6442446330 * (t * D)
        → p * g + 4604927327437057530 * (t * t * t * D) ≡ 13835048146792611840 * (t * (D * D * D)) + 13500877511205894
        * (t * t * (D * D)) + 575334853470322688 * (t * t * t * t)
    ge_0_is g eg =
        omega (
          arith,
          ap (λ (z : ℕ). z * (D * D)) ep,
          ap (λ (z : ℕ). z * (t * D)) ep,
          ap (λ (z : ℕ). z * (t * t)) ep,
          ap
              (λ (z : ℕ). p * z) eg,
        )

    -- the largest value of t (2^11 t - 3 D)^2 is 4 D^3 / 2^11
    ge_0_cube : 2 ^ 62 * (t * t * t * D) + 9895604649984 * (t * (D * D * D)) ≤ 13510798882111488
        * (t * t * (D * D)) + 2 ^ 31 * (D * D * D * D)
    ge_0_cube = omega (arith, mul-le-mul_left (D * 536870912) (cube_high (2048 * t) D (omega arith)))

    ge_0_first : 9908489551872 * (t * (D * D * D)) ≤ 9895604649984 * (t * (D * D * D)) + 2 ^ 26 * (D * D * D * D)
    ge_0_first = omega (arith, t-1)

    ge_0_second : 13510798882111488 * (t * t * (D * D)) ≤ 13500877511205894 * (t * t * (D * D)) + 2 ^ 26
        * (D * D * D * D)
    ge_0_second = omega (arith, t-2)

    ge_0 : (g k : ℕ) → g + 2 ^ 30 * (t * t) ≡ 12884901888 * (D * D) + 6442446330 * (t * D)
        → k + 3 * (D * D) ≡ 12884901888 * (D * D) + 12884901888 * (t * D)
        → k * (2 ^ 30 * (D * D) * 1) ≤ 12884901888 * (D * D) * (2 ^ 30 * (D * D) * 1) + p * g
    ge_0 g k eg ek =
        let h : 13835058055282163712 * (t * (D * D * D)) ≤ p * g + 2281701376 * (D * D * D * D) =
        sums (p * g) (D * D * D * D) (4604927327437057530 * (t * t * t * D)) (2 ^ 62 * (t * t * t * D))
        (13500877511205894 * (t * t * (D * D))) (13510798882111488 * (t * t * (D * D)))
        (575334853470322688 * (t * t * t * t)) (9895604649984 * (t * (D * D * D)))
        (9908489551872 * (t * (D * D * D))) (13835048146792611840 * (t * (D * D * D)))
        (13835058055282163712 * (t * (D * D * D)))
        (ge_0_is g eg) ge_0_cube (omega arith) ge_0_first ge_0_second (omega arith) in
        let e : k * (D * D) + 3 * (D * D * D * D) ≡ 12884901888 * (D * D * D * D) + 12884901888 * (t * (D * D * D)) =
        omega (arith, ap (λ (z : ℕ). z * (D * D)) ek) in
        let m : 2 ^ 30 * (k * (D * D)) ≤ 13835058055282163712 * (D * D * D * D) + p * g = last (p * g)
        (D * D * D * D) (t * (D * D * D)) (k * (D * D)) h e in
        omega arith
      where
        -- x is p g, v and y are the cubes, u and u1 the squares, the others multiples of t D^3
        sums : (x a v y u u1 w m n l o : ℕ) → x + v ≡ l + u + w → y + m ≤ u1 + 2 ^ 31 * a → v ≤ y
            → n ≤ m + 2 ^ 26 * a → u1 ≤ u + 2 ^ 26 * a → l + n ≡ o → o ≤ x + 2281701376 * a
        sums x a v y u u1 w m n l o e h1 h2 h3 h4 h5 = omega arith

        last : (x a b K : ℕ) → 13835058055282163712 * b ≤ x + 2281701376 * a
            → K + 3 * a ≡ 12884901888 * a + 12884901888 * b → 2 ^ 30 * K ≤ 13835058055282163712 * a + x
        last x a b K h e = omega arith

    pub curve-ge : ExpGe p (2 ^ 30 * (D * D)) (2 ^ 32 * (D + t) - D) (2 ^ 32 * D)
    curve-ge =
        let f = 12884901888 * (D * D) in
        let q = 2 ^ 30 * (D * D) in
        let g = f + 6442446330 * (t * D) - 2 ^ 30 * (t * t) in
        let k = f + 12884901888 * (t * D) - 3 * (D * D) in
        let eg : g + 2 ^ 30 * (t * t) ≡ 12884901888 * (D * D) + 6442446330 * (t * D) = omega (arith, tt_le) in
        let ek : k + 3 * (D * D) ≡ 12884901888 * (D * D) + 12884901888 * (t * D) = omega arith in
        let c = 2 ^ 32 * (D + t) - D in
        let ec : c + D ≡ 2 ^ 32 * (D + t) = omega arith in
        ge_weaken p q k f c (2 ^ 32 * D) (mul-pos (lit< tt) (mul-pos D-pos D-pos)) (last k c ek ec)
        (ge-tail p q k f
        (tail-ge 0 p q f g k (ge_0 g k eg ek)
        (tail-ge 1 p q f (f + 4286578688 * (t * D)) g (ge_1 g eg)
        (tail-ge 2 p q f f (f + 4286578688 * (t * D)) ge_2
        (tail_ge_one 3 p q f)))))
      where
        last : (k c : ℕ) → k + 3 * (D * D) ≡ 12884901888 * (D * D) + 12884901888 * (t * D)
            → c + D ≡ 2 ^ 32 * (D + t) → c * (12884901888 * (D * D)) ≤ k * (2 ^ 32 * D)
        last k c ek ec = omega (arith, ap (λ (z : ℕ). z * D) ek, ap (λ (z : ℕ). z * (D * D)) ec)

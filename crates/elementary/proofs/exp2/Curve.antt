-- The law of 2^(r / 2^39) for r below 2^32: small r is at most 1 too high and 10 too low, in units of 2^-32.
use Rattle.std.proofs.Common.{◌≡◌, ℕ, ◌+◌, ◌*◌, ◌/◌, ◌^◌, ◌<◌, ◌≤◌, mul-le-mul_right, mul-le-mul, mul-le-mul_left, mul-pos, arith, lit<, lit≤}
use Rattle.series.specs.Exp.{ExpGe, ExpLe, ln2}
use Rattle.series.proofs.Cuts.{le_weaken, ge_weaken, le_below, ge_above}
use Rattle.series.proofs.Horner.{tail_ge_one, tail-ge, tail-two, tail-le, ge-tail, le-tail}
use Rattle.series.proofs.Two.{TwoLe, TwoGe, two_le_exp, two_ge_exp, ln2-le, ln2-ge}
use Rattle.elementary.specs.Power.{exp2m1}
use Rattle.elementary.proofs.Cubics.{cube_low, cube_high}

-- ln 2 to 2^-26
coarse-le : ExpLe 46516319 (2 ^ 26) 2 1
coarse-le = le_below 46516319 (2 ^ 26) ln2 (2 ^ 48) 2 1 (lit< tt) (lit< tt) (lit≤ tt) ln2-le

coarse-ge : ExpGe 46516320 (2 ^ 26) 2 1
coarse-ge = ge_above 46516320 (2 ^ 26) (ln2 + 1) (2 ^ 48) 2 1 (lit< tt) (lit< tt) (lit≤ tt) ln2-ge

-- ---- with h for 2^30: e^(r ln 2 / (2^9 h)) against 1 + s / 2^32, where s is the recipe's quadratic
module _ (r h s : ℕ) (R : r ≤ 4 * h) (H : 0 < h) where
  h3_r1 : r * (h * h) ≤ 4 * (h * h * h)
  h3_r1 = omega (arith, mul-le-mul_right (h * h) R)

  h3_r2 : h * r * r ≤ 16 * (h * h * h)
  h3_r2 = omega (arith, mul-le-mul_left h (mul-le-mul R R))

  q_pos : 0 < 2 ^ 35 * h
  q_pos = mul-pos (lit< tt) H

  f_pos : 0 < 2 ^ 60 * (h * h)
  f_pos = mul-pos (lit< tt) (mul-pos H H)

  -- ---- from above
  module _ (lo : 1524242578432 * (r * h) + 1034558604 * (r * r) ≤ (s + 1) * 2 ^ 18 * (h * h)) where
    le_3 : 2 ^ 60 * (h * h) * (2 ^ 35 * h * 4) + r * 46516320 * (2 * (2 ^ 60 * (h * h)))
        ≤ 1157425104234217472 * (h * h) * (2 ^ 35 * h * 4)
    le_3 = omega (arith, h3_r1)

    le_2 : 2 ^ 60 * (h * h) * (2 ^ 35 * h * 3) + r * 46516320 * (1157425104234217472 * (h * h))
        ≤ (2 ^ 60 * (h * h) + 522308561141760 * (r * h)) * (2 ^ 35 * h * 3)
    le_2 = omega arith

    le_1 : 2 ^ 60 * (h * h) * (2 ^ 35 * h * 2) + r * 46516320
        * (2 ^ 60 * (h * h) + 522308561141760 * (r * h))
        ≤ (2 ^ 60 * (h * h) + 780414348165120 * (r * h) + 353551472200 * (r * r)) * (2 ^ 35 * h * 2)
    le_1 = omega arith

    le_0_cube : 16445913417326304000 * (r * r * r) + 148013220755936736000 * (r * (h * h)) ≤ 98675480503957824000
        * (h * r * r) + 65783653669305216000 * (h * h * h)
    le_0_cube = omega (arith, mul-le-mul_left 16445913417326304000 (cube_high r h R))

    le_0_first : 53629665643173568126648320 * (r * (h * h)) ≤ 148013220755936736000 * (r * (h * h))
        + 53629518033192181431271424 * (r * (h * h))
    le_0_first = omega arith

    le_0_second : 36302003551840134758400 * (h * r * r) + 98675480503957824000 * (h * r * r) ≤ 36400294870838597910528
        * (h * r * r) + 2 ^ 63 * (h * h * h)
    le_0_second = omega (arith, h3_r2)

    le_0 : 2 ^ 60 * (h * h) * (2 ^ 35 * h * 1) + r * 46516320
        * (2 ^ 60 * (h * h) + 780414348165120 * (r * h) + 353551472200 * (r * r)) ≤ 2 ^ 28
        * (2 ^ 32 + s + 10) * (h * h) * (2 ^ 35 * h * 1)
    le_0 =
        let m : 53629518033192181431271424 * (r * (h * h)) + 36400294870838597910528 * (h * r * r) ≤ 2 ^ 63
        * ((s + 1) * (h * h * h)) = omega (arith, mul-le-mul_right (2 ^ 45 * h) lo) in
        let z : 53629665643173568126648320 * (r * (h * h)) + 36302003551840134758400 * (h * r * r)
        + 16445913417326304000 * (r * r * r) ≤ 2 ^ 63 * ((s + 1) * (h * h * h)) + 83010348331692982272
        * (h * h * h) =
        sums (53629665643173568126648320 * (r * (h * h))) (148013220755936736000 * (r * (h * h)))
        (53629518033192181431271424 * (r * (h * h))) (36302003551840134758400 * (h * r * r))
        (98675480503957824000 * (h * r * r)) (36400294870838597910528 * (h * r * r))
        (16445913417326304000 * (r * r * r)) (65783653669305216000 * (h * h * h)) (h * h * h)
        (2 ^ 63 * ((s + 1) * (h * h * h)))
        le_0_cube le_0_first le_0_second m (omega arith) in
        last (r * 46516320 * (2 ^ 60 * (h * h) + 780414348165120 * (r * h) + 353551472200 * (r * r)))
        (omega arith) z
      where
        sums : (x x9 x1 y y6 y1 z k w v : ℕ) → z + x9 ≤ y6 + k → x ≤ x9 + x1 → y + y6 ≤ y1 + 2 ^ 63 * w
            → x1 + y1 ≤ v → k ≤ 73786976294838206464 * w → x + y + z ≤ v + 83010348331692982272 * w
        sums x x9 x1 y y6 y1 z k w v k1 k2 k3 k4 k5 = omega arith

        last : (L : ℕ) → L ≡ 53629665643173568126648320 * (r * (h * h)) + 36302003551840134758400 * (h * r * r)
            + 16445913417326304000 * (r * r * r) → 53629665643173568126648320 * (r * (h * h)) + 36302003551840134758400
            * (h * r * r) + 16445913417326304000 * (r * r * r) ≤ 2 ^ 63 * ((s + 1) * (h * h * h))
            + 83010348331692982272 * (h * h * h)
            → 2 ^ 60 * (h * h) * (2 ^ 35 * h * 1) + L ≤ 2 ^ 28 * (2 ^ 32 + s + 10) * (h * h)
            * (2 ^ 35 * h * 1)
        last L e z =
            go L (53629665643173568126648320 * (r * (h * h)) + 36302003551840134758400 * (h * r * r)
            + 16445913417326304000 * (r * r * r)) e z
          where
            go : (L M : ℕ) → L ≡ M → M ≤ 2 ^ 63 * ((s + 1) * (h * h * h)) + 83010348331692982272
                * (h * h * h) → 2 ^ 60 * (h * h) * (2 ^ 35 * h * 1) + L ≤ 2 ^ 28
                * (2 ^ 32 + s + 10) * (h * h) * (2 ^ 35 * h * 1)
            go L M e z = omega arith

    exp-le : ExpLe (r * 46516320) (2 ^ 35 * h) (2 ^ 32 + s + 10) (2 ^ 32)
    exp-le =
        let p = r * 46516320 in
        let f = 2 ^ 60 * (h * h) in
        let q = 2 ^ 35 * h in
        let g1 = f + 780414348165120 * (r * h) + 353551472200 * (r * r) in
        let g2 = f + 522308561141760 * (r * h) in
        let g3 = 1157425104234217472 * (h * h) in
        let g0 = 2 ^ 28 * (2 ^ 32 + s + 10) * (h * h) in
        le_weaken p q g0 f (2 ^ 32 + s + 10) (2 ^ 32) f_pos (omega arith)
        (le-tail p q g0 f (tail-le 0 p q f g1 g0 q_pos le_0
        (tail-le 1 p q f g2 g1 q_pos le_1 (tail-le 2 p q f g3 g2 q_pos le_2
        (tail-le 3 p q f (2 * f) g3 q_pos le_3 (tail-two 4 p q f (omega arith)))))))

  -- ---- from below
  module _ (hi : s * 2 ^ 18 * (h * h) ≤ 1524242579456 * (r * h) + 1034558604 * (r * r)) where
    ge_2 : (2 ^ 60 * (h * h) + 520276220925269 * (r * h)) * (2 ^ 35 * h * 3) ≤ 2 ^ 60
        * (h * h) * (2 ^ 35 * h * 3) + r * 46516319 * (2 ^ 60 * (h * h))
    ge_2 = omega arith

    ge_1 : (2 ^ 60 * (h * h) + 780414331387904 * (r * h) + 352175770395 * (r * r)) * (2 ^ 35 * h * 2)
        ≤ 2 ^ 60 * (h * h) * (2 ^ 35 * h * 2) + r * 46516319
        * (2 ^ 60 * (h * h) + 520276220925269 * (r * h))
    ge_1 = omega arith

    ge_0_cube : 98291522878587456030 * (h * r * r) ≤ 16381920479764576005 * (r * r * r) + 147437284317881184045
        * (r * (h * h))
    ge_0_cube = omega (arith, mul-le-mul_left 16381920479764576005 (cube_low r h))

    ge_0_first : 53629518069220978450235392 * (r * (h * h)) + 147437284317881184045 * (r * (h * h))
        ≤ 53629664490252063519801344 * (r * (h * h)) + 2 ^ 62 * (h * h * h)
    ge_0_first = omega (arith, h3_r1)

    ge_0_second : 36400294870838597910528 * (h * r * r) ≤ 36302001991011455205376 * (h * r * r) + 98291522878587456030
        * (h * r * r) + 2 ^ 62 * (h * h * h)
    ge_0_second = omega (arith, h3_r2)

    ge_0 : 2 ^ 28 * (4294967295 + s) * (h * h) * (2 ^ 35 * h * 1) ≤ 2 ^ 60 * (h * h)
        * (2 ^ 35 * h * 1) + r * 46516319
        * (2 ^ 60 * (h * h) + 780414331387904 * (r * h) + 352175770395 * (r * r))
    ge_0 =
        let m : 2 ^ 63 * (s * (h * h * h)) ≤ 53629518069220978450235392 * (r * (h * h))
        + 36400294870838597910528 * (h * r * r) = omega (arith, mul-le-mul_right (2 ^ 45 * h) hi) in
        let z : 2 ^ 63 * (s * (h * h * h)) ≤ 53629664490252063519801344 * (r * (h * h))
        + 36302001991011455205376 * (h * r * r) + 16381920479764576005 * (r * r * r) + 2 ^ 63
        * (h * h * h) =
        sums (53629664490252063519801344 * (r * (h * h))) (147437284317881184045 * (r * (h * h)))
        (53629518069220978450235392 * (r * (h * h))) (36302001991011455205376 * (h * r * r))
        (98291522878587456030 * (h * r * r)) (36400294870838597910528 * (h * r * r))
        (16381920479764576005 * (r * r * r)) (h * h * h) (2 ^ 63 * (s * (h * h * h)))
        ge_0_cube ge_0_first ge_0_second m in
        last (r * 46516319 * (2 ^ 60 * (h * h) + 780414331387904 * (r * h) + 352175770395 * (r * r)))
        (53629664490252063519801344 * (r * (h * h)) + 36302001991011455205376 * (h * r * r) + 16381920479764576005
        * (r * r * r)) (omega arith) z
      where
        sums : (x x9 x1 y y6 y1 z w v : ℕ) → y6 ≤ z + x9 → x1 + x9 ≤ x + 2 ^ 62 * w
            → y1 ≤ y + y6 + 2 ^ 62 * w → v ≤ x1 + y1 → v ≤ x + y + z + 2 ^ 63 * w
        sums x x9 x1 y y6 y1 z w v k1 k2 k3 k4 = omega arith

        last : (L M : ℕ) → L ≡ M → 2 ^ 63 * (s * (h * h * h)) ≤ M + 2 ^ 63 * (h * h * h)
            → 2 ^ 28 * (4294967295 + s) * (h * h) * (2 ^ 35 * h * 1) ≤ 2 ^ 60 * (h * h)
            * (2 ^ 35 * h * 1) + L
        last L M e z = omega arith

    exp-ge : ExpGe (r * 46516319) (2 ^ 35 * h) (4294967295 + s) (2 ^ 32)
    exp-ge =
        let p = r * 46516319 in
        let f = 2 ^ 60 * (h * h) in
        let q = 2 ^ 35 * h in
        let g1 = f + 780414331387904 * (r * h) + 352175770395 * (r * r) in
        let g2 = f + 520276220925269 * (r * h) in
        let g0 = 2 ^ 28 * (4294967295 + s) * (h * h) in
        ge_weaken p q g0 f (4294967295 + s) (2 ^ 32) f_pos (omega arith)
        (ge-tail p q g0 f (tail-ge 0 p q f g1 g0 ge_0
        (tail-ge 1 p q f g2 g1 ge_1 (tail-ge 2 p q f f g2 ge_2 (tail_ge_one 3 p q f)))))

-- ---- the cuts of small
small_low : (r : ℕ) → 1524242578432 * (r * 2 ^ 30) + 1034558604 * (r * r) ≤ (exp2m1
    r + 1) * 2 ^ 18 * (2 ^ 30 * 2 ^ 30)
unfolding exp2m1
small_low r = go (r * 1034558604 / 2 ^ 40) (omega arith)
  where
    go : (k : ℕ) → r * 1034558604 ≤ k * 2 ^ 40 + 2 ^ 40
        → 1524242578432 * (r * 2 ^ 30) + 1034558604 * (r * r) ≤ (r * (1488518144 + k) / 2 ^ 38 + 1) * 2 ^ 18
        * (2 ^ 30 * 2 ^ 30)
    go k l = omega (arith, mul-le-mul_left r l)

small-high : (r : ℕ) → exp2m1 r * 2 ^ 18 * (2 ^ 30 * 2 ^ 30) ≤ 1524242579456 * (r * 2 ^ 30) + 1034558604
    * (r * r)
unfolding exp2m1
small-high r = go (r * 1034558604 / 2 ^ 40) (omega arith)
  where
    go : (k : ℕ) → k * 2 ^ 40 ≤ r * 1034558604
        → r * (1488518144 + k) / 2 ^ 38 * 2 ^ 18 * (2 ^ 30 * 2 ^ 30) ≤ 1524242579456 * (r * 2 ^ 30)
        + 1034558604 * (r * r)
    go k l = omega (arith, mul-le-mul_left r l)

pub small-le : (r : ℕ) → r < 2 ^ 32 → TwoLe r (2 ^ 39) (2 ^ 32 + exp2m1 r + 10) (2 ^ 32)
small-le r h =
    two_le_exp 46516320 (2 ^ 26) r (2 ^ 39) (2 ^ 32 + exp2m1 r + 10) (2 ^ 32) (lit< tt) (lit< tt) coarse-ge
    (exp-le r (2 ^ 30) (exp2m1 r) (omega arith) (lit< tt) (small_low r))

pub small-ge : (r : ℕ) → r < 2 ^ 32 → TwoGe r (2 ^ 39) (4294967295 + exp2m1 r) (2 ^ 32)
small-ge r h =
    two_ge_exp 46516319 (2 ^ 26) r (2 ^ 39) (4294967295 + exp2m1 r) (2 ^ 32) (lit< tt) (lit< tt) coarse-le
    (exp-ge r (2 ^ 30) (exp2m1 r) (omega arith) (lit< tt) (small-high r))

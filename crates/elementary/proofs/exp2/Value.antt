-- From bounds of a number by 2^(z / 2^39 - 2^16 - 126), at most 2^15 + 1 units of the exponent off, to the float with
-- the pattern exp2_bits z.
--   value_zero, value-sub, value-normal, value_inf   the cases of exp2_bits
--   not_under, is_under                              the number is at least 2^-127, or at most 3 / 2^128, by where z is
--   is_over, not-over                                it is at least 3 * 2^126, or at most 3 * 2^127
--   sub_near                                         the float is within two steps, next below 2^-126
--   normal_near                                      and from there on, or the number is at least 3 * 2^126
use Rattle.std.proofs.Common.{◌≡◌, ℕ, zero, suc, ◌+◌, ◌-◌, ◌*◌, ◌/◌, ◌%◌, ◌^◌, ◌<◌, ◌≤◌, false, ◌⊎◌, sym, refl, ◌∙◌, subst, inl, inr, le_trans, le_of_eq, mod-eq_of_lt, mul_comm, eq-or-lt_of_le, mul-le-mul_left, pow-suc, arith, lit<, lit≤, pow-add, le-ltb, lt-ltb}
use native.Mathlib.Nat.{mul-sub, div-eq_of_lt}
use lib.Ieee.{Float, binary32, of_bits}
use lib.Ieee.Exact.{HasValue}
use Rattle.series.specs.Exp.{Step, Within}
use Rattle.series.proofs.Cuts.{lt_or_ge}
use Rattle.series.proofs.Value.{value_pos, packed-units}
use Rattle.series.proofs.Two.{TwoLe, TwoGe, two_le_mono, two_ge_mono, two_le_weaken, two_ge_weaken, two_le_mul}
use Rattle.series.proofs.Two.{two_ge_mul, two_ge_quot, two_ge_one, two_le_up, two_ge_up, two_le_whole, two_ge_whole}
use Rattle.elementary.specs.Power.{exp2_of, exp2_bits}
use Rattle.elementary.proofs.exp2.Digits.{digits, digits_low, digits-high, digits-ge, digits_le, digits-one}
use Rattle.elementary.proofs.exp2.Digits.{lesser, lesser-low, lesser-high, lesser-ge, lesser-le, width}

-- ---- the cases of exp2_bits: 36028522141057024 is 2^55 - 2^38, 36028797018963968 is 2^55, 36168434995691520 is 2^55 +
-- 254 * 2^39
pub value_zero : (z : ℕ) → z < 2 ^ 55 - 2 ^ 38 → exp2_bits z ≡ 0
unfolding exp2_bits
value_zero z h = simp (lt-ltb z (2 ^ 55 - 2 ^ 38) h)

pub value-sub : (z : ℕ) → 2 ^ 55 - 2 ^ 38 ≤ z → z < 2 ^ 55
    → exp2_bits z ≡ (exp2_of (z % 2 ^ 39) + 2 ^ 40) / 2 ^ 41
unfolding exp2_bits
value-sub z h k = simp (le-ltb z (2 ^ 55 - 2 ^ 38) h, lt-ltb z (2 ^ 55) k)

pub value-normal : (z : ℕ) → 2 ^ 55 ≤ z → z < 2 ^ 55 + 254 * 2 ^ 39
    → exp2_bits z ≡ (z / 2 ^ 39 - 2 ^ 16) * 2 ^ 23 + (exp2_of (z % 2 ^ 39) + 2 ^ 39) / 2 ^ 40
unfolding exp2_bits
value-normal z h k =
    simp (le-ltb z (2 ^ 55 - 2 ^ 38) (le_trans (lit≤ tt) h), le-ltb z (2 ^ 55) h, lt-ltb z (2 ^ 55 + 254 * 2 ^ 39) k)

pub value_inf : (z : ℕ) → 2 ^ 55 + 254 * 2 ^ 39 ≤ z → exp2_bits z ≡ 0x7F800000
unfolding exp2_bits
value_inf z h =
    simp (
      le-ltb z (2 ^ 55 - 2 ^ 38) (le_trans (lit≤ tt) h),
      le-ltb z (2 ^ 55) (le_trans (lit≤ tt) h),
      le-ltb z
          (2 ^ 55 + 254 * 2 ^ 39) h,
    )

tiny-value : (b : ℕ) → b ≤ 2 ^ 23 → HasValue (of_bits binary32 b) false b (2 ^ 149)
tiny-value b h = go (eq-or-lt_of_le h)
  where
    one : (n : ℕ) → n * 1 ≡ n
    one n = omega arith

    go : (b ≡ 2 ^ 23) ⊎ (b < 2 ^ 23) → HasValue (of_bits binary32 b) false b (2 ^ 149)
    go (inl e) =
        subst (λ (n : ℕ). HasValue (of_bits binary32 n) false n (2 ^ 149)) (sym e) (value_pos (2 ^ 23) (lit< tt))
    go (inr l) =
        subst (λ (n : ℕ). HasValue (of_bits binary32 b) false n (2 ^ 149)) (one b)
        (rw (div-eq_of_lt l, mod-eq_of_lt l) at (value_pos b (omega arith)))

normal-value : (e m : ℕ) → 2 ^ 23 ≤ m → m ≤ 2 ^ 24 → e * 2 ^ 23 + m < 0x7F800000
    → HasValue (of_bits binary32 (e * 2 ^ 23 + m)) false (m * 2 ^ e) (2 ^ 149)
normal-value e m lo hi h =
    subst (λ (n : ℕ). HasValue (of_bits binary32 (e * 2 ^ 23 + m)) false n (2 ^ 149)) (packed-units e m lo hi)
    (value_pos (e * 2 ^ 23 + m) h)

-- 2^(3/4) ≥ 3/2, 2^(9/16) ≤ 3/2
three_quarters : TwoGe 412316860416 (2 ^ 39) 3 2
three_quarters = two_ge_up (2 ^ 37) 3 4 3 2 (unfold TwoGe in lit≤ tt)

nine_sixteenths : TwoLe 309237645312 (2 ^ 39) 3 2
nine_sixteenths = two_le_up (2 ^ 35) 9 16 3 2 (unfold TwoLe in lit≤ tt)

-- in units of 2^-149, with 2^127
units_ge : (p a b c : ℕ) → 0 < b → c * b ≤ a * 2 ^ 22 → TwoGe p (2 ^ 39) a b
    → TwoGe p (2 ^ 39) (2 ^ 127 * c) (2 ^ 149)
units_ge p a b c B h = two_ge_weaken p (2 ^ 39) a b (2 ^ 127 * c) (2 ^ 149) B (go (2 ^ 127))
  where
    go : (t : ℕ) → t * c * b ≤ a * (t * 2 ^ 22)
    go t = omega (arith, mul-le-mul_left t h)

units-le : (p a b c : ℕ) → 0 < b → a * 2 ^ 22 ≤ c * b → TwoLe p (2 ^ 39) a b
    → TwoLe p (2 ^ 39) (2 ^ 127 * c) (2 ^ 149)
units-le p a b c B h = two_le_weaken p (2 ^ 39) a b (2 ^ 127 * c) (2 ^ 149) B (go (2 ^ 127))
  where
    go : (t : ℕ) → a * (t * 2 ^ 22) ≤ t * c * b
    go t = omega (arith, mul-le-mul_left t h)

-- the width off
less : (v a b : ℕ) → 32769 ≤ v → TwoGe v (2 ^ 39) a b
    → TwoGe (v - 32769) (2 ^ 39) (a * 167772160) (b * 167772167)
less v a b h g =
    two_ge_quot (2 ^ 39) (v - 32769) 32769 a b 167772167 167772160
    (subst (λ (n : ℕ). TwoGe n (2 ^ 39) a b) whole g) width
  where
    whole : v ≡ v - 32769 + 32769
    whole = omega arith

more : (v a b : ℕ) → TwoLe v (2 ^ 39) a b → TwoLe (v + 32769) (2 ^ 39) (a * 167772167) (b * 167772160)
more v a b g = two_le_mul (2 ^ 39) v 32769 a b 167772167 167772160 g width

minus : (m k y : ℕ) → (m - k) * y ≡ m * y - k * y
minus m k y = mul_comm (m - k) y ∙ mul-sub y m k ∙ rest
  where
    rest : y * m - y * k ≡ m * y - k * y
    rest = omega arith

plus : (m k y : ℕ) → (m + k) * y ≡ m * y + k * y
plus m k y = omega arith

-- a number that is at least c / d where 2^127 c / d ≤ 2^((v - 32769) / 2^39), for any v from 32769 on with (2^16 - 1)
-- 2^39 + v ≤ z; and so from above
module _ (A B : ℕ → ℕ → Type 0) (z : ℕ)
    (low : (v c d : ℕ) → 32769 ≤ v → (2 ^ 16 - 1) * 2 ^ 39 + v ≤ z → TwoGe (v - 32769) (2 ^ 39) (2 ^ 127 * c) d → A c d)
    (high : (v c d : ℕ) → z ≤ (2 ^ 16 - 1) * 2 ^ 39 + v → TwoLe (v + 32769) (2 ^ 39) (2 ^ 127 * c) d → B c d) where
  -- ---- the ends
  pub not_under : 2 ^ 55 - 2 ^ 38 ≤ z → A 1 (2 ^ 127)
  not_under h =
      low (2 ^ 38) 1 (2 ^ 127) (lit≤ tt) (omega arith)
      (two_ge_mono 0 (2 ^ 38 - 32769) (2 ^ 39) (2 ^ 127 * 1) (2 ^ 127) (lit≤ tt)
      (two_ge_one (2 ^ 39) (2 ^ 127 * 1) (2 ^ 127) (lit≤ tt)))

  pub is_under : z < 2 ^ 55 - 2 ^ 38 → B 3 (2 ^ 128)
  is_under h = high (2 ^ 38) 3 (2 ^ 128) (omega arith)
      (two_le_weaken (2 ^ 38 + 32769) (2 ^ 39) 3 2 (2 ^ 127 * 3) (2 ^ 128) (lit< tt) (lit≤ tt)
      (two_le_mono (2 ^ 38 + 32769) 309237645312 (2 ^ 39) 3 2 (lit≤ tt) nine_sixteenths))

  pub is_over : 2 ^ 55 + 254 * 2 ^ 39 ≤ z → A (3 * 2 ^ 126) 1
  is_over h = low 140187732541440 (3 * 2 ^ 126) 1 (lit≤ tt) (omega arith)
      (two_ge_mono (2 ^ 39 * 254 + 412316860416) (140187732541440 - 32769) (2 ^ 39) (2 ^ 127 * (3 * 2 ^ 126))
      1 (lit≤ tt)
      (two_ge_weaken (2 ^ 39 * 254 + 412316860416) (2 ^ 39) (2 ^ 254 * 3) (1 * 2) (2 ^ 127 * (3 * 2 ^ 126)) 1
      (lit< tt) (lit≤ tt)
      (two_ge_mul (2 ^ 39) (2 ^ 39 * 254) 412316860416 (2 ^ 254) 1 3 2 (two_ge_whole 254 (2 ^ 39))
      three_quarters)))

  pub not-over : z < 2 ^ 55 + 254 * 2 ^ 39 → B (3 * 2 ^ 127) 1
  not-over h = high 140187732541440 (3 * 2 ^ 127) 1 (omega arith)
      (two_le_mono (140187732541440 + 32769) (2 ^ 39 * 255 + 309237645312) (2 ^ 39) (2 ^ 127 * (3 * 2 ^ 127))
      1 (lit≤ tt)
      (two_le_weaken (2 ^ 39 * 255 + 309237645312) (2 ^ 39) (2 ^ 255 * 3) (1 * 2) (2 ^ 127 * (3 * 2 ^ 127)) 1
      (lit< tt) (lit≤ tt)
      (two_le_mul (2 ^ 39) (2 ^ 39 * 255) 309237645312 (2 ^ 255) 1 3 2 (two_le_whole 255 (2 ^ 39))
      nine_sixteenths)))

  -- ---- next below 2^-126
  pub sub_near : 2 ^ 55 - 2 ^ 38 ≤ z → z < 2 ^ 55 → Within A B 2 (of_bits binary32 (exp2_bits z))
  sub_near h k =
      let f = z % 2 ^ 39 in
      let F : f < 2 ^ 39 = omega arith in
      let s = lesser f F in
      let S = lesser-high f F in
      let S' = lesser-low f F in
      rw (value-sub z h k)
      record {
        j = 0;
        step = inl refl;
        near = record {
          units = s;
          value = tiny-value s S;
          low =
              low f (s - 2) (2 ^ 149) (omega arith) (omega arith)
              (units_ge (f - 32769) ((16 * s - 9) * 167772160) (2 ^ 26 * 167772167) (s - 2) (lit< tt) (below s S S')
              (less f (16 * s - 9) (2 ^ 26) (omega arith) (lesser-ge f F)));
          high =
              high f (s + 2) (2 ^ 149) (omega arith)
              (units-le (f + 32769) ((16 * s + 9) * 167772167) (2 ^ 26 * 167772160) (s + 2) (lit< tt) (above s S)
              (more f (16 * s + 9) (2 ^ 26) (lesser-le f F)));
        };
      }
    where
      below : (s : ℕ) → s ≤ 2 ^ 23 → 2 ^ 22 ≤ s
          → (s - 2) * (2 ^ 26 * 167772167) ≤ (16 * s - 9) * 167772160 * 2 ^ 22
      below s S S' = omega arith

      above : (s : ℕ) → s ≤ 2 ^ 23 → (16 * s + 9) * 167772167 * 2 ^ 22 ≤ (s + 2) * (2 ^ 26 * 167772160)
      above s S = omega arith

  -- ---- from 2^-126 on: the number is near 2^(e + 1) 2^(f / 2^39) / 2^127, and the float is s 2^e units
  module _ (e f s : ℕ) (F : f < 2 ^ 39) (S : 2 ^ 23 ≤ s) (S' : s ≤ 2 ^ 24)
      (at : z ≡ (2 ^ 16 - 1) * 2 ^ 39 + (2 ^ 39 * suc e + f))
      (ge : TwoGe f (2 ^ 39) (8 * s - 5) (2 ^ 26)) (le : TwoLe f (2 ^ 39) (8 * s + 5) (2 ^ 26)) where
    v-ge : TwoGe (2 ^ 39 * suc e + f) (2 ^ 39) (2 ^ suc e * (8 * s - 5)) (1 * 2 ^ 26)
    v-ge =
        two_ge_mul (2 ^ 39) (2 ^ 39 * suc e) f (2 ^ suc e) 1 (8 * s - 5) (2 ^ 26)
        (two_ge_whole (suc e) (2 ^ 39)) ge

    v-le : TwoLe (2 ^ 39 * suc e + f) (2 ^ 39) (2 ^ suc e * (8 * s + 5)) (1 * 2 ^ 26)
    v-le =
        two_le_mul (2 ^ 39) (2 ^ 39 * suc e) f (2 ^ suc e) 1 (8 * s + 5) (2 ^ 26)
        (two_le_whole (suc e) (2 ^ 39)) le

    -- at least a power of two
    whole-low : (i : ℕ) → 2 ^ 39 * suc i + 32769 ≤ 2 ^ 39 * suc e + f → A (2 ^ (23 + i)) (2 ^ 149)
    whole-low i h = low (2 ^ 39 * suc e + f) (2 ^ (23 + i)) (2 ^ 149) (omega arith) (le_of_eq (sym at))
        (units_ge (2 ^ 39 * suc e + f - 32769) (2 ^ suc i) 1 (2 ^ (23 + i)) (lit< tt) (le_of_eq (same i))
        (two_ge_mono (2 ^ 39 * suc i) (2 ^ 39 * suc e + f - 32769) (2 ^ 39) (2 ^ suc i) 1 (omega arith)
        (two_ge_whole (suc i) (2 ^ 39))))
      where
        same : (i : ℕ) → 2 ^ (23 + i) * 1 ≡ 2 ^ suc i * 2 ^ 22
        same i = rw (pow-add 2 23 i, pow-suc 2 i) (omega arith)

    two-low : A ((s - 2) * 2 ^ e) (2 ^ 149)
    two-low = low (2 ^ 39 * suc e + f) ((s - 2) * 2 ^ e) (2 ^ 149) (omega arith) (le_of_eq (sym at))
        (units_ge (2 ^ 39 * suc e + f - 32769) (2 ^ suc e * (8 * s - 5) * 167772160) (1 * 2 ^ 26 * 167772167)
        ((s - 2) * 2 ^ e) (lit< tt)
        (rw (pow-suc 2 e) (go (2 ^ e) (s - 2) (8 * s - 5) (base s S S')))
        (less (2 ^ 39 * suc e + f) (2 ^ suc e * (8 * s - 5)) (1 * 2 ^ 26) (omega arith) v-ge))
      where
        base : (s : ℕ) → 2 ^ 23 ≤ s → s ≤ 2 ^ 24
            → (s - 2) * (2 ^ 26 * 167772167) ≤ 2 * (8 * s - 5) * 167772160 * 2 ^ 22
        base s S S' = omega arith

        go : (y a b : ℕ) → a * (2 ^ 26 * 167772167) ≤ 2 * b * 167772160 * 2 ^ 22
            → a * y * (1 * 2 ^ 26 * 167772167) ≤ y * 2 * b * 167772160 * 2 ^ 22
        go y a b h = omega (arith, mul-le-mul_left y h)

    two-high : B ((s + 2) * 2 ^ e) (2 ^ 149)
    two-high = high (2 ^ 39 * suc e + f) ((s + 2) * 2 ^ e) (2 ^ 149) (le_of_eq at)
        (units-le (2 ^ 39 * suc e + f + 32769) (2 ^ suc e * (8 * s + 5) * 167772167) (1 * 2 ^ 26 * 167772160)
        ((s + 2) * 2 ^ e) (lit< tt)
        (rw (pow-suc 2 e) (go (2 ^ e) (s + 2) (8 * s + 5) (base s S')))
        (more (2 ^ 39 * suc e + f) (2 ^ suc e * (8 * s + 5)) (1 * 2 ^ 26) v-le))
      where
        base : (s : ℕ) → s ≤ 2 ^ 24 → 2 * (8 * s + 5) * 167772167 * 2 ^ 22 ≤ (s + 2) * (2 ^ 26 * 167772160)
        base s S' = omega arith

        go : (y a b : ℕ) → 2 * b * 167772167 * 2 ^ 22 ≤ a * (2 ^ 26 * 167772160)
            → y * 2 * b * 167772167 * 2 ^ 22 ≤ a * y * (1 * 2 ^ 26 * 167772160)
        go y a b h = omega (arith, mul-le-mul_left y h)

    -- within two steps of 2^e units
    whole-step : (r : Float) → HasValue r false (s * 2 ^ e) (2 ^ 149) → Step A e → Within A B 2 r
    whole-step r h st = record {
      j = e;
      step = st;
      near = record {
        units = s * 2 ^ e;
        value = h;
        low = subst (λ (n : ℕ). A n (2 ^ 149)) (minus s 2 (2 ^ e)) two-low;
        high = subst (λ (n : ℕ). B n (2 ^ 149)) (plus s 2 (2 ^ e)) two-high;
      };
    }

    -- next above a power of two the number may lie below it: two steps of half the size
    module _ (i : ℕ) (ei : e ≡ suc i) (small : f < 32769) (one : s ≡ 2 ^ 23) where
      half-low : A (8388607 * 2 ^ e) (2 ^ 149)
      half-low = low (2 ^ 39 * suc e + f) (8388607 * 2 ^ e) (2 ^ 149) (omega arith) (le_of_eq (sym at))
          (units_ge (2 ^ 39 * suc e + f - 32769) (2 ^ suc e * 167772160) (1 * 167772167) (8388607 * 2 ^ e)
          (lit< tt)
          (rw (pow-suc 2 e) (go (2 ^ e)))
          (less (2 ^ 39 * suc e + f) (2 ^ suc e) 1 (omega arith)
          (two_ge_mono (2 ^ 39 * suc e) (2 ^ 39 * suc e + f) (2 ^ 39) (2 ^ suc e) 1 (omega arith)
          (two_ge_whole (suc e) (2 ^ 39)))))
        where
          go : (y : ℕ) → 8388607 * y * (1 * 167772167) ≤ y * 2 * 167772160 * 2 ^ 22
          go y = omega arith

      half_high : B (8388609 * 2 ^ e) (2 ^ 149)
      half_high = high (2 ^ 39 * suc e + f) (8388609 * 2 ^ e) (2 ^ 149) (le_of_eq at)
          (units-le (2 ^ 39 * suc e + f + 32769) (2 ^ suc e * 167772167 * 167772167) (1 * 167772160 * 167772160)
          (8388609 * 2 ^ e) (lit< tt)
          (rw (pow-suc 2 e) (go (2 ^ e)))
          (more (2 ^ 39 * suc e + f) (2 ^ suc e * 167772167) (1 * 167772160)
          (two_le_mono (2 ^ 39 * suc e + f) (2 ^ 39 * suc e + 32769) (2 ^ 39) (2 ^ suc e * 167772167)
          (1 * 167772160) (omega arith)
          (more (2 ^ 39 * suc e) (2 ^ suc e) 1 (two_le_whole (suc e) (2 ^ 39))))))
        where
          go : (y : ℕ) → y * 2 * 167772167 * 167772167 * 2 ^ 22 ≤ 8388609 * y * (1 * 167772160 * 167772160)
          go y = omega arith

      half_step : (r : Float) → HasValue r false (s * 2 ^ e) (2 ^ 149) → Within A B 2 r
      half_step r h = record {
        j = i;
        step = inr (whole-low i (omega arith));
        near = record {
          units = s * 2 ^ e;
          value = h;
          low = subst (λ (n : ℕ). A n (2 ^ 149)) down half-low;
          high = subst (λ (n : ℕ). B n (2 ^ 149)) up half_high;
        };
      }
        where
          down : 8388607 * 2 ^ e ≡ s * 2 ^ e - 2 * 2 ^ i
          down = rw (one, ei, pow-suc 2 i) (omega arith)

          up : 8388609 * 2 ^ e ≡ s * 2 ^ e + 2 * 2 ^ i
          up = rw (one, ei, pow-suc 2 i) (omega arith)

    normal-within : (r : Float) → HasValue r false (s * 2 ^ e) (2 ^ 149) → (f < 32769 → s ≡ 2 ^ 23) → Within A B 2 r
    normal-within r h one = go (lt_or_ge f 32769) e refl
      where
        go : (f < 32769) ⊎ (32769 ≤ f) → (k : ℕ) → e ≡ k → Within A B 2 r
        go (inr l) k ek = whole-step r h (inr (whole-low e (omega arith)))
        go (inl l) zero ek = whole-step r h (inl ek)
        go (inl l) (suc i) ek = half_step i ek l (one l) r h

  -- the pattern is that of a number, or x^y is above 3/2 * 2^127
  pub normal_near : 2 ^ 55 ≤ z → z < 2 ^ 55 + 254 * 2 ^ 39
      → Within A B 2 (of_bits binary32 (exp2_bits z)) ⊎ A (3 * 2 ^ 126) 1
  normal_near h k =
      let f = z % 2 ^ 39 in
      let F : f < 2 ^ 39 = omega arith in
      let e = z / 2 ^ 39 - 2 ^ 16 in
      let s = digits f F in
      let at : z ≡ (2 ^ 16 - 1) * 2 ^ 39 + (2 ^ 39 * suc e + f) = omega arith in
      go e f s F (digits_low f F) (digits-high f F) at (digits-ge f F) (digits_le f F) (digits-one f F) (omega arith)
      (value-normal z h k) (lt_or_ge (e * 2 ^ 23 + s) 0x7F800000)
    where
      go : (e f s : ℕ) → f < 2 ^ 39 → 2 ^ 23 ≤ s → s ≤ 2 ^ 24
          → z ≡ (2 ^ 16 - 1) * 2 ^ 39 + (2 ^ 39 * suc e + f)
          → TwoGe f (2 ^ 39) (8 * s - 5) (2 ^ 26) → TwoLe f (2 ^ 39) (8 * s + 5) (2 ^ 26)
          → (f < 32769 → s ≡ 2 ^ 23) → e < 254
          → exp2_bits z ≡ e * 2 ^ 23 + s → (e * 2 ^ 23 + s < 0x7F800000) ⊎ (0x7F800000 ≤ e * 2 ^ 23 + s)
          → Within A B 2 (of_bits binary32 (exp2_bits z)) ⊎ A (3 * 2 ^ 126) 1
      go e f s F S S' at ge le one E bits (inl l) =
          inl (rw bits (normal-within e f s F S S' at ge le (of_bits binary32 (e * 2 ^ 23 + s))
          (normal-value e s S S' l) one))
      go e f s F S S' at ge le one E bits (inr l) = inr (full e f s F S S' at ge le E l)
        where
          full : (e f s : ℕ) → f < 2 ^ 39 → 2 ^ 23 ≤ s → s ≤ 2 ^ 24
              → z ≡ (2 ^ 16 - 1) * 2 ^ 39 + (2 ^ 39 * suc e + f)
              → TwoGe f (2 ^ 39) (8 * s - 5) (2 ^ 26) → TwoLe f (2 ^ 39) (8 * s + 5) (2 ^ 26) → e < 254
              → 0x7F800000 ≤ e * 2 ^ 23 + s → A (3 * 2 ^ 126) 1
          full e f s F S S' at ge le E l =
              let ee : e ≡ 253 = omega arith in
              let es : s ≡ 2 ^ 24 = omega arith in
              low (2 ^ 39 * suc e + f) (3 * 2 ^ 126) 1 (omega arith) (le_of_eq (sym at))
              (two_ge_weaken (2 ^ 39 * suc e + f - 32769) (2 ^ 39) (2 ^ suc e * (8 * s - 5) * 167772160)
              (1 * 2 ^ 26 * 167772167) (2 ^ 127 * (3 * 2 ^ 126)) 1 (lit< tt)
              (rw (ee, es) (lit≤ tt))
              (less (2 ^ 39 * suc e + f) (2 ^ suc e * (8 * s - 5)) (1 * 2 ^ 26) (omega arith)
              (v-ge e f s F S S' at ge le)))

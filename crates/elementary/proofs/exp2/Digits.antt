-- The law of 2^(f / 2^39) for f below 2^39, and of its two roundings: to 24 digits within 5/8 of the last, to 23 within
-- 9/16.
--   fraction_high                     exp2_of f from above
--   digits, digits_low, digits-high   the 24 digits, and their range
--   digits-ge, digits_le              their bounds
--   lesser, lesser-low, lesser-high   the 23 digits, for the subnormals, and their range
--   lesser-ge, lesser-le              their bounds
--   width                             2^((2^15 + 1) / 2^39) from above: the error of the exponent
--   digits-one                        next above a power of two the digits are those of the power
use Rattle.std.proofs.Common.{◌≡◌, ℕ, ◌+◌, ◌-◌, ◌*◌, ◌/◌, ◌%◌, ◌^◌, ◌<◌, ◌≤◌, subst, mul-le-mul_right, mul-le-mul_left, arith, lit<, lit≤}
use Rattle.series.specs.Exp.{sum, scale, ln2}
use Rattle.series.proofs.Cuts.{le-by}
use Rattle.series.proofs.Two.{TwoLe, TwoGe, two_le_mono, two_le_weaken, two_ge_weaken, two_le_mul, two_ge_mul}
use Rattle.series.proofs.Two.{two_le_up, two_ge_up, two_le_whole, two_cut, two_le_exp, ln2-ge}
use Rattle.power_tables.specs.Tables.{power}
use Rattle.power_tables.proofs.Rules.{power_rule}
use Rattle.elementary.specs.Power.{exp2m1, exp2_of}
use Rattle.elementary.proofs.exp2.Curve.{small-le, small-ge}

small-lt : (r : ℕ) → r < 2 ^ 32 → exp2m1 r < 2 ^ 32
unfolding exp2m1
small-lt r h = go (1488518144 + r * 1034558604 / 2 ^ 40) (omega arith)
  where
    go : (k : ℕ) → k ≤ 2 ^ 31 → r * k / 2 ^ 38 < 2 ^ 32
    go k l = omega (arith, mul-le-mul_left r l)

module _ (f : ℕ) (F : f < 2 ^ 39) where
  fraction_ge : TwoGe f (2 ^ 39) (exp2_of f - 2 ^ 33) (2 ^ 63)
  unfolding exp2_of
  fraction_ge =
      let i = f / 2 ^ 32 in
      let r = f % 2 ^ 32 in
      let T = power_rule i (omega arith) in
      two_ge_weaken f (2 ^ 39) (power i * (4294967295 + exp2m1 r)) (2 ^ 31 * 2 ^ 32)
      (power i * (4294967297 + exp2m1 r) - 2 ^ 33) (2 ^ 63) (lit< tt)
      (last (power i) (exp2m1 r) T.high)
      (subst (λ (z : ℕ). TwoGe z (2 ^ 39) (power i * (4294967295 + exp2m1 r)) (2 ^ 31 * 2 ^ 32)) whole
      (two_ge_mul (2 ^ 39) (2 ^ 32 * i) r (power i) (2 ^ 31) (4294967295 + exp2m1 r) (2 ^ 32)
      (two_ge_up (2 ^ 32) i 128 (power i) (2 ^ 31) T.below) (small-ge r (omega arith))))
    where
      whole : 2 ^ 32 * (f / 2 ^ 32) + f % 2 ^ 32 ≡ f
      whole = omega arith

      last : (t s : ℕ) → t ≤ 4294967295 → (t * (4294967297 + s) - 2 ^ 33) * (2 ^ 31 * 2 ^ 32) ≤ t
          * (4294967295 + s) * 2 ^ 63
      last t s h = omega arith

  fraction_le : TwoLe f (2 ^ 39) (exp2_of f + 51539607552) (2 ^ 63)
  unfolding exp2_of
  fraction_le =
      let i = f / 2 ^ 32 in
      let r = f % 2 ^ 32 in
      let T = power_rule i (omega arith) in
      two_le_weaken f (2 ^ 39) ((power i + 1) * (2 ^ 32 + exp2m1 r + 10)) (2 ^ 31 * 2 ^ 32)
      (power i * (4294967297 + exp2m1 r) + 51539607552) (2 ^ 63) (lit< tt)
      (last (power i) (exp2m1 r) T.high (small-lt r (omega arith)))
      (subst (λ (z : ℕ). TwoLe z (2 ^ 39) ((power i + 1) * (2 ^ 32 + exp2m1 r + 10)) (2 ^ 31 * 2 ^ 32))
      whole
      (two_le_mul (2 ^ 39) (2 ^ 32 * i) r (power i + 1) (2 ^ 31) (2 ^ 32 + exp2m1 r + 10) (2 ^ 32)
      (two_le_up (2 ^ 32) i 128 (power i + 1) (2 ^ 31) T.above) (small-le r (omega arith))))
    where
      whole : 2 ^ 32 * (f / 2 ^ 32) + f % 2 ^ 32 ≡ f
      whole = omega arith

      last : (t s : ℕ) → t ≤ 4294967295 → s < 2 ^ 32
          → (t + 1) * (2 ^ 32 + s + 10) * 2 ^ 63 ≤ (t * (4294967297 + s) + 51539607552)
          * (2 ^ 31 * 2 ^ 32)
      last t s h l = omega arith

  fraction_low : 2 ^ 63 ≤ exp2_of f
  unfolding exp2_of
  fraction_low = go (power (f / 2 ^ 32)) (exp2m1 (f % 2 ^ 32)) (power_rule (f / 2 ^ 32) (omega arith)).low
    where
      go : (t s : ℕ) → 2 ^ 31 ≤ t → 2 ^ 63 ≤ t * (4294967297 + s)
      go t s h = omega (arith, mul-le-mul_right (4294967297 + s) h)

  pub fraction_high : exp2_of f ≤ 18446744082299486208
  fraction_high =
      go (exp2_of f) (two_cut f (2 ^ 39) (exp2_of f - 2 ^ 33) (2 ^ 63) 2 1 (lit< tt) fraction_ge
      (two_le_mono f (2 ^ 39) (2 ^ 39) 2 1 (omega arith) (two_le_whole 1 (2 ^ 39))))
    where
      go : (x : ℕ) → (x - 2 ^ 33) * 1 ≤ 2 * 2 ^ 63 → x ≤ 18446744082299486208
      go x h = omega arith

  -- ---- 24 digits
  abbrev pub digits : ℕ
  digits = (exp2_of f + 2 ^ 39) / 2 ^ 40

  pub digits_low : 2 ^ 23 ≤ digits
  digits_low = omega (arith, fraction_low)

  pub digits-high : digits ≤ 2 ^ 24
  digits-high = omega (arith, fraction_high)

  pub digits-ge : TwoGe f (2 ^ 39) (8 * digits - 5) (2 ^ 26)
  digits-ge =
      two_ge_weaken f (2 ^ 39) (exp2_of f - 2 ^ 33) (2 ^ 63) (8 * digits - 5) (2 ^ 26) (lit< tt)
      (last (exp2_of f) fraction_low) fraction_ge
    where
      last : (x : ℕ) → 2 ^ 63 ≤ x
          → (8 * ((x + 2 ^ 39) / 2 ^ 40) - 5) * 2 ^ 63 ≤ (x - 2 ^ 33) * 2 ^ 26
      last x l = omega arith

  pub digits_le : TwoLe f (2 ^ 39) (8 * digits + 5) (2 ^ 26)
  digits_le =
      two_le_weaken f (2 ^ 39) (exp2_of f + 51539607552) (2 ^ 63) (8 * digits + 5) (2 ^ 26) (lit< tt)
      (last (exp2_of f)) fraction_le
    where
      last : (x : ℕ) → (x + 51539607552) * 2 ^ 26 ≤ (8 * ((x + 2 ^ 39) / 2 ^ 40) + 5)
          * 2 ^ 63
      last x = omega arith

  -- ---- 23 digits, for the subnormals next to 2^-126
  abbrev pub lesser : ℕ
  lesser = (exp2_of f + 2 ^ 40) / 2 ^ 41

  pub lesser-low : 2 ^ 22 ≤ lesser
  lesser-low = omega (arith, fraction_low)

  pub lesser-high : lesser ≤ 2 ^ 23
  lesser-high = omega (arith, fraction_high)

  pub lesser-ge : TwoGe f (2 ^ 39) (16 * lesser - 9) (2 ^ 26)
  lesser-ge =
      two_ge_weaken f (2 ^ 39) (exp2_of f - 2 ^ 33) (2 ^ 63) (16 * lesser - 9) (2 ^ 26) (lit< tt)
      (last (exp2_of f) fraction_low) fraction_ge
    where
      last : (x : ℕ) → 2 ^ 63 ≤ x
          → (16 * ((x + 2 ^ 40) / 2 ^ 41) - 9) * 2 ^ 63 ≤ (x - 2 ^ 33) * 2 ^ 26
      last x l = omega arith

  pub lesser-le : TwoLe f (2 ^ 39) (16 * lesser + 9) (2 ^ 26)
  lesser-le =
      two_le_weaken f (2 ^ 39) (exp2_of f + 51539607552) (2 ^ 63) (16 * lesser + 9) (2 ^ 26) (lit< tt)
      (last (exp2_of f)) fraction_le
    where
      last : (x : ℕ) → (x + 51539607552) * 2 ^ 26 ≤ (16 * ((x + 2 ^ 40) / 2 ^ 41) + 9)
          * 2 ^ 63
      last x = omega arith

-- ---- the error of the exponent: 2^((2^15 + 1) / 2^39) ≤ 1 + 0.7 / 2^24
pub width : TwoLe 32769 (2 ^ 39) 167772167 167772160
width = two_le_exp (ln2 + 1) (2 ^ 48) 32769 (2 ^ 39) 167772167 167772160 (lit< tt) (lit< tt) ln2-ge
    (le-by (32769 * (ln2 + 1)) (2 ^ 39 * 2 ^ 48) 167772167 167772160 2 (lit< tt) (lit≤ tt)
    (unfold sum scale in lit≤ tt))

-- so next above a power of two the digits are those of the power
pub digits-one : (f : ℕ) (F : f < 2 ^ 39) → f < 32769 → digits f F ≡ 2 ^ 23
digits-one f F h =
    go (digits f F) (digits_low f F) (two_cut f (2 ^ 39) (8 * digits f F - 5) (2 ^ 26) 167772167 167772160 (lit< tt)
    (digits-ge f F) (two_le_mono f 32769 (2 ^ 39) 167772167 167772160 (omega arith) width))
  where
    go : (s : ℕ) → 2 ^ 23 ≤ s → (8 * s - 5) * 167772160 ≤ 167772167 * 2 ^ 26 → s ≡ 2 ^ 23
    go s l k = omega arith

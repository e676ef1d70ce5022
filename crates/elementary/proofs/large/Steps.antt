-- What the code for |y| above 128 asks.
--   zeros                    the leading zeros of a number from 1/4 to 4
--   fine_tight, product_le   the range of its logarithm, and of the product with y
--   fine-from                fine_log2 from the code's steps
--   plus, minus              a choice by the sign of y
--   large_from               large_bits from the code's steps
use Rattle.std.proofs.Common.{◌≡◌, ℕ, ◌+◌, ◌-◌, ◌*◌, ◌/◌, ◌%◌, ◌^◌, ◌<◌, ◌≤◌, cond, ltb, ◌⊎◌, sym, ap, ◌∙◌, inl, inr, le_trans, mul-le-mul, mul-le-mul_left, arith, lit≤, pow_mono, le-ltb, lt-ltb}
use lib.Count.{count_leading_zeros}
use Rattle.series.proofs.Cuts.{lt_or_ge}
use Rattle.elementary.specs.Power.{normalized, exp2_bits, fine_log2_at, fine_log2, squared, large_arg, large_bits}
use Rattle.elementary.proofs.large.Log.{Top, top, fine_is, w-lt}

-- the leading zeros of a number from 2^58 to 2^62
pub zeros : (x : ℕ) → 2 ^ 58 ≤ x → x < 2 ^ 62
    → (2 ≤ count_leading_zeros 64 x) × (count_leading_zeros 64 x ≤ 5)
zeros x lo hi =
    go (count_leading_zeros 64 x) (top x (omega arith) (omega arith)) (lt_or_ge (count_leading_zeros 64 x) 2)
    (lt_or_ge 5 (count_leading_zeros 64 x))
  where
    go : (z : ℕ) → Top x z → (z < 2) ⊎ (2 ≤ z) → (5 < z) ⊎ (z ≤ 5) → (2 ≤ z) × (z ≤ 5)
    go z t (inr a) (inr b) = (a, b)
    go z t (inl a) _ = absurd (no (2 ^ z) (pow_mono {i = z} {j = 1} (omega arith)) t.low)
      where
        no : (p : ℕ) → p ≤ 2 → 2 ^ 63 ≤ x * p → ⊥
        no p h k = omega (arith, mul-le-mul_left x h)
    go z t (inr a) (inl b) = absurd (no (2 ^ z) (pow_mono {i = 6} {j = z} b) t.high)
      where
        no : (p : ℕ) → 64 ≤ p → x * p < 2 ^ 64 → ⊥
        no p h k = omega (arith, mul-le-mul_left x h)

pub fine_tight : (x : ℕ) → 2 ^ 58 ≤ x → x < 2 ^ 62
    → (5394478923776 ≤ fine_log2 x) × (fine_log2 x ≤ 5531917877256)
fine_tight x lo hi =
    let X : 0 < x = omega arith in
    let h : x < 2 ^ 64 = omega arith in
    let z = zeros x lo hi in
    (omega (arith, fine_is x, z), omega (arith, fine_is x, z, w-lt x X h))

pub product_le : (c g : ℕ) → g ≤ 68719476744 → (c % 2 ^ 23 + 2 ^ 23) * g ≤ 1152921504741064704
product_le c g h = le_trans (mul-le-mul {n₂ = (2 ^ 24)} {m₂ = 68719476744} (omega arith) h) (lit≤ tt)

pub fine-from : (x y f : ℕ) → y ≡ x * 2 ^ count_leading_zeros 64 x
    → f ≡ fine_log2_at (y / 2 ^ 28 / 2 ^ 26 - 512) (y / 2 ^ 28 % 2 ^ 26)
    → (162 - count_leading_zeros 64 x) * 2 ^ 35 + (f + (y / 2 ^ 28 / 2 ^ 26 - 512) * 2 ^ 26) ≡ fine_log2 x
fine-from x y f e g =
    ap (λ (z : ℕ). (162 - count_leading_zeros 64 x) * 2 ^ 35 + (z + (y / 2 ^ 28 / 2 ^ 26 - 512) * 2 ^ 26)) g
    ∙ ap (λ (v : ℕ). (162 - count_leading_zeros 64 x) * 2 ^ 35 + (fine_log2_at (v / 2 ^ 28 / 2 ^ 26 - 512)
    (v / 2 ^ 28 % 2 ^ 26) + (v / 2 ^ 28 / 2 ^ 26 - 512) * 2 ^ 26)) e ∙ sym (fine_is x)

-- by the sign of y
pub plus : (c u v : ℕ) → c < 2 ^ 31 → cond (ltb c (2 ^ 31)) u v ≡ u
plus c u v h = simp (lt-ltb c (2 ^ 31) h)

pub minus : (c u v : ℕ) → 2 ^ 31 ≤ c → cond (ltb c (2 ^ 31)) u v ≡ v
minus c u v h = simp (le-ltb c (2 ^ 31) h)

pub large_from : (b c p x z : ℕ) → p ≡ normalized b → x ≡ squared p c → z ≡ large_arg x c → exp2_bits z ≡ large_bits b c
unfolding large_bits
large_from b c p x z ep ex ez = ap exp2_bits (ez ∙ ap (λ (v : ℕ). large_arg v c) (ex ∙ ap (λ (v : ℕ). squared v c) ep))

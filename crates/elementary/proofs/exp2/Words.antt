-- What the code of 2^z asks: that its words hold the numbers of the definition, and that nothing passes 64 bits.
--   small_fits, small-lt               the small power: its product, and its size
--   DigitsFit w z s, digits-fit        the digits from a word of the table and a small power, within 64 bits
--   Digits z d                         d is the digits, less the straight line
--   normal_is, sub_is                  the bit pattern from them, of a normal number and of a subnormal
--   sub-le, normal-le                  its size
--   quick_digits, quick_is, quick_le   the same with z counted from 2^55
--   exp2_le                            no pattern is a NaN's
use Rattle.std.proofs.Common.{◌≡◌, ℕ, ◌+◌, ◌-◌, ◌*◌, ◌/◌, ◌%◌, ◌^◌, ◌<◌, ◌≤◌, ◌⊎◌, sym, refl, ap, ◌∙◌, ap₂, inl, inr, le_trans, le_of_eq, mul-le-mul, mul-le-mul_left, arith, lit≤}
use Rattle.series.proofs.Cuts.{lt_or_ge}
use Rattle.power_tables.specs.Tables.{power, power_word}
use Rattle.power_tables.proofs.Rules.{power_rule}
use Rattle.elementary.specs.Power.{exp2m1, exp2_of, exp2_bits}
use Rattle.elementary.proofs.exp2.Digits.{fraction_high}
use Rattle.elementary.proofs.exp2.Value.{value_zero, value-sub, value-normal, value_inf}

-- ---- the small power
pub small_fits : (r : ℕ) → r < 2 ^ 32 → r * (1488518144 + r * 1034558604 / 2 ^ 40) < 2 ^ 63
small_fits r h = go (1488518144 + r * 1034558604 / 2 ^ 40) (omega arith)
  where
    go : (k : ℕ) → k ≤ 1492600000 → r * k < 2 ^ 63
    go k l = omega (arith, mul-le-mul_left r l)

pub small-lt : (r : ℕ) → r < 2 ^ 32 → exp2m1 r < 2 ^ 25
unfolding exp2m1
small-lt r h = omega (arith, small_fits r h)

-- ---- the digits of 2^(z / 2^39 % 1)
pub record DigitsFit (w z s : ℕ) : Type 0 where
  pub product : w % 2 ^ 32 * s ≤ 2 ^ 57
  pub sum : w + w % 2 ^ 32 * s ≤ 18446744073709551615
  pub is : w + w % 2 ^ 32 * s + z / 2 ^ 32 % 128 * 2 ^ 56 ≡ exp2_of (z % 2 ^ 39) + 2 ^ 39

word_is : (i : ℕ) → power_word i ≡ (power i + 128 - i * 2 ^ 24) * 2 ^ 32 + power i
unfolding power_word
word_is i = refl

fraction_is : (f : ℕ) → exp2_of f ≡ power (f / 2 ^ 32) * (4294967297 + exp2m1 (f % 2 ^ 32))
unfolding exp2_of
fraction_is f = refl

pub digits-fit : (w z s : ℕ) → w ≡ power_word (z / 2 ^ 32 % 128) → s ≡ exp2m1 (z % 2 ^ 32) → DigitsFit w z s
digits-fit w z s ew es =
    let i = z / 2 ^ 32 % 128 in
    let P = power_rule i (omega arith) in
    let ei : z % 2 ^ 39 / 2 ^ 32 ≡ i = omega arith in
    let er : z % 2 ^ 39 % 2 ^ 32 ≡ z % 2 ^ 32 = omega arith in
    go i (power i) (exp2m1 (z % 2 ^ 32)) (omega arith) (ew ∙ word_is i) es P.high P.over P.under
    (small-lt (z % 2 ^ 32) (omega arith)) refl
    (fraction_is (z % 2 ^ 39) ∙ ap₂ (λ (x y : ℕ). power x * (4294967297 + exp2m1 y)) ei er)
  where
    go : (i t k : ℕ) → i < 128 → w ≡ (t + 128 - i * 2 ^ 24) * 2 ^ 32 + t → s ≡ k → t ≤ 4294967295
        → i * 2 ^ 24 ≤ t → t ≤ 2 ^ 31 + i * 2 ^ 24 → k < 2 ^ 25
        → z / 2 ^ 32 % 128 ≡ i → exp2_of (z % 2 ^ 39) ≡ t * (4294967297 + k) → DigitsFit w z s
    go i t k I ew es h o u l ei d =
        let lower : w % 2 ^ 32 ≡ t = omega arith in
        let k1 : k ≤ 2 ^ 25 = omega arith in
        let p : t * k ≤ 4294967295 * 2 ^ 25 = mul-le-mul h k1 in
        record {
          product = rw (lower, es) (omega arith);
          sum = rw (lower, es) (omega arith);
          is = rw (lower, es, ei, d) (omega arith);
        }

-- ---- the bit patterns
abbrev pub Digits : ℕ → ℕ → Type 0
Digits z d = d + z / 2 ^ 32 % 128 * 2 ^ 56 ≡ exp2_of (z % 2 ^ 39) + 2 ^ 39

pub normal_is : (z d : ℕ) → Digits z d → 2 ^ 55 ≤ z → z < 2 ^ 55 + 254 * 2 ^ 39
    → (z / 2 ^ 32 - 2 ^ 23) * 2 ^ 16 + d / 2 ^ 40 ≡ exp2_bits z
normal_is z d e h k = go (exp2_of (z % 2 ^ 39)) e ∙ sym (value-normal z h k)
  where
    go : (x : ℕ) → d + z / 2 ^ 32 % 128 * 2 ^ 56 ≡ x + 2 ^ 39
        → (z / 2 ^ 32 - 2 ^ 23) * 2 ^ 16 + d / 2 ^ 40 ≡ (z / 2 ^ 39 - 2 ^ 16) * 2 ^ 23
        + (x + 2 ^ 39) / 2 ^ 40
    go x e = omega arith

pub sub_is : (z d : ℕ) → Digits z d → 2 ^ 55 - 2 ^ 38 ≤ z → z < 2 ^ 55
    → (d / 2 ^ 32 + z / 2 ^ 32 % 128 * 2 ^ 24 + 128) / 512 ≡ exp2_bits z
sub_is z d e h k = go (exp2_of (z % 2 ^ 39)) e ∙ sym (value-sub z h k)
  where
    go : (x : ℕ) → d + z / 2 ^ 32 % 128 * 2 ^ 56 ≡ x + 2 ^ 39
        → (d / 2 ^ 32 + z / 2 ^ 32 % 128 * 2 ^ 24 + 128) / 512 ≡ (x + 2 ^ 40) / 2 ^ 41
    go x e = omega arith

pub sub-le : (z d : ℕ) → Digits z d → (d / 2 ^ 32 + z / 2 ^ 32 % 128 * 2 ^ 24 + 128) / 512 ≤ 2 ^ 23
sub-le z d e = go (exp2_of (z % 2 ^ 39)) e (fraction_high (z % 2 ^ 39) (omega arith))
  where
    go : (x : ℕ) → d + z / 2 ^ 32 % 128 * 2 ^ 56 ≡ x + 2 ^ 39 → x ≤ 18446744082299486208
        → (d / 2 ^ 32 + z / 2 ^ 32 % 128 * 2 ^ 24 + 128) / 512 ≤ 2 ^ 23
    go x e h = omega arith

pub normal-le : (z d : ℕ) → Digits z d → z < 2 ^ 55 + 254 * 2 ^ 39
    → (z / 2 ^ 32 - 2 ^ 23) * 2 ^ 16 + d / 2 ^ 40 ≤ 0x7F800000
normal-le z d e k = go (exp2_of (z % 2 ^ 39)) e (fraction_high (z % 2 ^ 39) (omega arith))
  where
    go : (x : ℕ) → d + z / 2 ^ 32 % 128 * 2 ^ 56 ≡ x + 2 ^ 39 → x ≤ 18446744082299486208
        → (z / 2 ^ 32 - 2 ^ 23) * 2 ^ 16 + d / 2 ^ 40 ≤ 0x7F800000
    go x e h = omega arith

-- the same with z counted from 2^55
pub quick_digits : (z d : ℕ) → Digits z d → Digits (z + 2 ^ 55) d
quick_digits z d e =
    let i : (z + 2 ^ 55) / 2 ^ 32 % 128 ≡ z / 2 ^ 32 % 128 = omega arith in
    let f : (z + 2 ^ 55) % 2 ^ 39 ≡ z % 2 ^ 39 = omega arith in
    rw (i, f) e

pub quick_is : (z d : ℕ) → Digits z d → z < 139637976727552
    → z / 2 ^ 32 * 2 ^ 16 + d / 2 ^ 40 ≡ exp2_bits (z + 2 ^ 55)
quick_is z d e h =
    let q : z / 2 ^ 32 ≡ (z + 2 ^ 55) / 2 ^ 32 - 2 ^ 23 = omega arith in
    ap (λ (x : ℕ). x * 2 ^ 16 + d / 2 ^ 40) q
    ∙ normal_is (z + 2 ^ 55) d (quick_digits z d e) (omega arith) (omega arith)

pub quick_le : (z d : ℕ) → Digits z d → z < 139637976727552 → z / 2 ^ 32 * 2 ^ 16 + d / 2 ^ 40 ≤ 0x7F800000
quick_le z d e h =
    let q : z / 2 ^ 32 ≡ (z + 2 ^ 55) / 2 ^ 32 - 2 ^ 23 = omega arith in
    rw q (normal-le (z + 2 ^ 55) d (quick_digits z d e) (omega arith))

-- no pattern is a NaN's
pub exp2_le : (z : ℕ) → exp2_bits z ≤ 0x7F800000
exp2_le z = go (lt_or_ge z (2 ^ 55 - 2 ^ 38)) (lt_or_ge z (2 ^ 55)) (lt_or_ge z (2 ^ 55 + 254 * 2 ^ 39))
  where
    top : exp2_of (z % 2 ^ 39) ≤ 18446744082299486208
    top = fraction_high (z % 2 ^ 39) (omega arith)

    go : (z < 2 ^ 55 - 2 ^ 38) ⊎ (2 ^ 55 - 2 ^ 38 ≤ z) → (z < 2 ^ 55) ⊎ (2 ^ 55 ≤ z)
        → (z < 2 ^ 55 + 254 * 2 ^ 39) ⊎ (2 ^ 55 + 254 * 2 ^ 39 ≤ z)
        → exp2_bits z ≤ 0x7F800000
    go (inl i) _ _ = le_trans (le_of_eq (value_zero z i)) (lit≤ tt)
    go (inr i) (inl j) _ = le_trans (le_of_eq (value-sub z i j)) (omega (arith, top))
    go (inr i) (inr j) (inl m) = le_trans (le_of_eq (value-normal z j m)) (omega (arith, top))
    go (inr i) (inr j) (inr m) = le_of_eq (value_inf z m)

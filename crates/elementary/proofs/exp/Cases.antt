-- The cases of exp's definitions, and the ranges of their values.
--   packed_zero, packed_some, packed-suc   packed at e = 0, at any other e, and at i + 1
--   packed-le                              its pattern is at most the infinity's
--   abs-one, abs-mid                       exp_abs below 2^-25, and from there below the limit
--   limit-ge, limit-le                     the limit, from both sides
--   abs-end                                exp_abs from the limit on
--   bits_is, bits_pos, bits-neg            exp_bits as exp_abs, with a clear sign, and with the sign set
--   fixed-le, fixed_pos, fixed-neg         fixed from above: by a pattern, and below the limits
--   fixed-low                              and from below
use Rattle.std.proofs.Common.{◌≡◌, ℕ, zero, suc, ◌+◌, ◌-◌, ◌*◌, ◌/◌, ◌%◌, ◌^◌, ◌<◌, ◌≤◌, Bool, true, false, cond, ltb, refl, ap, ◌∙◌, inl, inr, le_trans, le_of_eq, mul-le-mul_right, mul-le-mul, eq-or-lt_of_le, arith, lit<, lit≤, pow_pos, pow_mono, le-ltb, lt-ltb, eq-eqb, ne_eqb}
use Rattle.series.specs.Exp.{ln2}
use Rattle.elementary.specs.Exp.{mant, fixed, packed, shifted, limit, exp_abs, exp_bits}
use Rattle.elementary.proofs.exp.Reduce.{mant-high}

-- ---- packed
pub packed_zero : (e r : ℕ) → e ≡ 0 → packed e r ≡ (mant r + 256) / 512
unfolding packed
packed_zero e r h = simp (eq-eqb e 0 h)

pub packed_some : (e r : ℕ) → (e ≡ 0 → ⊥) → packed e r ≡ (e - 1) * 2 ^ 23 + (mant r + 128) / 256
unfolding packed
packed_some e r h = simp (ne_eqb e 0 h)

pub packed-suc : (i r : ℕ) → packed (suc i) r ≡ i * 2 ^ 23 + (mant r + 128) / 256
packed-suc i r =
    let e : suc i - 1 ≡ i = omega arith in
    packed_some (suc i) r no ∙ ap (λ (z : ℕ). z * 2 ^ 23 + (mant r + 128) / 256) e
  where
    no : suc i ≡ 0 → ⊥
    no e = omega arith

pub packed-le : (e r : ℕ) → e < 255 → r < ln2 + 1 → packed e r ≤ 0x7F800000
packed-le zero r E R = rw (packed_zero 0 r refl) (omega (arith, mant-high r R))
packed-le (suc i) r E R = rw (packed-suc i r) (omega (arith, mant-high r R))

-- ---- exp_abs and exp_bits
pub abs-one : (s : Bool) (a : ℕ) → a < 855638016 → exp_abs s a ≡ 0x3F800000
unfolding exp_abs
abs-one s a h = simp (lt-ltb a 855638016 h)

pub abs-mid : (s : Bool) (a : ℕ) → 855638016 ≤ a → a < limit s → exp_abs s a ≡ packed (shifted s (fixed a) / (ln2 + 1))
    (shifted s (fixed a) % (ln2 + 1))
unfolding exp_abs
abs-mid s a h l = simp (le-ltb a 855638016 h, lt-ltb a (limit s) l)

pub limit-ge : (s : Bool) → 1118743632 ≤ limit s
unfolding limit
limit-ge true = lit≤ tt
limit-ge false = lit≤ tt

pub limit-le : (s : Bool) → limit s ≤ 1118925336
unfolding limit
limit-le true = lit≤ tt
limit-le false = lit≤ tt

pub abs-end : (s : Bool) (a : ℕ) → limit s ≤ a → exp_abs s a ≡ cond s 0x7F800000 0
unfolding exp_abs
abs-end s a h =
    let k : 855638016 ≤ a = omega (arith, limit-ge s) in
    simp (le-ltb a 855638016 k, le-ltb a (limit s) h)

pub bits_is : (b : ℕ) → exp_bits b ≡ exp_abs (ltb b (2 ^ 31)) (b % 2 ^ 31)
unfolding exp_bits
bits_is b = refl

pub bits_pos : (b : ℕ) → b < 2 ^ 31 → exp_bits b ≡ exp_abs true b
bits_pos b h =
    let e : b % 2 ^ 31 ≡ b = omega arith in
    bits_is b ∙ rw (lt-ltb b (2 ^ 31) h, e)

pub bits-neg : (b : ℕ) → 2 ^ 31 ≤ b → b < 2 ^ 32 → exp_bits b ≡ exp_abs false (b - 2 ^ 31)
bits-neg b h l =
    let e : b % 2 ^ 31 ≡ b - 2 ^ 31 = omega arith in
    bits_is b ∙ rw (le-ltb b (2 ^ 31) h, e)

-- below a pattern c of the last binade
pub fixed-le : (a c : ℕ) → 1115684864 ≤ c → c < 0x43000000 → a ≤ c → fixed a ≤ (c - 1107296256) * 2 ^ 31
unfolding fixed
fixed-le a c h k l =
    let f : a / 2 ^ 23 ≤ 133 = omega arith in
    elim (eq-or-lt_of_le f) [
      | inl e ↦ rw e (mul-le-mul_right (2 ^ 31) (top e))
      | inr g ↦ le_trans (mul-le-mul (digits a) (pow_mono {j = 30} (down g))) (wide c h)
    ]
  where
    top : a / 2 ^ 23 ≡ 133 → a % 2 ^ 23 + 2 ^ 23 ≤ c - 1107296256
    top e = omega arith

    digits : (n : ℕ) → n % 2 ^ 23 + 2 ^ 23 ≤ 2 ^ 24
    digits n = omega arith

    down : a / 2 ^ 23 < 133 → a / 2 ^ 23 - 102 ≤ 30
    down g = omega arith

    wide : (n : ℕ) → 1115684864 ≤ n → 2 ^ 24 * 2 ^ 30 ≤ (n - 1107296256) * 2 ^ 31
    wide n p = omega arith

-- x below 128 ln 2, and -x at most 126 ln 2
pub fixed_pos : (a : ℕ) → a < 1118925336 → fixed a < 24973259072661376
fixed_pos a h = omega (arith, fixed-le a 1118925335 (lit≤ tt) (lit< tt) (omega arith))

pub fixed-neg : (a : ℕ) → a < 1118743632 → fixed a ≤ 24583051000000000
fixed-neg a h = omega (arith, fixed-le a 1118743631 (lit≤ tt) (lit< tt) (omega arith))

pub fixed-low : (a : ℕ) → 2 ^ 23 ≤ fixed a
unfolding fixed
fixed-low a = go (2 ^ (a / 2 ^ 23 - 102)) (pow_pos (a / 2 ^ 23 - 102))
  where
    go : (z : ℕ) → 0 < z → 2 ^ 23 ≤ (a % 2 ^ 23 + 2 ^ 23) * z
    go z h = le_trans (mul-le-mul {n₁ = (2 ^ 23)} {m₁ = 1} {n₂ = a % 2 ^ 23 + (2 ^ 23)} (omega arith) h) (le_of_eq refl)

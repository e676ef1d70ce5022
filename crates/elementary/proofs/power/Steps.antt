-- What the code of powf asks: the normalized pattern, the product with y, and the quick arm, which counts from 1.
--   product_le                   the product with y fits a word
--   product_near, product-none   product by a shift, and where it is 0
--   product_small                its size
--   quick_size                   the sizes in the quick arm
--   arg_quick, arg_other         the exponent of 2 is as defined, in the quick arm and elsewhere
--   log_most                     log2 x counted from 1
--   near_is                      near_bits
--   pow_near, pow_quick          from the code's steps
--   near_to_zero, near_one       x^0 and 1^y
use Rattle.std.proofs.Common.{◌≡◌, ℕ, ◌+◌, ◌-◌, ◌*◌, ◌/◌, ◌%◌, ◌^◌, ◌<◌, ◌≤◌, Bool, true, false, cond, not, ltb, sym, refl, ap, ◌∙◌, ap₂, le_trans, le_of_eq, lt_of_le_of_lt, mul-le-mul, mul-le-mul_left, mul-zero, zero-mul, div-mul-le_self, mul-div_cancel, arith, lit<, lit≤, pow_pos, pow_mono, pow-add, le-ltb}
use native.Mathlib.Nat.{div-div-eq-div-mul, div-eq_of_lt, zero-div}
use lib.Ieee.{unlike}
use Rattle.elementary.specs.Power.{normalized, log2_at, log2_of, abs_diff, signed_arg, product, arg_of, exp2_of}
use Rattle.elementary.specs.Power.{exp2_bits, near_bits}
use Rattle.elementary.proofs.power.Parts.{normalized-normal, is, w_le, parts, log_range}
use Rattle.elementary.proofs.power.Order.{diff_le}
use Rattle.elementary.proofs.power.Arg.{product_is}

-- ---- the product with y
pub product_le : (g a : ℕ) → g ≤ 639950127104 → (a % 2 ^ 23 + 2 ^ 23) * g ≤ 10736581511066451345
product_le g a h = le_trans (mul-le-mul {n₂ = 16777215} {m₂ = 639950127104} (omega arith) h) (lit≤ tt)

pub product_near : (g a : ℕ) → a / 2 ^ 23 ≤ 143 → (a % 2 ^ 23 + 2 ^ 23) * g / 2 ^ (143 - a / 2 ^ 23) ≡ product g a
product_near g a h = go ((a % 2 ^ 23 + 2 ^ 23) * g) (a / 2 ^ 23) h ∙ sym (product_is g a)
  where
    go : (X f : ℕ) → f ≤ 143 → X / 2 ^ (143 - f) ≡ X * 2 ^ f / 2 ^ 143
    go X f l =
        let e : f + (143 - f) ≡ 143 = omega arith in
        ap (λ (z : ℕ). z / 2 ^ (143 - f)) (sym (mul-div_cancel X (pow_pos f)))
        ∙ div-div-eq-div-mul (X * 2 ^ f) (2 ^ f) (2 ^ (143 - f))
        ∙ ap (λ (z : ℕ). X * 2 ^ f / z) (sym (pow-add 2 f (143 - f)) ∙ ap (λ (i : ℕ). 2 ^ i) e)

pub product-none : (g a : ℕ) → g ≤ 639950127104 → a < 671088640 → 0 ≡ product g a
product-none g a h k =
    sym (product_is g a ∙ div-eq_of_lt (lt_of_le_of_lt
    (mul-le-mul {n₂ = 10736581511066451345} {m₂ = 2 ^ 79} (product_le g a h)
    (pow_mono {i = a / (2 ^ 23)} {j = 79} (omega arith))) (lit< tt)))

pub product_small : (g a : ℕ) → g ≤ 639950127104 → a ≤ 0x43000000 → product g a ≤ (2 ^ 16 + 126) * 2 ^ 39
product_small g a h k =
    le_trans (le_of_eq (sym (product_near g a (omega arith))))
    (go ((a % 2 ^ 23 + 2 ^ 23) * g) (143 - a / 2 ^ 23) (omega arith) (product_le g a h))
  where
    go : (X s : ℕ) → 9 ≤ s → X ≤ 10736581511066451345 → X / 2 ^ s ≤ (2 ^ 16 + 126) * 2 ^ 39
    go X s l m = last (X / 2 ^ s) (2 ^ s) (pow_mono {i = 9} {j = s} l) (le_trans (div-mul-le_self X (2 ^ s)) m)
      where
        last : (q p : ℕ) → 512 ≤ p → q * p ≤ 10736581511066451345 → q ≤ (2 ^ 16 + 126) * 2 ^ 39
        last q p l m = omega (arith, mul-le-mul_left q l)

-- ---- the usual arm
pub quick_size : (m l s : ℕ) → l ≤ 2 ^ 37 → m < 2 ^ 24 → 16 ≤ s
    → (m * l ≤ 2305843009213693952) × (m * l / 2 ^ s ≤ 69269232549888)
quick_size m l s L M S =
    let m1 : m ≤ 2 ^ 24 = omega arith in
    let p : m * l ≤ 2305843009213693952 = mul-le-mul m1 L in
    (p, last (m * l / 2 ^ s) (2 ^ s) (pow_mono {i = 16} {j = s} S) (le_trans (div-mul-le_self (m * l) (2 ^ s)) p))
  where
    last : (q p : ℕ) → 2 ^ 16 ≤ p → q * p ≤ 2305843009213693952 → q ≤ 69269232549888
    last q p l m = omega (arith, mul-le-mul_left q l)

quick_signed : (l c u r : ℕ) → 2 ^ 31 ≤ c → r + u ≡ 69269232549888
    → r + 2 ^ 55 ≡ signed_arg (159 * 2 ^ 32) (l + 159 * 2 ^ 32) c u
unfolding signed_arg
quick_signed l c u r h e =
    rw (le-ltb (l + 159 * 2 ^ 32) (159 * 2 ^ 32) (omega arith), le-ltb c (2 ^ 31) h) (omega arith)

quick_diff : (l : ℕ) → abs_diff (l + 159 * 2 ^ 32) (159 * 2 ^ 32) ≡ l
unfolding abs_diff
quick_diff l = rw (le-ltb (l + 159 * 2 ^ 32) (159 * 2 ^ 32) (omega arith)) (omega arith)

arg_is : (l c : ℕ) → arg_of l c ≡ signed_arg (159 * 2 ^ 32) l c (product (abs_diff l (159 * 2 ^ 32)) (c % 2 ^ 31))
unfolding arg_of
arg_is l c = refl

pub arg_quick : (l c r : ℕ) → 2952790016 ≤ c → c < 3221225472
    → r + (c % 2 ^ 23 + 2 ^ 23) * l / 2 ^ (399 - c / 2 ^ 23) ≡ 69269232549888
    → r + 2 ^ 55 ≡ arg_of (l + 159 * 2 ^ 32) c
arg_quick l c r h k e =
    let a = c % 2 ^ 31 in
    let s : 399 - c / 2 ^ 23 ≡ 143 - a / 2 ^ 23 = omega arith in
    let d : c % 2 ^ 23 ≡ a % 2 ^ 23 = omega arith in
    let u : (c % 2 ^ 23 + 2 ^ 23) * l / 2 ^ (399 - c / 2 ^ 23) ≡ product l a =
    ap₂ (λ (x y : ℕ). (x + 2 ^ 23) * l / 2 ^ y) d s ∙ product_near l a (omega arith) in
    quick_signed l c (product l a) r (omega arith) (rw u at e)
    ∙ sym (arg_is (l + 159 * 2 ^ 32) c ∙ ap (λ (g : ℕ). signed_arg (159 * 2 ^ 32) (l + 159 * 2 ^ 32) c (product g a))
    (quick_diff l))

pub arg_other : (l c r g u : ℕ) → g ≡ abs_diff l (159 * 2 ^ 32) → u ≡ product g (c % 2 ^ 31)
    → r ≡ signed_arg (159 * 2 ^ 32) l c u → r ≡ arg_of l c
arg_other l c r g u eg eu er =
    er ∙ ap (signed_arg (159 * 2 ^ 32) l c) (eu ∙ ap (λ (z : ℕ). product z (c % 2 ^ 31)) eg) ∙ sym (arg_is l c)

-- log2 counted from 1 and from 2^-159
log-shift : (p : ℕ) → log2_of (p + 159 * 2 ^ 23) ≡ log2_of p + 159 * 2 ^ 32
unfolding log2_of
log-shift p =
    let i : (p + 159 * 2 ^ 23) / 2 ^ 14 % 512 ≡ p / 2 ^ 14 % 512 = omega arith in
    let t : (p + 159 * 2 ^ 23) % 2 ^ 14 ≡ p % 2 ^ 14 = omega arith in
    rw (i, t) (go (log2_at (p / 2 ^ 14 % 512) (p % 2 ^ 14)))
  where
    go : (x : ℕ) → (p + 159 * 2 ^ 23) / 2 ^ 14 * 2 ^ 23 + x ≡ p / 2 ^ 14 * 2 ^ 23 + x + 159 * 2 ^ 32
    go x = omega arith

quick_log : (b : ℕ) → 0x3F800000 ≤ b → log2_of (b - 0x3F800000) + 159 * 2 ^ 32 ≡ log2_of (normalized b)
quick_log b h =
    let e : b - 0x3F800000 + 159 * 2 ^ 23 ≡ b + 2 ^ 28 = omega arith in
    sym (log-shift (b - 0x3F800000)) ∙ ap log2_of (e ∙ sym (normalized-normal b (omega arith)))

pub log_most : (p : ℕ) → p < 2 ^ 28 → log2_of p ≤ 2 ^ 37
log_most p h = omega (arith, is p, w_le p)

pub near_is : (b c : ℕ) → near_bits b c ≡ exp2_bits (arg_of (log2_of (normalized b)) c)
unfolding near_bits
near_is b c = refl

pub pow_near : (b c l z : ℕ) → l ≡ log2_of (normalized b) → z ≡ arg_of l c → exp2_bits z ≡ near_bits b c
pow_near b c l z el ez = ap exp2_bits (ez ∙ ap (λ (x : ℕ). arg_of x c) el) ∙ sym (near_is b c)

pub pow_quick : (b c l z : ℕ) → 0x3F800000 ≤ b → l ≡ log2_of (b - 0x3F800000) → z + 2 ^ 55 ≡ arg_of (l + 159 * 2 ^ 32) c
    → exp2_bits (z + 2 ^ 55) ≡ near_bits b c
pow_quick b c l z h el ez =
    pow_near b c (l + 159 * 2 ^ 32) (z + 2 ^ 55) (ap (λ (x : ℕ). x + 159 * 2 ^ 32) el ∙ quick_log b h) ez

-- ---- x^±0 and 1^y
unsigned : (n l c : ℕ) → signed_arg n l c 0 ≡ (2 ^ 16 + 126) * 2 ^ 39
unfolding signed_arg
unsigned n l c = go (unlike (ltb l n) (not (ltb c (2 ^ 31))))
  where
    go : (b : Bool) → cond b ((2 ^ 16 + 126) * 2 ^ 39 - 0) ((2 ^ 16 + 126) * 2 ^ 39 + 0) ≡ (2 ^ 16 + 126) * 2 ^ 39
    go true = refl
    go false = refl

one_is : exp2_bits ((2 ^ 16 + 126) * 2 ^ 39) ≡ 0x3F800000
unfolding exp2_bits exp2_of
one_is = refl

pub near_to_zero : (b c : ℕ) → 0 < b → b < 0x7F800000 → c % 2 ^ 31 ≡ 0 → near_bits b c ≡ 0x3F800000
near_to_zero b c B h e =
    let l = log2_of (normalized b) in
    let r = log_range (normalized b) (parts b B h).least (parts b B h).most in
    let g : abs_diff l (159 * 2 ^ 32) ≤ 639950127104 = diff_le (159 * 2 ^ 32) l 639950127104 (omega (arith, r))
    (omega (arith, r)) in
    near_is b c
    ∙ ap exp2_bits (arg_is l c ∙ ap (signed_arg (159 * 2 ^ 32) l c)
    (sym (product-none (abs_diff l (159 * 2 ^ 32)) (c % 2 ^ 31) g (omega arith))) ∙ unsigned (159 * 2 ^ 32) l c)
    ∙ one_is

log-one : log2_of (normalized 0x3F800000) ≡ 159 * 2 ^ 32
unfolding log2_of log2_at normalized
log-one = refl

no_product : (a : ℕ) → product (abs_diff (159 * 2 ^ 32) (159 * 2 ^ 32)) a ≡ 0
unfolding abs_diff
no_product a =
    product_is 0 a ∙ ap (λ (n : ℕ). n * 2 ^ (a / 2 ^ 23) / 2 ^ 143) (mul-zero (a % 2 ^ 23 + 2 ^ 23))
    ∙ ap (λ (n : ℕ). n / 2 ^ 143) (zero-mul (2 ^ (a / 2 ^ 23))) ∙ zero-div (2 ^ 143)

pub near_one : (c : ℕ) → near_bits 0x3F800000 c ≡ 0x3F800000
near_one c =
    near_is 0x3F800000 c
    ∙ ap (λ (l : ℕ). exp2_bits (arg_of l c)) log-one
    ∙ ap exp2_bits (arg_is (159 * 2 ^ 32) c ∙ ap (signed_arg (159 * 2 ^ 32) (159 * 2 ^ 32) c) (no_product (c % 2 ^ 31))
    ∙ unsigned (159 * 2 ^ 32) (159 * 2 ^ 32) c)
    ∙ one_is

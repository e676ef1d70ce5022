-- The cases of powf's definition, and what the code's proofs ask of them.
--   odd_below, odd_mid, odd_above            is_odd below 1, up to 2^24, and from there
--   power_fits                               its power of two
--   zero_odd, zero_even                      zero_bits by whether y is odd
--   size_plus, size_minus, size-le           zero_size by the sign of y, and its range
--   inf_plus, inf_minus, inf_le              inf_bits by the sign of y, and its range
--   to_inf_low, to_inf_high                  to_inf_bits for x below 1, and from 1 up
--   num_zero, num_inf, num_to_inf, num-pow   num_bits: x is 0, x is +infinity, y is infinite, and else
--   at_zero, at_one, at-below, at-num        pow_at: y is 0, x is 1, x is below 0, x is from 0 up
--   at_regular                               and where both are finite and x is above 0
--   nan_not_one                              NaN is not 1
--   of_nan-y, of_nan_y_one                   y is NaN
--   of_nan-x, of_nan_x_zero                  x is NaN
--   of_numbers                               neither is
--   num-mod                                  no pattern is a NaN's
use Rattle.std.proofs.Common.{◌≡◌, ℕ, ◌+◌, ◌-◌, ◌*◌, ◌/◌, ◌%◌, ◌^◌, ◌<◌, ◌≤◌, Bool, true, false, cond, not, T, eqb, ltb, ◌⊎◌, sym, refl, ap, ◌∙◌, subst, inl, inr, add-zero, arith, lit≤, pow_mono, le-ltb, lt-ltb, eq-eqb, ne_eqb}
use lib.Ieee.{Float, nan, binary32, is_nan, of_bits, to_bits}
use lib.Ieee.Bits.{cond_no}
use Rattle.series.proofs.Cuts.{lt_or_ge}
use Rattle.elementary.specs.Power.{pow_bits}
use Rattle.elementary.specs.Pow.{is_odd, zero_size, zero_bits, inf_bits, to_inf_bits, num_bits, pow_at, pow_of}
use Rattle.elementary.proofs.power.Finite.{from_one, to_zero, bits-le}

pub odd_below : (a : ℕ) → a < 0x3F800000 → is_odd a ≡ false
unfolding is_odd
odd_below a h = simp (lt-ltb a 0x3F800000 h)

pub odd_mid : (a : ℕ) → 0x3F800000 ≤ a → a < 1266679808
    → is_odd a ≡ eqb ((a % 2 ^ 23 + 2 ^ 23) % (2 ^ (150 - a / 2 ^ 23) * 2)) (2 ^ (150 - a / 2 ^ 23))
unfolding is_odd
odd_mid a h k = simp (le-ltb a 0x3F800000 h, lt-ltb a 1266679808 k)

pub odd_above : (a : ℕ) → 1266679808 ≤ a → is_odd a ≡ false
unfolding is_odd
odd_above a h = let k : 0x3F800000 ≤ a = omega arith in simp (le-ltb a 0x3F800000 k, le-ltb a 1266679808 h)

-- a power below 2^24
pub power_fits : (a : ℕ) → 0x3F800000 ≤ a → 2 ^ (150 - a / 2 ^ 23) ≤ 2 ^ 23
power_fits a h = pow_mono {i = 150 - a / (2 ^ 23)} {j = 23} (omega arith)

pub zero_odd : (b c : ℕ) → is_odd (c % 2 ^ 31) ≡ true → zero_bits b c ≡ zero_size c + b
unfolding zero_bits
zero_odd b c h = ap (λ (t : Bool). zero_size c + cond t b 0) h

pub zero_even : (b c : ℕ) → is_odd (c % 2 ^ 31) ≡ false → zero_bits b c ≡ zero_size c
unfolding zero_bits
zero_even b c h = ap (λ (t : Bool). zero_size c + cond t b 0) h ∙ add-zero (zero_size c)

pub size_plus : (c : ℕ) → c < 2 ^ 31 → zero_size c ≡ 0
unfolding zero_size
size_plus c h = simp (lt-ltb c (2 ^ 31) h)

pub size_minus : (c : ℕ) → 2 ^ 31 ≤ c → zero_size c ≡ 0x7F800000
unfolding zero_size
size_minus c h = simp (le-ltb c (2 ^ 31) h)

pub size-le : (c : ℕ) → zero_size c ≤ 0x7F800000
unfolding zero_size
size-le c = go (ltb c (2 ^ 31))
  where
    go : (t : Bool) → cond t 0 0x7F800000 ≤ 0x7F800000
    go true = lit≤ tt
    go false = lit≤ tt

pub inf_plus : (c : ℕ) → c < 2 ^ 31 → inf_bits c ≡ 0x7F800000
unfolding inf_bits
inf_plus c h = simp (lt-ltb c (2 ^ 31) h)

pub inf_minus : (c : ℕ) → 2 ^ 31 ≤ c → inf_bits c ≡ 0
unfolding inf_bits
inf_minus c h = simp (le-ltb c (2 ^ 31) h)

pub inf_le : (c : ℕ) → inf_bits c ≤ 0x7F800000
unfolding inf_bits
inf_le c = go (ltb c (2 ^ 31))
  where
    go : (t : Bool) → cond t 0x7F800000 0 ≤ 0x7F800000
    go true = lit≤ tt
    go false = lit≤ tt

pub to_inf_low : (b c : ℕ) → b < 0x3F800000 → to_inf_bits b c ≡ zero_size c
unfolding to_inf_bits
to_inf_low b c h = simp (lt-ltb b 0x3F800000 h)

pub to_inf_high : (b c : ℕ) → 0x3F800000 ≤ b → to_inf_bits b c ≡ inf_bits c
unfolding to_inf_bits
to_inf_high b c h = simp (le-ltb b 0x3F800000 h)

pub num_zero : (b c : ℕ) → b % 2 ^ 31 ≡ 0 → num_bits b c ≡ zero_bits b c
unfolding num_bits
num_zero b c h = simp (eq-eqb (b % 2 ^ 31) 0 h)

pub num_inf : (b c : ℕ) → (b % 2 ^ 31 ≡ 0 → ⊥) → b ≡ 0x7F800000 → num_bits b c ≡ inf_bits c
unfolding num_bits
num_inf b c n h = simp (ne_eqb (b % 2 ^ 31) 0 n, eq-eqb b 0x7F800000 h)

pub num_to_inf : (b c : ℕ) → (b % 2 ^ 31 ≡ 0 → ⊥) → (b ≡ 0x7F800000 → ⊥) → c % 2 ^ 31 ≡ 0x7F800000
    → num_bits b c ≡ to_inf_bits b c
unfolding num_bits
num_to_inf b c n m h = simp (ne_eqb (b % 2 ^ 31) 0 n, ne_eqb b 0x7F800000 m, eq-eqb (c % 2 ^ 31) 0x7F800000 h)

pub num-pow : (b c : ℕ) → (b % 2 ^ 31 ≡ 0 → ⊥) → (b ≡ 0x7F800000 → ⊥) → (c % 2 ^ 31 ≡ 0x7F800000 → ⊥)
    → num_bits b c ≡ pow_bits b c
unfolding num_bits
num-pow b c n m h = simp (ne_eqb (b % 2 ^ 31) 0 n, ne_eqb b 0x7F800000 m, ne_eqb (c % 2 ^ 31) 0x7F800000 h)

pub at_zero : (b c : ℕ) → c % 2 ^ 31 ≡ 0 → pow_at b c ≡ of_bits binary32 0x3F800000
unfolding pow_at
at_zero b c h = simp (eq-eqb (c % 2 ^ 31) 0 h)

pub at_one : (b c : ℕ) → b ≡ 0x3F800000 → pow_at b c ≡ of_bits binary32 0x3F800000
unfolding pow_at
at_one b c h = go (eqb (c % 2 ^ 31) 0)
  where
    go : (t : Bool) → cond t (of_bits binary32 0x3F800000)
        (cond (eqb b 0x3F800000) (of_bits binary32 0x3F800000)
        (cond (ltb (2 ^ 31) b) nan (of_bits binary32 (num_bits b c)))) ≡ of_bits binary32 0x3F800000
    go true = refl
    go false = simp (eq-eqb b 0x3F800000 h)

pub at-below : (b c : ℕ) → (c % 2 ^ 31 ≡ 0 → ⊥) → (b ≡ 0x3F800000 → ⊥) → 2 ^ 31 < b → pow_at b c ≡ nan
unfolding pow_at
at-below b c n m h = simp (ne_eqb (c % 2 ^ 31) 0 n, ne_eqb b 0x3F800000 m, lt-ltb (2 ^ 31) b h)

pub at-num : (b c : ℕ) → (c % 2 ^ 31 ≡ 0 → ⊥) → (b ≡ 0x3F800000 → ⊥) → b ≤ 2 ^ 31
    → pow_at b c ≡ of_bits binary32 (num_bits b c)
unfolding pow_at
at-num b c n m h = simp (ne_eqb (c % 2 ^ 31) 0 n, ne_eqb b 0x3F800000 m, le-ltb (2 ^ 31) b h)

-- x finite and above 0, y finite
pub at_regular : (b c : ℕ) → 0 < b → b < 0x7F800000 → c % 2 ^ 31 < 0x7F800000
    → pow_at b c ≡ of_bits binary32 (pow_bits b c)
at_regular b c p h k = go (lt_or_ge 0 (c % 2 ^ 31)) (lt_or_ge b 0x3F800000) (lt_or_ge 0x3F800000 b)
  where
    no : c % 2 ^ 31 ≡ 0x7F800000 → ⊥
    no e = omega arith

    no_zero : b % 2 ^ 31 ≡ 0 → ⊥
    no_zero e = omega arith

    no_inf : b ≡ 0x7F800000 → ⊥
    no_inf e = omega arith

    less : {m n : ℕ} → m < n → m ≡ n → ⊥
    less l e = omega arith

    more : {m n : ℕ} → n < m → m ≡ n → ⊥
    more l e = omega arith

    rest : 0 < c % 2 ^ 31 → (b ≡ 0x3F800000 → ⊥) → pow_at b c ≡ of_bits binary32 (pow_bits b c)
    rest l n = at-num b c (more l) n (omega arith) ∙ ap (of_bits binary32) (num-pow b c no_zero no_inf no)

    go : (0 < c % 2 ^ 31) ⊎ (c % 2 ^ 31 ≤ 0) → (b < 0x3F800000) ⊎ (0x3F800000 ≤ b)
        → (0x3F800000 < b) ⊎ (b ≤ 0x3F800000) → pow_at b c ≡ of_bits binary32 (pow_bits b c)
    go (inr l) _ _ =
        let z : c % 2 ^ 31 ≡ 0 = omega arith in
        at_zero b c z ∙ ap (of_bits binary32) (sym (to_zero b c p h z))
    go (inl l) (inl i) _ = rest l (less i)
    go (inl l) (inr i) (inl j) = rest l (more j)
    go (inl l) (inr i) (inr j) =
        let e : b ≡ 0x3F800000 = omega arith in
        at_one b c e ∙ ap (of_bits binary32) (sym (from_one b c e))

-- ---- NaN
pub nan_not_one : (x : Float) → x ≡ nan → to_bits binary32 x ≡ 0x3F800000 → ⊥
nan_not_one x e h = no (sym (ap (to_bits binary32) e) ∙ h)
  where
    no : to_bits binary32 nan ≡ 0x3F800000 → ⊥
    no k = unfold to_bits in omega arith

pub of_nan-y : (x y : Float) → y ≡ nan → (to_bits binary32 x ≡ 0x3F800000 → ⊥) → pow_of x y ≡ nan
unfolding pow_of is_nan
of_nan-y x y e h = rw e (simp (ne_eqb (to_bits binary32 x) 0x3F800000 h))

pub of_nan_y_one : (x y : Float) → y ≡ nan → to_bits binary32 x ≡ 0x3F800000 → pow_of x y ≡ of_bits binary32 0x3F800000
unfolding pow_of is_nan
of_nan_y_one x y e h = rw e (simp (eq-eqb (to_bits binary32 x) 0x3F800000 h))

pub of_nan-x : (x y : Float) → T (not (is_nan y)) → x ≡ nan → (to_bits binary32 y % 2 ^ 31 ≡ 0 → ⊥) → pow_of x y ≡ nan
unfolding pow_of
of_nan-x x y k e h =
    cond_no (is_nan y) (cond (eqb (to_bits binary32 x) 0x3F800000) (of_bits binary32 0x3F800000) nan)
    (cond (is_nan x) (cond (eqb (to_bits binary32 y % 2 ^ 31) 0) (of_bits binary32 0x3F800000) nan)
    (pow_at (to_bits binary32 x) (to_bits binary32 y))) k
    ∙ go x e
  where
    go : (z : Float) → z ≡ nan → cond (is_nan z)
        (cond (eqb (to_bits binary32 y % 2 ^ 31) 0) (of_bits binary32 0x3F800000) nan)
        (pow_at (to_bits binary32 z) (to_bits binary32 y)) ≡ nan
    go z e = unfold is_nan in rw e (simp (ne_eqb (to_bits binary32 y % 2 ^ 31) 0 h))

pub of_nan_x_zero : (x y : Float) → T (not (is_nan y)) → x ≡ nan → to_bits binary32 y % 2 ^ 31 ≡ 0
    → pow_of x y ≡ of_bits binary32 0x3F800000
unfolding pow_of
of_nan_x_zero x y k e h =
    cond_no (is_nan y) (cond (eqb (to_bits binary32 x) 0x3F800000) (of_bits binary32 0x3F800000) nan)
    (cond (is_nan x) (cond (eqb (to_bits binary32 y % 2 ^ 31) 0) (of_bits binary32 0x3F800000) nan)
    (pow_at (to_bits binary32 x) (to_bits binary32 y))) k
    ∙ go x e
  where
    go : (z : Float) → z ≡ nan → cond (is_nan z)
        (cond (eqb (to_bits binary32 y % 2 ^ 31) 0) (of_bits binary32 0x3F800000) nan)
        (pow_at (to_bits binary32 z) (to_bits binary32 y)) ≡ of_bits binary32 0x3F800000
    go z e = unfold is_nan in rw e (simp (eq-eqb (to_bits binary32 y % 2 ^ 31) 0 h))

pub of_numbers : (x y : Float) → T (not (is_nan x)) → T (not (is_nan y))
    → pow_of x y ≡ pow_at (to_bits binary32 x) (to_bits binary32 y)
unfolding pow_of
of_numbers x y h k =
    cond_no (is_nan y) (cond (eqb (to_bits binary32 x) 0x3F800000) (of_bits binary32 0x3F800000) nan)
    (cond (is_nan x) (cond (eqb (to_bits binary32 y % 2 ^ 31) 0) (of_bits binary32 0x3F800000) nan)
    (pow_at (to_bits binary32 x) (to_bits binary32 y))) k
    ∙ cond_no (is_nan x) (cond (eqb (to_bits binary32 y % 2 ^ 31) 0) (of_bits binary32 0x3F800000) nan)
    (pow_at (to_bits binary32 x) (to_bits binary32 y)) h

-- no pattern is a NaN's
pub num-mod : (b c : ℕ) → b ≤ 2 ^ 31 → num_bits b c % 2 ^ 31 ≤ 0x7F800000
num-mod b c h =
    go (lt_or_ge 0 (b % 2 ^ 31)) (lt_or_ge b 0x7F800000) (lt_or_ge 0x7F800000 b)
    (lt_or_ge (c % 2 ^ 31) 0x7F800000) (lt_or_ge 0x7F800000 (c % 2 ^ 31))
  where
    below : (n : ℕ) → n ≤ 0x7F800000 → n % 2 ^ 31 ≤ 0x7F800000
    below n h = omega arith

    by : {n : ℕ} → num_bits b c ≡ n → n % 2 ^ 31 ≤ 0x7F800000 → num_bits b c % 2 ^ 31 ≤ 0x7F800000
    by e k = subst (λ (i : ℕ). i % 2 ^ 31 ≤ 0x7F800000) (sym e) k

    zero_mod : (t : Bool) → b % 2 ^ 31 ≡ 0 → is_odd (c % 2 ^ 31) ≡ t → zero_bits b c % 2 ^ 31 ≤ 0x7F800000
    zero_mod true z e = let k = size-le c in rw (zero_odd b c e) (omega arith)
    zero_mod false z e = rw (zero_even b c e) (below (zero_size c) (size-le c))

    to_inf_mod : (b < 0x3F800000) ⊎ (0x3F800000 ≤ b) → to_inf_bits b c % 2 ^ 31 ≤ 0x7F800000
    to_inf_mod (inl l) = rw (to_inf_low b c l) (below (zero_size c) (size-le c))
    to_inf_mod (inr l) = rw (to_inf_high b c l) (below (inf_bits c) (inf_le c))

    no_zero : 0 < b % 2 ^ 31 → b % 2 ^ 31 ≡ 0 → ⊥
    no_zero l e = omega arith

    less : {m n : ℕ} → m < n → m ≡ n → ⊥
    less l e = omega arith

    more : {m n : ℕ} → n < m → m ≡ n → ⊥
    more l e = omega arith

    rest : (0 < b % 2 ^ 31) → (b ≡ 0x7F800000 → ⊥) → (c % 2 ^ 31 < 0x7F800000) ⊎ (0x7F800000 ≤ c % 2 ^ 31)
        → (0x7F800000 < c % 2 ^ 31) ⊎ (c % 2 ^ 31 ≤ 0x7F800000)
        → num_bits b c % 2 ^ 31 ≤ 0x7F800000
    rest z n (inl i) _ = by (num-pow b c (no_zero z) n (less i)) (below (pow_bits b c) (bits-le b c))
    rest z n (inr i) (inl j) = by (num-pow b c (no_zero z) n (more j)) (below (pow_bits b c) (bits-le b c))
    rest z n (inr i) (inr j) = by (num_to_inf b c (no_zero z) n (omega arith)) (to_inf_mod (lt_or_ge b 0x3F800000))

    go : (0 < b % 2 ^ 31) ⊎ (b % 2 ^ 31 ≤ 0) → (b < 0x7F800000) ⊎ (0x7F800000 ≤ b)
        → (0x7F800000 < b) ⊎ (b ≤ 0x7F800000) → (c % 2 ^ 31 < 0x7F800000) ⊎ (0x7F800000 ≤ c % 2 ^ 31)
        → (0x7F800000 < c % 2 ^ 31) ⊎ (c % 2 ^ 31 ≤ 0x7F800000) → num_bits b c % 2 ^ 31 ≤ 0x7F800000
    go (inr z) _ _ _ _ =
        let e : b % 2 ^ 31 ≡ 0 = omega arith in
        by (num_zero b c e) (zero_mod (is_odd (c % 2 ^ 31)) e refl)
    go (inl z) (inl i) _ k l = rest z (less i) k l
    go (inl z) (inr i) (inl j) k l = rest z (more j) k l
    go (inl z) (inr i) (inr j) k l = by (num_inf b c (no_zero z) (omega arith)) (below (inf_bits c) (inf_le c))

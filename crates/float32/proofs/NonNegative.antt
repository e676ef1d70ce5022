-- Floats with a clear sign, +infinity too: sums and products of them are such floats again, and none is below 0.
--   non_negative x, number             the sign is clear; such a float is no NaN
--   round-clear, whole-clear          what is rounded with a clear sign; a whole number
--   add-clear, mul-clear, div-clear   a sum; a product with a finite number above 0, and a quotient by one
--   not_below_zero                    such a float is not below 0
--   max-clear, min-clear              a maximum with a finite number above 0; a minimum of two such floats
use Rattle.std.proofs.Common.{◌≡◌, ℕ, zero, suc, ◌+◌, ◌*◌, ◌^◌, ◌<◌, Bool, true, false, cond, not, T, eqb, ltb, ℤ, pos, sym, refl, ◌∙◌, subst, true≢false, mul-pos, zero-mul, arith, le-ltb, lt-ltb, ne_eqb}
use lib.Ieee.{Float, nan, inf, fin, Format, up, down, prec, emax, low, odd, units, round, sum, add, mul, div, of_int, lt}
use lib.Ieee.{is_nan}
use lib.Ieee.Fits.{down_pos, up_pos, round_is}
use Rattle.float32.specs.Float32.{max, min}

abbrev pub non_negative : Float → Bool
non_negative nan = false
non_negative (inf s) = not s
non_negative (fin s m e) = not s

pub number : (x : Float) → T (non_negative x) → is_nan x ≡ false
unfolding is_nan
number nan h = absurd h
number (inf s) h = refl
number (fin s m e) h = refl

-- ---- what is rounded with a clear sign
odd_clear : (d q k l : ℕ) → T (non_negative (odd d false q k l))
unfolding odd
odd_clear d zero k l = tt
odd_clear d (suc q) k l = tt

units-clear : (f : Format) (q k : ℕ) → T (non_negative (units f false q k))
unfolding units
units-clear f q k = go (ltb (q * 2 ^ k) (2 ^ (low f + suc (emax f))))
  where
    go : (b : Bool) → T (non_negative (cond b (odd (suc (prec f)) false q k (low f)) (inf false)))
    go true = odd_clear (suc (prec f)) q k (low f)
    go false = tt

pub round-clear : (f : Format) (num den : ℕ) → T (non_negative (round f false num den))
round-clear f num den = subst (λ (x : Float). T (non_negative x)) (sym (round_is f false num den)) (units-clear f _ _)

pub whole-clear : (f : Format) (n : ℕ) → T (non_negative (of_int f (pos n)))
unfolding of_int
whole-clear f n = round-clear f n 1

-- ---- operations
pub add-clear : (f : Format) (x y : Float) → T (non_negative x) → T (non_negative y) → T (non_negative (add f x y))
unfolding add sum
add-clear f nan y h k = absurd h
add-clear f (inf s) nan h k = absurd k
add-clear f (inf true) (inf t) h k = absurd h
add-clear f (inf false) (inf true) h k = absurd k
add-clear f (inf false) (inf false) h k = tt
add-clear f (inf s) (fin t n d) h k = h
add-clear f (fin s m e) nan h k = absurd k
add-clear f (fin s m e) (inf t) h k = k
add-clear f (fin true m e) (fin t n d) h k = absurd h
add-clear f (fin false m e) (fin true n d) h k = absurd k
add-clear f (fin false m e) (fin false n d) h k = round-clear f _ _

-- by a finite number above 0
pub mul-clear : (f : Format) (x : Float) (n : ℕ) (d : ℤ) → T (non_negative x)
    → T (non_negative (mul f x (fin false (suc n) d)))
unfolding mul
mul-clear f nan n d h = absurd h
mul-clear f (inf true) n d h = absurd h
mul-clear f (inf false) n d h = subst (λ (b : Bool). T (non_negative (cond b nan (inf false))))
    (sym (ne_eqb (suc n) 0 (λ (e : suc n ≡ 0). omega arith))) tt
mul-clear f (fin true m e) n d h = absurd h
mul-clear f (fin false m e) n d h = round-clear f _ _

pub div-clear : (f : Format) (x : Float) (n : ℕ) (d : ℤ) → T (non_negative x)
    → T (non_negative (div f x (fin false (suc n) d)))
unfolding div
div-clear f nan n d h = absurd h
div-clear f (inf true) n d h = absurd h
div-clear f (inf false) n d h = tt
div-clear f (fin true m e) n d h = absurd h
div-clear f (fin false m e) n d h =
    subst (λ (b : Bool). T
    (non_negative (cond b (cond (eqb m 0) nan (inf false))
    (round f false (m * up e * down d) (suc n * up d * down e)))))
    (sym (ne_eqb (suc n) 0 (λ (e : suc n ≡ 0). omega arith)))
    (round-clear f _ _)

-- ---- not below 0, and what is not below a positive number has a clear sign
pub not_below_zero : (x : Float) → T (non_negative x) → lt x (fin false 0 (pos 0)) ≡ false
unfolding lt
not_below_zero nan h = absurd h
not_below_zero (inf true) h = absurd h
not_below_zero (inf false) h = refl
not_below_zero (fin true m e) h = absurd h
not_below_zero (fin false m e) h = le-ltb (m * up e * 1) (0 * down e) (omega (arith, zero-mul (down e)))

clear_above : (x : Float) (n : ℕ) (d : ℤ) → is_nan x ≡ false → lt x (fin false (suc n) d) ≡ false → T (non_negative x)
unfolding lt is_nan
clear_above nan n d p h = absurd (true≢false p)
clear_above (inf true) n d p h = absurd (true≢false h)
clear_above (inf false) n d p h = tt
clear_above (fin false m e) n d p h = tt
clear_above (fin true m e) n d p h = absurd
    (true≢false (sym (lt-ltb 0 (m * up e * down d + suc n * up d * down e)
    (go (m * up e * down d) (suc n * up d * down e) (mul-pos (mul-pos (omega arith) (up_pos d)) (down_pos e)))) ∙ h))
  where
    go : (a b : ℕ) → 0 < b → 0 < a + b
    go a b l = omega arith

pub max-clear : (x : Float) (n : ℕ) (d : ℤ) → T (non_negative (max x (fin false (suc n) d)))
unfolding max
max-clear x n d = go (is_nan x) refl (lt x (fin false (suc n) d)) refl
  where
    go : (a : Bool) → is_nan x ≡ a → (b : Bool) → lt x (fin false (suc n) d) ≡ b
        → T (non_negative (cond a (fin false (suc n) d) (cond b (fin false (suc n) d) x)))
    go true p b e = tt
    go false p true e = tt
    go false p false e = clear_above x n d p e

pub min-clear : (x y : Float) → T (non_negative x) → T (non_negative y) → T (non_negative (min x y))
unfolding min
min-clear x y h k = go (is_nan x) (lt y x)
  where
    go : (a b : Bool) → T (non_negative (cond a y (cond b y x)))
    go true b = k
    go false true = k
    go false false = h

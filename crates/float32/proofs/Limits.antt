-- Laws of `clamp`, `max` and `min`: a number that is clamped lies between the ends, and which maxima and minima are
-- numbers.
--   Between lo hi x                        lo ≤ x ≤ hi
--   not-below, le_refl                     of numbers: what is not below is at or above, and x ≤ x
--   le_left, le_right, lt-left, lt-right   what has an order is a number
--   clamp_between                          a number that is clamped
--   max-ge, min-le                         a maximum is at least its second number, a minimum at most
--   max-first, min-first                   they are numbers where the first is
use Rattle.std.proofs.Common.{◌≡◌, ℕ, ◌+◌, ◌*◌, ◌≤◌, Bool, true, false, cond, ◌&&◌, ◌||◌, T, eqb, ltb, sym, refl, true≢false, arith, ltb-false, le-ltb, eq-eqb}
use lib.Ieee.{Float, nan, inf, fin, up, down, lt, eq, le, below, level, is_nan}
use Rattle.float32.specs.Float32.{max, min, clamp}

pub record Between (lo hi x : Float) : Type 0 where
  pub least : T (le lo x)
  pub most : T (le x hi)

-- ---- what is not below is at or above, but for a NaN
or_level : (a b : ℕ) → b ≤ a → T (ltb b a || (eqb b a && true))
or_level a b h = go (ltb b a) (ltb-false b a)
  where
    go : (x : Bool) → (x ≡ false → a ≤ b) → T (x || (eqb b a && true))
    go true f = tt
    go false f = let z = f refl in let q : b ≡ a = omega arith in rw (eq-eqb b a q) tt

zeros : (a b : ℕ) → a + b ≤ 0 → T (eqb b a && (false || eqb b 0))
zeros a b z = let p : b ≡ a = omega arith in let q : b ≡ 0 = omega arith in rw (eq-eqb b a p, eq-eqb b 0 q) tt

flip : (s : Bool) (a : ℕ) (t : Bool) (b : ℕ) → below s a t b ≡ false → T (below t b s a || level t b s a)
flip false a false b e = or_level a b (ltb-false a b e)
flip false a true b e = go (ltb 0 (b + a)) (ltb-false 0 (b + a))
  where
    go : (x : Bool) → (x ≡ false → b + a ≤ 0) → T (x || (eqb b a && (false || eqb b 0)))
    go true f = tt
    go false f = zeros a b (let z = f refl in omega arith)
flip true a false b e = zeros a b (ltb-false 0 (a + b) e)
flip true a true b e = go (ltb a b) (ltb-false a b)
  where
    go : (x : Bool) → (x ≡ false → b ≤ a) → T (x || (eqb b a && true))
    go true f = tt
    go false f = let z = f refl in let y : a ≤ b = ltb-false b a e in let q : b ≡ a = omega arith in rw (eq-eqb b a q)
        tt

pub not-below : (x y : Float) → is_nan x ≡ false → is_nan y ≡ false → lt x y ≡ false → T (le y x)
unfolding le lt eq is_nan
not-below nan y p q e = absurd (true≢false p)
not-below (inf s) nan p q e = absurd (true≢false q)
not-below (inf true) (inf true) p q e = tt
not-below (inf true) (inf false) p q e = absurd (true≢false e)
not-below (inf false) (inf true) p q e = tt
not-below (inf false) (inf false) p q e = tt
not-below (inf true) (fin t n d) p q e = absurd (true≢false e)
not-below (inf false) (fin t n d) p q e = tt
not-below (fin s m e) nan p q h = absurd (true≢false q)
not-below (fin s m e) (inf true) p q h = tt
not-below (fin s m e) (inf false) p q h = absurd (true≢false h)
not-below (fin s m e) (fin t n d) p q h = flip s (m * up e * down d) t (n * up d * down e) h

own_test : (s : Bool) (a : ℕ) → below s a s a ≡ false
own_test true a = le-ltb a a (omega arith)
own_test false a = le-ltb a a (omega arith)

pub le_refl : (x : Float) → is_nan x ≡ false → T (le x x)
unfolding le lt eq is_nan
le_refl nan p = absurd (true≢false p)
le_refl (inf true) p = tt
le_refl (inf false) p = tt
le_refl (fin s m e) p = flip s (m * up e * down e) s (m * up e * down e) (own_test s (m * up e * down e))

-- ---- what has an order is a number
pub le_left : (x y : Float) → T (le x y) → is_nan x ≡ false
unfolding le lt eq is_nan
le_left nan y t = absurd t
le_left (inf s) y t = refl
le_left (fin s m e) y t = refl

pub le_right : (x y : Float) → T (le x y) → is_nan y ≡ false
unfolding le lt eq is_nan
le_right nan y t = absurd t
le_right (inf s) nan t = absurd t
le_right (fin s m e) nan t = absurd t
le_right (inf s) (inf t) h = refl
le_right (inf s) (fin t n d) h = refl
le_right (fin s m e) (inf t) h = refl
le_right (fin s m e) (fin t n d) h = refl

pub lt-left : (x y : Float) → lt x y ≡ true → is_nan x ≡ false
unfolding lt is_nan
lt-left nan y t = absurd (true≢false (sym t))
lt-left (inf s) y t = refl
lt-left (fin s m e) y t = refl

pub lt-right : (x y : Float) → lt x y ≡ true → is_nan y ≡ false
unfolding lt is_nan
lt-right nan y t = absurd (true≢false (sym t))
lt-right (inf s) nan t = absurd (true≢false (sym t))
lt-right (fin s m e) nan t = absurd (true≢false (sym t))
lt-right (inf s) (inf t) h = refl
lt-right (inf s) (fin t n d) h = refl
lt-right (fin s m e) (inf t) h = refl
lt-right (fin s m e) (fin t n d) h = refl

-- ---- clamp
pub clamp_between : (x lo hi : Float) → is_nan x ≡ false → T (le lo hi) → Between lo hi (clamp x lo hi)
unfolding clamp
clamp_between x lo hi p h = go (lt x lo) refl (lt hi x) refl
  where
    go : (a : Bool) → lt x lo ≡ a → (b : Bool) → lt hi x ≡ b → Between lo hi (cond a lo (cond b hi x))
    go true e b z = record { least = le_refl lo (le_left lo hi h); most = h }
    go false e true z = record { least = h; most = le_refl hi (le_right lo hi h) }
    go false e false z = record {
      least = not-below x lo p (le_left lo hi h) e;
      most = not-below hi x (le_right lo hi h)
          p z;
    }

-- ---- max and min
pub max-ge : (x y : Float) → is_nan y ≡ false → T (le y (max x y))
unfolding max
max-ge x y q = go (is_nan x) refl (lt x y) refl
  where
    go : (a : Bool) → is_nan x ≡ a → (b : Bool) → lt x y ≡ b → T (le y (cond a y (cond b y x)))
    go true p b e = le_refl y q
    go false p true e = le_refl y q
    go false p false e = not-below x y p q e

pub min-le : (x y : Float) → is_nan y ≡ false → T (le (min x y) y)
unfolding min
min-le x y q = go (is_nan x) refl (lt y x) refl
  where
    go : (a : Bool) → is_nan x ≡ a → (b : Bool) → lt y x ≡ b → T (le (cond a y (cond b y x)) y)
    go true p b e = le_refl y q
    go false p true e = le_refl y q
    go false p false e = not-below y x q p e

-- no NaN, where the first is a number
pub max-first : (x y : Float) → is_nan x ≡ false → is_nan (max x y) ≡ false
unfolding max
max-first x y p = go (is_nan x) p (lt x y) refl
  where
    go : (a : Bool) → a ≡ false → (b : Bool) → lt x y ≡ b → is_nan (cond a y (cond b y x)) ≡ false
    go true q b e = absurd (true≢false q)
    go false q true e = lt-right x y e
    go false q false e = p

pub min-first : (x y : Float) → is_nan x ≡ false → is_nan (min x y) ≡ false
unfolding min
min-first x y p = go (is_nan x) p (lt y x) refl
  where
    go : (a : Bool) → a ≡ false → (b : Bool) → lt y x ≡ b → is_nan (cond a y (cond b y x)) ≡ false
    go true q b e = absurd (true≢false q)
    go false q true e = lt-left y x e
    go false q false e = p

-- Laws of tests, and of a read within a list, that the crates above share.
--   not-true, not-false          a negated test
--   or_left, or_right, neither   a test that neither part passes
--   both, and_right, and-true    a test that both parts pass
--   not-one                      0 is not 1
--   get_d_any                     within a list the default plays no part
use mathlib.Core.Path.{◌≡◌, refl, sym}
use mathlib.Core.Bool.{Bool, true, false, not, ◌&&◌, ◌||◌, true≢false, false≢true}
use mathlib.Core.List.{List, [], ◌∷◌}
use Prim.Native.Nat.{ℕ, zero, suc, ◌<◌}
use native.Mathlib.Omega.{arith}
use lib.ListN.{get_or, length}

pub not-true : (b : Bool) → not b ≡ true → b ≡ false
not-true true e = absurd (false≢true e)
not-true false e = refl

pub not-false : (b : Bool) → not b ≡ false → b ≡ true
not-false true e = refl
not-false false e = absurd (true≢false e)

pub or_left : (a b : Bool) → (a || b) ≡ false → a ≡ false
or_left true b e = e
or_left false b e = refl

pub or_right : (a b : Bool) → (a || b) ≡ false → b ≡ false
or_right true b e = absurd (false≢true (sym e))
or_right false b e = e

pub neither : (a b : Bool) → (a || b) ≡ false → (a ≡ false) × (b ≡ false)
neither true b e = absurd (true≢false e)
neither false b e = (refl, e)

pub both : (a b : Bool) → (a && b) ≡ true → (a ≡ true) × (b ≡ true)
both true b e = (refl, e)
both false b e = absurd (false≢true e)

pub and_right : (a b : Bool) → a ≡ true → (a && b) ≡ false → b ≡ false
and_right true b e h = h
and_right false b e h = absurd (false≢true e)

pub and-true : (b : Bool) → b ≡ (b && true)
and-true true = refl
and-true false = refl

-- what makes 0 equal to 1 is not so
pub not-one : ◌≡◌ {A = ℕ} 0 1 → ⊥
not-one z = omega arith

pub get_d_any : {A : Type 0} (l : List A) (i : ℕ) (x y : A) → i < length l → get_or l i x ≡ get_or l i y
get_d_any [] i x y h = absurd (omega (arith, h))
get_d_any (z ∷ zs) zero x y h = refl
get_d_any (z ∷ zs) (suc i) x y h = get_d_any zs i x y (omega (arith, h))

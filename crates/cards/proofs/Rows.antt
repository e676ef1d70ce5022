-- A table of twelve is three rows of four.
--   rows_are   its chunks are the rows
--   row_is     a row by its number, NaN past the third
--   all_three  a test of all three
use mathlib.Core.Path.{◌≡◌, refl, ap, ◌∙◌}
use mathlib.Core.List.{List, [], ◌∷◌}
use mathlib.Core.Bool.{Bool, ◌&&◌}
use Prim.Native.Nat.{ℕ, zero, suc, ◌+◌, ◌*◌, ◌/◌, ◌≤◌, ◌<◌}
use native.Mathlib.Omega.{arith}
use lib.ListN.{get_or, length, take, drop, length-drop, get_or-eq_default}
use lib.Ieee.{Float, nan}
use Rattle.std.proofs.lemmas.List.{at_drop_more, get_or-drop, drop-drop}
use Rattle.std.proofs.Math.Bool.{and-true}
use Rattle.std.specs.List.{list_all}
use Rattle.std.specs.Simd.{first_chunks}
use Rattle.cards.specs.Config.{row_of}

step : (n i : ℕ) (xs : List Float) → i < length xs → take (suc n) (drop i xs) ≡ get_or xs i nan ∷ take n (drop (i + 1) xs)
step n i xs h = at_drop_more (take (suc n)) xs i nan h

first : (xs : List Float) → 4 ≤ length xs → take 4 xs ≡ row_of xs 0
first xs h =
    step 3 0 xs (omega (arith, h))
    ∙ ap (λ r. get_or xs 0 nan ∷ r) (step 2 1 xs (omega (arith, h))
    ∙ ap (λ r. get_or xs 1 nan ∷ r) (step 1 2 xs (omega (arith, h))
    ∙ ap (λ r. get_or xs 2 nan ∷ r) (step 0 3 xs (omega (arith, h)))))

chunk : (xs : List Float) (i : ℕ) → i + 4 ≤ length xs
    → take 4 (drop i xs) ≡ get_or xs (i + 0) nan ∷ get_or xs (i + 1) nan ∷ get_or xs (i + 2) nan ∷ get_or xs (i + 3) nan ∷ []
chunk xs i h =
    first (drop i xs) (omega (arith, h, length-drop i xs))
    ∙ rw (get_or-drop i xs 0 nan, get_or-drop i xs 1 nan, get_or-drop i xs 2 nan, get_or-drop i xs 3 nan) refl

pub rows_are : (table : List Float) → length table ≡ 12
    → first_chunks 4 (length table / 4) table ≡ row_of table 0 ∷ row_of table 1 ∷ row_of table 2 ∷ []
rows_are table e =
    ap (λ (n : ℕ). first_chunks 4 (n / 4) table) e
    ∙ rw (drop-drop 4 4 table, chunk table 0 (omega (arith, e)), chunk table 4 (omega (arith, e)), chunk table 8 (omega (arith, e))) refl

pub all_three : (p : List Float → Bool) (a b c : List Float) → list_all p (a ∷ b ∷ c ∷ []) ≡ (p a && (p b && p c))
all_three p a b c = ap (λ x. p a && (p b && x)) (and-true (p c))

pub row_is : (table : List Float) (i : ℕ) → length table ≡ 12
    → get_or (row_of table 0 ∷ row_of table 1 ∷ row_of table 2 ∷ []) i (nan ∷ nan ∷ nan ∷ nan ∷ []) ≡ row_of table i
row_is table zero e = refl
row_is table (suc zero) e = refl
row_is table (suc (suc zero)) e = refl
row_is table (suc (suc (suc i))) e =
    let n = 4 * suc (suc (suc i)) in
    rw (
      get_or-eq_default table nan {n = n} (omega (arith, e)),
      get_or-eq_default table nan {n = n + 1} (omega (arith, e)),
      get_or-eq_default table nan {n = n + 2} (omega (arith, e)),
      get_or-eq_default table nan {n = n + 3} (omega (arith, e)),
    ) refl

-- Counting the turns of a list: laws of `count`, and of a count by day or by card.
--     count_none              no turn passes: the count is 0
--     count_under             every turn that passes p passes q: count p ≤ count q
--     count_split             p is q or r, never both: the counts add
--     count-below             the counts by key 0 .. n-1 add up to the count of the turns whose key is below n
--     count-all               and to the whole count, where every turn that passes has its key below n
use Prim.Native.Nat.{ℕ, ◌+◌, ◌≤◌, ◌<◌}
use native.Mathlib.Omega.{arith}
use native.Mathlib.Decide.{dec_lt}
use mathlib.Core.Bool.{Bool, true, false, ◌&&◌}
use mathlib.Core.List.{List, [], ◌∷◌}
use mathlib.Core.Path.{◌≡◌, refl, sym, ap, ◌∙◌}
use lib.Dec.{eqb, ltb}
use lib.ListN.{length}
use borrow.Author.Tests.{lt-ltb, le-ltb}
use Rattle.turns.specs.Sums.{bit, sum_to}
use Rattle.turns.proofs.Sums.{sum_zero, sum_one, sum-add, sum_same, at_ne}
use Rattle.turns.specs.Turns.{All, Each, count}

module _ {A : Type 0} where
  pub all_map : {P Q : A → Type 0} → ((a : A) → P a → Q a) → (l : List A) → All P l → All Q l
  all_map h [] x = tt
  all_map h (a ∷ l) x = (h a x.0, all_map h l x.1)

  pub each_map : {P Q : A → List A → Type 0} → ((a : A) (l : List A) → P a l → Q a l) → (l : List A) → Each P l
      → Each Q l
  each_map h [] x = tt
  each_map h (a ∷ l) x = (h a l x.0, each_map h l x.1)

  pub count_none : (p : A → Bool) (l : List A) → All (λ a. p a ≡ false) l → count p l ≡ 0
  count_none p [] h = refl
  count_none p (a ∷ l) h = omega (arith, count_none p l h.1, ap bit h.0)

  pub count_under : (p q : A → Bool) → ((a : A) → bit (p a) ≤ bit (q a)) → (l : List A) → count p l ≤ count q l
  count_under p q h [] = omega arith
  count_under p q h (a ∷ l) = omega (arith, h a, count_under p q h l)

  pub count_same : (p q : A → Bool) (l : List A) → All (λ a. p a ≡ q a) l → count p l ≡ count q l
  count_same p q [] h = refl
  count_same p q (a ∷ l) h = omega (arith, ap bit h.0, count_same p q l h.1)

  pub count_split : (p q r : A → Bool) → ((a : A) → bit (p a) ≡ bit (q a) + bit (r a)) → (l : List A)
      → count p l ≡ count q l + count r l
  count_split p q r h [] = refl
  count_split p q r h (a ∷ l) = omega (arith, h a, count_split p q r h l)

  pub count-length : (l : List A) → count (λ a. true) l ≡ length l
  count-length [] = refl
  count-length (a ∷ l) = omega (arith, count-length l)

-- what has its place at k is counted once below n, if k is below n, and else never
pub sum-place : (b : Bool) (n k : ℕ) → sum_to n (λ i. bit (b && eqb k i)) ≡ bit (b && ltb k n)
sum-place false n k = sum_zero n
sum-place true n k = go (dec_lt k n)
  where
    go : Dec (k < n) → sum_to n (λ i. bit (eqb k i)) ≡ bit (ltb k n)
    go (yes h) = sum_one n k h ∙ sym (ap bit (lt-ltb k n h))
    go (no h) = sum_same n (λ i. bit (eqb k i)) (λ i. 0) (λ i l. at_ne k i (omega arith)) ∙ sum_zero n
        ∙ sym (ap bit (le-ltb k n (omega arith)))

module _ {A : Type 0} (p : A → Bool) (key : A → ℕ) (n : ℕ) where
  pub count-below : (l : List A)
      → sum_to n (λ i. count (λ a. p a && eqb (key a) i) l) ≡ count (λ a. p a && ltb (key a) n) l
  count-below [] = sum_zero n
  count-below (a ∷ l) = omega (
    arith,
    sum-add n (λ i. bit (p a && eqb (key a) i)) (λ i. count (λ b. p b && eqb (key b) i) l),
    sum-place (p a) n (key a),
    count-below l,
  )

  pub count-all : (l : List A) → All (λ a. p a ≡ true → key a < n) l
      → sum_to n (λ i. count (λ a. p a && eqb (key a) i) l) ≡ count p l
  count-all l h = count-below l ∙ count_same _ _ l (all_map (λ a. inside (p a) (key a)) l h)
    where
      inside : (b : Bool) (k : ℕ) → (b ≡ true → k < n) → (b && ltb k n) ≡ b
      inside false k f = refl
      inside true k f = lt-ltb k n (f refl)

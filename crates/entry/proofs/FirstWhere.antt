-- The first number that passes a test: where a search finds it, that it finds none, and what holds before it.
--   first_found, first_none   the first number is the one that a search of all in order finds, or none passes
--   Found                     what a search of all in order says
--   none_before               no number before the first passes
use mathlib.Core.Path.{◌≡◌, refl, sym, ap, ◌∙◌}
use mathlib.Core.Bool.{Bool, true, false, cond}
use Prim.Native.Nat.{ℕ, zero, suc, ◌+◌, ◌≤◌, ◌<◌}
use native.Mathlib.Decide.{ℕ_discrete}
use native.Mathlib.Omega.{arith}
use Rattle.std.specs.Prelude.{Option, MatchOption}
use Rattle.entry.specs.Entry.{first_where}

module _ (p : ℕ → Bool) where
  found : (n j i : ℕ) → j ≤ i → i < j + n → p i ≡ true → ((k : ℕ) → j ≤ k → k < i → p k ≡ false)
      → first_where p n j ≡ i
  unfolding first_where
  found zero j i l u e none = absurd (omega arith)
  found (suc n) j i l u e none = at (ℕ_discrete j i)
      (λ z. found n (j + 1) i (omega (arith, z)) (omega arith) e (λ k g h. none k (omega arith) h))
    where
      at : Dec (j ≡ i) → ((j ≡ i → ⊥) → first_where p n (j + 1) ≡ i) → cond (p j) j (first_where p n (j + 1)) ≡ i
      at (yes z) rest = rw (ap p z ∙ e) z
      at (no z) rest = rw (none j (omega arith) (omega (arith, z))) (rest z)

  pub first_found : (n i : ℕ) → i < n → p i ≡ true → ((k : ℕ) → k < i → p k ≡ false) → first_where p n 0 ≡ i
  first_found n i u e none = found n 0 i (omega arith) (omega arith) e (λ k l h. none k h)

  not_from : (n j : ℕ) → ((k : ℕ) → j ≤ k → k < j + n → p k ≡ false) → first_where p n j ≡ j + n
  unfolding first_where
  not_from zero j none = omega arith
  not_from (suc n) j none = rw (none j (omega arith) (omega arith))
      (not_from n (j + 1) (λ k l h. none k (omega arith) (omega arith)) ∙ omega arith)

  pub first_none : (n : ℕ) → ((k : ℕ) → k < n → p k ≡ false) → first_where p n 0 ≡ n
  first_none n none = not_from n 0 (λ k l h. none k (omega arith)) ∙ omega arith

  -- what a search of the first n numbers says
  abbrev pub Found : ℕ → Option ℕ → Type 0
  Found n r = MatchOption r ((k : ℕ) → 0 ≤ k → k < n → p k ≡ false)
      (λ i. (0 ≤ i) × (i < n) × (p i ≡ true) × ((k : ℕ) → 0 ≤ k → k < i → p k ≡ false))

  -- none before the first
  pub none_before : (n i j : ℕ) → i + n ≤ first_where p n i → i ≤ j → j < i + n → p j ≡ false
  unfolding first_where
  none_before zero i j h l u = absurd (omega arith)
  none_before (suc n) i j h l u = go (p i) refl h (none_before n (i + 1) j)
    where
      go : (b : Bool) → p i ≡ b → i + suc n ≤ cond b i (first_where p n (i + 1))
          → (i + 1 + n ≤ first_where p n (i + 1) → i + 1 ≤ j → j < i + 1 + n → p j ≡ false) → p j ≡ false
      go true e q ih = absurd (omega arith)
      go false e q ih = at (ℕ_discrete i j)
        where
          at : Dec (i ≡ j) → p j ≡ false
          at (yes z) = ap p (sym z) ∙ e
          at (no z) = ih (omega arith) (omega arith) (omega arith)

-- How many places are used (of a sound table: how many keys are held), and when a table is full.
--   count_free, count_used, count_zero   the count, place by place
--   count-places                         no more places are used than the table is long
--   full-count, free_count               Full: as many as it is long; Free: fewer
--   full_iff                             Full: the key is not held and every place is used, and only then
--   count_same, count_more               as many where the same places are used; one more where one place more is
use mathlib.Core.Path.{◌≡◌, refl, sym, ◌∙◌, ap}
use mathlib.Core.Bool.{true, false}
use mathlib.Core.Logic.{◌↔◌}
use mathlib.Core.Option.{none}
use Prim.Native.Nat.{ℕ, zero, suc, ◌<◌, ◌≤◌}
use native.Mathlib.Decide.{ℕ_discrete}
use native.Mathlib.Omega.{arith}
use Rattle.intervals.specs.declared.Entry.TheVariants.{Free, Full}
use Rattle.intervals.specs.Table.{Table, places, free_at, lookup_in, count_to, held_in, count_in}
use Rattle.intervals.proofs.Probe.{Case, free, here, other, case_of, true_false, lookup_free_is, lookup_full_is}
use Rattle.intervals.proofs.Held.{Answer, at, room, full, answer, found_some, full-none}

module _ (t : Table) where
  pub count_free : (m : ℕ) → free_at t m ≡ true → count_to t (suc m) ≡ count_to t m
  unfolding count_to
  count_free m f = rw f

  pub count_used : (m : ℕ) → free_at t m ≡ false → count_to t (suc m) ≡ suc (count_to t m)
  unfolding count_to
  count_used m f = rw f

  pub count_zero : count_to t zero ≡ 0
  unfolding count_to
  count_zero = refl

  free_or_used : (m : ℕ) → Case t 0 0 m
  free_or_used m = case_of t 0 0 m

  count-le : (m : ℕ) → count_to t m ≤ m
  count-le zero = omega (arith, count_zero)
  count-le (suc m) =
      elim (free_or_used m) [
        | free f ↦ omega (arith, count_free m f, count-le m)
        | here f k ↦ omega (arith, count_used m f, count-le m)
        | other f k ↦ omega (arith, count_used m f, count-le m)
      ]

  count-lt : (m p : ℕ) → p < m → free_at t p ≡ true → count_to t m < m
  count-lt zero p h g = absurd (omega arith)
  count-lt (suc m) p h g =
      elim (free_or_used m) [
        | free f ↦ omega (arith, count_free m f, count-le m)
        | here f k ↦ omega (arith, count_used m f, count-lt m p (below f) g)
        | other f k ↦ omega (arith, count_used m f, count-lt m p (below f) g)
      ]
    where
      below : free_at t m ≡ false → p < m
      below f = elim (ℕ_discrete p m) [ yes e ↦ absurd (true_false (rw e at g) f) | no ne ↦ omega arith ]

  count-all : (m : ℕ) → ((p : ℕ) → p < m → free_at t p ≡ false) → count_to t m ≡ m
  count-all zero a = count_zero
  count-all (suc m) a = count_used m (a m (omega arith)) ∙ ap suc (count-all m (λ p l. a p (omega arith)))

  pub full-count : (s r : ℕ) → lookup_in t s r ≡ Full → count_in t ≡ places t
  full-count s r e = count-all (places t) (λ p l. (lookup_full_is t s r e p l).0)

  pub free_count : (s r p : ℕ) → lookup_in t s r ≡ Free p → count_in t < places t
  free_count s r p e = let w = lookup_free_is t s r e in count-lt (places t) p w.0 w.1

  pub count-places : count_in t ≤ places t
  count-places = count-le (places t)

full_by : (t : Table) (s r : ℕ) → held_in t s r ≡ none → count_in t ≡ places t → Answer t s r → lookup_in t s r ≡ Full
full_by t s r h n (at p v e) = absurd (found_some t s r p v e h)
full_by t s r h n (room p e) = absurd (let l = free_count t s r p e in omega arith)
full_by t s r h n (full e) = e

-- Full exactly where the key is not held and as many places are used as the table is long, whatever the table
pub full_iff : (t : Table) (s r : ℕ) → (lookup_in t s r ≡ Full) ↔ ((held_in t s r ≡ none) × (count_in t ≡ places t))
full_iff t s r = (λ e. (full-none t s r e, full-count t s r e), λ w. full_by t s r w.0 w.1 (answer t s r))

pub count_same : (t t' : Table) (m : ℕ) → ((q : ℕ) → q < m → free_at t' q ≡ free_at t q) → count_to t' m ≡ count_to t m
count_same t t' zero a = count_zero t' ∙ sym (count_zero t)
count_same t t' (suc m) a =
    let i = count_same t t' m (λ q l. a q (omega arith)) in
    let e = a m (omega arith) in
    elim (free_or_used t m) [
      | free f ↦ count_free t' m (e ∙ f) ∙ (i ∙ sym (count_free t m f))
      | here f k ↦ count_used t' m (e ∙ f) ∙ (ap suc i ∙ sym (count_used t m f))
      | other f k ↦ count_used t' m (e ∙ f) ∙ (ap suc i ∙ sym (count_used t m f))
    ]

pub count_more : (t t' : Table) (p m : ℕ) → p < m → free_at t p ≡ true → free_at t' p ≡ false
    → ((q : ℕ) → (q ≡ p → ⊥) → free_at t' q ≡ free_at t q)
    → count_to t' m ≡ suc (count_to t m)
count_more t t' p zero h f₀ f₁ a = absurd (omega arith)
count_more t t' p (suc m) h f₀ f₁ a =
    elim (ℕ_discrete p m) [
      | yes e ↦
          let i = count_same t t' m (λ q l. a q (λ z. omega arith)) in
          count_used t' m (rw e at f₁) ∙ (ap suc i ∙ ap suc (sym (count_free t m (rw e at f₀))))
      | no ne ↦
          let i = count_more t t' p m (omega arith) f₀ f₁ a in
          let e = a m (λ z. ne (sym z)) in
          elim (free_or_used t m) [
            | free f ↦ count_free t' m (e ∙ f) ∙ (i ∙ ap suc (sym (count_free t m f)))
            | here f k ↦ count_used t' m (e ∙ f) ∙ (ap suc i ∙ ap suc (sym (count_used t m f)))
            | other f k ↦ count_used t' m (e ∙ f) ∙ (ap suc i ∙ ap suc (sym (count_used t m f)))
          ]
    ]

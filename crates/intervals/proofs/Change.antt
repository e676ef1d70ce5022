-- What entering changes, place by place, and what a search finds afterwards.
--     same_is, same_self                  two keys that are the same
--     enter-places    entering leaves the length
--     value_same, free_same, key-same     the place that is entered
--     value_other, free_other, key_other  any other place
--     Keeps t t'      two tables as long, of which the second has every used place of the first, with its key
--     keeps_lookup    then a key that is found is found where it was
--     takes-lookup    and one that is entered at the free place of its search is found there
use mathlib.Core.Path.{◌≡◌, refl, sym, ◌∙◌, ap}
use mathlib.Core.Bool.{Bool, true, false, ◌&&◌}
use Prim.Native.Nat.{ℕ, zero, suc, ◌<◌}
use borrow.Author.Tests.{eqb-true, eq-eqb}
use mathlib.Core.List.{[], ◌∷◌}
use native.Mathlib.Omega.{arith}
use lib.Dec.{eqb}
use lib.Ieee.{Float, nan}
use lib.ListN.{length-set}
use lib.Seq.{get_or-set_same, get_or-set_other}
use Rattle.intervals.specs.declared.Entry.TheVariants.{Found, Free}
use Rattle.intervals.specs.Table.{Table, places, home_of, next_of, is_free, same_key, free_at, key_at, value_at, probe}
use Rattle.intervals.specs.Table.{lookup_in, enter_in}
use Rattle.intervals.proofs.Steps.{next-lt, home-lt, step_free, step_here, step-on, step-none}
use Rattle.intervals.proofs.Probe.{free, here, other, case_of, at_free, at-full, free_full, true_false}

-- two keys are the same where the test says so
both : (a b : Bool) → a && b ≡ true → (a ≡ true) × (b ≡ true)
both true true e = (refl, refl)
both true false e = absurd (true_false e refl)
both false b e = absurd (true_false e refl)

pub same_is : (a b s r : ℕ) → same_key a b s r ≡ true → (a ≡ s) × (b ≡ r)
unfolding same_key
same_is a b s r e = let w = both (eqb a s) (eqb b r) e in (eqb-true a s w.0, eqb-true b r w.1)

pub same_self : (s r : ℕ) → same_key s r s r ≡ true
unfolding same_key
same_self s r = rw (eq-eqb s s refl, eq-eqb r r refl)

module _ (t : Table) (p s r : ℕ) (v : Float) where
  pub enter-places : places (enter_in t p s r v) ≡ places t
  enter-places = simp length-set

  -- at the place
  pub value_same : p < places t → value_at (enter_in t p s r v) p ≡ v
  value_same h = get_or-set_same t.intervals p v nan (omega arith)

  pub free_same : p < places t → free_at (enter_in t p s r v) p ≡ is_free v
  free_same h = ap is_free (value_same h)

  pub key-same : p < places t → (s' r' : ℕ) → key_at (enter_in t p s r v) p s' r' ≡ same_key s r s' r'
  key-same h s' r' = rw (get_or-set_same t.keys p (s ∷ r ∷ []) [] (omega arith))

  -- elsewhere
  pub value_other : (q : ℕ) → (q ≡ p → ⊥) → value_at (enter_in t p s r v) q ≡ value_at t q
  value_other q ne = get_or-set_other t.intervals p q v nan ne

  pub free_other : (q : ℕ) → (q ≡ p → ⊥) → free_at (enter_in t p s r v) q ≡ free_at t q
  free_other q ne = ap is_free (value_other q ne)

  pub key_other : (q : ℕ) → (q ≡ p → ⊥) → (s' r' : ℕ) → key_at (enter_in t p s r v) q s' r' ≡ key_at t q s' r'
  key_other q ne s' r' = rw (get_or-set_other t.keys p q (s ∷ r ∷ []) [] ne)

-- a table as long that keeps each used place used, with its key
pub record Keeps (t t' : Table) : Type 0 where
  pub long : places t' ≡ places t
  pub used : (q : ℕ) → q < places t → free_at t q ≡ false → free_at t' q ≡ false
  pub key : (q s r : ℕ) → q < places t → free_at t q ≡ false → key_at t' q s r ≡ key_at t q s r

module _ (t t' : Table) (k : Keeps t t') (s r : ℕ) where
  -- what was found is found at the same place
  keeps_at : (m q p : ℕ) (v : Float) → q < places t → probe t s r m q ≡ Found p v
      → probe t' s r m q ≡ Found p (value_at t' p)
  keeps_at zero q p v h e = absurd (at-full e (step-none t s r q))
  keeps_at (suc m) q p v h e =
      elim (case_of t s r q) [
        | free f ↦ absurd (at_free e (step_free t s r m q f))
        | here f y ↦
            let a = step_here t s r m q f y in
            let pq : p ≡ q = cc in
            rw pq (step_here t' s r m q (k.used q h f) (k.key q s r h f ∙ y))
        | other f y ↦
            step-on t' s r m q (k.used q h f) (k.key q s r h f ∙ y)
            ∙ rw k.long (keeps_at m (next_of (places t) q) p v (next-lt (places t) q h) (sym (step-on t s r m q f y)
            ∙ e))
      ]

  -- where a free place was found and the key stands now, the key is found
  takes_at : (m q p : ℕ) → q < places t → free_at t p ≡ true → free_at t' p ≡ false → key_at t' p s r ≡ true
      → probe t s r m q ≡ Free p → probe t' s r m q ≡ Found p (value_at t' p)
  takes_at zero q p h f₀ f₁ y e = absurd (free_full e (step-none t s r q))
  takes_at (suc m) q p h f₀ f₁ y e =
      elim (case_of t s r q) [
        | free f ↦
            let a = step_free t s r m q f in
            let pq : q ≡ p = cc in
            rw pq (step_here t' s r m p f₁ y)
        | here f z ↦ absurd (at_free (step_here t s r m q f z) e)
        | other f z ↦
            step-on t' s r m q (k.used q h f) (k.key q s r h f ∙ z)
            ∙ rw k.long (takes_at m (next_of (places t) q) p (next-lt (places t) q h) f₀ f₁ y
            (sym (step-on t s r m q f z) ∙ e))
      ]

  pub keeps_lookup : (p : ℕ) (v : Float) → 0 < places t → lookup_in t s r ≡ Found p v
      → lookup_in t' s r ≡ Found p (value_at t' p)
  unfolding lookup_in
  keeps_lookup p v h e = rw k.long (keeps_at (places t) (home_of (places t) s r) p v (home-lt (places t) s r h) e)

  pub takes-lookup : (p : ℕ) → 0 < places t → free_at t p ≡ true → free_at t' p ≡ false → key_at t' p s r ≡ true
      → lookup_in t s r ≡ Free p → lookup_in t' s r ≡ Found p (value_at t' p)
  unfolding lookup_in
  takes-lookup p h f₀ f₁ y e = rw k.long (takes_at (places t) (home_of (places t) s r) p (home-lt (places t) s r h) f₀
      f₁ y e)

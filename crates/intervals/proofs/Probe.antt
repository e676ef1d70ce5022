-- What a search finds is there: the key's place, a free place, or every place taken by another key.
--     Case t s r p, case_of                a place is free, the key's, or another key's
--     at_free, at-full, free_full, true_false                   two answers that are not the same
--     Stands t s r p  the key stands at the place, which is used
--     probe_at_is, probe_free_is, probe_full_is                 what a search of m places finds
--     lookup_at_is, lookup_free_is, lookup_full_is              what the whole search finds
use mathlib.Core.Path.{◌≡◌, refl, sym, ◌∙◌}
use mathlib.Core.Bool.{Bool, true, false}
use mathlib.Core.Logic.{◌⊎◌, inl, inr, ⊎_elim}
use Prim.Native.Nat.{ℕ, zero, suc, ◌+◌, ◌<◌, ◌≤◌}
use native.Mathlib.Decide.{dec_le, dec_lt, ℕ_discrete}
use native.Mathlib.Omega.{arith}
use lib.Ieee.{Float}
use Rattle.intervals.specs.declared.Entry.{Entry}
use Rattle.intervals.specs.declared.Entry.TheVariants.{Found, Free, Full}
use Rattle.intervals.specs.Table.{Table, places, home_of, next_of, free_at, key_at, value_at, probe, lookup_in, Stands}
use Rattle.intervals.proofs.Steps.{home-lt, next-lt, next_wrap, next-on, step_free, step_here, step-on}
use Rattle.intervals.proofs.Steps.{step-none, lookup-none}

-- what stands at a place, seen from a key
pub data Case (t : Table) (s r p : ℕ) : Type 0 where
  free : free_at t p ≡ true → Case t s r p
  here : free_at t p ≡ false → key_at t p s r ≡ true → Case t s r p
  other : free_at t p ≡ false → key_at t p s r ≡ false → Case t s r p

pick_case : (t : Table) (s r p : ℕ) (f k : Bool) → free_at t p ≡ f → key_at t p s r ≡ k → Case t s r p
pick_case t s r p true k a b = free a
pick_case t s r p false true a b = here a b
pick_case t s r p false false a b = other a b

pub case_of : (t : Table) (s r p : ℕ) → Case t s r p
case_of t s r p = pick_case t s r p (free_at t p) (key_at t p s r) refl refl

-- two answers of different kinds
pub at_free : {f : Entry} {p q : ℕ} {v : Float} → f ≡ Found p v → f ≡ Free q → ⊥
at_free a b = let z : ◌≡◌ {A = ℕ} 0 1 = cc in omega arith

pub at-full : {f : Entry} {p : ℕ} {v : Float} → f ≡ Found p v → f ≡ Full → ⊥
at-full a b = let z : ◌≡◌ {A = ℕ} 0 1 = cc in omega arith

pub free_full : {f : Entry} {p : ℕ} → f ≡ Free p → f ≡ Full → ⊥
free_full a b = let z : ◌≡◌ {A = ℕ} 0 1 = cc in omega arith

pub true_false : {b : Bool} → b ≡ true → b ≡ false → ⊥
true_false a b = let z : ◌≡◌ {A = ℕ} 0 1 = cc in omega arith

module _ (t : Table) (s r : ℕ) where
  -- found: the key stands there, with that interval
  pub probe_at_is : (m q p : ℕ) (v : Float) → q < places t → probe t s r m q ≡ Found p v
      → Stands t s r p × (v ≡ value_at t p)
  probe_at_is zero q p v h e = absurd (at-full e (step-none t s r q))
  probe_at_is (suc m) q p v h e =
      elim (case_of t s r q) [
        | free f ↦ absurd (at_free e (step_free t s r m q f))
        | here f k ↦
            let a = step_here t s r m q f k in
            let pq : p ≡ q = cc in
            let vq : v ≡ value_at t q = cc in
            rw pq (record { within = h; used = f; key = k }, vq)
        | other f k ↦ probe_at_is m (next_of (places t) q) p v (next-lt (places t) q h) (sym (step-on t s r m q f k) ∙ e)
      ]

  -- free: a place of the table that is free
  pub probe_free_is : (m q p : ℕ) → q < places t → probe t s r m q ≡ Free p → (p < places t) × (free_at t p ≡ true)
  probe_free_is zero q p h e = absurd (free_full e (step-none t s r q))
  probe_free_is (suc m) q p h e =
      elim (case_of t s r q) [
        | free f ↦
            let a = step_free t s r m q f in
            let pq : p ≡ q = cc in
            rw pq (h, f)
        | here f k ↦ absurd (at_free (step_here t s r m q f k) e)
        | other f k ↦ probe_free_is m (next_of (places t) q) p (next-lt (places t) q h) (sym (step-on t s r m q f k) ∙ e)
      ]

  -- place p is among the m places from q on, round the end
  abbrev Ahead : ℕ → ℕ → ℕ → Type 0
  Ahead m q p = ((q ≤ p) × (p < q + m)) ⊎ (p + places t < q + m)

  ahead_next : (m q p : ℕ) → q < places t → p < places t → (p ≡ q → ⊥) → Ahead (suc m) q p
      → Ahead m (next_of (places t) q) p
  ahead_next m q p h l ne a =
      elim (dec_lt (q + 1) (places t)) [
        | yes o ↦
            rw (next-on (places t) q o)
            (⊎_elim (λ (w : (q ≤ p) × (p < q + suc m)). inl (omega arith))
            (λ (w : p + places t < q + suc m). inr (omega arith)) a)
        | no o ↦
            let e : q + 1 ≡ places t = omega arith in
            rw (next_wrap (places t) q e)
            (⊎_elim (λ (w : (q ≤ p) × (p < q + suc m)). absurd (ne (omega arith)))
            (λ (w : p + places t < q + suc m). inl (omega arith)) a)
      ]

  -- neither: each place searched is taken by another key
  pub probe_full_is : (m q p : ℕ) → q < places t → p < places t → Ahead m q p → probe t s r m q ≡ Full
      → (free_at t p ≡ false) × (key_at t p s r ≡ false)
  probe_full_is zero q p h l a e = absurd (⊎_elim (λ (w : (q ≤ p) × (p < q + 0)). omega arith)
      (λ (w : p + places t < q + 0). omega arith) a)
  probe_full_is (suc m) q p h l a e =
      elim (case_of t s r q) [
        | free f ↦ absurd (free_full (step_free t s r m q f) e)
        | here f k ↦ absurd (at-full (step_here t s r m q f k) e)
        | other f k ↦
            elim (ℕ_discrete p q) [
              | yes pq ↦ rw pq (f, k)
              | no ne ↦
                  probe_full_is m (next_of (places t) q) p (next-lt (places t) q h) l (ahead_next m q p h l ne a)
                  (sym (step-on t s r m q f k) ∙ e)
            ]
      ]

  -- the same of a lookup
  pub lookup_at_is : {p : ℕ} {v : Float} → lookup_in t s r ≡ Found p v → Stands t s r p × (v ≡ value_at t p)
  unfolding lookup_in
  lookup_at_is {p} {v} e =
      elim (dec_lt 0 (places t)) [
        | yes h ↦ probe_at_is (places t) (home_of (places t) s r) p v (home-lt (places t) s r h) e
        | no h ↦ absurd (at-full e (lookup-none t s r (omega arith)))
      ]

  pub lookup_free_is : {p : ℕ} → lookup_in t s r ≡ Free p → (p < places t) × (free_at t p ≡ true)
  unfolding lookup_in
  lookup_free_is {p} e =
      elim (dec_lt 0 (places t)) [
        | yes h ↦ probe_free_is (places t) (home_of (places t) s r) p (home-lt (places t) s r h) e
        | no h ↦ absurd (free_full e (lookup-none t s r (omega arith)))
      ]

  pub lookup_full_is : lookup_in t s r ≡ Full → (p : ℕ) → p < places t → (free_at t p ≡ false) × (key_at t p s r ≡ false)
  unfolding lookup_in
  lookup_full_is e p l =
      let q = home_of (places t) s r in
      let h : q < places t = home-lt (places t) s r (omega arith) in
      let a : Ahead (places t) q p = elim (dec_le q p) [ yes w ↦ inl (omega arith) | no w ↦ inr (omega arith) ] in
      probe_full_is (places t) q p h l a e

-- What a table holds under a key, and that a lookup gives it.
--   held_free, held_here, held_on, held_zero   what is held, place by place
--   some_none                                  what is held is not nothing
--   Answer, answer                             an answer, with what it is
--   found_some, full-none                      of any table: what a lookup finds is held; Full: the key is not
--   found_held, free_none                      of a sound one: what is held where the lookup said Found, or Free
--   lookup_held, looked                        a lookup gives what is held under the key, or nothing
--   one_place, stands_held                     a key stands at one place, and is held where it stands
use mathlib.Core.Path.{◌≡◌, refl, sym, ◌∙◌, ap}
use mathlib.Core.Bool.{true, false}
use mathlib.Core.Option.{Option, none, some}
use Prim.Native.Nat.{ℕ, zero, suc, ◌<◌}
use native.Mathlib.Decide.{ℕ_discrete}
use native.Mathlib.Omega.{arith}
use lib.Ieee.{Float}
use Rattle.intervals.specs.declared.Entry.{Entry}
use Rattle.intervals.specs.declared.Entry.TheVariants.{Found, Free, Full}
use Rattle.intervals.specs.Table.{Table, places, free_at, key_at, value_at, lookup_in, held_to, held_in, found_interval}
use Rattle.intervals.specs.Table.{Stands, Sound, LookupContract}
use Rattle.intervals.proofs.Probe.{free, here, other, case_of, at_free, true_false, lookup_at_is, lookup_full_is}

-- ---- what is held, place by place

module _ (t : Table) (s r : ℕ) where
  pub held_free : (m : ℕ) → free_at t m ≡ true → held_to t s r (suc m) ≡ held_to t s r m
  unfolding held_to
  held_free m f = rw f

  pub held_here : (m : ℕ) → free_at t m ≡ false → key_at t m s r ≡ true → held_to t s r (suc m) ≡ some (value_at t m)
  unfolding held_to
  held_here m f k = rw (f, k)

  pub held_on : (m : ℕ) → free_at t m ≡ false → key_at t m s r ≡ false → held_to t s r (suc m) ≡ held_to t s r m
  unfolding held_to
  held_on m f k = rw (f, k)

  pub held_zero : held_to t s r zero ≡ none
  unfolding held_to
  held_zero = refl

  data View (m : ℕ) : Type 0 where
    absent : held_to t s r m ≡ none → ((p : ℕ) → p < m → free_at t p ≡ false → key_at t p s r ≡ true → ⊥) → View m
    present : (p : ℕ) → p < m → free_at t p ≡ false → key_at t p s r ≡ true → held_to t s r m ≡ some (value_at t p) → View m

  view_skip : (m : ℕ) → held_to t s r (suc m) ≡ held_to t s r m → (free_at t m ≡ false → key_at t m s r ≡ true → ⊥) → View m
      → View (suc m)
  view_skip m e no_key (absent h a) =
      absent (e ∙ h)
      (λ p l f k.
      elim (ℕ_discrete p m) [
        | yes pm ↦ no_key (rw pm at f) (rw pm at k)
        | no ne ↦ a p (omega arith) f k
      ])
  view_skip m e no_key (present p l f k h) = present p (omega arith) f k (e ∙ h)

  view : (m : ℕ) → View m
  view zero = absent held_zero (λ p l f k. omega arith)
  view (suc m) =
      elim (case_of t s r m) [
        | free f ↦ view_skip m (held_free m f) (λ g k. true_false f g) (view m)
        | here f k ↦ present m (omega arith) f k (held_here m f k)
        | other f k ↦ view_skip m (held_on m f k) (λ g y. true_false y k) (view m)
      ]

-- ---- a lookup and what is held

pub some_none : {o : Option Float} {v : Float} → o ≡ some v → o ≡ none → ⊥
some_none a b = let z : ◌≡◌ {A = ℕ} 0 1 = cc in omega arith

-- an answer, with what it is
pub data Answer (t : Table) (s r : ℕ) : Type 0 where
  at : (p : ℕ) (v : Float) → lookup_in t s r ≡ Found p v → Answer t s r
  room : (p : ℕ) → lookup_in t s r ≡ Free p → Answer t s r
  full : lookup_in t s r ≡ Full → Answer t s r

found_interval_is : (t : Table) (s r : ℕ) (f : Entry) → lookup_in t s r ≡ f → Answer t s r
found_interval_is t s r (Found p v) e = at p v e
found_interval_is t s r (Free p) e = room p e
found_interval_is t s r Full e = full e

pub answer : (t : Table) (s r : ℕ) → Answer t s r
answer t s r = found_interval_is t s r (lookup_in t s r) refl

-- whatever the table: a key that a lookup finds is held, and where it says Full the key is not
pub found_some : (t : Table) (s r p : ℕ) (v : Float) → lookup_in t s r ≡ Found p v → held_in t s r ≡ none → ⊥
found_some t s r p v e n = go (view t s r (places t))
  where
    go : View t s r (places t) → ⊥
    go (absent h a) = let w = (lookup_at_is t s r e).0 in a p w.within w.used w.key
    go (present q l f k h) = some_none h n

pub full-none : (t : Table) (s r : ℕ) → lookup_in t s r ≡ Full → held_in t s r ≡ none
full-none t s r e = go (view t s r (places t))
  where
    go : View t s r (places t) → held_in t s r ≡ none
    go (absent h a) = h
    go (present q l f k h) = absurd (true_false k (lookup_full_is t s r e q l).1)

module _ (t : Table) (ok : Sound t) (s r : ℕ) where
  -- where something is held a lookup finds it, and where nothing is held it finds nothing
  at_held : (p : ℕ) (v : Float) → lookup_in t s r ≡ Found p v → View t s r (places t) → held_in t s r ≡ some v
  at_held p v e (absent h a) = absurd (found_some t s r p v e h)
  at_held p v e (present q l f k h) =
      let g = ok.found s r q (record { within = l; used = f; key = k }) in
      let y : v ≡ value_at t q = cc in
      h ∙ ap some (sym y)

  not_held : (p : ℕ) → lookup_in t s r ≡ Free p → View t s r (places t) → held_in t s r ≡ none
  not_held p e (absent h a) = h
  not_held p e (present q l f k h) = absurd
      (at_free (ok.found s r q (record { within = l; used = f; key = k })) e)

  pub found_held : (p : ℕ) (v : Float) → lookup_in t s r ≡ Found p v → held_in t s r ≡ some v
  found_held p v e = at_held p v e (view t s r (places t))

  pub free_none : (p : ℕ) → lookup_in t s r ≡ Free p → held_in t s r ≡ none
  free_none p e = not_held p e (view t s r (places t))

  lookup_held_by : Answer t s r → found_interval (lookup_in t s r) ≡ held_in t s r
  lookup_held_by (at p v e) = ap found_interval e ∙ sym (found_held p v e)
  lookup_held_by (room p e) = ap found_interval e ∙ sym (free_none p e)
  lookup_held_by (full e) = ap found_interval e ∙ sym (full-none t s r e)

  pub lookup_held : found_interval (lookup_in t s r) ≡ held_in t s r
  lookup_held = lookup_held_by (answer t s r)

-- what a lookup promises follows from its entry
pub looked : (t : Table) (s r : ℕ) {f : Entry} → f ≡ lookup_in t s r → LookupContract t s r f
looked t s r e = record { entry = e; answer = λ ok. ap found_interval e ∙ lookup_held t ok s r }

-- ---- used places and keys held are one to one, so `count_in` counts keys

pub one_place : (t : Table) → Sound t → (s r p q : ℕ) → Stands t s r p → Stands t s r q → p ≡ q
one_place t ok s r p q a b = let e = ok.found s r p a in let f = ok.found s r q b in cc

pub stands_held : (t : Table) → Sound t → (s r p : ℕ) → Stands t s r p → held_in t s r ≡ some (value_at t p)
stands_held t ok s r p a = found_held t ok s r p (value_at t p) (ok.found s r p a)

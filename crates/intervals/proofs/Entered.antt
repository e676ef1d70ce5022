-- A key entered at the place that its lookup gave.
--   Takes, takes-within        a place that the lookup of a key gave, and it is one of the table's
--   differ                     keys that are not the same fail the test of it
--   enter-found, enter_sound   the key is found there, and the table stays sound
--   enter_held, enter_other    under the key the new interval is held; under any other what was held
--   count-new, count_again     one key more where the lookup said Free; as many where it said Found
use mathlib.Core.Path.{◌≡◌, refl, sym, ◌∙◌, ap}
use mathlib.Core.Bool.{Bool, true, false}
use mathlib.Core.Option.{some}
use Prim.Native.Nat.{ℕ, zero, suc, ◌<◌}
use native.Mathlib.Decide.{ℕ_discrete}
use native.Mathlib.Omega.{arith}
use lib.Ieee.{Float}
use Rattle.intervals.specs.declared.Entry.TheVariants.{Found, Free}
use Rattle.intervals.specs.Table.{Table, places, is_free, same_key, free_at, key_at, value_at, lookup_in, enter_in}
use Rattle.intervals.specs.Table.{held_to, held_in, count_in, Sound}
use Rattle.intervals.proofs.Probe.{free, here, other, case_of, true_false, lookup_at_is, lookup_free_is}
use Rattle.intervals.proofs.Change.{Keeps, same_is, same_self, enter-places, value_same, free_same, key-same}
use Rattle.intervals.proofs.Change.{value_other, free_other, key_other, keeps_lookup, takes-lookup}
use Rattle.intervals.proofs.Held.{held_free, held_here, held_on, held_zero, found_held}
use Rattle.intervals.proofs.Used.{count_same, count_more}

-- a place that the lookup of a key gave: a free one, or the key's own
pub data Takes (t : Table) (s r p : ℕ) : Type 0 where
  new : lookup_in t s r ≡ Free p → Takes t s r p
  again : {w : Float} → lookup_in t s r ≡ Found p w → Takes t s r p

differ_by : (s r s' r' : ℕ) (b : Bool) → same_key s r s' r' ≡ b → (s ≡ s' → r ≡ r' → ⊥) → same_key s r s' r' ≡ false
differ_by s r s' r' true e n = absurd (let w = same_is s r s' r' e in n w.0 w.1)
differ_by s r s' r' false e n = e

pub differ : (s r s' r' : ℕ) → (s ≡ s' → r ≡ r' → ⊥) → same_key s r s' r' ≡ false
differ s r s' r' n = differ_by s r s' r' (same_key s r s' r') refl n

module _ (t : Table) (s r p : ℕ) where
  -- the place is one of the table's
  pub takes-within : Takes t s r p → p < places t
  takes-within (new e) = (lookup_free_is t s r e).0
  takes-within (again e) = (lookup_at_is t s r e).0.within

  -- a used place that takes the key is the key's
  takes_key : Takes t s r p → free_at t p ≡ false → (s' r' : ℕ) → same_key s r s' r' ≡ key_at t p s' r'
  takes_key (new e) f s' r' = absurd (true_false (lookup_free_is t s r e).1 f)
  takes_key (again e) f s' r' =
      let w = same_is _ _ s r (lookup_at_is t s r e).0.key in
      let a = w.0 in
      let b = w.1 in
      cc

module _ (t : Table) (ok : Sound t) (s r p : ℕ) (v : Float) (u : is_free v ≡ false) where
  keeps : Takes t s r p → Keeps t (enter_in t p s r v)
  keeps w =
      record {
        long = enter-places t p s r v;
        used = λ q h f.
            elim (ℕ_discrete q p) [
              | yes e ↦ rw e (free_same t p s r v (takes-within t s r p w) ∙ u)
              | no ne ↦ free_other t p s r v q ne ∙ f
            ];
        key = λ q s' r' h f.
            elim (ℕ_discrete q p) [
              | yes e ↦
                  rw e
                  (key-same t p s r v (takes-within t s r p w) s' r' ∙ takes_key t s r p w (rw e at f) s' r')
              | no ne ↦ key_other t p s r v q ne s' r'
            ];
      }

  -- the key is found at the place, with the interval
  entered_by : Takes t s r p → Takes t s r p → lookup_in (enter_in t p s r v) s r
      ≡ Found p (value_at (enter_in t p s r v) p)
  entered_by w (new e) =
      let h = takes-within t s r p w in
      takes-lookup t (enter_in t p s r v) (keeps w) s r p (omega arith) (lookup_free_is t s r e).1
      (free_same t p s r v h ∙ u)
      (key-same t p s r v h s r ∙ same_self s r)
      e
  entered_by w (again {w = x} e) =
      let h = takes-within t s r p w in
      keeps_lookup t (enter_in t p s r v) (keeps w) s r p x (omega arith) e

  pub enter-found : Takes t s r p → lookup_in (enter_in t p s r v) s r ≡ Found p v
  enter-found w = entered_by w w ∙ ap (Found p) (value_same t p s r v (takes-within t s r p w))

  pub enter_sound : Takes t s r p → Sound (enter_in t p s r v)
  enter_sound w =
      record {
        found = λ s' r' x y.
            elim (ℕ_discrete x p) [
              | yes e ↦
                  let h = takes-within t s r p w in
                  let k = same_is s r s' r' (sym (key-same t p s r v h s' r') ∙ (rw e at y.key)) in
                  rw (e, ← k.0, ← k.1) (entered_by w w)
              | no ne ↦
                  let l : x < places t = rw enter-places at y.within in
                  keeps_lookup t (enter_in t p s r v) (keeps w) s' r' x (value_at t x) (omega arith)
                  (ok.found s' r' x
                  (record {
                    within = l;
                    used = sym (free_other t p s r v x ne) ∙ y.used;
                    key = sym (key_other t p s r v x ne s' r') ∙ y.key;
                  }))
            ];
      }

  pub enter_held : Takes t s r p → held_in (enter_in t p s r v) s r ≡ some v
  enter_held w = found_held (enter_in t p s r v) (enter_sound w) s r p v (enter-found w)

  other_to : (s' r' : ℕ) → same_key s r s' r' ≡ false → Takes t s r p → (m : ℕ) → held_to (enter_in t p s r v) s' r' m
      ≡ held_to t s' r' m
  other_to s' r' n w zero = held_zero (enter_in t p s r v) s' r' ∙ sym (held_zero t s' r')
  other_to s' r' n w (suc m) =
      let t' = enter_in t p s r v in
      let i = other_to s' r' n w m in
      let h = takes-within t s r p w in
      elim (ℕ_discrete m p) [
        | yes e ↦
            let f₁ : free_at t' m ≡ false = rw e (free_same t p s r v h ∙ u) in
            let k₁ : key_at t' m s' r' ≡ false = rw e (key-same t p s r v h s' r' ∙ n) in
            elim (case_of t s' r' m) [
              | free f ↦ held_on t' s' r' m f₁ k₁ ∙ (i ∙ sym (held_free t s' r' m f))
              | here f k ↦ absurd (true_false (takes_key t s r p w (rw e at f) s' r' ∙ (rw e at k)) n)
              | other f k ↦ held_on t' s' r' m f₁ k₁ ∙ (i ∙ sym (held_on t s' r' m f k))
            ]
        | no ne ↦
            let f₁ = free_other t p s r v m ne in
            let k₁ = key_other t p s r v m ne s' r' in
            elim (case_of t s' r' m) [
              | free f ↦ held_free t' s' r' m (f₁ ∙ f) ∙ (i ∙ sym (held_free t s' r' m f))
              | here f k ↦
                  held_here t' s' r' m (f₁ ∙ f) (k₁ ∙ k)
                  ∙ (ap some (value_other t p s r v m ne) ∙ sym (held_here t s' r' m f k))
              | other f k ↦ held_on t' s' r' m (f₁ ∙ f) (k₁ ∙ k) ∙ (i ∙ sym (held_on t s' r' m f k))
            ]
      ]

  pub enter_other : Takes t s r p → (s' r' : ℕ) → (s ≡ s' → r ≡ r' → ⊥) → held_in (enter_in t p s r v) s' r'
      ≡ held_in t s' r'
  enter_other w s' r' n = rw enter-places (other_to s' r' (differ s r s' r' n) w (places t))

  pub count-new : lookup_in t s r ≡ Free p → count_in (enter_in t p s r v) ≡ suc (count_in t)
  count-new e =
      let g = lookup_free_is t s r e in
      rw enter-places
      (count_more t (enter_in t p s r v) p (places t) g.0 g.1 (free_same t p s r v g.0 ∙ u)
      (λ q ne. free_other t p s r v q ne))

  pub count_again : (w : Float) → lookup_in t s r ≡ Found p w → count_in (enter_in t p s r v) ≡ count_in t
  count_again w e =
      let g = (lookup_at_is t s r e).0 in
      rw enter-places
      (count_same t (enter_in t p s r v) (places t)
      (λ q l.
      elim (ℕ_discrete q p) [
        | yes qp ↦ rw qp (free_same t p s r v g.within ∙ (u ∙ sym g.used))
        | no ne ↦ free_other t p s r v q ne
      ]))

-- One use of the table for a schedule: what it keeps, when it is refused, and that a longer table makes no difference
-- to it.
--     held_is, anew_is, new_is, full_is   the slot by what the lookup found
--     Origin, origin  where a slot's interval comes from
--     slot_full_iff   there is no slot exactly where the key is not held and every place is used, whatever the table
--     slot_sound      a sound table stays sound
--     interval-all, slot_all              what holds of all intervals held and of the fresh one holds of the slot's,
--     and of all held after it
--     same_slot       two tables that hold the same give the same slot but for its place, unless the shorter one is
--     full
--     slot_held, slot_anew      what the code finds where the key is held
--     scheduled_used  the fresh interval never marks a free place
use mathlib.Core.Path.{◌≡◌, refl, sym, ap, ◌∙◌}
use mathlib.Core.Bool.{Bool, true, false, cond}
use mathlib.Core.Logic.{◌↔◌}
use mathlib.Core.Option.{none}
use Prim.Native.Nat.{ℕ, ◌<◌}
use native.Mathlib.Decide.{ℕ_discrete}
use lib.Ieee.{Float, lt, of_bits, of_fields}
use Rattle.float32.specs.Float32.{clamp}
use Rattle.float32.specs.Numbers.{1ᶠ}
use Rattle.model.specs.Model.{Curves, of_stability, scheduled}
use Rattle.model.specs.Model as Model
use Rattle.model.specs.declared.forgetting_curve.Curve.{Curve}
use Rattle.intervals.specs.declared.Entry.{Entry}
use Rattle.intervals.specs.declared.Entry.TheVariants as entry
use Rattle.intervals.specs.declared.Slot.{Slot}
use Rattle.intervals.specs.declared.Slot.TheVariants as slot
use Rattle.intervals.specs.Table.{Table, places, is_free, free_at, value_at, lookup_in, enter_in, held_in, count_in}
use Rattle.intervals.specs.Bucket.{stability_bucket, retention_bucket}
use Rattle.intervals.specs.Schedule.{certifies, slot_by, slot_in, slot_of, is_full, interval_of, entered}
use Rattle.intervals.proofs.Probe.{true_false, lookup_at_is}
use Rattle.intervals.proofs.Change.{enter-places, value_same, free_other, value_other}
use Rattle.intervals.proofs.Used.{full_iff}
use Rattle.intervals.proofs.Entered.{Takes, new, again, takes-within, enter_sound}
use Rattle.intervals.proofs.Longer.{SameEntries, Match, both_at, both_free, first_full, same-lookup, same-enter}
use Rattle.intervals.specs.Table.{Sound}

module _ (t : Table) (s r : ℕ) (certified : Float → Bool) (fresh : Float) where
  -- by what the lookup found
  pub held_is : {p : ℕ} {v : Float} → certified v ≡ true → lookup_in t s r ≡ entry.Found p v
      → slot_in certified fresh t s r ≡ slot.Keep v
  unfolding slot_in
  held_is y e = rw (e, y)

  pub anew_is : {p : ℕ} {v : Float} → certified v ≡ false → lookup_in t s r ≡ entry.Found p v
      → slot_in certified fresh t s r ≡ slot.Enter p s r fresh
  unfolding slot_in
  anew_is y e = rw (e, y)

  pub new_is : {p : ℕ} → lookup_in t s r ≡ entry.Free p → slot_in certified fresh t s r ≡ slot.Enter p s r fresh
  unfolding slot_in
  new_is e = rw e

  pub full_is : lookup_in t s r ≡ entry.Full → slot_in certified fresh t s r ≡ slot.Full
  unfolding slot_in
  full_is e = rw e

  -- the same the other way: a held interval is certified and stands in the table, a new one is the fresh one at a
  -- place that takes the key
  pub data Origin : Slot → Type 0 where
    held : (p : ℕ) (v : Float) → lookup_in t s r ≡ entry.Found p v → certified v ≡ true → Origin (slot.Keep v)
    anew : (p : ℕ) → Takes t s r p → Origin (slot.Enter p s r fresh)
    refused : lookup_in t s r ≡ entry.Full → Origin slot.Full

  origin_by : (f : Entry) → lookup_in t s r ≡ f → Origin (slot_in certified fresh t s r)
  origin_by (entry.Found p v) e = at (certified v) refl
    where
      at : (b : Bool) → certified v ≡ b → Origin (slot_in certified fresh t s r)
      at true y = rw (held_is y e) (held p v e y)
      at false y = rw (anew_is y e) (anew p (again e))
  origin_by (entry.Free p) e = rw (new_is e) (anew p (new e))
  origin_by entry.Full e = rw (full_is e) (refused e)

  pub origin : Origin (slot_in certified fresh t s r)
  origin = origin_by (lookup_in t s r) refl

  -- refused for want of a place: the key is not held, and every place is used
  full_lookup : (x : Slot) → Origin x → is_full x ≡ true → lookup_in t s r ≡ entry.Full
  full_lookup x (held p v e y) z = absurd (true_false z refl)
  full_lookup x (anew p k) z = absurd (true_false z refl)
  full_lookup x (refused e) z = e

  pub slot_full_iff : (is_full (slot_in certified fresh t s r) ≡ true)
      ↔ ((held_in t s r ≡ none) × (count_in t ≡ places t))
  slot_full_iff = (
    λ z. (full_iff t s r).0 (full_lookup (slot_in certified fresh t s r) origin z),
    λ w. ap is_full (full_is ((full_iff t s r).1 w)),
  )

  module _ (u : is_free fresh ≡ false) where
    sound_by : Sound t → (x : Slot) → Origin x → Sound (entered t x)
    sound_by ok x (held p v e y) = ok
    sound_by ok x (anew p k) = enter_sound t ok s r p fresh u k
    sound_by ok x (refused e) = ok

    pub slot_sound : Sound t → Sound (entered t (slot_in certified fresh t s r))
    slot_sound ok = sound_by ok (slot_in certified fresh t s r) origin

  -- what holds of every interval in the table and of the fresh one holds of the interval given, and of every interval
  -- in the table after it
  module _ (P : Float → Type 0) (all : (p : ℕ) → p < places t → free_at t p ≡ false → P (value_at t p)) (own : P fresh)
    where
      interval-by : (x : Slot) → Origin x → is_full x ≡ false → P (interval_of x)
      interval-by x (held p v e y) f =
          let w = lookup_at_is t s r e in
          rw w.1 (all p w.0.within w.0.used)
      interval-by x (anew p k) f = own
      interval-by x (refused e) f = absurd (true_false refl f)

      pub interval-all : is_full (slot_in certified fresh t s r) ≡ false → P (interval_of (slot_in certified fresh t s r))
      interval-all f = interval-by (slot_in certified fresh t s r) origin f

      enter-all : (p : ℕ) → p < places t → (q : ℕ) → q < places (enter_in t p s r fresh)
          → free_at (enter_in t p s r fresh) q ≡ false → P (value_at (enter_in t p s r fresh) q)
      enter-all p h q l f =
          elim (ℕ_discrete q p) [
            | yes e ↦ rw e (rw (value_same t p s r fresh h) own)
            | no ne ↦ rw (value_other t p s r fresh q ne) (all q (rw (enter-places t p s r fresh) at l)
                (sym (free_other t p s r fresh q ne) ∙ f))
          ]

      entered_by : (x : Slot) → Origin x → (q : ℕ) → q < places (entered t x) → free_at (entered t x) q ≡ false
          → P (value_at (entered t x) q)
      entered_by x (held p v e y) = all
      entered_by x (anew p k) = enter-all p (takes-within t s r p k)
      entered_by x (refused e) = all

      pub slot_all : (let t' = entered t (slot_in certified fresh t s r) in (q : ℕ) → q < places t' → free_at t' q ≡ false
          → P (value_at t' q))
      slot_all = entered_by (slot_in certified fresh t s r) origin

-- two tables that hold the same give the same interval and hold the same afterwards, unless the shorter has no place
module _ (t t' : Table) (w : SameEntries t t') (s r : ℕ) (certified : Float → Bool) (fresh : Float)
    (u : is_free fresh ≡ false) where
  abbrev Same : Slot → Slot → Type 0
  Same x x' = is_full x ≡ false → (interval_of x ≡ interval_of x') × (is_full x' ≡ false) × SameEntries (entered t x)
      (entered t' x')

  same_by : (f f' : Entry) → lookup_in t s r ≡ f → lookup_in t' s r ≡ f' → Match f f'
      → Same (slot_by f certified fresh s r) (slot_by f' certified fresh s r)
  same_by f f' e e' (both_at {p = p} {p' = p'} {v = v}) = at (certified v)
    where
      at : (b : Bool) → Same (cond b (slot.Keep v) (slot.Enter p s r fresh))
          (cond b (slot.Keep v) (slot.Enter p' s r fresh))
      at true n = (refl, refl, w)
      at false n = (refl, refl, same-enter t t' w s r p p' fresh u (again e) (again e'))
  same_by f f' e e' (both_free {p = p} {p' = p'}) = λ n. (
    refl,
    refl,
    same-enter t t' w s r p p' fresh u (new e)
        (new e'),
  )
  same_by f f' e e' first_full = λ n. absurd (true_false refl n)

  pub same_slot : Same (slot_in certified fresh t s r) (slot_in certified fresh t' s r)
  unfolding slot_in
  same_slot = same_by (lookup_in t s r) (lookup_in t' s r) refl refl (same-lookup t t' w s r)

-- ---- what the code finds where the key is held
module _ (curves : Curves) (stability retention most : Float) (t : Table) (s r : ℕ) (es : s ≡ stability_bucket stability)
    (er : r ≡ retention_bucket retention) where
  module _ {p : ℕ} {v : Float} (e : lookup_in t s r ≡ entry.Found p v) (curve : Curve) (c : Bool)
      (ec : curve ≡ curves (of_stability stability))
      (et : c ≡ certifies (Model.retention curve) stability retention v most) where
    test : {b : Bool} → c ≡ b → certifies (Model.retention (curves (of_stability stability))) stability retention v most
        ≡ b
    test y = rw (← ec) (sym et ∙ y)

    pub slot_held : c ≡ true → slot.Keep v ≡ slot_of curves stability retention most t
    unfolding slot_of
    slot_held y = rw (← es, ← er) (sym (held_is t s r _ _ (test y) e))

    pub slot_anew : {fresh : Float} → c ≡ false → fresh ≡ scheduled curves stability retention most
        → slot.Enter p s r fresh ≡ slot_of curves stability retention most t
    unfolding slot_of
    slot_anew y ef = rw (← es, ← er, ef) (sym (anew_is t s r _ _ (test y) e))

one_used : is_free 1ᶠ ≡ false
unfolding lt of_bits of_fields
one_used = refl

-- what is clamped between 1 and a maximum that is not below 1 does not mark a free place
clamp-by : (x hi : Float) (a b : Bool) → lt x 1ᶠ ≡ a → lt hi x ≡ b → is_free hi ≡ false
    → is_free (cond a 1ᶠ (cond b hi x)) ≡ false
clamp-by x hi true b e f h = one_used
clamp-by x hi false true e f h = h
clamp-by x hi false false e f h = e

clamp_used : (x hi : Float) → is_free hi ≡ false → is_free (clamp x 1ᶠ hi) ≡ false
unfolding clamp
clamp_used x hi h = clamp-by x hi (lt x 1ᶠ) (lt hi x) refl refl h

-- the fresh interval never marks a free place
pub scheduled_used : (curves : Curves) (stability retention most : Float) → is_free most ≡ false
    → is_free (scheduled curves stability retention most) ≡ false
unfolding scheduled
scheduled_used curves stability retention most h = clamp_used _ most h

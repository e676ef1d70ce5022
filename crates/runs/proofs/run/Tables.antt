-- Two runs whose states differ in the interval table alone: where the second table holds the same as the first and is
-- as long or longer, the second run takes the same turns and comes to the same end; where it is as long, also to the
-- same refusal.
use mathlib.Core.Path.{◌≡◌, refl}
use mathlib.Core.Bool.{Bool, true, false, cond, false≢true}
use mathlib.Core.List.{[]}
use Prim.Native.Nat.{ℕ}
use lib.Dec.{eqb}
use Rattle.turns.specs.Turns.{Turn, put_off}
use Rattle.turns.specs.Run.{Next, takes, stops, run}
use Rattle.turns.proofs.Loop.{Follows, Same, run_follows}
use Rattle.cards.specs.declared.choice.Choice.{Choice}
use Rattle.cards.specs.declared.choice.Choice.TheVariants as choice
use Rattle.cards.specs.Day.{is_new}
use Rattle.days.specs.Due.{none_due}
use Rattle.events.specs.declared.Memory.{Memory}
use Rattle.std.specs.Prelude.{Option, Some, None}
use Rattle.intervals.specs.declared.Slot.{Slot}
use Rattle.intervals.specs.declared.Slot.TheVariants as slot
use Rattle.intervals.specs.Table.{Table, places}
use Rattle.intervals.specs.Schedule.{is_full, interval_of, entered}
use Rattle.intervals.proofs.Longer.{SameEntries}
use Rattle.events.specs.Drawn.{Drawn}
use Rattle.entry.specs.declared.RunRefusal.TheVariants as refusal
use Rattle.runs.specs.Turn.{Stop}
use Rattle.runs.specs.Turn.{first, turn_choice}
use Rattle.runs.specs.declared.First.{First}
use Rattle.std.specs.Prelude.{Ok, Err}
use Rattle.runs.specs.State.{State, with_table}
use Rattle.runs.specs.Rules.{Rules}
use Rattle.runs.specs.Turn.{refuses, turn_as, after_retire, after_put_off, after_event, event_with_slot, event_with_draw, event_on, act, turn_of, next}
use Rattle.runs.proofs.turn.Slots.{Slots}
use Rattle.turns.proofs.Logic.{not-one}
use Rattle.runs.proofs.turn.Stops.{event_full, event_taken}
use mathlib.Core.Logic.{◌⊎◌, inl, inr}
use native.Mathlib.Omega.{arith}
use Rattle.intervals.proofs.Change.{enter-places}

-- the same state but for the table, which holds the same and is as long or longer; `E` says that it is as long
pub record Alike {C : Type 0} (E : Type 0) (s s' : State C) : Type 0 where
  pub same : s' ≡ with_table s'.table s
  pub entries : SameEntries s.table s'.table
  pub even : E → places s.table ≡ places s'.table

-- the stops that both runs come to: the end, and with tables that are equally long every refusal
abbrev pub Shared : Type 0 → Stop → Type 0
Shared E x = (x ≡ Ok tt) ⊎ E

entered-places : (t : Table) (x : Slot) → places (entered t x) ≡ places t
entered-places t (slot.Keep v) = refl
entered-places t (slot.Enter p a b v) = enter-places t p a b v
entered-places t slot.Full = refl

module _ {C : Type 0} (E : Type 0) (R : Rules C) (laws : Slots R.model) where
  abbrev Follow : Next (Turn Drawn) (State C) Stop → Next (Turn Drawn) (State C) Stop → Type 0
  Follow = Follows (Alike E) (Shared E)

  module _ (s : State C) (t : Table) (w : SameEntries s.table t) (ev : E → places s.table ≡ places t) where
    abbrev s' : State C
    s' = with_table t s

    -- the same interval from two slots, one for each table
    handled_alike : (f : First) (new : Bool) (y : Memory) (x x' : Slot) → interval_of x ≡ interval_of x'
        → SameEntries (entered s.table x) (entered t x')
        → Alike E (after_event R s f new y x) (after_event R s' f new y x')
    unfolding after_event
    handled_alike f new y x x' q tw = record {
      same = rw q;
      entries = tw;
      even = λ z. omega (arith, ev z, entered-places s.table x, entered-places t x');
    }

    slots_follow : (f : First) (new : Bool) (y : Memory) (x x' : Slot) (b : Bool) → is_full x ≡ b
        → (is_full x ≡ false → (interval_of x ≡ interval_of x') × (is_full x' ≡ false)
        × SameEntries (entered s.table x) (entered t x'))
        → (E → is_full x ≡ true → is_full x' ≡ true)
        → Follow (event_with_slot R s f new y x) (event_with_slot R s' f new y x')
    slots_follow f new y slot.Full x' true e h g = full
      where
        full : Shared E (Err (refusal.TableFull f.place))
            → event_with_slot R s' f new y x' ≡ refuses (refusal.TableFull f.place)
        full (inl z) = absurd (not-one cc)
        full (inr z) = event_full R s' f new y x' (g z refl)
    slots_follow f new y x x' false e h g =
        let q = h e in
        rw (event_taken R s f new y x e, event_taken R s' f new y x' q.1)
        (refl, handled_alike f new y x x' q.0 q.2)
    slots_follow f new y (slot.Keep v) x' true e h g = absurd (false≢true e)
    slots_follow f new y (slot.Enter p a b v) x' true e h g = absurd (false≢true e)

    event_follows : (f : First) (new : Bool) → Follow (event_on R s f new) (event_on R s' f new)
    unfolding event_on
    event_follows f new = go (R.model.event R.draw f.card new f.day s.draws)
      where
        go : (e : Option Memory) → Follow (event_with_draw R s f new e) (event_with_draw R s' f new e)
        go None = λ z. refl
        go (Some y) =
            let r = f.card.desired_retention in
            slots_follow f new y (R.model.slot s.table y.stability r) (R.model.slot t y.stability r)
            (is_full (R.model.slot s.table y.stability r)) refl
            (laws.same_entries s.table t w y.stability r)
            (λ z. laws.fulls s.table t w (ev z) y.stability r)

    act_follows : (f : First) (x : Choice) → Follow (act R s f x) (act R s' f x)
    unfolding after_retire after_put_off
    act_follows f choice.Retire = (refl, record { same = refl; entries = w; even = ev })
    act_follows f choice.PutOff = go (none_due s.due (is_new f.card.last_date) f.day)
      where
        go : (b : Bool) → Follow
            (cond b (refuses (refusal.DueCount f.place)) (takes (turn_as f put_off) (after_put_off R s f)))
            (cond b (refuses (refusal.DueCount f.place)) (takes (turn_as f put_off) (after_put_off R s' f)))
        go true = λ z. refl
        go false = (refl, record { same = refl; entries = w; even = ev })
    act_follows f choice.Learn = event_follows f true
    act_follows f choice.Review = event_follows f false

    turn_follows : Follow (next R s) (next R s')
    unfolding next
    turn_follows = go (eqb s.queue.len 0)
      where
        go : (b : Bool) → Follow (cond b (stops (Ok tt)) (turn_of R s (first s)))
            (cond b (stops (Ok tt)) (turn_of R s' (first s')))
        go true = λ z. refl
        go false = act_follows (first s) (turn_choice R s (first s))

  follows : (s s' : State C) → Alike E s s' → Follow (next R s) (next R s')
  follows s s' a = rw a.same (turn_follows s s'.table a.entries a.even)

  -- the same turns, and states that differ in the table alone
  pub run_alike : (n : ℕ) (s s' : State C) → Alike E s s' → (x : Stop) → Shared E x
      → next R (run (next R) n [] s).state ≡ stops x
      → Same (Alike E) (next R) (run (next R) n [] s) (run (next R) n [] s') x
  run_alike n s s' a x p e = run_follows (Alike E) (Shared E) (next R) follows n [] [] refl s s' a x p e

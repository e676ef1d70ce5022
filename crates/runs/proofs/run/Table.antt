-- What a run keeps of its interval table: it is sound after every turn, so each used place holds a key of its own, and
-- refusal 8 counts keys; and its two lists keep their lengths.
--   run_tables              what each entry keeps of a table holds after any number of turns
--   end_sound, end_lengths  of the table that a run comes to
use mathlib.Core.Bool.{Bool, true, false, cond}
use mathlib.Core.List.{List, [], ◌∷◌}
use mathlib.Core.Path.{◌≡◌, refl, ◌∙◌}
use Prim.Native.Nat.{ℕ}
use lib.Dec.{eqb}
use lib.ListN.{length, length-set, length-replicate}
use lib.Ieee.{Float}
use Rattle.float32.specs.Numbers.{0ᶠ}
use Rattle.turns.specs.Turns.{Turn, put_off}
use Rattle.turns.specs.Run.{Next, takes, stops, run}
use Rattle.turns.proofs.Loop.{Keeps, run_keeps}
use Rattle.cards.specs.declared.choice.Choice.{Choice}
use Rattle.cards.specs.declared.choice.Choice.TheVariants as choice
use Rattle.cards.specs.Day.{is_new}
use Rattle.days.specs.Due.{none_due}
use Rattle.events.specs.declared.Memory.{Memory}
use Rattle.std.specs.Prelude.{Option, Some, None}
use Rattle.intervals.specs.declared.Slot.{Slot}
use Rattle.intervals.specs.declared.Slot.TheVariants as slot
use Rattle.intervals.specs.Schedule.{entered}
use Rattle.intervals.proofs.Emptied.{clear_sound}
use Rattle.intervals.specs.Table.{Table, Sound}
use Rattle.events.specs.Drawn.{Drawn}
use Rattle.entry.specs.declared.RunRefusal.TheVariants as refusal
use Rattle.runs.specs.Turn.{Stop}
use Rattle.runs.specs.Turn.{first, turn_choice}
use Rattle.runs.specs.declared.First.{First}
use Rattle.std.specs.Prelude.{Ok}
use Rattle.runs.specs.State.{State}
use Rattle.runs.specs.Rules.{Rules}
use Rattle.entry.specs.Entry.{Inputs}
use Rattle.runs.specs.SetUp.{set_up}
use Rattle.runs.specs.Simulate.{fuel, run_from}
use Rattle.runs.specs.Demands.{start_of, end_of}
use Rattle.runs.specs.Turn.{refuses, turn_as, after_put_off, after_retire, after_event, event_with_slot, event_with_draw, event_on, act, turn_of, next}
use Rattle.runs.proofs.turn.Slots.{Slots}

module _ {C : Type 0} (R : Rules C) (J : Table → Type 0)
    (law : (t : Table) → J t → (stability retention : Float) → J (entered t (R.model.slot t stability retention)))
  where
    -- what a turn leaves of the table
    abbrev After : Next (Turn Drawn) (State C) Stop → Type 0
    After = Keeps (λ s. J s.table)

    module _ (s : State C) (ok : J s.table) where
      given : (f : First) (new : Bool) (y : Memory) (x : Slot) → J (entered s.table x)
          → After (event_with_slot R s f new y x)
      unfolding after_event
      given f new y slot.Full h = tt
      given f new y (slot.Keep v) h = h
      given f new y (slot.Enter p a b v) h = h

      event_after : (f : First) (new : Bool) → After (event_on R s f new)
      unfolding event_on
      event_after f new = go (R.model.event R.draw f.card new f.day s.draws)
        where
          go : (e : Option Memory) → After (event_with_draw R s f new e)
          go None = tt
          go (Some y) =
              let r = f.card.desired_retention in
              given f new y (R.model.slot s.table y.stability r) (law s.table ok y.stability r)

      act-after : (f : First) (x : Choice) → After (act R s f x)
      unfolding after_retire after_put_off
      act-after f choice.Retire = ok
      act-after f choice.PutOff = go (none_due s.due (is_new f.card.last_date) f.day)
        where
          go : (b : Bool) → After
              (cond b (refuses (refusal.DueCount f.place)) (takes (turn_as f put_off) (after_put_off R s f)))
          go true = tt
          go false = ok
      act-after f choice.Learn = event_after f true
      act-after f choice.Review = event_after f false

      turn-after : After (next R s)
      unfolding next
      turn-after = go (eqb s.queue.len 0)
        where
          go : (b : Bool) → After (cond b (stops (Ok tt)) (turn_of R s (first s)))
          go true = tt
          go false = act-after (first s) (turn_choice R s (first s))

    -- after any number of turns
    pub run_tables : (n : ℕ) (ts : List (Turn Drawn)) (s : State C) → J s.table
        → J (run (next R) n ts s).state.table
    run_tables = run_keeps (next R) (λ s. J s.table) turn-after

-- the table that a run comes to, from its emptied one
pub end_sound : {C : Type 0} (R : Rules C) → Slots R.model → (i : Inputs) (s : State C) → Sound (end_of R i s).table
unfolding run_from set_up
end_sound R laws i s = run_tables R Sound laws.sound (fuel R (start_of R i s)) [] (start_of R i s)
    (clear_sound s.table)

-- both lists are as long as those of a table
abbrev AsLong : Table → Table → Type 0
AsLong t t' = (length t'.keys ≡ length t.keys) × (length t'.intervals ≡ length t.intervals)

entered-long : (t t' : Table) (x : Slot) → AsLong t t' → AsLong t (entered t' x)
entered-long t t' (slot.Keep v) h = h
entered-long t t' (slot.Enter p a b v) h = (
  length-set t'.keys p (a ∷ b ∷ []) ∙ h.0,
  length-set t'.intervals p
      v ∙ h.1,
)
entered-long t t' slot.Full h = h

pub end_lengths : {C : Type 0} (R : Rules C) (i : Inputs) (s : State C) → AsLong s.table (end_of R i s).table
unfolding run_from set_up
end_lengths R i s =
    run_tables R (AsLong s.table) (λ t h stability retention. entered-long s.table t (R.model.slot t stability
    retention) h)
    (fuel R (start_of R i s)) [] (start_of R i s) (refl, length-replicate (length s.table.intervals) 0ᶠ)

-- When the next turn stops the run, and how.
--   event_full, event_taken   an event where the table is full, and where it is not
--   stops_iff                 it stops by x exactly on the `StopCondition` of x, in any state
use mathlib.Core.Path.{◌≡◌, refl, sym, ap, ◌∙◌}
use mathlib.Core.Bool.{Bool, true, false, cond, true≢false, false≢true}
use mathlib.Core.Logic.{◌↔◌}
use mathlib.Core.Option.{none}
use Prim.Native.Nat.{ℕ, ◌<◌}
use native.Mathlib.Omega.{arith}
use borrow.Author.Tests.{eq-eqb, ne_eqb, eqb-true, eqb-false}
use lib.Dec.{eqb}
use lib.Ieee.{Float}
use Rattle.turns.specs.Turns.{Turn, put_off}
use Rattle.turns.specs.Run.{Next, takes, stops}
use Rattle.draws.specs.Draws.{DrawRule, recalled}
use Rattle.cards.specs.declared.card.Card.{Card}
use Rattle.cards.specs.declared.configuration.SimulatorConfig.{SimulatorConfig}
use Rattle.cards.specs.declared.choice.Choice.{Choice}
use Rattle.cards.specs.declared.choice.Choice.TheVariants as choice
use Rattle.cards.specs.Day.{is_new}
use Rattle.days.specs.Due.{none_due}
use Rattle.events.specs.declared.Memory.{Memory}
use Rattle.std.specs.Prelude.{Option, Some, None}
use Rattle.events.specs.Scalars.{Scalars}
use Rattle.events.specs.Drawn.{Drawn}
use Rattle.events.specs.Events.{chance_ok, chance_on, learning, success, lapse, reviewing, event_at, event_of}
use Rattle.intervals.specs.declared.Slot.{Slot}
use Rattle.intervals.specs.declared.Slot.TheVariants as slot
use Rattle.intervals.specs.Schedule.{is_full}
use Rattle.intervals.specs.Bucket.{stability_bucket, retention_bucket}
use Rattle.intervals.specs.Table.{places, held_in, count_in}
use Rattle.intervals.proofs.Schedule.{slot_full_iff}
use Rattle.entry.specs.declared.RunRefusal.TheVariants as refusal
use Rattle.runs.specs.Turn.{Stop}
use Rattle.runs.specs.Turn.{first}
use Rattle.runs.specs.declared.First.{First}
use Rattle.std.specs.Prelude.{Ok, Err}
use Rattle.runs.specs.State.{State}
use Rattle.runs.specs.Rules.{Rules, rules_with}
use Rattle.runs.specs.Turn.{refuses, turn_as, event_turn, after_put_off, after_event, event_with_slot, event_with_draw, event_on, act, turn_of, next}
use Rattle.runs.specs.RunRefusals.{chosen, event_choice, ChanceRefused, TableRefused, DueRefused, StopCondition}
use Rattle.turns.proofs.Logic.{not-one}

module _ {C : Type 0} (R : Rules C) (s : State C) (f : First) (new : Bool) (y : Memory) where
  pub event_full : (t : Slot) → is_full t ≡ true → event_with_slot R s f new y t ≡ refuses (refusal.TableFull f.place)
  event_full (slot.Keep v) e = absurd (false≢true e)
  event_full (slot.Enter p a b v) e = absurd (false≢true e)
  event_full slot.Full e = refl

  pub event_taken : (t : Slot) → is_full t ≡ false
      → event_with_slot R s f new y t ≡ takes (event_turn R s f new y) (after_event R s f new y t)
  event_taken (slot.Keep v) e = refl
  event_taken (slot.Enter p a b v) e = refl
  event_taken slot.Full e = absurd (true≢false e)

happened_not : (y : Memory) → Some y ≡ None → ⊥
happened_not y e = not-one cc

-- an event of FSRS-7 is refused exactly where it is a review at a chance that is not 0 to 1
module _ (w : DrawRule) (g : SimulatorConfig) (x : Scalars) (k : Card) (d state : ℕ) where
  refused-chance : (new : Bool) → event_of w g x k new d state ≡ None
      → (new ≡ false) × (chance_ok (chance_on x k d) ≡ false)
  unfolding event_of event_at reviewing
  refused-chance true e = absurd (happened_not (learning w g x state) e)
  refused-chance false e = (refl, go (chance_ok (chance_on x k d)) (recalled (chance_on x k d) (w.word state)) e)
    where
      go : (ok recall : Bool)
          → cond ok (Some (cond recall (success w g x k (chance_on x k d) (w.after state))
          (lapse w g x k (chance_on x k d) (w.after state)))) None
          ≡ None → ok ≡ false
      go false recall z = refl
      go true recall z = absurd (happened_not _ z)

  chance-refused : chance_ok (chance_on x k d) ≡ false → event_of w g x k false d state ≡ None
  unfolding event_of event_at reviewing
  chance-refused e = rw e

module _ (w : DrawRule) (g : SimulatorConfig) (x : Scalars) (s : State Float) where
  abbrev R : Rules Float
  R = rules_with w g x

  abbrev f : First
  f = first s

  abbrev k : Card
  k = f.card

  abbrev d : ℕ
  d = f.day

  -- what a stop of the next turn tells
  abbrev Tells : Next (Turn Drawn) (State Float) Stop → Type 0
  Tells (takes t s') = Unit {0}
  Tells (stops y) = StopCondition R s y

  slot_full : (y : Float) (z : Float)
      → (is_full (R.model.slot s.table y z) ≡ true) ↔
      ((held_in s.table (stability_bucket y) (retention_bucket z) ≡ none) × (count_in s.table ≡ places s.table))
  slot_full y z = slot_full_iff s.table (stability_bucket y) (retention_bucket z) _ _

  module _ (some : 0 < s.queue.len) where
    slot_tells : (new : Bool) (y : Memory) (t : Slot) → chosen R s ≡ event_choice new
        → R.model.event R.draw k new d s.draws ≡ Some y
        → t ≡ R.model.slot s.table y.stability k.desired_retention
        → Tells (event_with_slot R s f new y t)
    slot_tells new y (slot.Keep v) e h q = tt
    slot_tells new y (slot.Enter p a b v) e h q = tt
    slot_tells new y slot.Full e h q =
        let z = (slot_full y.stability k.desired_retention).0 (ap is_full (sym q)) in
        record {
          queued = some;
          is_first = refl;
          new = new;
          event_chosen = e;
          memory = y;
          happens = h;
          new-key = z.0;
          full = z.1;
        }

    event_tells : (new : Bool) → chosen R s ≡ event_choice new → Tells (event_on R s f new)
    unfolding event_on
    event_tells new e = go (R.model.event R.draw k new d s.draws) refl
      where
        go : (z : Option Memory) → R.model.event R.draw k new d s.draws ≡ z → Tells (event_with_draw R s f new z)
        go (Some y) q = slot_tells new y _ e q refl
        go None q =
            let h = refused-chance w g x k d s.draws new q in
            unfold chance_on in (record {
              queued = some;
              is_first = refl;
              review = e ∙ ap event_choice h.0;
              chance = h.1;
            })

    act_tells : (z : Choice) → chosen R s ≡ z → Tells (act R s f z)
    act_tells choice.Retire e = tt
    act_tells choice.PutOff e = go (none_due s.due (is_new k.last_date) d) refl
      where
        go : (b : Bool) → none_due s.due (is_new k.last_date) d ≡ b
            → Tells (cond b (refuses (refusal.DueCount f.place)) (takes (turn_as f put_off) (after_put_off R s f)))
        go true q = record { queued = some; is_first = refl; put_off = e; is_none_due = q }
        go false q = tt
    act_tells choice.Learn e = event_tells true e
    act_tells choice.Review e = event_tells false e

  tells : Tells (next R s)
  unfolding next
  tells = go (eqb s.queue.len 0) refl
    where
      go : (b : Bool) → eqb s.queue.len 0 ≡ b → Tells (cond b (stops (Ok tt)) (turn_of R s f))
      go true e = eqb-true s.queue.len 0 e
      go false e = let ne = eqb-false s.queue.len 0 e in act_tells (omega (arith, ne)) (chosen R s) refl

  -- ---- and the other way round
  turn_is : (z : Choice) → 0 < s.queue.len → chosen R s ≡ z → next R s ≡ act R s f z
  unfolding next
  turn_is z h e = rw (ne_eqb s.queue.len 0 (omega (arith, h)), e)

  end_meets : s.queue.len ≡ 0 → next R s ≡ stops (Ok tt)
  unfolding next
  end_meets h = rw (eq-eqb s.queue.len 0 h)

  due_meets : (c' : ℕ) → DueRefused R s c' → next R s ≡ refuses (refusal.DueCount c')
  due_meets c' h = turn_is choice.PutOff h.queued h.put_off ∙ rw (h.is_none_due, h.is_first)

  chance_meets : (c' : ℕ) → ChanceRefused R s c' → next R s ≡ refuses (refusal.ChanceOutOfRange c')
  unfolding event_on chance_on
  chance_meets c' h = turn_is choice.Review h.queued h.review
      ∙ rw (chance-refused w g x k d s.draws h.chance, h.is_first)

  table_meets : (c' : ℕ) → TableRefused R s c' → next R s ≡ refuses (refusal.TableFull c')
  unfolding event_on
  table_meets c' h =
      let z = (slot_full h.memory.stability k.desired_retention).1 (h.new-key, h.full) in
      let full : event_on R s f h.new
      ≡ refuses (refusal.TableFull f.place) = rw h.happens
      (event_full R s f h.new h.memory
      (R.model.slot s.table h.memory.stability k.desired_retention) z) in
      turn_is (event_choice h.new) h.queued h.event_chosen ∙ acts h.new ∙ full
      ∙ ap (λ (z : ℕ). refuses (refusal.TableFull z)) (sym h.is_first)
    where
      acts : (new : Bool) → act R s f (event_choice new) ≡ event_on R s f new
      acts true = refl
      acts false = refl

  meets : (y : Stop) → StopCondition R s y → next R s ≡ stops y
  meets (Ok x) h = end_meets h
  meets (Err (refusal.ChanceOutOfRange c')) h = chance_meets c' h
  meets (Err (refusal.TableFull c')) h = table_meets c' h
  meets (Err (refusal.DueCount c')) h = due_meets c' h

  pub stops_iff : (y : Stop) → (next R s ≡ stops y) ↔ StopCondition R s y
  stops_iff y = (λ e. rw e at tells, meets y)

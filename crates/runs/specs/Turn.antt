-- THE TURN RULE (docs/RULES.md, T3 to T7) as one definition, `next`, over any rules of a run. Definitions only.
--   Stop                                          how a run stops
--   card_after_put_off, card_after_event          the card after a turn
--   add_forgetting_curve                          what is memorized of a card up to a day
--   first s                                       the card that has the turn
--   after_retire, after_put_off, after_event      the state after a turn
--   event_on, act                                 what a turn does: an event, by a choice
--   turn_choice R s f                             what the limits let the card f do
--   next R s                                      the next turn, or the stop
use Rattle.std.specs.Prelude.{ℕ, ◌-◌, Bool, true, false, cond, List, eqb, pos, Float, Result, Ok, Err, Option, Some, None}
use Rattle.std.specs.Float.{binary32}
use Rattle.std.specs.Float.Ieee.{add, of_int, to_unsigned}
use Rattle.turns.specs.Turns.{Kind, put_off, retire, Turn}
use Rattle.turns.specs.Run.{Next, takes, stops}
use Rattle.cards.specs.declared.card.Card.{Card}
use Rattle.cards.specs.declared.choice.Choice.{Choice}
use Rattle.cards.specs.declared.choice.Choice.TheVariants as choice
use Rattle.cards.specs.Day.{day_of, next_due, is_new}
use Rattle.cards.specs.Cards.{write_floats, write_counts}
use Rattle.cards.specs.Choices.{today, choice_of}
use Rattle.days.specs.Counts.{saturating_suc, learned_at, reviewed_at, add_event}
use Rattle.days.specs.Sums.{cost_at, add_cost, add_forgetting_curve_range}
use Rattle.days.specs.Due.{add_due, move_due, none_due}
use Rattle.events.specs.declared.Memory.{Memory}
use Rattle.events.specs.Drawn.{Drawn, kind_as}
use Rattle.queue.specs.Queue.{front, front_changed, popped}
use Rattle.intervals.specs.declared.Slot.{Slot}
use Rattle.intervals.specs.declared.Slot.TheVariants as slot
use Rattle.intervals.specs.Schedule.{interval_of, entered}
use Rattle.entry.specs.declared.RunRefusal.{RunRefusal}
use Rattle.entry.specs.declared.RunRefusal.TheVariants as refusal
use Rattle.runs.specs.declared.First.{First}
use Rattle.runs.specs.State.{State, card_in, key_of, with_cards, with_queue, with_memorized, with_due}
use Rattle.runs.specs.Model.{Model}
use Rattle.runs.specs.Rules.{Rules}

-- how a run stops: at its end, or refused
abbrev pub Stop : Type 0
Stop = Result (Unit {0}) RunRefusal

-- a turn that is refused
abbrev pub refuses : {S : Type 0} → RunRefusal → Next (Turn Drawn) S Stop
refuses r = stops (Err r)

-- a card put off from a day
unfoldable pub card_after_put_off : Card → ℕ → Card
card_after_put_off card day = record card { due = next_due day }

-- a card after an event on a day that gives it an interval: a review that was not recalled is a lapse
unfoldable pub card_after_event : Card → Bool → Memory → ℕ → Float → Card
card_after_event card new memory day interval = record {
  difficulty = memory.difficulty;
  stability = memory.stability;
  last_date = of_int binary32 (pos day);
  due = add binary32 (of_int binary32 (pos day)) interval;
  interval = interval;
  desired_retention = card.desired_retention;
  reps = saturating_suc card.reps;
  lapses = cond new card.lapses (cond memory.recalled card.lapses (saturating_suc card.lapses));
}

-- what is memorized, with a card's chances from its last date up to a day, which is left out; a new card has none
unfoldable pub add_forgetting_curve : Model → List Float → Card → ℕ → List Float
add_forgetting_curve model memorized card to =
    cond (is_new card.last_date) memorized
    (let from = to_unsigned 32 card.last_date in
    add_forgetting_curve_range (λ t. model.chance t card.stability) memorized (to - from) from card.last_date)

-- the card at a place has the turn, on a day
abbrev pub first_at : ℕ → Card → ℕ → First
first_at place card day = record { place = place; card = card; day = day }

abbrev pub turn_as : First → Kind Drawn → Turn Drawn
turn_as f kind = record { card = f.place; day = f.day; kind = kind }

-- the queue's first card has the turn, on its day
abbrev pub first : {C : Type 0} → State C → First
first s = let place = front s.queue in let card = card_in s place in first_at place card (day_of card.due)

-- ---- what the turn of f does, the queue's first card

module _ {C : Type 0} (R : Rules C) where
  -- f leaves the queue, memorized to the span's end
  unfoldable pub after_retire : State C → First → State C
  after_retire s f = with_queue (popped s.queue)
      (with_memorized (add_forgetting_curve R.model s.memorized f.card R.span) s)

  -- f goes to the next day
  unfoldable pub after_put_off : State C → First → State C
  after_put_off s f =
      let later = card_after_put_off f.card f.day in
      with_cards (write_floats s.cards f.place later)
      (with_queue (front_changed s.queue (key_of later))
      (with_due (move_due R.span s.due (is_new f.card.last_date) f.day) s))

  -- the turn of f's event, with the ratings that are drawn
  abbrev pub event_turn : State C → First → Bool → Memory → Turn Drawn
  event_turn s f new memory =
      turn_as f (kind_as new memory.recalled (R.model.ratings R.draw f.card new f.day s.draws))

  -- f has an event, which leaves a memory and the interval of a slot
  unfoldable pub after_event : State C → First → Bool → Memory → Slot → State C
  after_event s f new memory slot =
      let later = card_after_event f.card new memory f.day (interval_of slot) in
      record {
        cards = write_floats s.cards f.place later;
        counts = write_counts s.counts f.place later;
        queue = front_changed s.queue (key_of later);
        days = add_event R.span s.days new f.day memory.recalled;
        costs = add_cost R.costs.none R.costs.plus s.costs f.day (R.costs.cost (event_turn s f new memory));
        memorized = add_forgetting_curve R.model s.memorized f.card f.day;
        due = add_due R.span s.due (day_of later.due);
        table = entered s.table slot;
        draws = memory.draws;
      }

  abbrev pub event_with_slot : State C → First → Bool → Memory → Slot → Next (Turn Drawn) (State C) Stop
  event_with_slot s f new memory (slot.Keep v) =
      takes (event_turn s f new memory) (after_event s f new memory (slot.Keep v))
  event_with_slot s f new memory (slot.Enter p a b v) =
      takes (event_turn s f new memory) (after_event s f new memory (slot.Enter p a b v))
  event_with_slot s f new memory slot.Full = refuses (refusal.TableFull f.place)

  abbrev pub event_with_draw : State C → First → Bool → Option Memory → Next (Turn Drawn) (State C) Stop
  event_with_draw s f new (Some memory) = event_with_slot s f new memory
      (R.model.slot s.table memory.stability f.card.desired_retention)
  event_with_draw s f new None = refuses (refusal.ChanceOutOfRange f.place)

  unfoldable pub event_on : State C → First → Bool → Next (Turn Drawn) (State C) Stop
  event_on s f new = event_with_draw s f new (R.model.event R.draw f.card new f.day s.draws)

  abbrev pub act : State C → First → Choice → Next (Turn Drawn) (State C) Stop
  act s f choice.Retire = takes (turn_as f retire) (after_retire s f)
  act s f choice.PutOff = cond (none_due s.due (is_new f.card.last_date) f.day) (refuses (refusal.DueCount f.place))
      (takes (turn_as f put_off) (after_put_off s f))
  act s f choice.Learn = event_on s f true
  act s f choice.Review = event_on s f false

  -- what the limits, and the counts and the cost of its day so far, let f do
  abbrev pub turn_choice : State C → First → Choice
  turn_choice s f = choice_of R.span R.lapse_limit R.limits f.day f.card
      (today (learned_at s.days f.day) (reviewed_at s.days f.day) (cost_at R.costs.none s.costs f.day))

  abbrev pub turn_of : State C → First → Next (Turn Drawn) (State C) Stop
  turn_of s f = act s f (turn_choice s f)

  -- a turn is of the queue's first card; the run ends when the queue is empty
  unfoldable pub next : State C → Next (Turn Drawn) (State C) Stop
  next s = cond (eqb s.queue.len 0) (stops (Ok tt)) (turn_of s (first s))

-- What each step's calls leave, put together over plain lists.
--   none_is                            what is none of its values is none
--   chance_is, full_is, handled_is     what an event leaves: at refusal 7, at refusal 8, and else
--   put_off-refused, put_off_done      a putting off, refused and done
--   retired_is                         a retirement
--   ended_is                           a turn of an empty queue
--   acted_is, event_is                 a turn of each choice
use mathlib.Core.Path.{◌≡◌, refl, sym, ap, ◌∙◌}
use mathlib.Core.Bool.{Bool, true, false}
use mathlib.Core.List.{List}
use mathlib.Core.Logic.{◌≢◌, ◌⊎◌, inl, inr}
use borrow.Author.Tests.{eq-eqb, ne_eqb}
use Prim.Native.Nat.{ℕ}
use lib.Ieee.{Float}
use Rattle.std.specs.Prelude.{Result, Ok, Err, Option, Some, None}
use Rattle.cards.specs.declared.card.Card.{Card}
use Rattle.cards.specs.declared.choice.Choice.{Choice}
use Rattle.cards.specs.declared.choice.Choice.TheVariants as choice
use Rattle.cards.specs.Day.{day_of, is_new}
use Rattle.cards.specs.Cards.{write_floats, write_counts}
use Rattle.cards.specs.Choices.{retires, blocked, choose, today, choice_of}
use Rattle.days.specs.Counts.{learned_at, reviewed_at, add_event}
use Rattle.days.specs.Sums.{cost_at, add_cost}
use Rattle.days.specs.Due.{add_due, move_due, none_due}
use Rattle.events.specs.declared.Memory.{Memory}
use Rattle.queue.specs.Queue.{queue, front_changed, popped}
use Rattle.intervals.specs.declared.Slot.{Slot}
use Rattle.intervals.specs.Table.{Table, table}
use Rattle.intervals.specs.Schedule.{is_full, interval_of, entered}
use Rattle.entry.specs.declared.RunRefusal.{RunRefusal}
use Rattle.entry.specs.declared.RunRefusal.TheVariants as refusal
use Rattle.runs.specs.declared.Place.{Place}
use Rattle.runs.specs.State.{State, Lent, lent, state, key_of}
use Rattle.runs.specs.Rules.{Rules}
use Rattle.runs.specs.Turn.{event_turn, card_after_put_off, card_after_event, add_forgetting_curve}
use Rattle.runs.specs.Turn.{after_retire, after_put_off, after_event, event_with_slot, event_on, act, next}
use Rattle.runs.specs.Turn.{first, turn_choice}
use Rattle.runs.specs.declared.First.{First}
use Rattle.turn.specs.Steps.{TurnContract}
use Rattle.runs.proofs.turn.Stops.{event_full, event_taken}
use Rattle.runs.proofs.Lent.{same_lists}
use Rattle.turns.proofs.Logic.{not-one}

-- what is none of its values is none
pub none_is : (o : Option Memory) → ((x : Memory) → o ≡ Some x → ⊥) → o ≡ None
none_is (Some x) h = absurd (h x refl)
none_is None h = refl

module _ (R : Rules Float) (l : Lent Float) (len draws : ℕ) where
  abbrev st : State Float
  st = state l len draws

  -- ---- an event
  module _ (f : First) (new : Bool) where
    pub chance_is : R.model.event R.draw f.card new f.day draws ≡ None
        → TurnContract (event_on R st f new) st (Err (refusal.ChanceOutOfRange f.place)) l
    unfolding event_on
    chance_is e = rw e (record { outcome = refl; lists = refl })

    module _ (x : Memory) (e : R.model.event R.draw f.card new f.day draws ≡ Some x)
        (t : Slot) (z : t ≡ R.model.slot (table l.keys l.intervals) x.stability f.card.desired_retention) where
      handles : event_on R st f new ≡ event_with_slot R st f new x t
      unfolding event_on
      handles = rw (e, z)

      pub full_is : is_full t ≡ true → TurnContract (event_on R st f new) st (Err (refusal.TableFull f.place)) l
      full_is y = rw (handles ∙ event_full R st f new x t y) (record { outcome = refl; lists = refl })

      -- ---- the lists that an event writes, all nine
      pub handled_is : is_full t ≡ false
          → (v : Float) → v ≡ interval_of t
          → (k' : Card) → k' ≡ card_after_event f.card new x f.day v
          → (l' : Lent Float)
          → l'.cards ≡ write_floats l.cards f.place k'
          → l'.counts ≡ write_counts l.counts f.place k'
          → queue l'.queue_rows len ≡ front_changed (queue l.queue_rows len) (key_of k')
          → l'.days ≡ add_event R.span l.days new f.day x.recalled
          → l'.costs ≡ add_cost R.costs.none R.costs.plus l.costs f.day x.cost
          → l'.memorized ≡ add_forgetting_curve R.model l.memorized f.card f.day
          → l'.due ≡ add_due R.span l.due (day_of k'.due)
          → table l'.keys l'.intervals ≡ entered (table l.keys l.intervals) t
          → x.cost ≡ R.costs.cost (event_turn R st f new x)
          → TurnContract (event_on R st f new) st (Ok (Some (record { queued = len; draws = x.draws }))) l'
      unfolding after_event
      handled_is y v ev k' ek l' cards counts rows days costs memorized due entered cost =
          let kk : card_after_event f.card new x f.day (interval_of t)
          ≡ k' = sym (ek ∙ ap (λ (w : Float). card_after_event f.card new x f.day w) ev) in
          rw (handles ∙ event_taken R st f new x t y)
          (rw (kk, sym rows)
          (record {
            outcome = refl;
            lists = same_lists (record {
              cards_are = cards;
              counts_are = counts;
              rows_are = refl;
              days_are = days;
              costs_are = costs ∙ ap (add_cost R.costs.none R.costs.plus l.costs f.day) cost;
              memorized_are = memorized;
              due_are = due;
              keys_are = ap (λ (z : Table). z.keys) entered;
              intervals_are = ap (λ (z : Table). z.intervals) entered;
            });
          }))

  -- ---- a putting off
  module _ (f : First) where
    pub put_off-refused : none_due l.due (is_new f.card.last_date) f.day ≡ true
        → TurnContract (act R st f choice.PutOff) st (Err (refusal.DueCount f.place)) l
    put_off-refused e = rw e (record { outcome = refl; lists = refl })

    pub put_off_done : none_due l.due (is_new f.card.last_date) f.day ≡ false
        → (cards' : List (List Float)) (rows' : List (List ℕ)) (due' : List ℕ)
        → cards' ≡ write_floats l.cards f.place (card_after_put_off f.card f.day)
        → queue rows' len ≡ front_changed (queue l.queue_rows len) (key_of (card_after_put_off f.card f.day))
        → due' ≡ move_due R.span l.due (is_new f.card.last_date) f.day
        → TurnContract (act R st f choice.PutOff) st (Ok (Some (record { queued = len; draws = draws })))
        (lent cards' l.counts rows' l.days l.costs l.memorized due' l.keys l.intervals)
    unfolding after_put_off
    put_off_done e cards' rows' due' cards rows due =
        rw e (rw (sym rows) (record { outcome = refl; lists = rw (cards, due) }))

    -- ---- a retirement
    pub retired_is : (memorized' : List Float) (rows' : List (List ℕ)) (len' : ℕ)
        → memorized' ≡ add_forgetting_curve R.model l.memorized f.card R.span
        → queue rows' len' ≡ popped (queue l.queue_rows len)
        → TurnContract (act R st f choice.Retire) st (Ok (Some (record { queued = len'; draws = draws })))
        (lent l.cards l.counts rows' l.days l.costs memorized' l.due l.keys l.intervals)
    unfolding after_retire
    retired_is memorized' rows' len' memorized rows =
        rw (sym rows) (record { outcome = refl; lists = rw memorized })

  -- ---- the turn
  pub ended_is : len ≡ 0 → TurnContract (next R st) st (Ok None) l
  unfolding next
  ended_is e = rw (eq-eqb len 0 e) (record { outcome = refl; lists = refl })

  module _ (ne : len ≢ 0) (f : First) (ch : Choice) (ef : f ≡ first st) (eh : ch ≡ turn_choice R st f) where
    next_is : next R st ≡ act R st f ch
    unfolding next
    next_is = rw (ne_eqb len 0 ne, eh, ef)

    pub acted_is : {o : Result (Option Place) RunRefusal} {l' : Lent Float} (y : Choice) → ch ≡ y
        → TurnContract (act R st f y) st o l' → TurnContract (next R st) st o l'
    acted_is y e p = rw (next_is ∙ ap (act R st f) e) p

    -- what is learned or reviewed is so by whether it is new
    event_by : (a b n : Bool) → (choose a b n ≡ choice.Learn) ⊎ (choose a b n ≡ choice.Review)
        → act R st f (choose a b n) ≡ event_on R st f n
    event_by true b n (inl e) = absurd (not-one cc)
    event_by true b n (inr e) = absurd (not-one cc)
    event_by false true n (inl e) = absurd (not-one cc)
    event_by false true n (inr e) = absurd (not-one cc)
    event_by false false true h = refl
    event_by false false false h = refl

    pub event_is : {o : Result (Option Place) RunRefusal} {l' : Lent Float}
        → (ch ≡ choice.Learn) ⊎ (ch ≡ choice.Review)
        → TurnContract (event_on R st f (is_new f.card.last_date)) st o l' → TurnContract (next R st) st o l'
    unfolding choice_of
    event_is h p =
        let k = f.card in
        let d = f.day in
        let n = is_new k.last_date in
        let a = retires R.span R.lapse_limit k in
        let b = blocked R.limits d n
        (today (learned_at l.days d) (reviewed_at l.days d) (cost_at R.costs.none l.costs d)) in
        rw (next_is ∙ ap (act R st f) eh ∙ event_by a b n (rw eh at h)) p

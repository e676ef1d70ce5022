-- A turn in longer lists: it does in the first places what it does in lists of just these, and leaves the places behind
-- them as they are.
--   Exact cards span s    the lists of s have just the places that a run of so many cards and days needs
--   framed                the next turn of `extended s b` is that of s, with b behind, and stays exact
use mathlib.Core.Path.{◌≡◌, refl, ap, ◌∙◌}
use mathlib.Core.Bool.{Bool, true, false, cond}
use mathlib.Core.List.{List, [], ◌++◌}
use Prim.Native.Nat.{ℕ, ◌-◌, ◌≤◌, ◌<◌}
use native.Mathlib.Omega.{arith}
use borrow.Author.Tests.{eqb-false}
use lib.Dec.{eqb}
use lib.ListN.{length, length-set, get_or-append}
use lib.Seq.{set-append_left}
use lib.Ieee.{Float, to_unsigned}
use Rattle.turns.specs.Turns.{Turn, put_off, retire}
use Rattle.turns.specs.Run.{Next, takes, stops}
use Rattle.cards.specs.declared.card.Card.{Card}
use Rattle.cards.specs.declared.choice.Choice.{Choice}
use Rattle.cards.specs.declared.choice.Choice.TheVariants as choice
use Rattle.cards.specs.Day.{day_of, is_new}
use Rattle.cards.specs.Cards.{no_floats, no_counts, card_at, floats_of, counts_of, write_floats, write_counts}
use Rattle.cards.specs.Choices.{retires, choice_of}
use Rattle.days.specs.Sums.{add_forgetting_curve_range}
use Rattle.days.specs.Due.{due_days, none_due}
use Rattle.days.proofs.Laws.{cost_long}
use Rattle.days.proofs.Frame.{event_own, event_long, cost_own, range_own, range_long, add_due-own, move_due-own}
use Rattle.days.proofs.Due.{add-long, move_long}
use Rattle.events.specs.declared.Memory.{Memory}
use Rattle.std.specs.Prelude.{Option, Some, None}
use Rattle.events.specs.Drawn.{Drawn}
use Rattle.queue.specs.Queue.{front}
use Rattle.queue.proofs.Frame.{front-widened, popped-widened, popped-long, popped_less, changed_widened, changed_long}
use Rattle.queue.proofs.Frame.{changed_same}
use Rattle.intervals.specs.declared.Slot.{Slot}
use Rattle.intervals.specs.declared.Slot.TheVariants as slot
use Rattle.intervals.specs.Schedule.{interval_of}
use Rattle.entry.specs.declared.RunRefusal.TheVariants as refusal
use Rattle.runs.specs.Turn.{Stop}
use Rattle.runs.specs.Turn.{first, turn_choice}
use Rattle.runs.specs.declared.First.{First}
use Rattle.std.specs.Prelude.{Ok}
use Rattle.runs.specs.State.{State, Lent, card_in, key_of}
use Rattle.runs.specs.Model.{Model}
use Rattle.runs.specs.Rules.{Rules}
use Rattle.runs.specs.Turn.{refuses, turn_as, card_after_put_off, card_after_event, add_forgetting_curve, event_turn, after_retire, after_put_off, after_event, event_with_slot, event_with_draw, event_on, act, turn_of, next}
use Rattle.runs.specs.Invariant.{RunBounds, StateInvariant}
use Rattle.runs.specs.Frame.{extended}
use Rattle.runs.proofs.turn.Invariant.{is_card, in_span}

pub record Exact {C : Type 0} (cards span : ℕ) (s : State C) : Type 0 where
  pub cards_are : length s.cards ≡ cards
  pub counts_are : length s.counts ≡ cards
  pub rows_are : length s.queue.rows ≡ cards
  pub days_are : length s.days ≡ span
  pub costs_are : length s.costs ≡ span
  pub memorized_are : length s.memorized ≡ span
  pub due_are : length s.due ≡ due_days span
  pub queued : s.queue.len ≤ cards

-- the forgetting curve of a card, up to a day within the list
module _ (m : Model) (a : List Float) (k : Card) (e : ℕ) where
  abbrev from : ℕ
  from = to_unsigned 32 k.last_date

  abbrev on : List Float → List Float
  on l = add_forgetting_curve_range (λ t. m.chance t k.stability) l (e - from) from k.last_date

  curve-own : (b : List Float) → e ≤ length a → add_forgetting_curve m (a ++ b) k e ≡ add_forgetting_curve m a k e ++ b
  unfolding add_forgetting_curve
  curve-own b h = go (is_new k.last_date)
      (range_own (λ t. m.chance t k.stability) k.last_date a b (e - from) from (λ z. omega (arith, h, z)))
    where
      go : (t : Bool) → on (a ++ b) ≡ on a ++ b → cond t (a ++ b) (on (a ++ b)) ≡ cond t a (on a) ++ b
      go true q = refl
      go false q = q

  curve-long : length (add_forgetting_curve m a k e) ≡ length a
  unfolding add_forgetting_curve
  curve-long = go (is_new k.last_date)
      (range_long (λ t. m.chance t k.stability) k.last_date a (e - from) from)
    where
      go : (t : Bool) → length (on a) ≡ length a → length (cond t a (on a)) ≡ length a
      go true q = refl
      go false q = q

module _ {C : Type 0} (R : Rules C) (cards : ℕ) (fine : RunBounds R.span cards) (s : State C) (b : Lent C)
    (good : StateInvariant cards R.span (extended s b)) (ex : Exact cards R.span s) where
  abbrev pub wide : State C
  wide = extended s b

  -- what the next turn of `wide` is, by that of s
  abbrev pub Framed : Next (Turn Drawn) (State C) Stop → Next (Turn Drawn) (State C) Stop → Type 0
  Framed (takes t s') y = (y ≡ takes t (extended s' b)) × Exact cards R.span s'
  Framed (stops x) y = y ≡ stops x

  module _ (some : 0 < s.queue.len) where
    abbrev f : First
    f = first s

    abbrev c : ℕ
    c = f.place

    abbrev k : Card
    k = f.card

    abbrev d : ℕ
    d = f.day

    room : s.queue.len ≤ length s.queue.rows
    room = omega (arith, ex.queued, ex.rows_are)

    same-front : front wide.queue ≡ c
    same-front = front-widened s.queue b.queue_rows some room

    mine : c < length s.cards
    mine = omega (arith, is_card R cards fine [] wide good some, same-front, ex.cards_are)

    mine' : c < length s.counts
    mine' = omega (arith, is_card R cards fine [] wide good some, same-front, ex.counts_are)

    same-card : card_in wide c ≡ k
    unfolding card_at
    same-card = rw (
      get_or-append s.cards b.cards no_floats c mine,
      get_or-append s.counts b.counts no_counts c mine',
    )

    same_turn : card_in wide (front wide.queue) ≡ k
    same_turn = ap (card_in wide) same-front ∙ same-card

    within : retires R.span R.lapse_limit k ≡ false → d < R.span
    within e = rw same_turn at (in_span R cards fine [] wide good some (rw same_turn e))

    -- ---- what each turn leaves
    retire_own : after_retire R wide f ≡ extended (after_retire R s f) b
    unfolding after_retire
    retire_own = rw (
      popped-widened s.queue b.queue_rows some room,
      curve-own R.model s.memorized k R.span b.memorized (omega (arith, ex.memorized_are)),
    )

    retire_exact : Exact cards R.span (after_retire R s f)
    unfolding after_retire
    retire_exact = record {
      cards_are = ex.cards_are;
      counts_are = ex.counts_are;
      rows_are = popped-long s.queue ∙ ex.rows_are;
      days_are = ex.days_are;
      costs_are = ex.costs_are;
      memorized_are = curve-long R.model s.memorized k R.span ∙ ex.memorized_are;
      due_are = ex.due_are;
      queued = omega (arith, ex.queued, popped_less s.queue);
    }

    module _ (h : d < R.span) where
      put-own : after_put_off R wide f ≡ extended (after_put_off R s f) b
      unfolding after_put_off write_floats
      put-own =
          rw (
            set-append_left s.cards b.cards c (floats_of (card_after_put_off k d)) mine,
            changed_widened s.queue b.queue_rows some room (key_of (card_after_put_off k d)),
            move_due-own R.span s.due b.due (is_new k.last_date) d (omega (arith, ex.due_are))
                (omega (arith, h, ex.due_are)),
          )

      put-exact : Exact cards R.span (after_put_off R s f)
      unfolding after_put_off write_floats
      put-exact = record {
        cards_are = length-set s.cards c _ ∙ ex.cards_are;
        counts_are = ex.counts_are;
        rows_are = changed_long s.queue _ ∙ ex.rows_are;
        days_are = ex.days_are;
        costs_are = ex.costs_are;
        memorized_are = ex.memorized_are;
        due_are = move_long R.span s.due (is_new k.last_date) d ∙ ex.due_are;
        queued = omega (arith, ex.queued, changed_same s.queue (key_of (card_after_put_off k d)));
      }

      module _ (new : Bool) (x : Memory) (t : Slot) where
        event_is_own : after_event R wide f new x t ≡ extended (after_event R s f new x t) b
        unfolding after_event write_floats write_counts
        event_is_own =
            let k' : Card = card_after_event k new x d (interval_of t) in
            rw (
              set-append_left s.cards b.cards c (floats_of k') mine,
              set-append_left s.counts b.counts c (counts_of k') mine',
              changed_widened s.queue b.queue_rows some room (key_of k'),
              event_own s.days b.days R.span d h (omega (arith, ex.days_are)) x.recalled new,
              cost_own R.costs.none R.costs.plus s.costs b.costs d
                  (R.costs.cost (event_turn R s f new x)) (omega (arith, h, ex.costs_are)),
              curve-own R.model s.memorized k d b.memorized (omega (arith, h, ex.memorized_are)),
              add_due-own R.span s.due b.due (day_of k'.due) (omega (arith, ex.due_are)),
            )

        event_exact : Exact cards R.span (after_event R s f new x t)
        unfolding after_event write_floats write_counts
        event_exact = record {
          cards_are = length-set s.cards c _ ∙ ex.cards_are;
          counts_are = length-set s.counts c _ ∙ ex.counts_are;
          rows_are = changed_long s.queue _ ∙ ex.rows_are;
          days_are = event_long s.days R.span d x.recalled new ∙ ex.days_are;
          costs_are = cost_long R.costs.none R.costs.plus s.costs d _ ∙ ex.costs_are;
          memorized_are = curve-long R.model s.memorized k d ∙ ex.memorized_are;
          due_are = add-long R.span s.due _ ∙ ex.due_are;
          queued = omega (arith, ex.queued, changed_same s.queue (key_of (card_after_event k new x d (interval_of t))));
        }

      slot_framed : (new : Bool) (x : Memory) (t : Slot)
          → Framed (event_with_slot R s f new x t) (event_with_slot R wide f new x t)
      slot_framed new x (slot.Keep v) =
          (ap (takes (event_turn R s f new x)) (event_is_own new x (slot.Keep v)), event_exact new x (slot.Keep v))
      slot_framed new x (slot.Enter p y z v) = (
        ap (takes (event_turn R s f new x)) (event_is_own new x (slot.Enter p y z v)),
        event_exact new x (slot.Enter p y z v),
      )
      slot_framed new x slot.Full = refl

      event_framed : (new : Bool) → Framed (event_on R s f new) (event_on R wide f new)
      unfolding event_on
      event_framed new = go (R.model.event R.draw k new d s.draws)
        where
          go : (e : Option Memory) → Framed (event_with_draw R s f new e) (event_with_draw R wide f new e)
          go (Some x) = slot_framed new x (R.model.slot s.table x.stability k.desired_retention)
          go None = refl

      due_same : none_due wide.due (is_new k.last_date) d ≡ none_due s.due (is_new k.last_date) d
      unfolding none_due
      due_same = rw (get_or-append s.due b.due 0 d (omega (arith, h, ex.due_are)))

      put_framed : Framed (act R s f choice.PutOff) (act R wide f choice.PutOff)
      put_framed = rw due_same (go (none_due s.due (is_new k.last_date) d))
        where
          go : (t : Bool) → Framed
              (cond t (refuses (refusal.DueCount f.place)) (takes (turn_as f put_off) (after_put_off R s f)))
              (cond t (refuses (refusal.DueCount f.place)) (takes (turn_as f put_off) (after_put_off R wide f)))
          go true = refl
          go false = (ap (takes (turn_as f put_off)) put-own, put-exact)

      act_framed : (z : Choice) → Framed (act R s f z) (act R wide f z)
      act_framed choice.Retire = (ap (takes (turn_as f retire)) retire_own, retire_exact)
      act_framed choice.PutOff = put_framed
      act_framed choice.Learn = event_framed true
      act_framed choice.Review = event_framed false

      -- within the span the rows are read in the first places
      days_same : turn_choice R wide f ≡ turn_choice R s f
      days_same =
          rw (
            get_or-append s.days b.days [] d (omega (arith, h, ex.days_are)),
            get_or-append s.costs b.costs R.costs.none d (omega (arith, h, ex.costs_are)),
          )

    -- a card that is retired is so whatever its day's row says
    gone : retires R.span R.lapse_limit k ≡ true → Framed (turn_of R s f) (turn_of R wide f)
    unfolding choice_of
    gone e = rw e (ap (takes (turn_as f retire)) retire_own, retire_exact)

    card_framed : Framed (turn_of R s f) (turn_of R wide f)
    card_framed = go (retires R.span R.lapse_limit k) refl
      where
        go : (t : Bool) → retires R.span R.lapse_limit k ≡ t
            → Framed (turn_of R s f) (turn_of R wide f)
        go true e = gone e
        go false e = let h = within e in rw (days_same h)
            (act_framed h (turn_choice R s f))

    turn_framed : Framed (turn_of R s f) (turn_of R wide (first wide))
    turn_framed = rw (same-front, same-card) card_framed

  pub framed : Framed (next R s) (next R wide)
  unfolding next
  framed = go (eqb s.queue.len 0) refl
    where
      go : (t : Bool) → eqb s.queue.len 0 ≡ t
          → Framed (cond t (stops (Ok tt)) (turn_of R s (first s)))
          (cond t (stops (Ok tt)) (turn_of R wide (first wide)))
      go true e = refl
      go false e = let ne = eqb-false s.queue.len 0 e in turn_framed (omega (arith, ne))

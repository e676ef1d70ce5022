-- WHAT HOLDS AFTER ANY NUMBER OF TURNS: the due counts are within their bounds, so refusal 9 never comes; a day's counts
-- are at most the cards; and the card that has the turn is the first by the queue's order.
--   due_after, due_left   `DueBounds` after n turns, and of the state that is left
--   counts_after          `CountBounds` after n turns
--   first_after           `FirstInOrder` after n turns
--   never_due             the end has not the condition of refusal 9
use mathlib.Core.Path.{◌≡◌, refl, ap}
use mathlib.Core.Bool.{Bool, true, false, not, false≢true}
use mathlib.Core.List.{List, []}
use Prim.Native.Nat.{ℕ, zero, suc, ◌≤◌, ◌<◌}
use native.Mathlib.Omega.{arith}
use borrow.Author.Tests.{eqb-true}
use lib.Dec.{eqb, ltb}
use lib.ListN.{get_or}
use Rattle.turns.specs.Sums.{bit}
use Rattle.cards.specs.declared.choice.Choice.TheVariants as choice
use Rattle.cards.specs.Cards.{card_at}
use Rattle.cards.specs.Choices.{choose, choice_of}
use Rattle.days.specs.Due.{none_due}
use Rattle.queue.specs.Queue.{front}
use Rattle.queue.specs.Sound.{stands}
use Rattle.queue.proofs.Queued.{front-queued}
use Rattle.queue.proofs.Keyed.{queued-named, keyed_least}
use Rattle.queue.proofs.Keys.{priority_order}
use Rattle.turns.proofs.Sums.{sum-le, bit_le}
use Rattle.runs.specs.State.{State}
use Rattle.runs.specs.Rules.{Rules}
use Rattle.entry.specs.Entry.{Inputs}
use Rattle.runs.specs.Invariant.{difficulty_in, day_in, new_in, key_in, RunBounds, StateInvariant, DueBounds, CountBounds, FirstInOrder}
use Rattle.runs.specs.RunRefusals.{DueRefused}
use Rattle.runs.specs.Simulate.{fuel, run_from}
use Rattle.runs.specs.Demands.{start_of, cards_of, end_of, state_after}
use Rattle.runs.proofs.Accepted.{Accepted}
use Rattle.runs.proofs.turn.Due.{due_few, waits_one}
use Rattle.runs.proofs.turn.Invariant.{is_card, in_span}
use Rattle.runs.proofs.turn.Lawful.{keeps}
use Rattle.runs.proofs.run.Suits.{Suits}
use Rattle.runs.proofs.run.DemandThree.{run_bounds, start-good}
use Rattle.turns.proofs.Logic.{not-one, both}

-- a queue that holds a card is not empty
queued_some : (rows : List (List ℕ)) (len c : ℕ) → stands rows len c ≡ true → 0 < len
queued_some rows zero c e = absurd (false≢true e)
queued_some rows (suc n) c e = omega arith

-- a card that is put off is not retired
put_stays : (a b new : Bool) → choose a b new ≡ choice.PutOff → a ≡ false
put_stays true b new e = absurd (not-one cc)
put_stays false b new e = refl

-- a dated card on a day with a count of 1 or more can be put off
none-not : (new : Bool) (n : ℕ) → bit (not new) ≤ n → (not new ≡ true) × (eqb n 0 ≡ true) → ⊥
none-not new n h e = omega (arith, ap bit e.0, eqb-true n 0 e.1)

module _ {C : Type 0} (R : Rules C) (n : ℕ) (s : State C) (fit : RunBounds R.span n)
    (ok : StateInvariant n R.span s) where
  bounds : DueBounds n R.span s
  bounds = record { least = ok.due.least; most = due_few n R.span s.cards s.queue s.due ok.due }

  none-refused : (c : ℕ) → DueRefused R s c → ⊥
  unfolding choice_of none_due card_at
  none-refused c h =
      let first = front s.queue in
      let mine = is_card R n fit [] s ok h.queued in
      let waits = front-queued s.queue h.queued in
      let kept = in_span R n fit [] s ok h.queued (put_stays _ _ _ h.put_off) in
      let one = waits_one n R.span s.cards s.queue s.due ok.due first mine waits (omega (arith, kept)) in
      none-not (new_in s.cards first) (get_or s.due (day_in s.cards first) 0) one (both _ _ h.is_none_due)

module _ {C : Type 0} (n span : ℕ) (s : State C) (ok : StateInvariant n span s) where
  count_bounds : CountBounds n span s
  count_bounds = record {
    events = λ d h. omega (
      arith,
      ok.counts.events d h,
      sum-le n 1 (λ c. bit (ltb d (day_in s.cards c))) (λ c l. bit_le (ltb d (day_in s.cards c))),
    );
    recalls = ok.counts.recalls;
    introduced = λ d h. omega (arith, ok.counts.introduced d h);
  }

  first_in_order : FirstInOrder s
  first_in_order c e =
      let some = queued_some s.queue.rows s.queue.len c e in
      let f = front s.queue in
      let mine = ok.order.near f (queued-named n (key_in s.cards) s.queue ok.order.keyed f (front-queued s.queue some)) in
      let its = ok.order.near c (queued-named n (key_in s.cards) s.queue ok.order.keyed c e) in
      (priority_order (day_in s.cards f) (day_in s.cards c) (new_in s.cards f) (new_in s.cards c)
      (difficulty_in s.cards f) (difficulty_in s.cards c) mine its).0
      (keyed_least n (key_in s.cards) s.queue ok.order.keyed some c e)

module _ {C : Type 0} (R : Rules C) (i : Inputs) (s : State C) (ok : Accepted i s) (fit : Suits R i) where
  stays_good : (n : ℕ) → StateInvariant (cards_of R i s) R.span (state_after R i s n)
  stays_good = keeps R (cards_of R i s) (run_bounds R i s ok fit) fit.slots (start_of R i s) (start-good R i s ok fit)

  ends-good : StateInvariant (cards_of R i s) R.span (end_of R i s)
  unfolding run_from
  ends-good = stays_good (fuel R (start_of R i s))

  pub due_after : (n : ℕ) → DueBounds (cards_of R i s) R.span (state_after R i s n)
  due_after n = bounds R (cards_of R i s) (state_after R i s n) (run_bounds R i s ok fit) (stays_good n)

  pub due_left : DueBounds (cards_of R i s) R.span (end_of R i s)
  due_left = bounds R (cards_of R i s) (end_of R i s) (run_bounds R i s ok fit) ends-good

  pub never_due : (c : ℕ) → DueRefused R (end_of R i s) c → ⊥
  never_due = none-refused R (cards_of R i s) (end_of R i s) (run_bounds R i s ok fit) ends-good

  pub counts_after : (n : ℕ) → CountBounds (cards_of R i s) R.span (state_after R i s n)
  counts_after n = count_bounds (cards_of R i s) R.span (state_after R i s n) (stays_good n)

  pub first_after : (n : ℕ) → FirstInOrder (state_after R i s n)
  first_after n = first_in_order (cards_of R i s) R.span (state_after R i s n) (stays_good n)

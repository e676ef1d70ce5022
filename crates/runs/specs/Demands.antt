-- WHAT IS PROMISED OF A RUN: demand 3 (`DemandThree`), the contract of a call (`RunContract`), and the other demands
-- (`Demands`). Definitions only.
--   start_of, cards_of, state_after, end_of, turns_of, progress_of   a call's run: its start, cards, states and turns
--   RowsOf, LongerTable, SameRun   parts of the claims
--   DemandThree                    demand 3 of a call that ends Ok
--   RunContract                    what `simulate` promises
--   Demands                        all else that is claimed, whatever is drawn
--   UnreadParameters               which parameters play no part
use Rattle.std.specs.Prelude.{ℕ, ◌+◌, ◌≤◌, ◌≡◌, true, ◌↔◌, ◌≢◌, ◌⊎◌, List, [], Float, length, Err}
use Rattle.std.proofs.Math.Option.{some}
use Rattle.turns.specs.Sums.{sum_to}
use Rattle.turns.specs.Turns.{Turn, turn_bound, Demand, Rows}
use Rattle.turns.specs.Run.{run}
use Rattle.days.specs.Sums.{rows_by_day}
use Rattle.intervals.specs.Table.{held_in}
use Rattle.draws.specs.Draws.{DrawRule}
use Rattle.model.specs.Runtime.{SameRead}
use Rattle.events.specs.Scalars.{of_parameters}
use Rattle.events.specs.Drawn.{Drawn}
use Rattle.entry.specs.declared.Refusal.{Refusal}
use Rattle.entry.specs.declared.Refusal.TheVariants as refusal
use Rattle.entry.specs.declared.RunRefusal.TheVariants as run_refused
use Rattle.runs.specs.declared.Progress.{Progress}
use Rattle.runs.specs.State.{State, Lent, lists_of, with_table}
use Rattle.runs.specs.Invariant.{lapses_in, DueBounds, CountBounds, FirstInOrder}
use Rattle.runs.specs.Rules.{Rules, rules_with}
use Rattle.runs.specs.Turn.{Stop, next}
use Rattle.runs.specs.RunRefusals.{StopCondition}
use Rattle.entry.specs.Entry.{passed, Inputs, with_parameters}
use Rattle.runs.specs.Checked.{lists_ok, checked}
use Rattle.runs.specs.Frame.{first_places, beyond, SameLengths}
use Rattle.entry.specs.Refusals.{number_of}
use Rattle.runs.specs.SetUp.{kept_cards, introduced_before, new_card_count, set_up}
use Rattle.runs.specs.Simulate.{Answer, finished, refused, IsResult, progress, answer_of, rules_for, run_from, simulated_by, simulated}

-- a run's lists as set up, its cards, what it comes to, and its turns, latest first
module _ {C : Type 0} (R : Rules C) (i : Inputs) (s : State C) where
  abbrev pub start_of : State C
  start_of = set_up R.costs.none i s

  abbrev pub cards_of : ℕ
  cards_of = start_of.queue.len

  abbrev pub end_of : State C
  end_of = (run_from R start_of).state

  abbrev pub turns_of : List (Turn Drawn)
  turns_of = (run_from R start_of).turns

  -- the state after n turns, or where the run has stopped before
  abbrev pub state_after : ℕ → State C
  state_after n = (run (next R) n [] start_of).state

  -- what its answer tells: turns taken, cards, those still queued, and the state of the draws
  abbrev pub progress_of : Progress
  progress_of = progress (length turns_of) cards_of end_of.queue.len end_of.draws

  -- what demand 3 says of the rows in lent lists: of the cards with a last date at set-up, of lapses, and of each day
  abbrev pub RowsOf : Lent C → Type 0
  RowsOf l =
      Rows R.span (introduced_before i.existing i.existing_counts (length i.existing))
      (sum_to cards_of (lapses_in start_of.counts)) (sum_to cards_of (lapses_in l.counts))
      R.costs (rows_by_day R.costs.none l.days l.costs) turns_of

-- A second call's lists: of any contents and long enough, with an interval table at least as long
pub record LongerTable {C : Type 0} (i : Inputs) (s s' : State C) : Type 0 where
  pub lists_pass : lists_ok i s' ≡ true
  pub longer : length s.table.keys ≤ length s'.table.keys

-- the same answer, the same turns, the same first places of all lists (rows, due counts, cards, queue) and draws; and
-- the tables hold the same under each key
pub record SameRun {C : Type 0} (R : Rules C) (i : Inputs) (s s' : State C) : Type 0 where
  pub answers : (simulated_by R i s').answer ≡ (simulated_by R i s).answer
  pub turns_are : turns_of R i s' ≡ turns_of R i s
  pub places_are : first_places (cards_of R i s) R.span (end_of R i s')
      ≡ with_table (end_of R i s').table (first_places (cards_of R i s) R.span (end_of R i s))
  pub intervals_are : (x y : ℕ) → held_in (end_of R i s').table x y ≡ held_in (end_of R i s).table x y

-- DEMAND 3, OF A RUN THAT ENDS OK, by any rules: `p` is the progress that its answer tells, `l` the lists that it
-- leaves
pub record DemandThree {C : Type 0} (R : Rules C) (i : Inputs) (s : State C) (p : Progress) (l : Lent C) : Type 0 where
  -- the daily rules of its whole list of turns, and the bound on turns
  pub demand : Demand (cards_of R i s) R.span R.costs R.limits (turns_of R i s)
  -- the rows are the counts and the costs of its turns
  pub rows : RowsOf R i s l
  -- the turns reported are exactly the list's length
  pub turns_reported : p.turns ≡ length (turns_of R i s)
  -- with any longer interval table and all else alike it ends Ok too, with the same turns, draws, answer, rows, due
  -- counts and cards
  pub longer_table : (s' : State C) → LongerTable i s s' → SameRun R i s s'

-- WHAT A CALL OF THE RUN PROMISES: the answer and the lists are those of the definition, and where it ends Ok demand 3
-- holds of them
pub record RunContract (i : Inputs) (s : State Float) (r : Answer) (l : Lent Float) : Type 0 where
  pub result : IsResult (simulated i s) r l
  pub demand_three : (p : Progress) → r ≡ finished p → DemandThree (rules_for i) i s p l

-- THE DEMANDS beside the contract, of a run by rules R: `demands` has them at any way to draw
pub record Demands {C : Type 0} (R : Rules C) (i : Inputs) (s : State C) : Type 0 where
  -- 1: an entry refusal, exactly by the table, writes nothing and takes no turn
  pub entry_refusal : (r : Refusal) → checked i s ≡ Err r
      → simulated_by R i s ≡ record { answer = some (refused r (progress 0 0 0 i.settings.seed)); state = s }
  -- a run refusal leaves the state after the last finished turn: the state that the turns taken lead to
  pub run_leaves : checked i s ≡ passed → (simulated_by R i s).state ≡ end_of R i s
  -- it ends Ok, or is refused by 7 or 8 with card c, exactly on the condition of that stop: Ok exactly when the queue
  -- is empty
  pub stops_exactly : checked i s ≡ passed → (x : Stop)
      → ((simulated_by R i s).answer ≡ some (answer_of x (progress_of R i s))) ↔ StopCondition R (end_of R i s) x
  -- a run's cards are the existing ones that are kept, and those created
  pub cards_are : checked i s ≡ passed → cards_of R i s ≡ kept_cards i + new_card_count i.settings.config (kept_cards i)
  -- places behind those that the run needs are as they were lent: of cards and queue behind the run's cards, of days
  -- behind the span, of due counts behind theirs
  pub beyond_same : checked i s ≡ passed
      → beyond (cards_of R i s) R.span (end_of R i s) ≡ beyond (cards_of R i s) R.span s
  -- and every list keeps its length
  pub lengths_same : checked i s ≡ passed → SameLengths (lists_of s) (lists_of (end_of R i s))
  -- 2: what the lists held before, and how long they are, plays no part: a second call with equal inputs and a table
  -- equally long has the same run
  pub same_run : (s' : State C) → checked i s ≡ passed → lists_ok i s' ≡ true
      → length s'.table.keys ≡ length s.table.keys → SameRun R i s s'
  -- 3: whatever is drawn
  pub demand_three : (p : Progress) → (simulated_by R i s).answer ≡ some (finished p)
      → DemandThree R i s p (lists_of (simulated_by R i s).state)
  -- of every accepted call, refused in the run or not: it comes to its end or to a refusal within cards × (span + 1)
  -- turns, so its bound never shows
  pub ends_within : checked i s ≡ passed → length (turns_of R i s) ≤ turn_bound (cards_of R i s) R.span
  -- the daily rules and the rows of every accepted call, refused in the run or not
  pub daily_rules : checked i s ≡ passed → Demand (cards_of R i s) R.span R.costs R.limits (turns_of R i s)
  pub rows : checked i s ≡ passed → RowsOf R i s (lists_of (end_of R i s))
  -- of every accepted call, after any number of turns: the card that has the next turn is the first by the queue's order
  pub turn_is_first : checked i s ≡ passed → (n : ℕ) → FirstInOrder (state_after R i s n)
  -- and a day's counts are at most the cards
  pub day_counts : checked i s ≡ passed → (n : ℕ) → CountBounds (cards_of R i s) R.span (state_after R i s n)
  -- of every accepted call, after any number of turns: on each day that is counted the due count is at most the cards,
  -- so it never comes to the top, and at least the queued cards with a last date whose day it is
  pub due_counts : checked i s ≡ passed → (n : ℕ) → DueBounds (cards_of R i s) R.span (state_after R i s n)
  -- and so at its end
  pub due_counts_left : checked i s ≡ passed → DueBounds (cards_of R i s) R.span (end_of R i s)
  -- no accepted call answers refusal 9: a card with a last date is put off only from a day that counts it
  pub no_due_refusal : checked i s ≡ passed → (c : ℕ) (p : Progress)
      → (simulated_by R i s).answer ≢ some (refused (refusal.Run (run_refused.DueCount c)) p)
  -- so an accepted call is refused by 7 or 8 or not at all
  pub run_refusal : checked i s ≡ passed → (r : Refusal) (p : Progress)
      → (simulated_by R i s).answer ≡ some (refused r p) → (number_of r ≡ 7) ⊎ (number_of r ≡ 8)

-- of two accepted calls that differ only in parameters 15 to 22 and in those past 33, one result, whatever is drawn
abbrev pub UnreadParameters : DrawRule → Inputs → State Float → List Float → Type 0
UnreadParameters w i s v =
    SameRead i.parameters v → checked i s ≡ passed → checked (with_parameters v i) s ≡ passed
    → simulated_by (rules_with w i.settings.config (of_parameters v)) (with_parameters v i) s
    ≡ simulated_by (rules_with w i.settings.config (of_parameters i.parameters)) i s

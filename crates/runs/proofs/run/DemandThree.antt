-- The daily rules of the whole list of turns of an accepted call, its rows, its end within the bound, and how it stops.
--   run_bounds, start-good   the run's sizes, and its state as set up, are what the laws of a turn ask
--   has_stopped, turns_within   the run has stopped, after at most cards × (span + 1) turns
--   stops_so                 how it stops is told by the state that it comes to
--   daily_rules, rows_are    the daily rules, and what is claimed of the rows
use mathlib.Core.Path.{◌≡◌, subst}
use mathlib.Core.List.{[]}
use mathlib.Core.Option.{some}
use Prim.Native.Nat.{ℕ, ◌≤◌}
use native.Mathlib.Omega.{arith}
use lib.ListN.{length}
use Rattle.turns.specs.Run.{stops, stop_of}
use Rattle.turns.specs.Turns.{Demand, turn_bound}
use Rattle.turns.proofs.Loop.{stop_is}
use Rattle.turns.proofs.Columns.{SetUp}
use Rattle.runs.specs.Turn.{Stop}
use Rattle.runs.specs.State.{State, Lent, lists_of}
use Rattle.runs.specs.Rules.{Rules}
use Rattle.runs.specs.Turn.{next}
use Rattle.entry.specs.Entry.{Inputs}
use Rattle.runs.specs.SetUp.{introduced_before}
use Rattle.runs.specs.Simulate.{fuel, run_from}
use Rattle.runs.specs.Demands.{start_of, cards_of, end_of, turns_of, RowsOf}
use Rattle.runs.specs.Invariant.{RunBounds, StateInvariant}
use Rattle.runs.proofs.turn.Views.{columns}
use Rattle.runs.proofs.Accepted.{Accepted}
use Rattle.runs.proofs.run.Suits.{Suits}
use Rattle.runs.proofs.set_up.Invariant.{set_up_few, set_up_start, set_up_good}
use Rattle.runs.proofs.turn.Lawful.{turns_demand, turns_rows, ends}

module _ {C : Type 0} (R : Rules C) (i : Inputs) (s : State C) (ok : Accepted i s) (fit : Suits R i) where
  pub run_bounds : RunBounds R.span (cards_of R i s)
  run_bounds = record {
    some = omega (arith, fit.span_is, ok.span_some);
    most = omega (arith, fit.span_is, ok.span_most);
    few = omega (arith, set_up_few R.costs i s ok, ok.deck_most);
  }

  begins : SetUp (columns R.costs.none) R.costs R.span
      (introduced_before i.existing i.existing_counts (length i.existing)) (start_of R i s)
  begins = subst (λ (z : ℕ). SetUp (columns R.costs.none) R.costs z
      (introduced_before i.existing i.existing_counts (length i.existing)) (start_of R i s)) fit.span_is
      (set_up_start R.costs i s ok)

  pub start-good : StateInvariant (cards_of R i s) R.span (start_of R i s)
  start-good = subst (λ (z : ℕ). StateInvariant (cards_of R i s) z (start_of R i s)) fit.span_is
      (set_up_good R.costs i s ok)

  -- the bound on turns never shows: the run has stopped
  pub has_stopped : (y : Stop) × (next R (run_from R (start_of R i s)).state ≡ stops y)
  unfolding run_from
  has_stopped = ends R (cards_of R i s) run_bounds fit.slots (start_of R i s) start-good

  pub turns_within : length (turns_of R i s) ≤ turn_bound (cards_of R i s) R.span
  unfolding run_from
  turns_within = (turns_demand R (cards_of R i s) run_bounds fit.slots _ (start_of R i s) begins start-good
      (fuel R (start_of R i s))).turns_within

  -- how it stops is told by what it comes to
  pub stops_so : (y : Stop) → next R (end_of R i s) ≡ stops y
      → stop_of (next R) (fuel R (start_of R i s)) (start_of R i s) ≡ some y
  unfolding run_from
  stops_so y q = stop_is (next R) (fuel R (start_of R i s)) [] (start_of R i s) y q
      (let h = turns_within in omega (arith, h))

  -- the daily rules and the rows, refused in the run or not
  pub daily_rules : Demand (cards_of R i s) R.span R.costs R.limits (turns_of R i s)
  unfolding run_from
  daily_rules = turns_demand R (cards_of R i s) run_bounds fit.slots _ (start_of R i s) begins start-good
      (fuel R (start_of R i s))

  pub rows_are : (l : Lent C) → l ≡ lists_of (end_of R i s) → RowsOf R i s l
  unfolding run_from
  rows_are l e = rw e (turns_rows R (cards_of R i s) run_bounds fit.slots _ (start_of R i s) begins start-good
      (fuel R (start_of R i s)))

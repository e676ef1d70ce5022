-- How the theory of lists of turns looks at the run's state.
use Rattle.turns.proofs.Moves.{View}
use Rattle.turns.proofs.Columns.{Columns}
use Rattle.days.specs.Sums.{rows_by_day}
use Rattle.queue.specs.Sound.{queued}
use Rattle.runs.specs.State.{State}
use Rattle.runs.specs.Invariant.{day_in, new_in, lapses_in}

abbrev pub view : {C : Type 0} → View (State C)
view = record { day = λ s c. day_in s.cards c; new = λ s c. new_in s.cards c; queued = λ s c. queued s.queue c }

abbrev pub columns : {C : Type 0} → C → Columns (State C) C
columns none = record {
  rows = λ s. rows_by_day none s.days s.costs;
  lapses = λ s c. lapses_in s.counts c;
}

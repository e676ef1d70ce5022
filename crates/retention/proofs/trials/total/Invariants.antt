-- The invariant of its loop: the sum is that of the first i numbers.
use mathlib.Core.Path.{◌≡◌}
use Rattle.retention.specs.Trials.{total}
use Rattle.retention.proofs.trials.total.Given as goal

abbrev pub invariant-loop-i : goal.invariant-loop-i
invariant-loop-i l = l.sum ≡ total l.xs l.i

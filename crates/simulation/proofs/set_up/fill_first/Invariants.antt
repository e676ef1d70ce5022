-- The invariant of its loop: the first i places are filled.
use mathlib.Core.Path.{◌≡◌}
use lib.ListN.{length}
use Rattle.runs.specs.SetUp.{filled_with}
use Rattle.simulation.proofs.set_up.fill_first.Given as goal

abbrev pub invariant-loop-i : goal.invariant-loop-i
invariant-loop-i g l = (l.list ≡ filled_with l.x l.i l.initial.list) × (length l.list ≡ length l.initial.list)

-- No more lines were read than readings made, and no more of them lie outside.
use Rattle.std.proofs.Common.{◌≤◌}
use Rattle.elementary_points.proofs.all.Given as goal

abbrev pub invariant-loop : goal.invariant-loop
invariant-loop g l = (l.rows ≤ l.counter) × (l.outside ≤ l.rows)

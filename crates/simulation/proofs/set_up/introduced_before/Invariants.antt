-- The invariant of its loop: `count` is the number of introduced ones among the first i cards.
use Rattle.std.proofs.Common.{◌≡◌, ◌≤◌}
use Rattle.runs.specs.SetUp.{introduced_before}
use Rattle.simulation.proofs.set_up.introduced_before.Given as goal

abbrev pub invariant-loop-i : goal.invariant-loop-i
invariant-loop-i l =
    (l.count ≡ introduced_before l.learner.existing.now l.learner.existing_counts.now l.i) × (l.count ≤ l.i)

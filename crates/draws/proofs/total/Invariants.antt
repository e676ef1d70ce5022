-- The sum so far with the weights from the index on comes to the sum of all.
use Rattle.std.proofs.Common.{◌≡◌, drop}
use Rattle.float32.specs.Numbers.{0ᶠ}
use Rattle.draws.specs.Draws.{sum_from}
use Rattle.draws.proofs.total.Given as goal

abbrev pub invariant-loop-weight : goal.invariant-loop-weight
invariant-loop-weight l = sum_from 0ᶠ l.weights ≡ sum_from l.sum (drop l.weight-index l.weights)

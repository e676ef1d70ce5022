-- The choice among the weights from i on, by the sum and the last positive weight before them, is the choice among all.
use Rattle.std.proofs.Common.{◌≡◌, drop}
use Rattle.float32.specs.Numbers.{0ᶠ}
use Rattle.draws.specs.Draws.{index_above}
use Rattle.draws.proofs.weighted_index.Given as goal

abbrev pub invariant-loop-i : goal.invariant-loop-i
invariant-loop-i l = index_above l.target 0ᶠ 0 0 l.weights ≡ index_above l.target l.sum l.i l.positive (drop l.i l.weights)

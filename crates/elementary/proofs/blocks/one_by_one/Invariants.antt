-- The invariant: as many places are filled as there were turns, each within powf's bound.
use Rattle.std.proofs.Common.{◌≡◌, ℕ, ◌<◌, get_or}
use lib.Ieee.{nan}
use Rattle.elementary.specs.Pow.{pow_of}
use Rattle.elementary.specs.Accuracy.{IsPow}
use Rattle.elementary.specs.Filled.{filled}
use Rattle.elementary.proofs.blocks.one_by_one.Given as goal

abbrev pub invariant-loop-i : goal.invariant-loop-i
invariant-loop-i l =
    (l.x ≡ filled (λ i. pow_of (get_or l.initial.x i nan) l.y) l.i l.initial.x)
    × ((j : ℕ) → j < l.i → IsPow (get_or l.initial.x j nan) l.y (pow_of (get_or l.initial.x j nan) l.y))

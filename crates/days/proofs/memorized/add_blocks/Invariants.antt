-- The invariant of its loop: what is left to add, to what is memorized so far, gives the whole.
use mathlib.Core.Path.{◌≡◌}
use Prim.Native.Nat.{◌-◌}
use lib.ListN.{length}
use Rattle.model.specs.Model.{retention}
use Rattle.days.specs.Sums.{add_forgetting_curve_range}
use Rattle.days.proofs.memorized.add_blocks.Given as goal

abbrev pub invariant-loop-d : goal.invariant-loop-d
invariant-loop-d l =
    (add_forgetting_curve_range (λ t. retention l.curve t) l.memorized (l.to - l.d) l.d l.last
    ≡ add_forgetting_curve_range (λ t. retention l.curve t) l.initial.memorized (l.to - l.from) l.from l.last)
    × (length l.memorized ≡ length l.initial.memorized)

-- The invariant of its loop: counting on from day d gives what the whole count gives, and the rows are of four.
use Prim.Native.Nat.{ℕ, ◌-◌, ◌<◌}
use mathlib.Core.Path.{◌≡◌}
use mathlib.Core.List.{[]}
use lib.ListN.{get_or, length}
use Rattle.days.specs.Counts.{add_introduced_from}
use Rattle.days.proofs.add_introduced_from.Given as goal

abbrev pub invariant-loop-d : goal.invariant-loop-d
invariant-loop-d l = (add_introduced_from l.rows (l.to - l.d) l.d ≡ add_introduced_from l.initial.rows (l.to - l.from) l.from)
    × ((i : ℕ) → i < length l.rows → length (get_or l.rows i []) ≡ 4)

-- The invariant of its loop: with the row put into the hole, rising from there gives what rising from the start gives.
-- The measure is the hole's place.
use mathlib.Core.Path.{◌≡◌}
use Prim.Native.Nat.{◌≤◌}
use lib.ListN.{length, set}
use Rattle.queue.specs.Queue.{bubble_up}
use Rattle.queue.proofs.bubble_up.Given as goal

abbrev pub invariant-loop-pos : goal.invariant-loop-pos
invariant-loop-pos l = (bubble_up (set l.rows l.pos l.row) l.pos ≡ bubble_up (set l.initial.rows l.from l.row) l.from)
    × (l.pos ≤ l.from) × (length l.rows ≡ length l.initial.rows)

abbrev pub decreases-loop-pos : goal.decreases-loop-pos
decreases-loop-pos l = l.pos

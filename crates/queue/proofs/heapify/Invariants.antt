-- The invariant: what is left to sink gives the whole; the measure is how far it can still sink.
use mathlib.Core.Path.{◌≡◌}
use Prim.Native.Nat.{◌+◌, ◌-◌, ◌*◌, ◌<◌}
use lib.ListN.{length, set, get_or}
use Rattle.queue.specs.Queue.{sink}
use Rattle.queue.proofs.heapify.Given as goal

abbrev pub invariant-loop-left : goal.invariant-loop-left
invariant-loop-left l =
    (sink l.n (set l.rows l.pos l.row) l.n l.pos ≡ sink l.n (set l.initial.rows 0 l.row) l.n 0)
    × (l.pos < length l.rows) × (length l.rows ≡ length l.initial.rows) × (l.left ≡ 2 * l.pos + 1) × (l.key ≡ get_or l.row 0 0)

abbrev pub decreases-loop-left : goal.decreases-loop-left
decreases-loop-left l = l.n - l.pos

-- The heap's loops put the first len rows in heap order, whatever cards they name.
--   bubble_settles, heapify_settles   each loop leaves the rows so
use mathlib.Core.Path.{◌≡◌, sym}
use mathlib.Core.List.{List}
use mathlib.Core.Logic.{◌≢◌}
use Prim.Native.Nat.{ℕ, ◌+◌, ◌*◌, ◌≤◌, ◌<◌}
use native.Mathlib.Omega.{arith}
use lib.ListN.{length, length-set}
use Rattle.queue.specs.Queue.{key_at, parent, swap, bubble_up, least, heapify}
use Rattle.queue.proofs.Order.{Ordered, Rising, Sinking, rise-step, sink-step, risen, sunken}
use Rattle.queue.proofs.Steps.{swapped, rise_keeps, least-below, least_child, sink_keeps}

-- ---- bubble_up
record Rises (len : ℕ) (rows : List (List ℕ)) (pos : ℕ) : Type 0 where
  pub room : len ≤ length rows
  pub below : pos < len
  pub rising : Rising (key_at rows) len pos

rise_once : (len : ℕ) (rows : List (List ℕ)) (pos : ℕ) → 0 < pos → key_at rows pos < key_at rows (parent pos)
    → Rises len rows pos
    → Rises len (swap rows pos (parent pos)) (parent pos)
rise_once len rows pos z less r =
    let below = r.below in
    let room = r.room in
    record {
      room = simp length-set r.room;
      below = omega arith;
      rising = rise-step (key_at rows) (key_at (swap rows pos (parent pos))) len pos less r.below
          (swapped rows pos (parent pos) (omega arith) (omega arith) (omega arith)) r.rising z;
    }

pub bubble_settles : (len : ℕ) (rows : List (List ℕ)) (pos : ℕ) → len ≤ length rows → pos < len
    → Rising (key_at rows) len pos → Ordered (key_at (bubble_up rows pos)) len
bubble_settles len rows pos room below rising =
    let r : Rises len rows pos = record { room = room; below = below; rising = rising } in
    let k = rise_keeps (Rises len) (rise_once len) pos rows pos (omega arith) r in
    risen (key_at (bubble_up rows pos)) len k.0 k.1.rising k.2

-- ---- heapify
record Sinks (len : ℕ) (rows : List (List ℕ)) (pos : ℕ) : Type 0 where
  pub room : len ≤ length rows
  pub sinking : Sinking (key_at rows) len pos

sink_once : (len : ℕ) (rows : List (List ℕ)) (pos : ℕ) → 2 * pos + 1 < len → least rows len pos ≢ pos
    → Sinks len rows pos
    → Sinks len (swap rows pos (least rows len pos)) (least rows len pos)
sink_once len rows pos l ne r =
    let ch = least_child rows len pos l ne in
    let room = r.room in
    record {
      room = simp length-set r.room;
      sinking = sink-step (key_at rows) (key_at (swap rows pos (least rows len pos))) len pos (least rows len pos)
          ch.0 ch.1 ch.2 ch.3 (least-below rows len pos l).1
          (swapped rows pos (least rows len pos) (omega arith) (omega (arith, ch.2)) (λ e. ne (sym e))) r.sinking;
    }

pub heapify_settles : (len : ℕ) (rows : List (List ℕ)) → len ≤ length rows → Sinking (key_at rows) len 0
    → Ordered (key_at (heapify rows len)) len
heapify_settles len rows room sinking =
    let r : Sinks len rows 0 = record { room = room; sinking = sinking } in
    let k = sink_keeps (Sinks len) len (sink_once len) len rows 0 (omega arith) r in
    sunken (key_at (heapify rows len)) len k.0 k.1.sinking (stop (heapify rows len) k.0 k.2)
  where
    stop : (v : List (List ℕ)) (at : ℕ) → (2 * at + 1 < len → least v len at ≡ at) → (i : ℕ) → 0 < i → i < len
        → parent i ≡ at → key_at v at ≤ key_at v i
    stop v at h i p u e =
        let room : 2 * at + 1 < len = omega arith in
        let q = (least-below v len at room).1 i p u e in
        rw (h room) at q

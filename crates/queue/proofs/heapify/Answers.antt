use native.Mathlib.Omega.{arith}
use mathlib.Core.Path.{refl, sym, ◌∙◌}
use Prim.Native.Nat.{◌+◌}
use lib.ListN.{length-set}
use Rattle.queue.proofs.Loops.{lesser-yes, lesser_no, sink-turn, sink_rests}
use Rattle.queue.proofs.heapify.Goals as goal

pub loop-left-init : goal.loop-left-init
loop-left-init c = (refl, omega arith, refl, refl, refl)

pub returns-then-key-b : goal.returns-then-key-b
returns-then-key-b c =
    sink_rests c.loop-left.rows c.args.row c.args.n c.loop-left.pos c.loop-left.left
    (c.loop-left.left + 1) _
    c.loop-left.invariant.0 (omega arith) (omega arith) (omega arith)
    (sym (lesser-yes c.loop-left.rows c.loop-left.left (c.loop-left.left + 1) c.if-b-a.true)) (omega arith)

pub loop-left-preserved-then-b-a : goal.loop-left-preserved-then-b-a
loop-left-preserved-then-b-a c = (
  sink-turn c.loop-left.rows c.args.row c.args.n c.loop-left.pos c.loop-left.left
      (c.loop-left.left + 1) _
      c.loop-left.invariant.0 (omega arith) (omega arith) (omega arith)
      (sym (lesser-yes c.loop-left.rows c.loop-left.left (c.loop-left.left + 1) c.if-b-a.true))
      (omega arith) (omega arith),
  simp length-set (omega arith),
  simp length-set (omega arith),
  refl,
  c.loop-left.invariant.4,
)

pub returns-then-key-a : goal.returns-then-key-a
returns-then-key-a c =
    sink_rests c.loop-left.rows c.args.row c.args.n c.loop-left.pos c.loop-left.left c.loop-left.left
    _
    c.loop-left.invariant.0 (omega arith) (omega arith) (omega arith)
    (sym (lesser_no c.loop-left.rows c.loop-left.left (c.loop-left.left + 1) c.if-b-a.false)) (omega arith)

pub loop-left-preserved : goal.loop-left-preserved
loop-left-preserved c = (
  sink-turn c.loop-left.rows c.args.row c.args.n c.loop-left.pos c.loop-left.left
      c.loop-left.left _
      c.loop-left.invariant.0 (omega arith) (omega arith) (omega arith)
      (sym (lesser_no c.loop-left.rows c.loop-left.left (c.loop-left.left + 1) c.if-b-a.false))
      (omega arith) (omega arith),
  simp length-set (omega arith),
  simp length-set (omega arith),
  refl,
  c.loop-left.invariant.4,
)

pub returns : goal.returns
returns c = c.only_child.ensures ∙ c.loop-left.invariant.0

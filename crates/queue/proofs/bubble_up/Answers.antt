use mathlib.Core.Path.{refl}
use native.Mathlib.Omega.{arith}
use lib.ListN.{length-set}
use Rattle.queue.proofs.Loops.{bubble_turn, bubble_end}
use Rattle.queue.proofs.bubble_up.Goals as goal
use Rattle.queue.proofs.bubble_up.Goals.{else-loop-pos-test, then-loop-pos-test+then-above-row}

pub loop-pos-init : goal.loop-pos-init
loop-pos-init c = (refl, omega arith, refl)

pub loop-pos-preserved : goal.loop-pos-preserved
loop-pos-preserved c = (
  bubble_turn c.loop-pos.rows c.args.row
      c.loop-pos.pos _ c.loop-pos.invariant.0 (omega arith) (omega arith)
      c.if-above-row.false,
  omega arith,
  simp length-set (omega arith),
)

pub returns : goal.returns
returns c = bubble_end c.loop-pos.rows c.args.row c.loop-pos.pos _
    c.loop-pos.invariant.0 (omega arith)
    (elim c.loop-pos-test.branch [ else-loop-pos-test w ↦ (λ p. absurd (omega arith)) | then-loop-pos-test+then-above-row w ↦ (λ p. w.if-above-row.true) ])

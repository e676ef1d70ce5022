use native.Mathlib.Omega.{arith}
use Rattle.queue.proofs.Loops.{only_moves, only_rests}
use Rattle.queue.proofs.only_child.Goals as goal
use Rattle.queue.proofs.only_child.Goals.{else-left-n-via-then-left-n+else-rows-left, else-left-n-via-else-left-n}

pub returns-then-rows-left : goal.returns-then-rows-left
returns-then-rows-left c = only_moves c.args.rows.now c.args.row c.args.n c.args.pos c.args.left
    (omega arith) (omega arith) (omega arith) (omega arith) c.if-rows-left.true

pub returns-else-left-n : goal.returns-else-left-n
returns-else-left-n c = only_rests c.args.rows.now c.args.row c.args.n c.args.pos c.args.left
    (omega arith) (omega arith) (omega arith)
    (elim c.else-left-n.branch [
      | else-left-n-via-then-left-n+else-rows-left w ↦ (λ p. w.if-rows-left.false)
      | else-left-n-via-else-left-n w ↦ (λ p. absurd (omega arith))
    ])

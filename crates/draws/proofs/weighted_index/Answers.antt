use Rattle.std.proofs.Common.{sym, ◌∙◌, arith}
use Rattle.draws.specs.Draws.{weighted_index}
use Rattle.draws.proofs.Choice.{index_here, index-next, index-end}
use Rattle.draws.proofs.weighted_index.Goals as goal
use Rattle.draws.proofs.weighted_index.Goals.{then-weight, else-weight}

pub returns-then-target-sum : goal.returns-then-target-sum
unfolding weighted_index
returns-then-target-sum c =
    sym
    (rw (← c.unit.ensures, ← c.total.ensures) (c.loop-i.invariant
    ∙ index_here c.args.weights.now _ c.loop-i.sum c.loop-i.i c.loop-i.positive
    (omega arith) c.if-target-sum.true))

pub loop-i-preserved : goal.loop-i-preserved
loop-i-preserved c =
    let next = c.loop-i.invariant ∙ index-next c.args.weights.now _ c.loop-i.sum c.loop-i.i c.loop-i.positive (omega arith)
    c.if-target-sum.false in
    elim c.if-weight.branch [ then-weight w ↦ rw w.positive-is (rw w.if-weight.true at next) | else-weight w ↦ rw w.positive-is (rw w.if-weight.false at next) ]

pub returns : goal.returns
unfolding weighted_index
returns c = sym (rw (← c.unit.ensures, ← c.total.ensures)
    (c.loop-i.invariant ∙ index-end c.args.weights.now _ c.loop-i.sum c.loop-i.i c.loop-i.positive (omega arith)))

use Rattle.std.proofs.Common.{sym, ◌∙◌, arith}
use Rattle.draws.proofs.Choice.{sum-next, sum-end}
use Rattle.draws.proofs.total.Goals as goal

pub loop-weight-preserved : goal.loop-weight-preserved
loop-weight-preserved c = c.loop-weight.invariant ∙ sum-next c.args.weights.now c.loop-weight.weight-index c.loop-weight.sum (omega arith)

pub returns : goal.returns
returns c = sym (c.loop-weight.invariant ∙ sum-end c.args.weights.now _ c.loop-weight.sum (omega arith))

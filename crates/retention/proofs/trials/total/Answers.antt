use lib.Ieee.{of_bits}
use mathlib.Core.Path.{refl, sym}
use Rattle.retention.specs.Trials.{total}
use Rattle.retention.proofs.trials.Sums.{total-next, total_past}
use Rattle.retention.proofs.trials.total.Goals as goal

pub returns-then-xs-n : goal.returns-then-xs-n
unfolding of_bits
returns-then-xs-n c = sym (total_past c.args.xs.now c.args.n c.if-xs-n.true)

pub loop-i-init : goal.loop-i-init
unfolding total
loop-i-init c = refl

pub loop-i-preserved : goal.loop-i-preserved
loop-i-preserved c = total-next c.args.xs.now _ _ _ c.loop-i.invariant c.place-sum.ensures

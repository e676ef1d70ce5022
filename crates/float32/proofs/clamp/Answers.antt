use Rattle.float32.specs.Float32.{clamp}
use Rattle.float32.proofs.clamp.Goals as goal

pub returns-then-x-lo : goal.returns-then-x-lo
unfolding clamp
returns-then-x-lo c = rw c.if-x-lo.true

pub returns-then-x-hi : goal.returns-then-x-hi
unfolding clamp
returns-then-x-hi c = rw (c.if-x-lo.false, c.if-x-hi.true)

pub returns-else-x-hi : goal.returns-else-x-hi
unfolding clamp
returns-else-x-hi c = rw (c.if-x-lo.false, c.if-x-hi.false)

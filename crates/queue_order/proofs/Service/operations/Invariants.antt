-- The generator's state is below 2^31.
use Rattle.std.proofs.Common.{◌<◌}
use Rattle.queue_order.proofs.Service.operations.Given as goal

abbrev pub invariant-loop : goal.invariant-loop
invariant-loop g l = l.state < 2147483648

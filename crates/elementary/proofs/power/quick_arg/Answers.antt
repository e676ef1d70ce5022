use Rattle.std.proofs.Common.{arith}
use Rattle.elementary.proofs.power.Steps.{quick_size}
use Rattle.elementary.proofs.power.quick_arg.Goals as goal

pub overflow_sub-result : goal.overflow_sub-result
overflow_sub-result c =
    let p = c.requires in rw c.from.ensures ((quick_size c.args.m c.args.l c.args.s p.0 p.1 p.2).1)

pub returns : goal.returns
returns c =
    let p = c.requires in rw c.from.ensures (omega (arith, quick_size c.args.m c.args.l c.args.s p.0 p.1 p.2))

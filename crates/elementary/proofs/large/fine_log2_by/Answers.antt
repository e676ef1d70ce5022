use Rattle.std.proofs.Common.{arith}
use Rattle.elementary.proofs.log2.Fine.{FineFits, fine_fits}
use Rattle.elementary.proofs.large.fine_log2_by.Goals as goal

fit : (c : goal.Start) → FineFits c.args.line c.args.bend c.args.i c.args.t
fit c =
    fine_fits c.args.line c.args.bend c.args.i c.args.t c.requires.0 c.requires.1 c.requires.2 c.requires.3

pub overflow_add-result : goal.overflow_add-result
overflow_add-result c = omega (arith, (fit c).sum)

pub overflow_sub-result : goal.overflow_sub-result
overflow_sub-result c = (fit c).less

pub returns : goal.returns
returns c = ((fit c).is, omega (arith, (fit c).sum))

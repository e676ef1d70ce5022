use Rattle.std.proofs.Common.{arith}
use Rattle.elementary.proofs.log2.Words.{LogFits, log_fits}
use Rattle.elementary.proofs.log2.log2_by.Goals as goal

fit : (c : goal.After-from) → LogFits c.args.line c.args.bend c.args.p
fit c = log_fits c.args.line c.args.bend c.args.p c.requires.0 c.requires.1

pub overflow_add-result : goal.overflow_add-result
overflow_add-result c = rw c.from-s.ensures (omega (arith, (fit c).sum))

pub overflow_sub-result : goal.overflow_sub-result
overflow_sub-result c = rw (c.from-s.ensures, c.from-2.ensures) (fit c.before).less

pub returns : goal.returns
returns c = rw (c.from.ensures, c.from-s.ensures, c.from-2.ensures) (fit c.before).is

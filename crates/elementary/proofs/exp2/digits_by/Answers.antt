use Rattle.std.proofs.Common.{arith}
use Rattle.elementary.proofs.exp2.Words.{DigitsFit, digits-fit}
use Rattle.elementary.proofs.exp2.digits_by.Goals as goal

fit : (c : goal.After-exp2m1) → DigitsFit c.args.w c.args.z c.exp2m1.result
fit c =
    digits-fit c.args.w c.args.z c.exp2m1.result c.requires c.exp2m1.ensures.0

pub overflow_add-result : goal.overflow_add-result
overflow_add-result c = omega (arith, (fit c).sum)

pub returns : goal.returns
returns c = (fit c).is

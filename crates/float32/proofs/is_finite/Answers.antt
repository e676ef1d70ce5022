use Rattle.std.proofs.Common.{◌∙◌}
use Rattle.float32.proofs.Alike.{is_finite_is}
use Rattle.float32.proofs.is_finite.Goals as goal

pub returns : goal.returns
returns c = c.is_finite.ensures.value ∙ is_finite_is c.args.x

use Rattle.std.proofs.Common.{◌∙◌}
use Rattle.float32.proofs.Alike.{abs_is}
use Rattle.float32.proofs.abs.Goals as goal

pub returns : goal.returns
returns c = c.abs.ensures.value ∙ abs_is c.args.x

use mathlib.Core.Path.{◌∙◌}
use Rattle.float32.proofs.Alike.{mul_add_is}
use Rattle.float32.proofs.mul_add.Goals as goal

pub returns : goal.returns
returns c = c.mul_add.ensures ∙ mul_add_is c.args.x c.args.y c.args.z

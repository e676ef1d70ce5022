use mathlib.Core.Path.{◌∙◌}
use Rattle.float32.proofs.Alike.{round_is}
use Rattle.float32.proofs.round.Goals as goal

pub returns : goal.returns
returns c = c.round.ensures ∙ round_is c.args.x

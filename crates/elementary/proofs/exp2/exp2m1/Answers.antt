use Rattle.std.proofs.Common.{refl}
use Rattle.elementary.specs.Power.{exp2m1}
use Rattle.elementary.proofs.exp2.Words.{small-lt}
use Rattle.elementary.proofs.exp2.exp2m1.Goals as goal

pub returns : goal.returns
unfolding exp2m1
returns c = (refl, small-lt c.args.r c.requires)

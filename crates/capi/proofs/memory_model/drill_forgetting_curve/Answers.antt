use Rattle.model.proofs.Runtime.{curve_is}
use Rattle.capi.proofs.memory_model.drill_forgetting_curve.Goals as goal

pub returns : goal.returns
returns c = rw (c.forgetting_curve.ensures, c.new.ensures, curve_is)

use Rattle.model.proofs.Runtime.{curves_are}
use Rattle.capi.proofs.memory_model.drill_scheduled.Goals as goal

pub returns : goal.returns
returns c = rw (c.scheduled.ensures, c.new.ensures, curves_are)

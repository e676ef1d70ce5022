use Rattle.model.proofs.Runtime.{curves_are}
use Rattle.capi.proofs.memory_model.drill_next_interval.Goals as goal

pub returns : goal.returns
returns c = rw (c.next_interval.ensures, c.new.ensures, curves_are)

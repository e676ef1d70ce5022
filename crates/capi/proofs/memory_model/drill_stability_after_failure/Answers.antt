use Rattle.model.specs.Model.{stability_for_set}
use Rattle.model.specs.Runtime.{runtime_of}
use Rattle.capi.proofs.memory_model.drill_stability_after_failure.Goals as goal

pub returns : goal.returns
unfolding stability_for_set runtime_of
returns c = rw (c.stability_after_failure.ensures, c.new.ensures)

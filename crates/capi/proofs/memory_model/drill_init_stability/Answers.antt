use Rattle.model.proofs.Runtime.{init_stability_is}
use Rattle.capi.proofs.memory_model.drill_init_stability.Goals as goal

pub returns : goal.returns
returns c = rw (c.init_stability.ensures, c.new.ensures) (init_stability_is _ _)

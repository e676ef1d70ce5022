use Rattle.model.specs.Model.{init_difficulty}
use Rattle.model.specs.Runtime.{runtime_of, difficulty_of}
use Rattle.capi.proofs.memory_model.drill_init_difficulty.Goals as goal

pub returns : goal.returns
unfolding init_difficulty runtime_of difficulty_of
returns c = rw (c.init_difficulty.ensures, c.new.ensures)

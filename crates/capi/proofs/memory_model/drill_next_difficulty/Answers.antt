use Rattle.model.specs.Model.{next_difficulty}
use Rattle.model.specs.Runtime.{runtime_of, difficulty_of}
use Rattle.capi.proofs.memory_model.drill_next_difficulty.Goals as goal

pub returns : goal.returns
unfolding next_difficulty runtime_of difficulty_of
returns c = rw (c.next_difficulty.ensures, c.new.ensures)

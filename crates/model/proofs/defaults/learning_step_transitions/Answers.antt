use Rattle.std.proofs.Common.{refl}
use lib.Ieee.{round, of_bits, of_fields}
use Rattle.model.specs.Defaults.{over, learning_step_transitions}
use Rattle.model.proofs.defaults.learning_step_transitions.Goals as goal

pub returns : goal.returns
unfolding learning_step_transitions over round of_bits of_fields
returns c = refl

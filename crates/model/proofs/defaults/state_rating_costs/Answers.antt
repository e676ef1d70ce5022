use Rattle.std.proofs.Common.{refl}
use lib.Ieee.{round, of_bits, of_fields}
use Rattle.model.specs.Defaults.{over, state_rating_costs}
use Rattle.model.proofs.defaults.state_rating_costs.Goals as goal

pub returns : goal.returns
unfolding state_rating_costs over round of_bits of_fields
returns c = refl

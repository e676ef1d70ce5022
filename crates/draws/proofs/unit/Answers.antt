use Rattle.std.proofs.Common.{refl}
use lib.Ieee.{of_bits, of_fields, round}
use Rattle.draws.specs.Draws.{unit}
use Rattle.draws.proofs.unit.Goals as goal

pub returns : goal.returns
unfolding unit of_bits of_fields round
returns c = refl

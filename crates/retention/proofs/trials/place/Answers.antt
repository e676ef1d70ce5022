use lib.Ieee.{of_bits, of_fields}
use Rattle.std.proofs.Common.{rules}
use Rattle.retention.proofs.trials.place.Goals as goal

pub returns : goal.returns
unfolding of_bits of_fields
returns c = search rules

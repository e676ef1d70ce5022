use lib.Ieee.{of_bits, of_fields, round}
use Rattle.retention.specs.SampleSize.{sampled_by}
use Rattle.retention.proofs.sizes.sampled_by.Goals as goal

pub returns : goal.returns
unfolding sampled_by of_bits of_fields round
returns c = rw (c.to_u32.ensures, c.round.ensures, c.factor_of.ensures)

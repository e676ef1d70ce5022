use lib.Ieee.{of_bits, of_fields, round}
use Rattle.retention.specs.SampleSize.{factor_of}
use Rattle.retention.proofs.sizes.factor_of.Goals as goal

pub returns : goal.returns
unfolding factor_of of_bits of_fields round
returns c = rw (c.mul_add.ensures, c.powf_f32.ensures.value)

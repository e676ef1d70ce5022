use Rattle.std.proofs.Common.{◌∙◌}
use Rattle.float32.proofs.Shift.{size-leading}
use Rattle.float32.proofs.bit_length.Goals as goal

pub returns : goal.returns
returns c = c.from.ensures ∙ size-leading 64 c.args.m c.ranges.m.fits

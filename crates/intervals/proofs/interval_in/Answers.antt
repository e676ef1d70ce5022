use lib.Ieee.{of_bits, of_fields, div}
use Rattle.intervals.proofs.interval_in.Goals as goal

pub returns-in-Full : goal.returns-in-Full
unfolding of_bits of_fields div
returns-in-Full c = rw c.in-Full.is

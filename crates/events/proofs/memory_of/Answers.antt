use lib.Ieee.{of_bits, of_fields, round}
use Rattle.events.specs.Events.{memory_of}
use Rattle.events.proofs.memory_of.Goals as goal

pub returns : goal.returns
unfolding memory_of of_bits of_fields round
returns c = rw (c.clamp.ensures, c.clamp-2.ensures)

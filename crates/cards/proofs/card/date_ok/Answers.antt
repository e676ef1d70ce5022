use lib.Ieee.{of_bits, of_fields, round}
use Rattle.cards.proofs.card.date_ok.Goals as goal

pub returns-then-x : goal.returns-then-x
unfolding of_bits of_fields round
returns-then-x c = rw c.if-x.true

pub returns-else-x : goal.returns-else-x
unfolding of_bits of_fields round
returns-else-x c = rw c.if-x.false

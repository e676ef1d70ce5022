use lib.Ieee.{of_bits, of_fields, of_int, round}
use Rattle.cards.specs.Config.{interval_ok}
use Rattle.cards.proofs.configuration.interval_ok.Goals as goal

pub returns-then-x : goal.returns-then-x
unfolding interval_ok of_bits of_fields of_int round
returns-then-x c = rw c.if-x.true

pub returns-else-x : goal.returns-else-x
unfolding interval_ok of_bits of_fields of_int round
returns-else-x c = rw c.if-x.false

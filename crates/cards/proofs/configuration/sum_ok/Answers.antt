use lib.Ieee.{ne}
use Rattle.cards.proofs.configuration.sum_ok.Goals as goal

pub returns-then-is_finite : goal.returns-then-is_finite
unfolding ne
returns-then-is_finite c = rw (← c.is_finite.ensures, c.if-is_finite.true)

use mathlib.Core.Path.{refl}
use lib.Ieee.{of_bits, of_fields, round}
use Rattle.cards.specs.Cards.{is_kept}
use Rattle.cards.proofs.card.is_kept.Goals as goal

pub returns : goal.returns
unfolding is_kept of_bits of_fields round
returns c = refl

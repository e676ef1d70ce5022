use mathlib.Core.Path.{refl}
use Rattle.runs.specs.SetUp.{add_new_cards}
use Rattle.simulation.proofs.set_up.Loops.{joined_none, joined_then, create_next}
use Rattle.simulation.proofs.set_up.add_new_cards.Goals as goal

pub loop-i-init : goal.loop-i-init
unfolding add_new_cards
loop-i-init c = joined_none _ _

pub loop-i-preserved : goal.loop-i-preserved
loop-i-preserved c =
    joined_then c.loop-i.invariant c.add_card-len.ensures.joined
    (create_next _ _ _ _ _ _ _ c.loop-i.invariant.deck_is c.new_card-card.ensures refl)

use Rattle.std.proofs.Common.{refl}
use Rattle.elementary.specs.Filled.{filled}
use Rattle.elementary.proofs.Filled.{fill_turn}
use Rattle.elementary.proofs.blocks.powers.Goals as goal

pub loop-i-init : goal.loop-i-init
unfolding filled
loop-i-init c = refl

pub loop-i-preserved : goal.loop-i-preserved
loop-i-preserved c = fill_turn _ _ _ _ _ c.loop-i.invariant c.power_at.ensures

use Rattle.std.proofs.Common.{refl}
use Rattle.elementary.specs.Filled.{filled}
use Rattle.elementary.proofs.Filled.{fill_turn}
use Rattle.elementary.proofs.blocks.intervals.Goals as goal

pub loop-i-init : goal.loop-i-init
unfolding filled
loop-i-init c = (refl, refl)

pub loop-i-preserved : goal.loop-i-preserved
loop-i-preserved c =
    let inv = c.loop-i.invariant in (
      fill_turn _ _ _ _ _ inv.0 (rw c.from.ensures at c.interval_at-k.ensures.0),
      fill_turn _ _ _ _ _ inv.1 (rw c.from.ensures at c.interval_at-k.ensures.1),
    )

use native.Mathlib.Omega.{arith}
use mathlib.Core.Path.{refl}
use Prim.Native.Nat.{◌+◌}
use lib.Dec.{le→leb}
use lib.Ieee.{in_float}
use Rattle.elementary.specs.Filled.{filled}
use Rattle.elementary.proofs.Filled.{fill_turn, fill_end}
use Rattle.days.proofs.memorized.times.Goals as goal

pub loop-i-init : goal.loop-i-init
unfolding filled
loop-i-init c = (omega arith, refl)

pub int_to_float-a : goal.int_to_float-a
unfolding in_float
int_to_float-a c = le→leb (c.args.d + c.loop-i.i) 16777216 (omega arith)

pub loop-i-preserved : goal.loop-i-preserved
loop-i-preserved c = (omega arith, fill_turn _ _ _ _ _ c.loop-i.invariant.1 refl)

pub returns : goal.returns
returns c = fill_end _ _ _ _ _ c.loop-i.invariant.1 (omega arith) (omega arith)

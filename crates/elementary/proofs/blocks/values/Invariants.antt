-- The invariant: as many places are filled as there were turns.
use Rattle.std.proofs.Common.{◌≡◌, ◌+◌, ◌^◌, get_or}
use lib.Ieee.{binary32, of_bits}
use Rattle.elementary.specs.Power.{exp2_bits}
use Rattle.elementary.specs.Filled.{filled}
use Rattle.elementary.proofs.blocks.values.Given as goal

abbrev pub invariant-loop-i : goal.invariant-loop-i
invariant-loop-i l = (l.x ≡ filled (λ i. of_bits binary32 (exp2_bits (get_or l.e i 0 + 2 ^ 55))) l.i l.initial.x)

-- The invariant: as many places are filled as there were turns.
use Rattle.std.proofs.Common.{◌≡◌, get_or}
use lib.Ieee.{nan, binary32, to_bits}
use Rattle.elementary.specs.Filled.{filled}
use Rattle.elementary.specs.Quick.{quick_arg}
use Rattle.elementary.proofs.blocks.args.Given as goal

abbrev pub invariant-loop-i : goal.invariant-loop-i
invariant-loop-i l = (l.e ≡ filled (λ i. quick_arg (to_bits binary32 (get_or l.x i nan)) l.c) l.i l.initial.e)

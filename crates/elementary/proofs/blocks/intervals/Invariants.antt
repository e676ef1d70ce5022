-- The invariant: as many places are filled as there were turns.
use Rattle.std.proofs.Common.{◌≡◌, ◌/◌, ◌%◌, ◌^◌, get_or}
use lib.Ieee.{nan, binary32, to_bits}
use Rattle.power_tables.specs.Tables.{line_word, curvature}
use Rattle.elementary.specs.Filled.{filled}
use Rattle.elementary.proofs.blocks.intervals.Given as goal

abbrev pub invariant-loop-i : goal.invariant-loop-i
invariant-loop-i l =
    (l.e ≡ filled (λ i. line_word (to_bits binary32 (get_or l.x i nan) / 2 ^ 14 % 512)) l.i l.initial.e)
    × (l.f ≡ filled (λ i. curvature (to_bits binary32 (get_or l.x i nan) / 2 ^ 14 % 512)) l.i l.initial.f)

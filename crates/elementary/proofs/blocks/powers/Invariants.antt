-- The invariant: as many places are filled as there were turns.
use Rattle.std.proofs.Common.{◌≡◌, ◌/◌, ◌%◌, ◌^◌, get_or}
use Rattle.power_tables.specs.Tables.{power_word}
use Rattle.elementary.specs.Filled.{filled}
use Rattle.elementary.proofs.blocks.powers.Given as goal

abbrev pub invariant-loop-i : goal.invariant-loop-i
invariant-loop-i l = (l.f ≡ filled (λ i. power_word (get_or l.e i 0 / 2 ^ 32 % 128)) l.i l.initial.f)

-- The invariant: the first i places are the patterns of the first i floats.
use Rattle.std.proofs.Common.{◌≡◌, length, take}
use Rattle.std.specs.Prelude.{map}
use Rattle.std.specs.Float.{binary32}
use Rattle.std.specs.Float.Ieee.{to_bits}
use Rattle.forecast_text.proofs.settings.bits_of.Given as goal

abbrev pub invariant-loop-i : goal.invariant-loop-i
invariant-loop-i g l = record {
  room : length l.bits ≡ g.row.N;
  says : take l.i l.bits ≡ map (to_bits binary32) (take l.i l.xs);
}

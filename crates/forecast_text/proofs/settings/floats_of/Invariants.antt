-- The invariant: the first i places are the floats of the first i patterns.
use Rattle.std.proofs.Common.{◌≡◌, length, take}
use Rattle.std.specs.Prelude.{map}
use Rattle.std.specs.Float.{binary32}
use Rattle.std.specs.Float.Ieee.{of_bits}
use Rattle.forecast_text.proofs.settings.floats_of.Given as goal

abbrev pub invariant-loop-i : goal.invariant-loop-i
invariant-loop-i g l = record {
  room : length l.floats ≡ g.row.N;
  says : take l.i l.floats ≡ map (of_bits binary32) (take l.i l.bits);
}

-- The invariant: the digits of m, of which there are i, and those from i on are the digits of n.
use Rattle.std.proofs.Common.{◌≡◌, ◌++◌, length, drop}
use Rattle.report.specs.Digits.{hex_in, hex}
use Rattle.report.proofs.digits.hex_of.Given as goal

abbrev pub invariant-loop-i : goal.invariant-loop-i
invariant-loop-i l = record {
  room : length l.bytes ≡ 8;
  says : hex l.n ≡ hex_in l.i l.m ++ drop l.i l.bytes;
}

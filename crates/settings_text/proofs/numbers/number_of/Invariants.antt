-- The invariant: what the digits from there on say, read on from v, is what all say; v is at most the most.
use Rattle.std.proofs.Common.{◌≡◌, ◌<◌, ◌≤◌, length, drop}
use Rattle.settings_text.specs.Numbers.{digits, value}
use Rattle.settings_text.proofs.numbers.number_of.Given as goal

abbrev pub invariant-loop-b : goal.invariant-loop-b
invariant-loop-b l = record {
  some : 0 < length l.w;
  digits : digits l.base l.w ≡ digits l.base (drop l.b-index l.w);
  value : value l.base 0 l.w ≡ value l.base l.v (drop l.b-index l.w);
  most : l.v ≤ l.most;
}

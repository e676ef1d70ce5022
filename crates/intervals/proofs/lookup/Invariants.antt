-- What the search finds from here is what the whole search finds.
use mathlib.Core.Path.{◌≡◌}
use Prim.Native.Nat.{◌<◌, ◌-◌}
use Rattle.intervals.specs.Table.{table, places, probe, lookup_in}
use Rattle.intervals.proofs.lookup.Given as goal

abbrev pub invariant-loop : goal.invariant-loop
invariant-loop l = record {
  place : l.p < l.n;
  size : l.n ≡ places (table l.keys l.intervals);
  rest : probe (table l.keys l.intervals) l.s l.r (l.n - l.counter) l.p ≡ lookup_in (table l.keys l.intervals) l.s l.r;
}

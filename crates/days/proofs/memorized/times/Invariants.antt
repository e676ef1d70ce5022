-- The invariant: as many places are filled as there were turns.
use mathlib.Core.Path.{◌≡◌}
use Prim.Native.Nat.{◌+◌, ◌≤◌}
use lib.IntN.{pos}
use lib.Ieee.{binary32, sub, of_int}
use Rattle.elementary.specs.Filled.{filled}
use Rattle.days.proofs.memorized.times.Given as goal

abbrev pub invariant-loop-i : goal.invariant-loop-i
invariant-loop-i l = (l.i ≤ l.n) × (l.a ≡ filled (λ i. sub binary32 (of_int binary32 (pos (l.d + i))) l.last) l.i l.initial.a)

-- The invariant: by any curve that has these chances, what is left to add gives the whole.
use mathlib.Core.Path.{◌≡◌}
use Prim.Native.Nat.{ℕ, ◌+◌, ◌-◌, ◌≤◌, ◌<◌}
use lib.IntN.{pos}
use lib.ListN.{get_or, length}
use lib.Ieee.{Float, nan, binary32, sub, of_int}
use Rattle.days.specs.Sums.{add_forgetting_curve_range}
use Rattle.days.proofs.memorized.add_block.Given as goal

abbrev pub invariant-loop-i : goal.invariant-loop-i
invariant-loop-i l =
    (l.i ≤ l.n) × (length l.memorized ≡ length l.initial.memorized)
    × ((r : Float → Float)
    → ((j : ℕ) → j < l.n → get_or l.chances j nan ≡ r (sub binary32 (of_int binary32 (pos (l.d + j))) l.last))
    → add_forgetting_curve_range r l.memorized (l.n - l.i) (l.d + l.i) l.last ≡ add_forgetting_curve_range r l.initial.memorized l.n l.d l.last)

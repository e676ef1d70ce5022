-- The sums of a run's days: what the events of each day cost, and how many cards are memorized on it. Definitions only.
--   cost_at none costs d                            the cost of day d
--   rows_by_day none days costs                     what rows of counts and costs say of each day
--   add_cost none plus costs d x                    the costs with x added to day d
--   add_memorized memorized d x                     what is memorized, with a chance x added to day d
--   add_forgetting_curve_range r memorized m d last   the same on m days from day d on, by a forgetting curve r
use Rattle.std.specs.Prelude.{ℕ, zero, suc, ◌+◌, List, get_or, set, pos, Float}
use Rattle.std.specs.Float.{nan, binary32}
use Rattle.std.specs.Float.Ieee.{add, sub, of_int}
use Rattle.turns.specs.Turns.{DayRows}
use Rattle.days.specs.Counts.{learned_at, reviewed_at, correct_at, introduced_at}

-- past the list's end, the cost of no event
abbrev pub cost_at : {C : Type 0} → C → List C → ℕ → C
cost_at none costs d = get_or costs d none

-- what rows of counts, and costs, say of each day
abbrev pub rows_by_day : {C : Type 0} → C → List (List ℕ) → List C → DayRows C
rows_by_day none days costs = record {
  learned = learned_at days;
  reviewed = reviewed_at days;
  correct = correct_at days;
  introduced = introduced_at days;
  cost = cost_at none costs;
}

-- the cost of an event is added to its day's
unfoldable pub add_cost : {C : Type 0} → C → (C → C → C) → List C → ℕ → C → List C
add_cost none plus costs d cost = set costs d (plus (cost_at none costs d) cost)

-- a card's chance is added to what is memorized on a day
unfoldable pub add_memorized : List Float → ℕ → Float → List Float
add_memorized memorized d chance = set memorized d (add binary32 (get_or memorized d nan) chance)

-- on m days from day d on: the chance on a day is the retention after the days since the last date
unfoldable pub add_forgetting_curve_range : (Float → Float) → List Float → ℕ → ℕ → Float → List Float
add_forgetting_curve_range retention memorized zero d last = memorized
add_forgetting_curve_range retention memorized (suc m) d last =
    let chance = retention (sub binary32 (of_int binary32 (pos d)) last) in
    add_forgetting_curve_range retention (add_memorized memorized d chance) m (d + 1) last

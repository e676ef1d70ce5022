-- Due counts: the kept cards, each on its day at set-up, dated or not, and the next day of each event. Definitions only.
--   due_days span             the days that are counted
--   add_one_at due d           one more at a place of the list
--   add_due span due d        one more on a day, if that is counted
--   move_due span due new d   a card is put off from a day to the next
--   none_due due new d        the test of refusal 9
use Rattle.std.specs.Prelude.{ℕ, ◌+◌, ◌-◌, ◌/◌, Bool, not, ◌&&◌, cond, List, eqb, ltb, get_or, set}
use Rattle.days.specs.Counts.{saturating_suc}

-- the days that are counted: half as many again as the span
abbrev pub due_days : ℕ → ℕ
due_days span = span + span / 2

abbrev pub add_one_at : List ℕ → ℕ → List ℕ
add_one_at due d = set due d (saturating_suc (get_or due d 0))

-- one more on day d, if that is counted
unfoldable pub add_due : ℕ → List ℕ → ℕ → List ℕ
add_due span due d = cond (ltb d (due_days span)) (add_one_at due d) due

-- a dated card is put off from day d to the next; one without a last date is not moved
unfoldable pub move_due : ℕ → List ℕ → Bool → ℕ → List ℕ
move_due span due new d = cond new due (add_due span (set due d (get_or due d 0 - 1)) (d + 1))

-- refusal 9: a dated card is to go from a day that counts none
unfoldable pub none_due : List ℕ → Bool → ℕ → Bool
none_due due new d = not new && eqb (get_or due d 0) 0

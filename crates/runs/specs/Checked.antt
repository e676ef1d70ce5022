-- The entry's tests of a run, by the state of its lent lists (docs/RULES.md, E1 to E9). Definitions only.
--   lengths_of s         the lengths of the lists that it writes
--   lists_ok i s         refusal 6
--   checked_with ok i s  all tests, in their order; ok is among those of refusal 4
--   checked i s         those of a run
use Rattle.std.specs.Prelude.{Bool, length}
use Rattle.float32.specs.Float32.{is_finite}
use Rattle.entry.specs.declared.lists.Lengths.{Lengths}
use Rattle.entry.specs.Entry.{Check, Inputs, lengths_ok, check_entry}
use Rattle.runs.specs.State.{State}

abbrev pub lengths_of : {C : Type 0} → State C → Lengths
lengths_of s = record {
  cards = length s.cards;
  counts = length s.counts;
  queue_rows = length s.queue.rows;
  days = length s.days;
  costs = length s.costs;
  memorized = length s.memorized;
  due = length s.due;
  keys = length s.table.keys;
  intervals = length s.table.intervals;
}

abbrev pub lists_ok : {C : Type 0} → Inputs → State C → Bool
lists_ok i s = lengths_ok i.settings.config (length i.existing) (length i.existing_counts) (lengths_of s)

abbrev pub checked_with : {C : Type 0} → Bool → Inputs → State C → Check
checked_with ok i s = check_entry ok i (lengths_of s)

-- of a run: its retention is finite
abbrev pub checked : {C : Type 0} → Inputs → State C → Check
checked i s = checked_with (is_finite i.settings.retention) i s

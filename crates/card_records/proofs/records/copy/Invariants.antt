-- The invariant of its loop: the first i records are copied.
use mathlib.Core.Path.{◌≡◌}
use Rattle.elementary.specs.Filled.{filled}
use Rattle.card_records.specs.Records.{floats_at, counts_at}
use Rattle.card_records.proofs.records.copy.Given as goal

abbrev pub invariant-loop-i : goal.invariant-loop-i
invariant-loop-i l =
    (l.existing ≡ filled (floats_at l.records) l.i l.initial.existing)
    × (l.existing_counts ≡ filled (counts_at l.records) l.i l.initial.existing_counts)

-- The invariant of its loop: the first i cards are read back.
use mathlib.Core.Path.{◌≡◌}
use Rattle.elementary.specs.Filled.{filled}
use Rattle.cards.specs.Cards.{card_at}
use Rattle.card_records.proofs.records.read_back.Given as goal

abbrev pub invariant-loop-i : goal.invariant-loop-i
invariant-loop-i l = l.records ≡ filled (card_at l.cards l.counts) l.i l.initial.records

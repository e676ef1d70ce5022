use mathlib.Core.Path.{refl, sym, ◌∙◌}
use Rattle.cards.specs.Cards.{write_floats, write_counts}
use Rattle.elementary.proofs.Filled.{fill_turn}
use Rattle.card_records.specs.Records.{blank, floats_at, counts_at}
use Rattle.card_records.proofs.Laws.{fill_none}
use Rattle.card_records.proofs.records.copy.Goals as goal

pub loop-i-init : goal.loop-i-init
loop-i-init c = (
  sym (fill_none (floats_at c.args.records.now) _),
  sym (fill_none (counts_at c.args.records.now) _),
)

pub loop-i-preserved : goal.loop-i-preserved
unfolding write_floats write_counts blank
loop-i-preserved c = (
  c.write_floats.ensures ∙ fill_turn (floats_at c.args.records.now) _ _ _ _ c.loop-i.invariant.0 refl,
  c.write_counts.ensures ∙ fill_turn (counts_at c.args.records.now) _ _ _ _ c.loop-i.invariant.1 refl,
)

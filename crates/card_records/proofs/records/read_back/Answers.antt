use mathlib.Core.Path.{sym, ◌∙◌}
use native.Mathlib.Omega.{arith}
use Rattle.cards.specs.Cards.{card_at}
use Rattle.elementary.proofs.Filled.{fill_turn}
use Rattle.card_records.proofs.Laws.{fill_none, fill_most}
use Rattle.card_records.proofs.records.read_back.Goals as goal

pub loop-i-init : goal.loop-i-init
loop-i-init c = sym (fill_none (card_at c.args.cards.now c.args.counts.now) _)

pub loop-i-preserved : goal.loop-i-preserved
loop-i-preserved c =
    fill_turn (card_at c.args.cards.now c.args.counts.now) _ _ _ _ c.loop-i.invariant c.card_at.ensures

pub returns : goal.returns
returns c = c.loop-i.invariant
    ∙ fill_most (card_at c.args.cards.now c.args.counts.now) c.args.n c.loop-i.i c.args.records.now
    (omega (arith, c.min-i-end.ensures, c.loop-i-test.false, c.loop-i.auto.i-end))

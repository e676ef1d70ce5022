-- The calls of set-up leave, one after the other, the parts of `set_up`.
use mathlib.Core.Path.{ap, ◌∙◌}
use mathlib.Core.List.{List}
use lib.Ieee.{Float, of_bits, binary32}
use lib.ListN.{length, replicate}
use Rattle.runs.specs.SetUp.{filled_with}
use Rattle.simulation.proofs.set_up.State.{set_up_is}
use Rattle.simulation.proofs.set_up.set_up.Goals as goal

pub returns-clause-state : goal.returns-clause-state
returns-clause-state c =
    let a = c.args in
    let x = a.lists.now in
    let p = c.add_existing_cards-kept.ensures.joined in
    let q = c.add_new_cards-len.ensures.joined in
    set_up_is a.settings.config a.learner.parameters.now a.settings.retention a.settings.seed a.learner.existing.now
    a.learner.existing_counts.now x.cards.now x.counts.now x.queue_rows.now x.days.now x.costs.now x.memorized.now
    x.due.now x.keys.now x.intervals.now
    (rw c.due_days.ensures at c.fill_first.ensures) p.deck_is c.new_card_count-more.ensures q.deck_is
    c.introduced_before.ensures (c.fill_first-2.ensures ∙ ap (filled_with _ _) (q.days_are ∙ p.days_are))
    (c.fill_first-3.ensures ∙ ap (filled_with _ _) (q.costs_are ∙ p.costs_are))
    (c.fill_first-4.ensures ∙ ap (filled_with _ _) (q.memorized_are ∙ p.memorized_are))
    (c.clear.ensures ∙ ap (λ (z : List Float). replicate (length z) (of_bits binary32 0))
    (q.intervals_are ∙ p.intervals_are)) (q.keys_are ∙ p.keys_are)

use mathlib.Core.Path.{sym, ◌∙◌}
use Rattle.draws.specs.Draws.{split_mix}
use Rattle.events.specs.Scalars.{of_runtime}
use Rattle.events.proofs.Costs.{event_cost}
use Rattle.runs.specs.State.{lent_of}
use Rattle.runs.specs.Rules.{rules_as}
use Rattle.turn.proofs.Calls.{none_is, chance_is, full_is, handled_is}
use Rattle.turn.proofs.event_step.Goals as goal

pub returns-in_default-clause-step : goal.returns-in_default-clause-step
returns-in_default-clause-step c =
    let a = c.args in
    rw (← c.is_new-new.ensures)
    (chance_is (rules_as a.rules) (lent_of a.lists.now) a.at.queued a.at.draws a.first c.is_new-new.result
    (sym c.event_of.ensures ∙ none_is _ c.in_default.not-Some))

pub returns-then-is_full-clause-step : goal.returns-then-is_full-clause-step
returns-then-is_full-clause-step c =
    let a = c.args in
    rw (← c.is_new-new.ensures)
    (full_is (rules_as a.rules) (lent_of a.lists.now) a.at.queued a.at.draws a.first c.is_new-new.result
    _ (sym c.event_of.ensures ∙ c.in-Some.is) _ c.slot_for-slot.ensures
    (sym c.is_full.ensures ∙ c.if-is_full.true))

pub returns-clause-step : goal.returns-clause-step
returns-clause-step c =
    let a = c.args in
    rw (← c.is_new-new.ensures)
    (handled_is (rules_as a.rules) (lent_of a.lists.now) a.at.queued a.at.draws a.first c.is_new-new.result
    _ (sym c.event_of.ensures ∙ c.in-Some.is) _ c.slot_for-slot.ensures
    (sym c.is_full.ensures ∙ c.if-is_full.false) _ c.interval_in.ensures _ c.event_card-later.ensures _
    c.write_floats.ensures c.write_counts.ensures
    (rw (← c.key_of-key.ensures) c.change_front.ensures)
    c.add_event.ensures c.add_cost.ensures c.add_forgetting_curve.ensures
    (rw (← c.day_of.ensures) c.add_due.ensures) c.enter_slot.ensures
    (event_cost split_mix a.rules.config (of_runtime a.rules.model) a.first.card c.is_new-new.result a.first.day a.at.draws _
    (sym c.event_of.ensures ∙ c.in-Some.is)))

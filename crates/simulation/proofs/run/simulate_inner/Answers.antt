-- Set-up leaves `set_up`, and the turns from there the run; what the entry accepts keeps the bound within a u32.
use native.Mathlib.Omega.{arith}
use Rattle.runs.specs.State.{lent_of, state}
use Rattle.runs.specs.Rules.{rules_as}
use Rattle.entry.specs.Lists.{inputs_of}
use Rattle.runs.proofs.Accepted.{accepted}
use Rattle.simulation.proofs.run.Answer.{few_cards, inner_is}
use Rattle.simulation.proofs.run.simulate_inner.Goals as goal

pub set_up-cards-requires : goal.set_up-cards-requires
set_up-cards-requires c =
    let a = c.args in
    let ok = accepted (inputs_of a.learner a.settings) (state (lent_of a.lists.now) 0 a.settings.seed) c.requires in
    (omega (arith, ok.existing_few, ok.deck_most), ok.span_most)

pub fuel_of-fuel-requires : goal.fuel_of-fuel-requires
fuel_of-fuel-requires c =
    let a = c.args in
    few_cards (rules_as (record { config = a.settings.config; model = c.new.result }))
    (inputs_of a.learner a.settings) (state (lent_of a.lists.now) 0 a.settings.seed)
    c.set_up-cards.ensures.state c.requires

pub returns-clause-run : goal.returns-clause-run
returns-clause-run c =
    let a = c.args in
    rw (← c.new.ensures)
    (inner_is (rules_as (record { config = a.settings.config; model = c.new.result }))
    (inputs_of a.learner a.settings) (state (lent_of a.lists.now) 0 a.settings.seed)
    c.set_up-cards.ensures.state c.fuel_of-fuel.ensures c.run_held-end.ensures.run c.answer_of.ensures)

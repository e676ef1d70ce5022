-- A call that an entry test fails is turned away as it came; any other is set up and run.
use mathlib.Core.Path.{sym, ◌∙◌}
use Rattle.entry.specs.Lists.{inputs_of}
use Rattle.runs.specs.State.{lent_of, state}
use Rattle.runs.proofs.Accepted.{same_check}
use Rattle.simulation.proofs.Contract.{refused_is, accepted_is}
use Rattle.simulation.proofs.simulate.Goals as goal

pub simulate_inner-requires : goal.simulate_inner-requires
simulate_inner-requires c =
    let a = c.args in
    let i = inputs_of a.learner a.settings in
    let s = state (lent_of a.lists.now) 0 a.settings.seed in
    sym (same_check i s c.is_finite-retention_ok.result c.is_finite-retention_ok.ensures
    (rw c.lengths.ensures at c.check_entry-entry.ensures)) ∙ c.in_default.is

pub returns-in-Err-clause-run : goal.returns-in-Err-clause-run
returns-in-Err-clause-run c =
    let a = c.args in
    let i = inputs_of a.learner a.settings in
    let s = state (lent_of a.lists.now) 0 a.settings.seed in
    rw (c.at_entry.ensures) (refused_is i s _ (sym (same_check i s c.is_finite-retention_ok.result
    c.is_finite-retention_ok.ensures (rw c.lengths.ensures at c.check_entry-entry.ensures)) ∙ c.in-Err.is))

pub returns-clause-run : goal.returns-clause-run
returns-clause-run c =
    let a = c.args in
    let i = inputs_of a.learner a.settings in
    let s = state (lent_of a.lists.now) 0 a.settings.seed in
    let e = sym (same_check i s c.is_finite-retention_ok.result c.is_finite-retention_ok.ensures
    (rw c.lengths.ensures at c.check_entry-entry.ensures)) ∙ c.in_default.is in
    accepted_is i s e c.simulate_inner.ensures.run

-- One run, and what it costs.
use mathlib.Core.Path.{◌≡◌, ap, ◌∙◌}
use lib.Ieee.{Float}
use Rattle.std.specs.Prelude.{Ok, Err}
use Rattle.std.proofs.Common.{rules}
use Rattle.std.proofs.lemmas.Result.{err_from_is_err_and}
use Rattle.entry.specs.declared.Refusal.{Refusal}
use Rattle.runs.specs.State.{lent_of}
use Rattle.entry.specs.Lists.{inputs_of}
use Rattle.retention.proofs.trials.Runs.{run_is, before_ok, before_err}
use Rattle.retention.proofs.trials.run_of.Goals as goal

pub returns-clause-run : goal.returns-clause-run
returns-clause-run c =
    let a = c.args in
    let ok = before_ok c.map_err.result _ c.simulate.result c.map_err.ensures.cases _ c.in_ok-map_err.was in
    run_is (inputs_of a.learner a.settings) a.retention a.n (lent_of a.lists.now)
    (rw (c.from.ensures, ok) at c.simulate.ensures.run) (ap (λ (x : Float). Ok x) c.target_of.ensures)

pub returns-in_err-map_err-clause-run : goal.returns-in_err-map_err-clause-run
returns-in_err-map_err-clause-run c =
    let a = c.args in
    let p = err_from_is_err_and c.from_residual.result c.from_residual.ensures.1 in
    let q = before_err c.map_err.result _ c.simulate.result (λ w y. y ≡ w.refusal) (λ w y q. search rules)
    c.map_err.ensures.cases _ c.in_err-map_err.was in
    run_is (inputs_of a.learner a.settings) a.retention a.n (lent_of a.lists.now)
    (rw (c.from.ensures, q.1) at c.simulate.ensures.run) (p.1 ∙ ap (λ (x : Refusal). Err x) (p.2 ∙ q.2))

use mathlib.Core.Path.{ap}
use Rattle.std.proofs.Common.{rules}
use Rattle.std.proofs.lemmas.Result.{err_from_is_err_and}
use Rattle.float32.specs.Ops.{◌/ᶠ◌}
use Rattle.runs.specs.State.{lent_of}
use Rattle.entry.specs.Lists.{inputs_of}
use Rattle.retention.proofs.trials.Runs.{going_on, going_stops, going_spent, sample_is}
use Rattle.retention.proofs.trials.sample.Goals as goal

pub returns-in_err-sum-clause-trial : goal.returns-in_err-sum-clause-trial
returns-in_err-sum-clause-trial c =
    let a = c.args in
    let i = inputs_of a.learner a.settings in
    let l = lent_of a.lists.now in
    let n = c.sample_size-runs.result in
    let p = err_from_is_err_and c.from_residual.result c.from_residual.ensures.1 in
    rw (p.1, p.2) (sample_is i a.retention l n c.sample_size-runs.ensures
    (going_stops i a.retention n l c.loop-made.invariant.going c.loop-made-test.true c.run_of.ensures.run _
    c.in_err-sum.was))

pub loop-made-preserved : goal.loop-made-preserved
loop-made-preserved c =
    let a = c.args in
    record {
      going = going_on (inputs_of a.learner a.settings) a.retention c.sample_size-runs.result (lent_of a.lists.now)
          c.loop-made.invariant.going c.loop-made-test.true c.run_of.ensures.run _ c.in_ok-sum.was;
      same = search rules;
    }

pub returns-clause-trial : goal.returns-clause-trial
returns-clause-trial c =
    let a = c.args in
    let i = inputs_of a.learner a.settings in
    let l = lent_of a.lists.now in
    let n = c.sample_size-runs.result in
    sample_is i a.retention l n c.sample_size-runs.ensures
    (going_spent i a.retention n l c.loop-made.invariant.going c.loop-made-test.false
    (ap (λ (x : _). c.loop-made.sum /ᶠ x) c.from_u32.ensures))

use native.Mathlib.Omega.{arith}
use Rattle.std.proofs.Common.{rules}
use Rattle.std.proofs.lemmas.Result.{err_from_is_err_and}
use Rattle.runs.specs.State.{lent_of}
use Rattle.entry.specs.Lists.{inputs_of}
use Rattle.retention.proofs.Rounds.{trying_start, trying_on, trying_ends, trying_stops, trying_spent}
use Rattle.retention.proofs.search.Goals as goal
use Rattle.retention.proofs.search.Goals.{else-loop-test, then-loop-test+in-Some+in_ok-mean+else-counter-rounds}

pub loop-init : goal.loop-init
loop-init c =
    let a = c.args in
    record {
      trying = trying_start (inputs_of a.learner a.settings) a.rounds (lent_of a.lists.now) c.start-stepper.result
          c.start-stepper.ensures;
      same = search rules;
    }

pub returns-in_default-clause-searched : goal.returns-in_default-clause-searched
returns-in_default-clause-searched c =
    let a = c.args in
    trying_ends (inputs_of a.learner a.settings) a.rounds (lent_of a.lists.now) c.loop.invariant.trying
    (omega (arith, c.loop-test.true)) c.next_retention.ensures c.in_default.is c.ended.ensures

pub returns-in_err-mean-clause-searched : goal.returns-in_err-mean-clause-searched
returns-in_err-mean-clause-searched c =
    let a = c.args in
    let p = err_from_is_err_and c.from_residual.result c.from_residual.ensures.1 in
    rw (p.1, p.2) (trying_stops (inputs_of a.learner a.settings) a.rounds (lent_of a.lists.now)
    c.loop.invariant.trying (omega (arith, c.loop-test.true)) c.next_retention.ensures c.in-Some.is
    c.sample.ensures.trial _ c.in_err-mean.was)

pub loop-preserved : goal.loop-preserved
loop-preserved c =
    let a = c.args in
    record {
      trying = trying_on (inputs_of a.learner a.settings) a.rounds (lent_of a.lists.now) c.loop.invariant.trying
          (omega (arith, c.loop-test.true)) c.next_retention.ensures c.in-Some.is c.sample.ensures.trial _
          c.in_ok-mean.was c.take_mean-stepper.ensures;
      same = search rules;
    }

-- the loop ends before a trial, or after the last
pub returns-clause-searched : goal.returns-clause-searched
returns-clause-searched c =
    let a = c.args in
    elim c.loop-test.branch [
      | else-loop-test w ↦ rw (w.lists-is) (trying_spent (inputs_of a.learner a.settings) a.rounds (lent_of a.lists.now)
          c.loop.invariant.trying (omega (arith, w.loop-test.false)) (rw w.stepper-is at c.ended-2.ensures))
      | then-loop-test+in-Some+in_ok-mean+else-counter-rounds w ↦ rw (w.lists-is)
          (trying_spent (inputs_of a.learner a.settings) a.rounds (lent_of a.lists.now)
          (trying_on (inputs_of a.learner a.settings) a.rounds (lent_of a.lists.now) c.loop.invariant.trying
          (omega (arith, w.loop-test.true)) w.next_retention.ensures w.in-Some.is w.sample.ensures.trial _
          w.in_ok-mean.was w.take_mean-stepper.ensures) (omega arith)
          (rw w.stepper-is at c.ended-2.ensures))
    ]

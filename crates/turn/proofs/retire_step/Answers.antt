use Rattle.runs.specs.State.{lent_of}
use Rattle.runs.specs.Rules.{rules_as}
use Rattle.turn.proofs.Calls.{retired_is}
use Rattle.turn.proofs.retire_step.Goals as goal

pub returns-clause-step : goal.returns-clause-step
returns-clause-step c =
    let a = c.args in
    retired_is (rules_as a.rules) (lent_of a.lists.now) a.at.queued a.at.draws a.first _ _ _
    c.add_forgetting_curve.ensures c.pop-queued.ensures

use Rattle.cards.specs.declared.choice.Choice.TheVariants as choice
use Rattle.runs.specs.Rules.{rules_as}
use Rattle.runs.specs.State.{lent_of}
use Rattle.turn.proofs.Calls.{ended_is, acted_is, event_is}
use Rattle.turn.proofs.turn.Goals as goal

pub returns-then-at-eq0-clause-turn : goal.returns-then-at-eq0-clause-turn
returns-then-at-eq0-clause-turn c =
    let a = c.args in
    ended_is (rules_as a.rules) (lent_of a.lists.now) a.at.queued a.at.draws c.if-at-eq0.true

pub returns-in-Retire-clause-turn : goal.returns-in-Retire-clause-turn
returns-in-Retire-clause-turn c =
    let a = c.args in
    acted_is (rules_as a.rules) (lent_of a.lists.now) a.at.queued a.at.draws c.if-at-eq0.false _ _
    (c.first_of-first.ensures a.at) (c.choice_in.ensures a.at)
    choice.Retire c.in-Retire.is c.retire_step.ensures.step

pub returns-in-PutOff-clause-turn : goal.returns-in-PutOff-clause-turn
returns-in-PutOff-clause-turn c =
    let a = c.args in
    acted_is (rules_as a.rules) (lent_of a.lists.now) a.at.queued a.at.draws c.if-at-eq0.false _ _
    (c.first_of-first.ensures a.at) (c.choice_in.ensures a.at)
    choice.PutOff c.in-PutOff.is c.put_off_step.ensures.step

pub returns-in-Learn-clause-turn : goal.returns-in-Learn-clause-turn
returns-in-Learn-clause-turn c =
    let a = c.args in
    event_is (rules_as a.rules) (lent_of a.lists.now) a.at.queued a.at.draws c.if-at-eq0.false _ _
    (c.first_of-first.ensures a.at) (c.choice_in.ensures a.at)
    c.in-Learn.is c.event_step.ensures.step

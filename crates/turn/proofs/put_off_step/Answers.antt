use mathlib.Core.Path.{sym, ◌∙◌}
use Rattle.runs.specs.State.{lent_of}
use Rattle.runs.specs.Rules.{rules_as}
use Rattle.runs.specs.Turn.{card_after_put_off}
use Rattle.turn.proofs.Calls.{put_off-refused, put_off_done}
use Rattle.turn.proofs.put_off_step.Goals as goal

pub returns-then-none_due_in-clause-step : goal.returns-then-none_due_in-clause-step
returns-then-none_due_in-clause-step c =
    let a = c.args in
    put_off-refused (rules_as a.rules) (lent_of a.lists.now) a.at.queued a.at.draws a.first
    (rw (← c.is_new-new.ensures) (sym c.none_due_in.ensures ∙ c.if-none_due_in.true))

pub returns-clause-step : goal.returns-clause-step
unfolding card_after_put_off
returns-clause-step c =
    let a = c.args in
    put_off_done (rules_as a.rules) (lent_of a.lists.now) a.at.queued a.at.draws a.first
    (rw (← c.is_new-new.ensures) (sym c.none_due_in.ensures ∙ c.if-none_due_in.false)) _ _ _
    (rw (← c.put_off_card-later.ensures) c.write_floats.ensures)
    (rw (← c.is_new-new.ensures, ← c.day_after.ensures, ← c.card_priority-key.ensures) c.change_front.ensures)
    (rw (← c.is_new-new.ensures) c.move_due.ensures)

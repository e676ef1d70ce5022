use Rattle.days.specs.Counts.{add_event}
use Rattle.days.proofs.Laws.{learn_is}
use Rattle.days.proofs.add_event.Goals as goal

pub returns-then-new : goal.returns-then-new
unfolding add_event
returns-then-new c = rw (
  c.if-new.true,
  c.add_introduced_from.ensures,
  c.add_one.ensures,
  learn_is c.args.rows.now c.args.d (c.told-rows c.args.d),
)

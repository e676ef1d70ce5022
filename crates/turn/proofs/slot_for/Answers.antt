use Rattle.intervals.specs.Schedule.{slot_of}
use Rattle.turn.proofs.slot_for.Goals as goal

pub returns : goal.returns
unfolding slot_of
returns c = c.scheduled_interval.ensures

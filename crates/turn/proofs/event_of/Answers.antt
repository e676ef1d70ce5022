use Rattle.events.specs.Events.{chance_on, event_of}
use Rattle.turn.proofs.event_of.Goals as goal

pub returns : goal.returns
unfolding chance_on event_of
returns c = rw (
  c.event_at.ensures,
  c.retention-chance.ensures.value,
  c.from_u32.ensures,
  c.requires,
)

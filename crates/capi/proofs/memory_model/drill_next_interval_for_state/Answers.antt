use Rattle.model.proofs.Runtime.{curves_are}
use Rattle.capi.proofs.memory_model.drill_next_interval_for_state.Goals as goal

pub returns : goal.returns
returns c = rw (
  c.next_interval_for_state.ensures,
  c.state_of.ensures,
  c.new.ensures,
  curves_are,
)

use Rattle.model.proofs.Runtime.{curve_is}
use Rattle.capi.proofs.memory_model.drill_forgetting_curve_for_state.Goals as goal

pub returns : goal.returns
returns c = rw (
  c.forgetting_curve_for_state.ensures,
  c.state_of.ensures,
  c.new.ensures,
  curve_is,
)

use Rattle.model.proofs.Runtime.{curve_is}
use Rattle.capi.proofs.memory_model.drill_forgetting_curve_and_derivative.Goals as goal

pub returns : goal.returns
returns c =
    record {
      value = rw (
        c.retention_and_derivative-slope.ensures.0,
        c.curve_for_state.ensures,
        c.state_of.ensures,
        c.new.ensures,
        curve_is,
      );
      derivative_after = rw (
        c.retention_and_derivative-slope.ensures.1,
        c.curve_for_state.ensures,
        c.state_of.ensures,
        c.new.ensures,
        curve_is,
      );
    }

use lib.Ieee.{round, of_bits, of_fields}
use Rattle.forecast_text.specs.Settings.{default_config}
use Rattle.forecast_text.proofs.settings.default_config.Goals as goal

pub returns : goal.returns
unfolding default_config round of_bits of_fields
returns c =
    rw (
      c.first_rating_prob.ensures,
      c.review_rating_prob.ensures,
      c.learning_step_transitions.ensures,
      c.relearning_step_transitions.ensures,
      c.state_rating_costs.ensures,
    )

use lib.Ieee.{of_bits, of_fields, round}
use Rattle.events.specs.Events.{learning}
use Rattle.events.proofs.Rules.learning.Goals as goal

pub returns : goal.returns
unfolding learning of_bits of_fields round
returns c =
    rw (
      c.memory_of.ensures,
      c.short_steps-t.ensures,
      c.learning_limit-limit.ensures,
      c.of_rating.ensures,
      c.clamp.ensures,
      c.init_difficulty.ensures,
      c.init_stability.ensures,
      c.row_of-costs.ensures,
      c.drawn_rating-rating.ensures,
      c.next-drawn.ensures.0,
      c.next-drawn.ensures.1,
      c.new.ensures,
    )

-- THE MEMORY MODEL of a run: what the turn rule asks of one, and FSRS-7 with its interval table. Definitions only.
--   Model      what the turn rule asks
--   model_of    FSRS-7 with its interval table, of a configuration and a model's scalars
--   curve_for   a card's forgetting curve
use Rattle.std.specs.Prelude.{ℕ, Bool, Float, Option}
use Rattle.draws.specs.Draws.{DrawRule}
use Rattle.cards.specs.declared.configuration.SimulatorConfig.{SimulatorConfig}
use Rattle.cards.specs.declared.card.Card.{Card}
use Rattle.model.specs.declared.parameters.Fsrs7Runtime.{Fsrs7Runtime}
use Rattle.model.specs.declared.forgetting_curve.Curve.{Curve}
use Rattle.model.specs.Model as Plain
use Rattle.model.specs.Runtime as Runtime
use Rattle.events.specs.declared.Memory.{Memory}
use Rattle.events.specs.Scalars.{Scalars}
use Rattle.events.specs.Events.{event_of}
use Rattle.events.specs.Drawn.{Drawn, ratings_of}
use Rattle.intervals.specs.declared.Slot.{Slot}
use Rattle.intervals.specs.Bucket.{stability_bucket, retention_bucket}
use Rattle.intervals.specs.Table.{Table}
use Rattle.intervals.specs.Schedule.{certifies, slot_in}

pub record Model : Type 0 where
  -- the chance to recall after so many days, at a stability
  pub chance : Float → Float → Float
  -- what an event does to a card, new or not, on a day, by a way to draw and from a state of the draws
  pub event : DrawRule → Card → Bool → ℕ → ℕ → Option Memory
  -- and the ratings that are drawn in it
  pub ratings : DrawRule → Card → Bool → ℕ → ℕ → Drawn
  -- the interval for a stability and a retention: one that the table holds, a new one and its place, or none where the
  -- table is full (refusal 8); a model without a table keeps the interval that it computes
  pub slot : Table → Float → Float → Slot

-- from a configuration and a model's scalars: an interval that is held and certified, or else a new one
abbrev pub model_of : SimulatorConfig → Scalars → Model
model_of g x = record {
  chance = x.chance;
  event = λ w. event_of w g x;
  ratings = λ w. ratings_of w g x;
  slot = λ t s r. slot_in (λ v. certifies (λ d. x.chance d s) s r v g.max_ivl) (x.interval s r g.max_ivl) t
      (stability_bucket s) (retention_bucket r);
}

-- a card's forgetting curve, which a review asks for its chance and the memorized sums ask for each day
abbrev pub curve_for : Fsrs7Runtime → Card → Curve
curve_for m k = Runtime.curve_of m (Plain.of_stability k.stability)

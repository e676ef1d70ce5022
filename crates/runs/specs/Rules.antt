-- THE RULES OF A RUN: all that a turn reads besides the state. Definitions only.
--   Rules C            the record
--   rules_with, rules_of   of a configuration, by any way to draw and by SplitMix64
--   rules_as, rules_of_learner   those that a turn is given, and those of a call
use Rattle.std.specs.Prelude.{ℕ, Float}
use Rattle.draws.specs.Draws.{DrawRule, split_mix}
use Rattle.turns.specs.Turns.{CostRule, Limits}
use Rattle.cards.specs.declared.configuration.SimulatorConfig.{SimulatorConfig}
use Rattle.cards.specs.Choices.{limits}
use Rattle.model.specs.Runtime as Runtime
use Rattle.events.specs.declared.Rules as events
use Rattle.events.specs.Scalars.{Scalars, of_runtime}
use Rattle.events.specs.Drawn.{Drawn, costs}
use Rattle.entry.specs.declared.lists.Learner.{Learner}
use Rattle.entry.specs.declared.lists.Settings.{Settings}
use Rattle.runs.specs.Model.{Model, model_of}

-- the days of a run, the limits of each day, how many lapses retire a card, what an event costs and a day (`C` is what
-- a cost is), how is drawn, and the memory model
pub record Rules (C : Type 0) : Type 0 where
  pub span : ℕ
  pub limits : Limits C
  pub lapse_limit : ℕ
  pub costs : CostRule Drawn C
  pub draw : DrawRule
  pub model : Model

-- by a configuration and a model's scalars, whatever the way to draw
abbrev pub rules_with : DrawRule → SimulatorConfig → Scalars → Rules Float
rules_with w g x = record {
  span = g.learn_span;
  limits = limits g;
  lapse_limit = g.suspend_after_lapses;
  costs = costs g;
  draw = w;
  model = model_of g x;
}

-- and with SplitMix64, as a run draws
abbrev pub rules_of : SimulatorConfig → Scalars → Rules Float
rules_of = rules_with split_mix

-- those that a turn is given, and those of a call
abbrev pub rules_as : events.Rules → Rules Float
rules_as r = rules_of r.config (of_runtime r.model)

abbrev pub rules_of_learner : Learner → Settings → Rules Float
rules_of_learner l s = rules_of s.config (of_runtime (Runtime.runtime_of l.parameters.now))

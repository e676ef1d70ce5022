-- What a text's settings are for a run: the values that missing forms take, and the inputs of the run
-- (docs/RULES.md, P8 and P9). Definitions only.
--   default_config          `SimulatorConfig::default`, from its decimals
--   bits_of, floats_of       floats as W, and back
--   default_settings        what missing forms take
--   most_deck, most_span     the program's own limits
--   config_of, parameters_of, inputs_of   settings as a run's inputs
use Rattle.std.specs.Prelude.{ℕ, true, false, cond, List, [], map, get_or, replicate, ltb, Float}
use Rattle.std.specs.Float.{binary32}
use Rattle.std.specs.Float.Ieee.{round, to_bits, of_bits}
use Rattle.model.specs.Defaults as Defaults
use Rattle.cards.specs.declared.configuration.SimulatorConfig.{SimulatorConfig}
use Rattle.settings_text.specs.declared.Settings.{Settings}
use Rattle.entry.specs.Entry.{Inputs, settings, inputs}

-- `SimulatorConfig::default`; 4294967295 is no limit
unfoldable pub default_config : SimulatorConfig
default_config = record {
  deck_size = 10000;
  learn_span = 365;
  max_cost_perday = round binary32 false 1800 1;
  max_ivl = round binary32 false 36500 1;
  first_rating_prob = Defaults.first_rating_prob;
  review_rating_prob = Defaults.review_rating_prob;
  learn_limit = 4294967295;
  review_limit = 4294967295;
  new_cards_ignore_review_limit = true;
  suspend_after_lapses = 4294967295;
  learning_step_transitions = Defaults.learning_step_transitions;
  relearning_step_transitions = Defaults.relearning_step_transitions;
  state_rating_costs = Defaults.state_rating_costs;
  learning_step_count = 2;
  relearning_step_count = 1;
}

-- ---- W

abbrev pub bits_of : List Float → List ℕ
bits_of = map (to_bits binary32)

abbrev pub floats_of : List ℕ → List Float
floats_of = map (of_bits binary32)

-- P8: what the settings are before any form; parameters are missing where `seen` says so (`parameters_of`)
unfoldable pub default_settings : Settings
default_settings = record {
  deck = default_config.deck_size;
  span = default_config.learn_span;
  seed = 42;
  learn = default_config.learn_limit;
  review = default_config.review_limit;
  retention = 0x3F666666;
  maxcost = to_bits binary32 default_config.max_cost_perday;
  first = bits_of default_config.first_rating_prob;
  cost = bits_of default_config.state_rating_costs;
  parameters = replicate 34 0;
  seen = replicate 10 false;
}

-- ---- the inputs of the run

-- P9: streets and days at the most
abbrev pub most_deck : ℕ
most_deck = 512

abbrev pub most_span : ℕ
most_span = 730

-- a number above its limit is handed on as 0, which the run refuses as 2 or 3, in the order of its refusals
abbrev pub zero_above : ℕ → ℕ → ℕ
zero_above most n = cond (ltb most n) 0 n

unfoldable pub config_of : Settings → SimulatorConfig
config_of s = record {
  deck_size = zero_above most_deck s.deck;
  learn_span = zero_above most_span s.span;
  max_cost_perday = of_bits binary32 s.maxcost;
  max_ivl = default_config.max_ivl;
  first_rating_prob = floats_of s.first;
  review_rating_prob = default_config.review_rating_prob;
  learn_limit = s.learn;
  review_limit = s.review;
  new_cards_ignore_review_limit = default_config.new_cards_ignore_review_limit;
  suspend_after_lapses = default_config.suspend_after_lapses;
  learning_step_transitions = default_config.learning_step_transitions;
  relearning_step_transitions = default_config.relearning_step_transitions;
  state_rating_costs = floats_of s.cost;
  learning_step_count = default_config.learning_step_count;
  relearning_step_count = default_config.relearning_step_count;
}

-- P8: none where their form is missing
unfoldable pub parameters_of : Settings → List Float
parameters_of s = cond (get_or s.seen 0 false) (floats_of s.parameters) []

-- no existing cards
unfoldable pub inputs_of : Settings → Inputs
inputs_of s = inputs (settings (config_of s) (of_bits binary32 s.retention) s.seed) (parameters_of s) [] []

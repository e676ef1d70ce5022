-- What refusal 4 asks of a configuration. Definitions only.
--   row_of table i, three_of row           a row of four, and one of three
--   amount_ok x, amounts_ok xs             finite and not negative: one number, and all of a row
--   weights_ok row                        a row that a rating can be drawn by
--   transitions_ok table, costs_ok table   three rows of weights, and three of costs
--   interval_ok x                         a longest interval, 1 to 36,500
--   config_ok g                           the whole test
use Rattle.std.specs.Prelude.{ℕ, ◌+◌, ◌*◌, Bool, not, ◌&&◌, List, [], ◌∷◌, get_or, Float}
use Rattle.std.specs.List.{list_all}
use Rattle.std.specs.Float.{nan}
use Rattle.std.specs.Float.Ieee.{lt, le, eq, is_nan}
use Rattle.float32.specs.Numbers.{0ᶠ, 1ᶠ}
use Rattle.float32.specs.Float32.{is_finite}
use Rattle.draws.specs.Draws.{sum_from}
use Rattle.cards.specs.declared.configuration.SimulatorConfig.{SimulatorConfig}
use Rattle.cards.specs.Day.{longest_interval}

-- row i of a table whose rows of four stand one after the other
abbrev pub row_of : List Float → ℕ → List Float
row_of table i = get_or table (4 * i) nan ∷ get_or table (4 * i + 1) nan ∷ get_or table (4 * i + 2) nan ∷ get_or table
    (4 * i + 3) nan ∷ []

-- the row of three
abbrev pub three_of : List Float → List Float
three_of row = get_or row 0 nan ∷ get_or row 1 nan ∷ get_or row 2 nan ∷ []

-- finite and not negative; −0.0 is not negative
unfoldable pub amount_ok : Float → Bool
amount_ok x = is_finite x && not (lt x 0ᶠ)

abbrev pub amounts_ok : List Float → Bool
amounts_ok = list_all amount_ok

-- a weight row: no entry is negative or not finite, and the sum is finite and not 0
unfoldable pub weights_ok : List Float → Bool
weights_ok row = amounts_ok row &&
    (let sum = sum_from 0ᶠ row in is_finite sum && not (eq sum 0ᶠ))

-- three weight rows of four
unfoldable pub transitions_ok : List Float → Bool
transitions_ok table = weights_ok (row_of table 0) && (weights_ok (row_of table 1) && weights_ok (row_of table 2))

unfoldable pub costs_ok : List Float → Bool
costs_ok table = amounts_ok (row_of table 0) && (amounts_ok (row_of table 1) && amounts_ok (row_of table 2))

-- 1 to 36,500
unfoldable pub interval_ok : Float → Bool
interval_ok x = le 1ᶠ x && le x longest_interval

unfoldable pub config_ok : SimulatorConfig → Bool
config_ok g =
    weights_ok (row_of g.first_rating_prob 0) && (weights_ok (three_of g.review_rating_prob)
    && (transitions_ok g.learning_step_transitions && (transitions_ok g.relearning_step_transitions
    && (costs_ok g.state_rating_costs && (not (is_nan g.max_cost_perday) && interval_ok g.max_ivl)))))

-- WHAT AN EVENT DRAWS, its ratings in their order, and what they cost. Definitions only.
--     Drawn           the ratings; kind_as new recalled d: the kind of a turn with them
--     short_ratings    those of short-term steps
--     learning_ratings, lapse_ratings, review_ratings, ratings_of   those of a learning, a lapse, a review, an event
--     paid row sum d  a sum with the cost of each rating added
--     cost_of g kind, costs g              what a turn costs, and the cost rule of a configuration
use Rattle.std.specs.Prelude.{ℕ, zero, suc, Bool, true, false, ◌||◌, cond, List, [], ◌∷◌, leb, Float}
use Rattle.std.specs.Float.{nan, binary32}
use Rattle.std.specs.Float.Ieee.{add}
use Rattle.float32.specs.Ops.{◌+ᶠ◌}
use Rattle.float32.specs.Numbers.{0ᶠ}
use Rattle.draws.specs.Draws.{DrawRule, recalled}
use Rattle.turns.specs.Turns.{Kind, learn, review, put_off, retire, CostRule}
use Rattle.cards.specs.declared.configuration.SimulatorConfig.{SimulatorConfig}
use Rattle.cards.specs.declared.card.Card.{Card}
use Rattle.cards.specs.Config.{row_of}
use Rattle.events.specs.declared.ShortTerm.{ShortTerm}
use Rattle.events.specs.Scalars.{Scalars}
use Rattle.events.specs.Events.{of_rating, short_step, learning_limit, first_of, success_rating, failed_of, chance_on}

abbrev pub Drawn : Type 0
Drawn = List ℕ

-- an event, new or not, recalled or not, with its ratings
abbrev pub kind_as : Bool → Bool → Drawn → Kind Drawn
kind_as true recalled rs = learn rs
kind_as false recalled rs = review recalled rs

-- ---- the ratings

-- of short-term steps
unfoldable pub short_ratings : DrawRule → Scalars → List Float → List Float → ℕ → ℕ → ShortTerm → Drawn
short_ratings w x transitions costs limit zero t = []
short_ratings w x transitions costs limit (suc n) t =
    let t' = short_step w x transitions costs t in
    let rest = short_ratings w x transitions costs limit n t' in
    cond (leb limit t.consecutive || leb 4 t.rating) [] (t'.rating ∷ rest)

module _ (w : DrawRule) (g : SimulatorConfig) (x : Scalars) where
  abbrev pub learning_ratings : ℕ → Drawn
  learning_ratings state =
      let first = first_of w g x state in
      first.rating ∷ short_ratings w x g.learning_step_transitions (row_of g.state_rating_costs 0)
      (learning_limit g first.rating) 5 first

  abbrev pub lapse_ratings : Card → Float → ℕ → Drawn
  lapse_ratings k chance state =
      1 ∷ short_ratings w x g.relearning_step_transitions (row_of g.state_rating_costs 2)
      g.relearning_step_count 5 (failed_of w g x k chance state)

  abbrev pub review_ratings : Card → Float → ℕ → Drawn
  review_ratings k chance state =
      cond (recalled chance (w.word state)) (success_rating w g x (w.after state) ∷ [])
      (lapse_ratings k chance (w.after state))

  -- of the event of a card, new or not, on a day, from a state of the draws
  unfoldable pub ratings_of : Card → Bool → ℕ → ℕ → Drawn
  ratings_of k new day state = cond new (learning_ratings state) (review_ratings k (chance_on x k day) state)

-- ---- their costs

-- a cost, and those of more ratings by a row, added in their order
unfoldable pub paid : List Float → Float → Drawn → Float
paid row cost [] = cost
paid row cost (r ∷ rs) = paid row (cost +ᶠ of_rating row r) rs

-- what an event cost: each rating by the row of its state (learning, review, relearning)
abbrev pub cost_of : SimulatorConfig → Kind Drawn → Float
cost_of g (learn []) = nan
cost_of g (learn (r ∷ rs)) = paid (row_of g.state_rating_costs 0) (of_rating (row_of g.state_rating_costs 0) r) rs
cost_of g (review recalled []) = nan
cost_of g (review true (r ∷ rs)) = of_rating (row_of g.state_rating_costs 1) r
cost_of g (review false (r ∷ rs)) = of_rating (row_of g.state_rating_costs 1) r +ᶠ paid
    (row_of g.state_rating_costs 2) 0ᶠ rs
cost_of g put_off = nan
cost_of g retire = nan

-- a day's cost: the f32 sum of its events' costs in their order, 0 if there is none
abbrev pub costs : SimulatorConfig → CostRule Drawn Float
costs g = record { none = 0ᶠ; plus = λ x y. add binary32 x y; cost = λ t. cost_of g t.kind }

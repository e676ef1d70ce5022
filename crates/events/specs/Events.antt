-- What a learning and a review do to a card, over any memory model and any way to draw. Definitions only.
-- Letters: w the way to draw, g the configuration, x the model, k a card, t where the short-term steps have come to.
--     rating_of i, recalled_rating_of i      a rating from its weight's index; of_rating row rating: its number in a row
--     consecutive_after n rating           how many good ratings since the last 1
--     short_step w x transitions costs t, short_steps .. limit n t      a short-term step, and up to n of them
--     memory_of t cost recalled            what an event leaves
--     chance_ok chance, chance_on x k day   refusal 7's test, and the chance on a day
--     learning_limit g rating              how many good ratings end a learning
--     learning w g x state                a learning
--     success w g x k chance state, lapse w g x k chance state        a review, recalled and not
--     reviewing w g x k chance state      a review; None is refusal 7
--     event_at w g x k new chance state, event_of w g x k new day state         an event at a chance, and on a day
use Rattle.std.specs.Prelude.{ℕ, zero, suc, ◌+◌, ◌-◌, min, Bool, true, false, ◌&&◌, ◌||◌, cond, List, eqb, leb, ltb, get_or, pos, Float, Option, Some, None}
use Rattle.std.specs.Float.{nan, binary32}
use Rattle.std.specs.Float.Ieee.{of_int, le}
use Rattle.float32.specs.Float32.{clamp}
use Rattle.float32.specs.Ops.{◌+ᶠ◌, ◌-ᶠ◌}
use Rattle.float32.specs.Numbers.{0ᶠ, 1ᶠ}
use Rattle.draws.specs.Draws.{DrawRule, weighted_index, recalled}
use Rattle.model.specs.Constants.{s_min, s_max, d_min, d_max}
use Rattle.cards.specs.declared.configuration.SimulatorConfig.{SimulatorConfig}
use Rattle.cards.specs.declared.card.Card.{Card}
use Rattle.cards.specs.Config.{row_of}
use Rattle.events.specs.declared.ShortTerm.{ShortTerm}
use Rattle.events.specs.declared.Memory.{Memory}
use Rattle.events.specs.Scalars.{Scalars}

-- a rating from an index of its weight: 1 to 4 by four weights, 2 to 4 by three
abbrev pub rating_of : ℕ → ℕ
rating_of i = min i 3 + 1

abbrev pub recalled_rating_of : ℕ → ℕ
recalled_rating_of i = min i 2 + 2

-- a rating's number in a row of four
abbrev pub of_rating : List Float → ℕ → Float
of_rating row rating = get_or row (rating - 1) nan

-- after a rating above 2 there is one consecutive success more, after a 1 there is none, after a 2 as many as before
unfoldable pub consecutive_after : ℕ → ℕ → ℕ
consecutive_after n rating = cond (ltb 2 rating) (n + 1) (cond (eqb rating 1) 0 n)

module _ (w : DrawRule) (x : Scalars) (transitions costs : List Float) where
  -- a short-term step: a rating drawn by the row of the last one, and what it does
  unfoldable pub short_step : ShortTerm → ShortTerm
  short_step t =
      let r = rating_of (weighted_index (row_of transitions (t.rating - 1)) (w.word t.draws)) in
      record {
        stability = x.short_term t.stability t.difficulty r;
        difficulty = x.next_difficulty t.difficulty r;
        cost = t.cost +ᶠ of_rating costs r;
        rating = r;
        consecutive = consecutive_after t.consecutive r;
        draws = w.after t.draws;
      }

  -- at most n steps, until a rating of 4 or so many consecutive successes
  unfoldable pub short_steps : ℕ → ℕ → ShortTerm → ShortTerm
  short_steps limit zero t = t
  short_steps limit (suc n) t =
      let rest = short_steps limit n (short_step t) in
      cond (leb limit t.consecutive || leb 4 t.rating) t rest

-- what is left of short-term steps, within the model's limits
unfoldable pub memory_of : ShortTerm → Float → Bool → Memory
memory_of t cost recalled = record {
  difficulty = clamp t.difficulty d_min d_max;
  stability = clamp t.stability s_min s_max;
  cost = cost;
  recalled = recalled;
  draws = t.draws;
}

-- refusal 7: a chance that is NaN or not 0 to 1
abbrev pub chance_ok : Float → Bool
chance_ok chance = le 0ᶠ chance && le chance 1ᶠ

-- the chance to recall a card on a day
unfoldable pub chance_on : Scalars → Card → ℕ → Float
chance_on x k day = x.chance (of_int binary32 (pos day) -ᶠ k.last_date) k.stability

-- the first rating 3 or 4 counts as one of the learning steps
abbrev pub learning_limit : SimulatorConfig → ℕ → ℕ
learning_limit g rating = cond (ltb 2 rating) (g.learning_step_count - 1) g.learning_step_count

module _ (w : DrawRule) (g : SimulatorConfig) (x : Scalars) where
  -- the first rating of a learning, and what it leaves
  abbrev pub first_of : ℕ → ShortTerm
  first_of state =
      let r = rating_of (weighted_index g.first_rating_prob (w.word state)) in
      record {
        stability = x.init_stability r;
        difficulty = clamp (x.init_difficulty r) d_min d_max;
        cost = of_rating (row_of g.state_rating_costs 0) r;
        rating = r;
        consecutive = 0;
        draws = w.after state;
      }

  -- a learning: a first rating, and at most five short-term steps
  unfoldable pub learning : ℕ → Memory
  learning state =
      let first = first_of state in
      let t = short_steps w x g.learning_step_transitions (row_of g.state_rating_costs 0)
      (learning_limit g first.rating) 5 first in
      memory_of t t.cost true

  -- a review that was recalled: a rating of 2 to 4
  abbrev pub success_rating : ℕ → ℕ
  success_rating state = recalled_rating_of (weighted_index g.review_rating_prob (w.word state))

  unfoldable pub success : Card → Float → ℕ → Memory
  success k chance state =
      let r = success_rating state in
      record {
        difficulty = x.next_difficulty k.difficulty r;
        stability = x.after_success k.stability k.difficulty chance r;
        cost = of_rating (row_of g.state_rating_costs 1) r;
        recalled = true;
        draws = w.after state;
      }

  -- a lapse: rating 1, and at most five short-term steps
  abbrev pub failed_of : Card → Float → ℕ → ShortTerm
  failed_of k chance state = record {
    stability = x.after_failure k.stability k.difficulty chance;
    difficulty = x.next_difficulty k.difficulty 1;
    cost = 0ᶠ;
    rating = 1;
    consecutive = 0;
    draws = state;
  }

  unfoldable pub lapse : Card → Float → ℕ → Memory
  lapse k chance state =
      let t = short_steps w x g.relearning_step_transitions (row_of g.state_rating_costs 2)
      g.relearning_step_count 5 (failed_of k chance state) in
      memory_of t (of_rating (row_of g.state_rating_costs 1) 1 +ᶠ t.cost) false

  -- a review at a chance to recall draws once, whatever the chance
  unfoldable pub reviewing : Card → Float → ℕ → Option Memory
  reviewing k chance state =
      let draws = w.after state in
      cond (chance_ok chance) (Some (cond (recalled chance (w.word state)) (success k chance draws) (lapse k chance draws)))
      None

  -- a learning of a new card, or a review at a chance
  unfoldable pub event_at : Card → Bool → Float → ℕ → Option Memory
  event_at k new chance state = cond new (Some (learning state)) (reviewing k chance state)

  unfoldable pub event_of : Card → Bool → ℕ → ℕ → Option Memory
  event_of k new day state = event_at k new (chance_on x k day) state

-- What a turn does with the queue's first card (the rules of a turn). Definitions only.
--   retires span most k                              whether it leaves: past the span, or at the lapse limit
--   limits g                                         the daily limits of a configuration
--   Today C, today                                   what the day holds so far: learnings, reviews, its cost
--   limited l d new t                                whether a limit of day d is reached
--   blocked l d new t                                the same, or the day's cost is above the maximum
--   choose retire block new                          the choice by the three tests
--   choice_of span most l d k t                      the choice of a card on day d
use Rattle.std.specs.Prelude.{ℕ, ◌+◌, Bool, true, false, not, ◌&&◌, ◌||◌, leb, pos, Float}
use Rattle.std.specs.Float.{binary32}
use Rattle.std.specs.Float.Ieee.{of_int, lt, le}
use Rattle.turns.specs.Turns.{Limits}
use Rattle.cards.specs.declared.configuration.SimulatorConfig.{SimulatorConfig}
use Rattle.cards.specs.declared.card.Card.{Card}
use Rattle.cards.specs.declared.choice.Choice.{Choice}
use Rattle.cards.specs.declared.choice.Choice.TheVariants as choice
use Rattle.cards.specs.Day.{is_new}

-- due at or past the span, or as many lapses as the lapse limit
unfoldable pub retires : ℕ → ℕ → Card → Bool
retires span most k = le (of_int binary32 (pos span)) k.due || leb most k.lapses

-- the limits of a configuration: the same on every day
abbrev pub limits : SimulatorConfig → Limits Float
limits g = record {
  learns = λ d. g.learn_limit;
  reviews = λ d. g.review_limit;
  learns_count_as_reviews = λ d. not g.new_cards_ignore_review_limit;
  is_over = λ d x. lt g.max_cost_perday x;
}

-- what a card's day holds before its turn: how many learnings and reviews, and their cost
pub record Today (C : Type 0) : Type 0 where
  pub learned : ℕ
  pub reviewed : ℕ
  pub cost : C

abbrev pub today : {C : Type 0} → ℕ → ℕ → C → Today C
today learned reviewed cost = record { learned = learned; reviewed = reviewed; cost = cost }

module _ {C : Type 0} (l : Limits C) (d : ℕ) where
  -- a limit of day d is reached; a learning may count as a review too
  abbrev pub limited : Bool → Today C → Bool
  limited true t = leb (l.learns d) t.learned || (l.learns_count_as_reviews d && leb (l.reviews d) (t.learned + t.reviewed))
  limited false t = leb (l.reviews d) t.reviewed

  -- a limit is reached, or the day's cost is above the maximum
  unfoldable pub blocked : Bool → Today C → Bool
  blocked new t = l.is_over d t.cost || limited new t

abbrev pub choose : Bool → Bool → Bool → Choice
choose true block new = choice.Retire
choose false true new = choice.PutOff
choose false false true = choice.Learn
choose false false false = choice.Review

-- of a card on day d, which holds t so far
unfoldable pub choice_of : {C : Type 0} → ℕ → ℕ → Limits C → ℕ → Card → Today C → Choice
choice_of span most l d k t = choose (retires span most k) (blocked l d (is_new k.last_date) t) (is_new k.last_date)

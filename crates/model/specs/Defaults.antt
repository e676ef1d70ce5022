-- The tables of the default configuration, from their decimals: each entry is the f32 nearest to it. Definitions
-- only.
--     over d ns       numerators over one denominator
--     learning_step_transitions, relearning_step_transitions        by the rating before, three rows of four
--     state_rating_costs                    seconds, by learning, review and relearning
--     first_rating_prob, review_rating_prob   of the first rating, and of a recall's
use Rattle.std.specs.Prelude.{ℕ, false, List, [], ◌∷◌, Float}
use Rattle.std.specs.Float.{binary32}
use Rattle.std.specs.Float.Ieee.{round}

-- numerators over one denominator
unfoldable pub over : ℕ → List ℕ → List Float
over d [] = []
over d (n ∷ ns) = round binary32 false n d ∷ over d ns

unfoldable pub learning_step_transitions : List Float
learning_step_transitions = over 10000 (3686 ∷ 628 ∷ 5108 ∷ 577 ∷ 442 ∷ 4553 ∷ 4457 ∷ 549 ∷ 519 ∷ 470 ∷ 8462 ∷ 550 ∷ [])

unfoldable pub relearning_step_transitions : List Float
relearning_step_transitions = over 10000
    (2157 ∷ 643 ∷ 6595 ∷ 604 ∷ 500 ∷ 4638 ∷ 4475 ∷ 387 ∷ 1057 ∷ 1434 ∷ 7266 ∷ 244 ∷ [])

-- seconds
unfoldable pub state_rating_costs : List Float
state_rating_costs = over 100 (1958 ∷ 1879 ∷ 1378 ∷ 1071 ∷ 1938 ∷ 1759 ∷ 1238 ∷ 894 ∷ 1644 ∷ 1525 ∷ 1232 ∷ 803 ∷ [])

unfoldable pub first_rating_prob : List Float
first_rating_prob = over 1000 (240 ∷ 94 ∷ 495 ∷ 171 ∷ [])

unfoldable pub review_rating_prob : List Float
review_rating_prob = over 1000 (224 ∷ 631 ∷ 145 ∷ [])

-- What a run asks of a memory model, as functions (`Scalars`): FSRS-7 over its parameters (`of_parameters w`), and over
-- what is kept of them (`of_runtime m`). `runtime_is` (proofs/Loops) says that the two are the same. Definitions
-- only.
use Rattle.std.specs.Prelude.{ℕ, List, Float}
use Rattle.float32.specs.Numbers.{1ᶠ}
use Rattle.model.specs.Model as Model
use Rattle.model.specs.Runtime as Runtime
use Rattle.model.specs.declared.parameters.Fsrs7Runtime.{Fsrs7Runtime}

pub record Scalars : Type 0 where
  -- of a new card, by its first rating
  pub init_stability : ℕ → Float
  pub init_difficulty : ℕ → Float
  -- difficulty after a rating
  pub next_difficulty : Float → ℕ → Float
  -- stability after a rating of a short-term step, from stability and difficulty
  pub short_term : Float → Float → ℕ → Float
  -- after a review's rating of 2 to 4, and after a rating of 1: from stability, difficulty and the chance that there
  -- was to recall
  pub after_success : Float → Float → Float → ℕ → Float
  pub after_failure : Float → Float → Float → Float
  -- the chance to recall after so many days, at a stability
  pub chance : Float → Float → Float
  -- the interval in whole days for a stability and a retention, up to the longest
  pub interval : Float → Float → Float → Float

-- FSRS-7 over its parameters
abbrev pub of_parameters : List Float → Scalars
of_parameters w = record {
  init_stability = λ rating. Model.init_stability w rating;
  init_difficulty = λ rating. Model.init_difficulty w rating;
  next_difficulty = λ d rating. Model.next_difficulty w d rating 1ᶠ;
  short_term = λ s d rating. Model.stability_for_set w s d 1ᶠ rating 7;
  after_success = λ s d r rating. Model.stability_for_set w s d r rating 7;
  after_failure = λ s d r. Model.stability_for_set w s d r 1 7;
  chance = λ t s. Model.forgetting_curve (Model.curve_of w) t s;
  interval = λ s r longest. Model.scheduled (Model.curve_of w) s r longest;
}

-- and over what is kept of them
abbrev pub of_runtime : Fsrs7Runtime → Scalars
of_runtime m = record {
  init_stability = λ rating. Runtime.init_stability m rating;
  init_difficulty = λ rating. Model.init_difficulty_by m.difficulty.w4 m.difficulty.w5 rating;
  next_difficulty = λ d rating. Model.next_difficulty_by m.difficulty.easy m.difficulty.w6 d rating 1ᶠ;
  short_term = λ s d rating. Model.stability_by m.stability s d 1ᶠ rating;
  after_success = λ s d r rating. Model.stability_by m.stability s d r rating;
  after_failure = λ s d r. Model.stability_by m.stability s d r 1;
  chance = λ t s. Model.forgetting_curve (Runtime.curve_of m) t s;
  interval = λ s r longest. Model.scheduled (Runtime.curve_of m) s r longest;
}

-- What is kept of the parameters gives what the model's definitions give of them.
--     init_stability_is w rating          the stability of a new card
--     curve_is w x    THE CURVE of a state
--     curves_are w    the curves of all states, as one function: what the model's other functions take
use Rattle.std.proofs.Common.{◌≡◌, ℕ, zero, suc, ◌-◌, ◌<◌, ◌≤◌, cond, eqb, List, refl, arith, lit<}
use mathlib.Core.Path.{fun_ext}
use lib.Dec.{eqb-suc-zero}
use lib.Ieee.{Float}
use Rattle.model.specs.declared.forgetting_curve.MemoryState.{MemoryState}
use Rattle.model.specs.Model as Model
use Rattle.model.specs.Runtime as Runtime

-- a rating is one of four
ratings : (w : List Float) (n : ℕ) → 0 < n → n ≤ 4
    → cond (eqb n 1) (Model.at w 0) (cond (eqb n 2) (Model.at w 1) (cond (eqb n 3) (Model.at w 2) (Model.at w 3)))
    ≡ Model.at w (n - 1)
ratings w zero h k = absurd (no h)
  where
    no : 0 < 0 → ⊥
    no h = omega arith
ratings w (suc zero) h k = refl
ratings w (suc (suc zero)) h k = refl
ratings w (suc (suc (suc zero))) h k = refl
ratings w (suc (suc (suc (suc zero)))) h k = refl
ratings w (suc (suc (suc (suc (suc n))))) h k = absurd (no k)
  where
    no : suc (suc (suc (suc (suc n)))) ≤ 4 → ⊥
    no k = omega arith

rating_pos : (n : ℕ) → 0 < Model.to_rating n
unfolding Model.to_rating
rating_pos zero = lit< tt
rating_pos (suc n) = rw (eqb-suc-zero n) (omega arith)

rating-le : (n : ℕ) → Model.to_rating n ≤ 4
unfolding Model.to_rating
rating-le n = omega arith

module _ (w : List Float) where
  pub init_stability_is : (rating : ℕ)
      → Runtime.init_stability (Runtime.runtime_of w) rating ≡ Model.init_stability w rating
  unfolding Runtime.init_stability Runtime.runtime_of Runtime.first_of Model.init_stability
  init_stability_is rating = ratings w (Model.to_rating rating) (rating_pos rating) (rating-le rating)

  pub curve_is : (x : MemoryState) → Runtime.curve_of (Runtime.runtime_of w) x ≡ Model.curve_of w x
  unfolding Runtime.curve_of Runtime.curve_at Runtime.runtime_of Runtime.curve_parameters_of Runtime.decay1 Runtime.factor1
      Runtime.d_timescale Runtime.weight1 Runtime.weight2 Model.curve_of Model.decay1 Model.factor1 Model.d_timescale
      Model.weight1 Model.weight2
  curve_is x = refl

  pub curves_are : Runtime.curve_of (Runtime.runtime_of w) ≡ Model.curve_of w
  curves_are = fun_ext curve_is

-- ---- what is not read plays no part
module _ (w w' : List Float) (p : Runtime.SameRead w w') where
  m : (i : ℕ) → i < 15 → Model.at w i ≡ Model.at w' i
  m = p.memory

  c : (i : ℕ) → 23 ≤ i → i < 34 → Model.at w i ≡ Model.at w' i
  c = p.curve

  first-same : Runtime.first_of w ≡ Runtime.first_of w'
  unfolding Runtime.first_of
  first-same = rw (m 0 (omega arith), m 1 (omega arith), m 2 (omega arith), m 3 (omega arith))

  difficulty_same : Runtime.difficulty_of w ≡ Runtime.difficulty_of w'
  unfolding Runtime.difficulty_of Model.init_difficulty
  difficulty_same = rw (m 4 (omega arith), m 5 (omega arith), m 6 (omega arith))

  stability-same : Model.set_of w 7 ≡ Model.set_of w' 7
  unfolding Model.set_of
  stability-same =
      rw (
        m 7 (omega arith),
        m 8 (omega arith),
        m 9 (omega arith),
        m 10 (omega arith),
        m 11 (omega arith),
        m 12 (omega arith),
        m 13 (omega arith),
        m 14 (omega arith),
      )

  curve-same : Runtime.curve_parameters_of w ≡ Runtime.curve_parameters_of w'
  unfolding Runtime.curve_parameters_of Model.decay2 Model.factor2
  curve-same =
      rw (
        c 23 (omega arith) (omega arith),
        c 24 (omega arith) (omega arith),
        c 25 (omega arith) (omega arith),
        c 26 (omega arith) (omega arith),
        c 27 (omega arith) (omega arith),
        c 28 (omega arith) (omega arith),
        c 29 (omega arith) (omega arith),
        c 30 (omega arith) (omega arith),
        c 31 (omega arith) (omega arith),
        c 32 (omega arith) (omega arith),
        c 33 (omega arith) (omega arith),
      )

  pub runtime_same : Runtime.runtime_of w ≡ Runtime.runtime_of w'
  unfolding Runtime.runtime_of
  runtime_same = rw (first-same, difficulty_same, stability-same, curve-same)

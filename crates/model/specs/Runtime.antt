-- WHAT IS KEPT OF THE PARAMETERS, the Rust's `Fsrs7Runtime`: the numbers that they alone decide, and the curve of a
-- memory state from these.
-- Of `runtime_of w` each is what specs/Model gives of w (proofs/Runtime: `curve_is`, `init_stability_is`). Definitions
-- only.
--   first_of w, difficulty_of w, curve_parameters_of w   its parts; the fourth is `set_of w 7` of specs/Model
--   runtime_of w                       the whole
--   SameRead w w'                     the same parameters where they are read
--   init_stability m rating            the stability of a new card
--   curve_at p s d fast, curve_of m x   the curve of a state
use Rattle.std.specs.Prelude.{◌≡◌, ℕ, ◌<◌, ◌≤◌, cond, List, ◌==◌, Float}
use Rattle.std.specs.Float.Ieee.{neg}
use Rattle.float32.specs.Float32 as Float32
use Rattle.float32.specs.Ops.{◌+ᶠ◌, ◌-ᶠ◌, ◌*ᶠ◌, ◌/ᶠ◌}
use Rattle.float32.specs.Numbers.{1ᶠ}
use Rattle.elementary.specs.Exp.{exp_of}
use Rattle.elementary.specs.Ln.{ln_of}
use Rattle.elementary.specs.Pow.{pow_of}
use Rattle.model.specs.declared.parameters.FirstStability.{FirstStability}
use Rattle.model.specs.declared.parameters.DifficultyParameters.{DifficultyParameters}
use Rattle.model.specs.declared.parameters.CurveParameters.{CurveParameters}
use Rattle.model.specs.declared.parameters.Fsrs7Runtime.{Fsrs7Runtime}
use Rattle.model.specs.declared.forgetting_curve.MemoryState.{MemoryState}
use Rattle.model.specs.declared.forgetting_curve.Curve.{Curve}
use Rattle.model.specs.Constants.{power_shift, factor_most, half, five}
use Rattle.model.specs.Model.{at, to_rating, init_difficulty, set_of, decay_of, decay2, factor2, at_least, within_d}

-- ---- of the parameters

unfoldable pub first_of : List Float → FirstStability
first_of w = record { again = at w 0; hard = at w 1; good = at w 2; easy = at w 3 }

unfoldable pub difficulty_of : List Float → DifficultyParameters
difficulty_of w = record { w4 = at w 4; w5 = at w 5; w6 = at w 6; easy = init_difficulty w 4 }

unfoldable pub curve_parameters_of : List Float → CurveParameters
curve_parameters_of w =
    record {
      w23 = at w 23;
      power = at w 33 -ᶠ power_shift;
      log = ln_of (at w 25);
      decay = decay2 w;
      factor = factor2 w;
      pace = at w 32 -ᶠ power_shift;
      w27 = at w 27;
      decline = neg (at w 29);
      w28 = at w 28;
      w30 = at w 30;
      weight = at w 31 -ᶠ half;
    }

unfoldable pub runtime_of : List Float → Fsrs7Runtime
runtime_of w =
    record {
      first = first_of w;
      difficulty = difficulty_of w;
      stability = set_of w 7;
      curve = curve_parameters_of w;
    }

-- two lists of parameters with the same numbers where FSRS-7 reads them: 0 to 14 and 23 to 33
pub record SameRead (w w' : List Float) : Type 0 where
  pub memory : (i : ℕ) → i < 15 → at w i ≡ at w' i
  pub curve : (i : ℕ) → 23 ≤ i → i < 34 → at w i ≡ at w' i

-- ---- from what is kept

unfoldable pub init_stability : Fsrs7Runtime → ℕ → Float
init_stability m rating =
    let r = to_rating rating in
    cond (r == 1) m.first.again
    (cond (r == 2) m.first.hard
    (cond (r == 3) m.first.good m.first.easy))

unfoldable pub decay1 : CurveParameters → Float → Float
decay1 p fast = decay_of (p.w23 *ᶠ pow_of fast p.power)

unfoldable pub factor1 : CurveParameters → Float → Float
factor1 p decay = exp_of (Float32.min (p.log /ᶠ decay) factor_most) -ᶠ 1ᶠ

unfoldable pub d_timescale : CurveParameters → Float → Float
d_timescale p d = exp_of ((d -ᶠ five) *ᶠ p.pace)

unfoldable pub weight1 : CurveParameters → Float → Float
weight1 p fast = p.w27 *ᶠ pow_of fast p.decline

unfoldable pub weight2 : CurveParameters → Float → Float → Float
weight2 p s d = p.w28 *ᶠ pow_of s p.w30 *ᶠ exp_of ((d -ᶠ five) *ᶠ p.weight)

unfoldable pub curve_at : CurveParameters → Float → Float → Float → Curve
curve_at p s d fast =
    record {
      stability = s;
      fast = fast;
      decay1 = decay1 p fast;
      factor1 = factor1 p (decay1 p fast);
      decay2 = p.decay;
      factor2 = p.factor;
      timescale = d_timescale p d;
      rate2 = p.factor *ᶠ d_timescale p d;
      weight1 = weight1 p fast;
      weight2 = weight2 p s d;
      total = weight1 p fast +ᶠ weight2 p s d;
    }

unfoldable pub curve_of : Fsrs7Runtime → MemoryState → Curve
curve_of m x = curve_at m.curve (at_least x.stability) (within_d x.difficulty) (at_least x.stability_fast)

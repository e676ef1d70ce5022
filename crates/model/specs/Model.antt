-- FSRS-7 as model_v7.rs has it, in f32, operation by operation and in its order. Definitions only.
-- Letters: w the parameters; x a memory state; s, d, r a stability, a difficulty and a chance of recall; t days; c a
-- curve; u the logarithm of t.
--
-- Parameters and ratings
--   at w i                            parameter i, a NaN past the end
--   to_rating rating                   the nearest of 1 to 4
--   init_stability w rating            the stability of a new card
-- Difficulty
--   init_difficulty w rating           of a new card, not yet within its limits (init_difficulty_by w4 w5 rating)
--   linear_damping delta d, mean_reversion init current
--   delta_d w6 rating retention        the change before damping
--   next_difficulty w d rating r       after a rating (next_difficulty_by easy w6 d rating r)
-- Stability
--   set_of w start                     the eight parameters from `start` on, as the formulas take them: p
--   pls p s r                         the stability after a failure
--   sinc p s d r rating               the factor of a success
--   stability_for_set w s d r rating start   after a rating (stability_by p s d r rating)
-- The forgetting curve
--   curve_of w x                       the curve of a memory state: decays, factors, timescale, weights
--   retention c t                     the chance of recall after t days
--   solver_retention c t, derivative c t    the solver's chance of recall, and how fast it changes with t
--   of_stability s                     a state of one stability
--   forgetting_curve curves t s        the chance of recall after t days, of one stability
-- The interval, for a desired retention r
--   bisected c top r                  by bisection between 0 and a doubled top
--   newton_step c r u                  one of Newton's steps; newton n step u: n of them
--   solved c top r                    by Newton's steps, or by bisection
--   next_interval_bisection curves x r, next_interval_for_state curves x r, next_interval curves s r
--   scheduled curves s r max_ivl       in whole days, from 1 to max_ivl
-- What needs more than one curve takes `curves`, a curve for each state: `curve_of w`, or those of the runtime
-- (specs/Runtime).
use Rattle.std.specs.Prelude.{ℕ, zero, suc, ◌+◌, ◌-◌, min, Bool, cond, ◌&&◌, List, pos, ◌==◌, nat_lt, slice_index_or, Float}
use Rattle.std.specs.Float.{nan, binary32}
use Rattle.std.specs.Float.Ieee.{of_int, neg, lt, le}
use Rattle.float32.specs.Float32 as Float32
use Rattle.float32.specs.Ops.{◌+ᶠ◌, ◌-ᶠ◌, ◌*ᶠ◌, ◌/ᶠ◌}
use Rattle.float32.specs.Numbers.{0ᶠ, 1ᶠ}
use Rattle.elementary.specs.Exp.{exp_of}
use Rattle.elementary.specs.Ln.{ln_of}
use Rattle.elementary.specs.Pow.{pow_of}
use Rattle.model.specs.declared.parameters.StabilityParameters.{StabilityParameters}
use Rattle.model.specs.declared.forgetting_curve.MemoryState.{MemoryState}
use Rattle.model.specs.declared.forgetting_curve.Curve.{Curve}
use Rattle.model.specs.Constants.{s_min, s_max, d_min, d_max, dr_min, dr_max, min_t, init_share, current_share}
use Rattle.model.specs.Constants.{again_shift, growth_shift, decay_min, decay_max, power_shift, factor_most, inner}
use Rattle.model.specs.Constants.{edge, weight_min, slope_most, step_most, tolerance, half, two, three, five, nine}
use Rattle.model.specs.Constants.{ten, eleven}

-- ---- parameters and ratings

abbrev pub at : List Float → ℕ → Float
at w i = slice_index_or w i nan

unfoldable pub to_rating : ℕ → ℕ
to_rating rating = min (cond (rating == 0) 1 rating) 4

unfoldable pub init_stability : List Float → ℕ → Float
init_stability w rating = at w (to_rating rating - 1)

-- ---- difficulty

-- the rating is taken as it is, also above 4; 0 counts as 1
unfoldable pub init_difficulty_by : Float → Float → ℕ → Float
init_difficulty_by w4 w5 rating = w4 -ᶠ exp_of (w5 *ᶠ of_int binary32 (pos (rating - 1))) +ᶠ 1ᶠ

unfoldable pub init_difficulty : List Float → ℕ → Float
init_difficulty w rating = init_difficulty_by (at w 4) (at w 5) rating

unfoldable pub linear_damping : Float → Float → Float
linear_damping delta d = (ten -ᶠ d) *ᶠ delta /ᶠ nine

unfoldable pub mean_reversion : Float → Float → Float
mean_reversion init current = init *ᶠ init_share +ᶠ current *ᶠ current_share

-- at rating 1 it grows with the retention
unfoldable pub delta_d : Float → ℕ → Float → Float
delta_d w6 rating retention =
    let delta = neg w6 *ᶠ (of_int binary32 (pos rating) -ᶠ three) in
    cond (rating == 1) (delta *ᶠ (retention +ᶠ again_shift)) delta

-- `easy` is the first difficulty at rating 4
unfoldable pub next_difficulty_by : Float → Float → Float → ℕ → Float → Float
next_difficulty_by easy w6 d rating retention =
    Float32.clamp (mean_reversion easy (d +ᶠ linear_damping (delta_d w6 (to_rating rating) retention) d)) d_min d_max

unfoldable pub next_difficulty : List Float → Float → ℕ → Float → Float
next_difficulty w d rating retention = next_difficulty_by (init_difficulty w 4) (at w 6) d rating retention

-- ---- stability

-- the names of the fields are those of the set from 7 on, the only one that a run asks for
unfoldable pub set_of : List Float → ℕ → StabilityParameters
set_of w start =
    record {
      growth = exp_of (at w start -ᶠ growth_shift);
      decline = neg (at w (start + 1));
      w9 = at w (start + 2);
      w10 = at w (start + 3);
      w11 = at w (start + 4);
      w12 = at w (start + 5);
      w13 = at w (start + 6);
      w14 = at w (start + 7);
    }

-- never more than before
unfoldable pub pls : StabilityParameters → Float → Float → Float
pls p s r = Float32.min s (p.w10 *ᶠ (pow_of (s +ᶠ 1ᶠ) p.w11 -ᶠ 1ᶠ) *ᶠ exp_of ((1ᶠ -ᶠ r) *ᶠ p.w12))

unfoldable pub sinc : StabilityParameters → Float → Float → Float → ℕ → Float
sinc p s d r rating =
    let hard_penalty = cond (rating == 2) p.w13 1ᶠ in
    let easy_bonus = cond (rating == 4) p.w14 1ᶠ in
    p.growth *ᶠ (eleven -ᶠ d) *ᶠ pow_of s p.decline *ᶠ (exp_of ((1ᶠ -ᶠ r) *ᶠ p.w9) -ᶠ 1ᶠ)
    *ᶠ hard_penalty
    *ᶠ easy_bonus
    +ᶠ 1ᶠ

unfoldable pub stability_by : StabilityParameters → Float → Float → Float → ℕ → Float
stability_by p s d r rating₀ =
    let rating = to_rating rating₀ in
    Float32.clamp (cond (nat_lt 1 rating) (Float32.max (pls p s r) (s *ᶠ sinc p s d r rating)) (pls p s r)) s_min s_max

unfoldable pub stability_for_set : List Float → Float → Float → Float → ℕ → ℕ → Float
stability_for_set w s d r rating start = stability_by (set_of w start) s d r rating

-- ---- the forgetting curve: two powers of the time t, weighted

abbrev pub decay_of : Float → Float
decay_of x = neg (Float32.clamp x decay_min decay_max)

unfoldable pub decay1 : List Float → Float → Float
decay1 w fast = decay_of (at w 23 *ᶠ pow_of fast (at w 33 -ᶠ power_shift))

unfoldable pub factor1 : List Float → Float → Float
factor1 w fast = exp_of (Float32.min (ln_of (at w 25) /ᶠ decay1 w fast) factor_most) -ᶠ 1ᶠ

unfoldable pub decay2 : List Float → Float
decay2 w = decay_of (at w 24)

unfoldable pub factor2 : List Float → Float
factor2 w = pow_of (at w 26) (1ᶠ /ᶠ decay2 w) -ᶠ 1ᶠ

unfoldable pub d_timescale : List Float → Float → Float
d_timescale w d = exp_of ((d -ᶠ five) *ᶠ (at w 32 -ᶠ power_shift))

unfoldable pub weight1 : List Float → Float → Float
weight1 w fast = at w 27 *ᶠ pow_of fast (neg (at w 29))

unfoldable pub weight2 : List Float → Float → Float → Float
weight2 w s d = at w 28 *ᶠ pow_of s (at w 30) *ᶠ exp_of ((d -ᶠ five) *ᶠ (at w 31 -ᶠ half))

-- stabilities of at least S_MIN, and a difficulty within its limits
abbrev pub at_least : Float → Float
at_least s = Float32.max s s_min

abbrev pub within_d : Float → Float
within_d d = Float32.clamp d d_min d_max

unfoldable pub curve_of : List Float → MemoryState → Curve
curve_of w x =
    let s = at_least x.stability in
    let fast = at_least x.stability_fast in
    let d = within_d x.difficulty in
    record {
      stability = s;
      fast = fast;
      decay1 = decay1 w fast;
      factor1 = factor1 w fast;
      decay2 = decay2 w;
      factor2 = factor2 w;
      timescale = d_timescale w d;
      rate2 = factor2 w *ᶠ d_timescale w d;
      weight1 = weight1 w fast;
      weight2 = weight2 w s d;
      total = weight1 w fast +ᶠ weight2 w s d;
    }

-- what stands under a power
unfoldable pub base : Float → Float → Float → Float
base factor t s = 1ᶠ +ᶠ factor *ᶠ (t /ᶠ s)

-- a retention kept off 0 and 1, by one fused operation
unfoldable pub squeezed : Float → Float
squeezed r = Float32.mul_add r inner edge

-- the weighted sum of the two powers at a time of at least 0
unfoldable pub weighted : Curve → Float → Float
weighted c t =
    c.weight1 *ᶠ pow_of (base c.factor1 t c.fast) c.decay1
    +ᶠ c.weight2 *ᶠ pow_of (base c.rate2 t c.stability) c.decay2

-- the derivatives of the two powers, and their weighted sum
unfoldable pub dr1 : Curve → Float → Float
dr1 c t =
    c.decay1 *ᶠ pow_of (base c.factor1 t c.fast) (c.decay1 -ᶠ 1ᶠ) *ᶠ c.factor1 /ᶠ c.fast

unfoldable pub dr2 : Curve → Float → Float
dr2 c t =
    c.decay2 *ᶠ pow_of (base c.rate2 t c.stability) (c.decay2 -ᶠ 1ᶠ) *ᶠ c.factor2 *ᶠ c.timescale
    /ᶠ c.stability

unfoldable pub weighted_slope : Curve → Float → Float
weighted_slope c t = c.weight1 *ᶠ dr1 c t +ᶠ c.weight2 *ᶠ dr2 c t

abbrev pub time : Float → Float
time t = Float32.max t 0ᶠ

unfoldable pub retention : Curve → Float → Float
retention c t = squeezed (weighted c (time t) /ᶠ c.total)

-- the sum of the weights as the solver takes it: at least 1e-9, also where it is a NaN
unfoldable pub weight_sum : Curve → Float
weight_sum c = Float32.max c.total weight_min

unfoldable pub solver_retention : Curve → Float → Float
solver_retention c t = squeezed (weighted c (time t) /ᶠ weight_sum c)

unfoldable pub derivative : Curve → Float → Float
derivative c t = weighted_slope c (time t) /ᶠ weight_sum c *ᶠ inner

-- difficulty 5, and the fast stability the same
unfoldable pub of_stability : Float → MemoryState
of_stability s = record { stability = s; difficulty = five; stability_fast = s }

abbrev pub Curves : Type 0
Curves = MemoryState → Curve

abbrev pub forgetting_curve : Curves → Float → Float → Float
forgetting_curve curves t s = retention (curves (of_stability s)) t

-- ---- the interval by bisection

-- the upper end is doubled while the curve there is above the retention; 16 doublings reach S_MAX from 1
-- (`doubled_enough`)
unfoldable pub doubled : ℕ → (Float → Float) → Float → Float → Float
doubled zero curve r high = high
doubled (suc n) curve r high =
    let next = doubled n curve r (Float32.min (high *ᶠ two) s_max) in
    cond (lt r (curve high) && lt high s_max) next high

-- n halvings of the part from low to high, and the middle of what is left
unfoldable pub halved : ℕ → (Float → Float) → Float → Float → Float → Float
halved zero curve r low high = Float32.clamp ((low +ᶠ high) *ᶠ half) 0ᶠ s_max
halved (suc n) curve r low high =
    let middle = (low +ᶠ high) *ᶠ half in
    let above = lt r (curve middle) in
    halved n curve r (cond above middle low) (cond above high middle)

abbrev pub to_retention : Float → Float
to_retention desired = Float32.clamp desired dr_min dr_max

unfoldable pub bisected : Curve → Float → Float → Float
bisected c top desired =
    let r = to_retention desired in
    cond (le dr_max r) 0ᶠ (halved 50 (retention c) r 0ᶠ (doubled 16 (retention c) r (Float32.max top 1ᶠ)))

-- the larger of a state's two stabilities, where both searches start
abbrev pub top_of : MemoryState → Float
top_of x = Float32.max x.stability x.stability_fast

unfoldable pub next_interval_bisection : Curves → MemoryState → Float → Float
next_interval_bisection curves x desired = bisected (curves x) (top_of x) desired

-- ---- the interval by Newton's method on the logarithm u of t

-- one step from a logarithm, which is first brought within `least` and `most`
unfoldable pub step_within : Float → Float → Curve → Float → Float → Float
step_within least most c r u₀ =
    let u = Float32.clamp u₀ least most in
    let t = Float32.clamp (exp_of u) min_t s_max in
    let slope = Float32.min (derivative c t *ᶠ t) slope_most in
    u -ᶠ Float32.clamp ((solver_retention c t -ᶠ r) /ᶠ slope) (neg step_most) step_most

unfoldable pub newton_step : Curve → Float → Float → Float
newton_step c r u = step_within (ln_of min_t) (ln_of s_max) c r u

-- n steps, but none after one that is not finite
unfoldable pub newton : ℕ → (Float → Float) → Float → Float
newton zero step u = u
newton (suc n) step u =
    let rest = newton n step (step u) in
    cond (Float32.is_finite (step u)) rest (step u)

unfoldable pub near_enough : Curve → Float → Float → Bool
near_enough c r interval =
    Float32.is_finite (retention c interval) && le (Float32.abs (retention c interval -ᶠ r)) tolerance

-- seven steps, where they stay finite and come near enough; else bisection
unfoldable pub solved : Curve → Float → Float → Float
solved c top r =
    let u = newton 7 (newton_step c r) (ln_of (Float32.max top min_t)) in
    let interval = Float32.clamp (exp_of u) 0ᶠ s_max in
    cond (Float32.is_finite u && near_enough c r interval) interval (bisected c top r)

unfoldable pub within_limits : MemoryState → MemoryState
within_limits x =
    record {
      stability = Float32.clamp x.stability s_min s_max;
      difficulty = within_d x.difficulty;
      stability_fast = Float32.clamp x.stability_fast s_min s_max;
    }

unfoldable pub next_interval_for_state : Curves → MemoryState → Float → Float
next_interval_for_state curves x₀ desired =
    let r = to_retention desired in
    let x = within_limits x₀ in
    cond (le dr_max r) 0ᶠ (solved (curves x) (top_of x) r)

unfoldable pub next_interval : Curves → Float → Float → Float
next_interval curves s desired = next_interval_for_state curves (of_stability s) desired

unfoldable pub scheduled : Curves → Float → Float → Float → Float
scheduled curves s desired max_ivl = Float32.clamp (Float32.round (next_interval curves s desired)) 1ᶠ max_ivl

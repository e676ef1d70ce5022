-- What the run asks of the model.
--     interval-number curves s r          the interval is never a NaN
--     scheduled_between curves s r max_ivl the interval that is scheduled lies between 1 and the largest, by any curves
--     stability_between p s d r rating    the stability after a rating lies between S_MIN and S_MAX, if the one before
--     was a
--                                         number
use Rattle.std.proofs.Common.{◌≡◌, ℕ, zero, suc, Bool, true, false, cond, ◌&&◌, T, ltb, pos, negsuc, sym, refl, true≢false}
use lib.Ieee.{Float, nan, inf, fin, binary32, of_bits, of_fields, round, lt, le, eq, is_nan}
use Rattle.float32.specs.Float32 as Float32
use Rattle.float32.specs.Ops.{◌+ᶠ◌, ◌*ᶠ◌}
use Rattle.float32.specs.Numbers.{0ᶠ, 1ᶠ}
use Rattle.float32.proofs.Limits.{Between, clamp_between, le_left, max-first, min-first}
use Rattle.float32.proofs.NonNegative.{non_negative, number, add-clear, mul-clear, max-clear, min-clear}
use Rattle.float32.proofs.Whole.{round_number}
use Rattle.elementary.specs.Exp.{exp_of}
use Rattle.elementary.specs.Ln.{ln_of}
use Rattle.elementary.proofs.Number.{exp-number}
use Rattle.model.specs.declared.parameters.StabilityParameters.{StabilityParameters}
use Rattle.model.specs.declared.forgetting_curve.Curve.{Curve}
use Rattle.model.specs.Constants.{s_min, s_max, dr_max, min_t, half, two}
use Rattle.model.specs.Model.{to_rating, pls, sinc, stability_by, retention, Curves, of_stability, doubled, halved}
use Rattle.model.specs.Model.{to_retention, bisected, top_of, newton_step, newton, near_enough, solved}
use Rattle.model.specs.Model.{within_limits, next_interval_for_state, next_interval, scheduled}

-- ---- both arms of a test are numbers
arms : (b : Bool) (x y : Float) → (b ≡ true → is_nan x ≡ false) → is_nan y ≡ false → is_nan (cond b x y) ≡ false
arms true x y p q = p refl
arms false x y p q = q

and_left : (a b : Bool) → (a && b) ≡ true → a ≡ true
and_left true b h = refl
and_left false b h = absurd (true≢false (sym h))

finite_number : (x : Float) → Float32.is_finite x ≡ true → is_nan x ≡ false
unfolding Float32.is_finite is_nan
finite_number nan h = absurd (true≢false (sym h))
finite_number (inf s) h = refl
finite_number (fin s m e) h = refl

-- ---- limits
stability-limits : T (le s_min s_max)
unfolding of_bits of_fields round le lt eq
stability-limits = tt

time-limits : T (le 0ᶠ s_max)
unfolding of_bits of_fields round le lt eq
time-limits = tt

clamped : (x : Float) → is_nan x ≡ false → is_nan (Float32.clamp x 0ᶠ s_max) ≡ false
clamped x h = le_left (Float32.clamp x 0ᶠ s_max) s_max (clamp_between x 0ᶠ s_max h time-limits).most

zero_clear : T (non_negative 0ᶠ)
unfolding of_bits of_fields
zero_clear = tt

top_clear : T (non_negative s_max)
unfolding round
top_clear = tt

-- ---- bisection
double_clear : (x : Float) → T (non_negative x) → T (non_negative (x *ᶠ two))
unfolding round
double_clear x h = mul-clear binary32 x 0 (pos 1) h

half-clear : (x : Float) → T (non_negative x) → T (non_negative (x *ᶠ half))
unfolding round
half-clear x h = mul-clear binary32 x 0 (negsuc 0) h

start-clear : (x : Float) → T (non_negative (Float32.max x 1ᶠ))
unfolding of_bits of_fields
start-clear x = max-clear x 0 (pos 0)

pick-clear : (b : Bool) (x y : Float) → T (non_negative x) → T (non_negative y) → T (non_negative (cond b x y))
pick-clear true x y p q = p
pick-clear false x y p q = q

doubled-clear : (n : ℕ) (f : Float → Float) (r x : Float) → T (non_negative x) → T (non_negative (doubled n f r x))
unfolding doubled
doubled-clear zero f r x h = h
doubled-clear (suc n) f r x h =
    pick-clear (lt r (f x) && lt x s_max) (doubled n f r (Float32.min (x *ᶠ two) s_max)) x
    (doubled-clear n f r (Float32.min (x *ᶠ two) s_max) (min-clear (x *ᶠ two) s_max (double_clear x h) top_clear)) h

halved-number : (n : ℕ) (f : Float → Float) (r x y : Float) → T (non_negative x) → T (non_negative y)
    → is_nan (halved n f r x y) ≡ false
unfolding halved
halved-number zero f r x y h k =
    clamped ((x +ᶠ y) *ᶠ half) (number ((x +ᶠ y) *ᶠ half) (half-clear (x +ᶠ y) (add-clear binary32 x y h k)))
halved-number (suc n) f r x y h k =
    let m = (x +ᶠ y) *ᶠ half in
    let middle : T (non_negative ((x +ᶠ y) *ᶠ half)) = half-clear (x +ᶠ y) (add-clear binary32 x y h k) in
    let b = lt r (f m) in
    halved-number n f r (cond b m x) (cond b y m) (pick-clear b m x middle h) (pick-clear b y m k middle)

bisected-number : (c : Curve) (top r : Float) → is_nan (bisected c top r) ≡ false
unfolding bisected
bisected-number c top r₀ =
    let f = retention c in
    let r = to_retention r₀ in
    arms (le dr_max r) 0ᶠ (halved 50 f r 0ᶠ (doubled 16 f r (Float32.max top 1ᶠ))) (λ e. number 0ᶠ zero_clear)
    (halved-number 50 f r 0ᶠ (doubled 16 f r (Float32.max top 1ᶠ)) zero_clear
    (doubled-clear 16 f r (Float32.max top 1ᶠ) (start-clear top)))

-- ---- the solver
solved-number : (c : Curve) (top r : Float) → is_nan (solved c top r) ≡ false
unfolding solved
solved-number c top r =
    let u = newton 7 (newton_step c r) (ln_of (Float32.max top min_t)) in
    let interval = Float32.clamp (exp_of u) 0ᶠ s_max in
    arms (Float32.is_finite u && near_enough c r interval) interval (bisected c top r)
    (λ e. clamped (exp_of u)
    (exp-number u (finite_number u (and_left (Float32.is_finite u) (near_enough c r interval) e))))
    (bisected-number c top r)

pub interval-number : (curves : Curves) (s r : Float) → is_nan (next_interval curves s r) ≡ false
unfolding next_interval next_interval_for_state
interval-number curves s desired =
    let r = to_retention desired in
    let x = within_limits (of_stability s) in
    arms (le dr_max r) 0ᶠ (solved (curves x) (top_of x) r) (λ e. number 0ᶠ zero_clear)
    (solved-number (curves x) (top_of x) r)

pub scheduled_between : (curves : Curves) (s r max_ivl : Float) → T (le 1ᶠ max_ivl)
    → Between 1ᶠ max_ivl (scheduled curves s r max_ivl)
unfolding scheduled
scheduled_between curves s r max_ivl h =
    clamp_between (Float32.round (next_interval curves s r)) 1ᶠ max_ivl
    (round_number (next_interval curves s r) (interval-number curves s r)) h

-- ---- stability
pls-number : (p : StabilityParameters) (s r : Float) → is_nan s ≡ false → is_nan (pls p s r) ≡ false
unfolding pls
pls-number p s r h = min-first s _ h

pub stability_between : (p : StabilityParameters) (s d r : Float) (rating : ℕ) → is_nan s ≡ false
    → Between s_min s_max (stability_by p s d r rating)
unfolding stability_by
stability_between p s d r rating h =
    let n = to_rating rating in
    clamp_between _ s_min s_max
    (arms (ltb 1 n) (Float32.max (pls p s r) (s *ᶠ sinc p s d r n)) (pls p s r)
    (λ e. max-first (pls p s r) (s *ᶠ sinc p s d r n) (pls-number p s r h))
    (pls-number p s r h))
    stability-limits

-- BRENT'S METHOD as simulation.rs has it, one step in its parts, in f32, operation by operation and in its order
-- (docs/RULES.md, O4). Definitions only.
--   r_min, r_max, half, two, tol, min_tol, cg   the numbers of the method
--   tol1, tol2, middle, converged   a state's measures
--   golden, parabola, useful, fitted, moved   the ways of a step
--   trial s                         the next retention to try
--   begun mean                      the state after the first trial
--   after_worse, after_better, step_of s mean   the state after a trial
--   within x                        whether a retention may be given out
use Rattle.std.specs.Prelude.{◌+◌, Bool, false, cond, ◌&&◌, ◌||◌, Float}
use Rattle.std.specs.Float.{binary32}
use Rattle.std.specs.Float.Ieee.{round, neg, lt, le, eq}
use Rattle.float32.specs.Float32 as Float32
use Rattle.float32.specs.Numbers.{0ᶠ, 1ᶠ}
use Rattle.float32.specs.Ops.{◌+ᶠ◌, ◌-ᶠ◌, ◌*ᶠ◌, ◌/ᶠ◌}
use Rattle.brent.specs.declared.Brent.{Brent}
use Rattle.brent.specs.declared.Parabola.{Parabola}
use Rattle.brent.specs.declared.Move.{Move}
use Rattle.brent.specs.declared.Trial.{Trial}

-- ---- numbers, each the f32 nearest to its decimal

-- R_MIN 0.70 and R_MAX 0.95
abbrev pub r_min : Float
r_min = round binary32 false 70 100

abbrev pub r_max : Float
r_max = round binary32 false 95 100

abbrev pub half : Float
half = round binary32 false 1 2

abbrev pub two : Float
two = round binary32 false 2 1

-- 0.01
abbrev pub tol : Float
tol = round binary32 false 1 100

-- 1e-10
abbrev pub min_tol : Float
min_tol = round binary32 false 1 10000000000

-- 0.381966, the golden section's share
abbrev pub cg : Float
cg = round binary32 false 381966 1000000

-- ---- a state's measures

-- the least step from x
unfoldable pub tol1 : Float → Float
tol1 x = Float32.mul_add tol (Float32.abs x) min_tol

unfoldable pub tol2 : Float → Float
tol2 x = two *ᶠ tol1 x

unfoldable pub middle : Float → Float → Float
middle a b = half *ᶠ (a +ᶠ b)

unfoldable pub converged : Brent → Bool
converged s = lt (Float32.abs (s.x -ᶠ middle s.a s.b)) (Float32.mul_add half (neg (s.b -ᶠ s.a)) (tol2 s.x))

-- ---- the next trial

-- from x to the farther end
unfoldable pub to_end : Brent → Float
to_end s = cond (le (middle s.a s.b) s.x) s.a s.b -ᶠ s.x

-- a golden section step
unfoldable pub golden : Brent → Move
golden s = record { deltax = to_end s; rat = cg *ᶠ to_end s }

-- the parabola through three trials: its lowest point is at x + p / q
unfoldable pub parabola : Brent → Parabola
parabola s =
    let t₁ = (s.x -ᶠ s.w) *ᶠ (s.fx -ᶠ s.fv) in
    let t₂ = (s.x -ᶠ s.v) *ᶠ (s.fx -ᶠ s.fw) in
    let p = Float32.mul_add (s.x -ᶠ s.v) t₂ (neg (s.x -ᶠ s.w) *ᶠ t₁) in
    let q = two *ᶠ (t₂ -ᶠ t₁) in
    record { p = cond (lt 0ᶠ q) (neg p) p; q = Float32.abs q }

unfoldable pub useful : Brent → Parabola → Bool
useful s f =
    lt (f.q *ᶠ (s.a -ᶠ s.x)) f.p
    && (lt f.p (f.q *ᶠ (s.b -ᶠ s.x)) && lt (Float32.abs f.p) (Float32.abs (half *ᶠ f.q *ᶠ s.deltax)))

unfoldable pub near_end : Brent → Float → Bool
near_end s u = lt (u -ᶠ s.a) (tol2 s.x) || lt (s.b -ᶠ u) (tol2 s.x)

-- the least step, towards the middle
unfoldable pub inward : Brent → Float
inward s = cond (le 0ᶠ (middle s.a s.b -ᶠ s.x)) (tol1 s.x) (neg (tol1 s.x))

unfoldable pub fitted : Brent → Parabola → Float
fitted s f = cond (near_end s (s.x +ᶠ f.p /ᶠ f.q)) (inward s) (f.p /ᶠ f.q)

unfoldable pub parabolic : Brent → Parabola → Move
parabolic s f = cond (useful s f) (record { deltax = s.rat; rat = fitted s f }) (golden s)

unfoldable pub moved : Brent → Move
moved s = cond (le (Float32.abs s.deltax) (tol1 s.x)) (golden s) (parabolic s (parabola s))

-- by at least the least step
unfoldable pub stepped : Float → Float → Float
stepped x rat = x +ᶠ cond (lt (Float32.abs rat) (tol1 x)) (tol1 x *ᶠ cond (le 0ᶠ rat) 1ᶠ (neg 1ᶠ)) rat

-- the next retention u, and what the state keeps of the way to it
unfoldable pub trial_of : Brent → Move → Trial
trial_of s m = record { u = stepped s.x m.rat; step = m }

unfoldable pub trial : Brent → Trial
trial s = trial_of s (moved s)

-- ---- what a trial's mean teaches

unfoldable pub begun : Float → Brent
begun mean = record {
  a = r_min;
  b = r_max;
  x = r_min;
  v = r_min;
  w = r_min;
  fx = mean;
  fv = mean;
  fw = mean;
  deltax = 0ᶠ;
  rat = 0ᶠ;
  done = 0;
}

-- a mean greater than the best: the trial is an end from now on
unfoldable pub after_worse : Brent → Trial → Float → Brent
after_worse s t fu =
    let second = le fu s.fw || eq s.w s.x in
    let third = le fu s.fv || (eq s.v s.x || eq s.v s.w) in
    let left = lt t.u s.x in
    record {
      a = cond left t.u s.a;
      b = cond left s.b t.u;
      x = s.x;
      v = cond second s.w (cond third t.u s.v);
      w = cond second t.u s.w;
      fx = s.fx;
      fv = cond second s.fw (cond third fu s.fv);
      fw = cond second fu s.fw;
      deltax = t.step.deltax;
      rat = t.step.rat;
      done = s.done + 1;
    }

-- any other, a NaN too: the trial is the best from now on
unfoldable pub after_better : Brent → Trial → Float → Brent
after_better s t fu =
    let right = le s.x t.u in
    record {
      a = cond right s.x s.a;
      b = cond right s.b s.x;
      x = t.u;
      v = s.w;
      w = s.x;
      fx = fu;
      fv = s.fw;
      fw = s.fx;
      deltax = t.step.deltax;
      rat = t.step.rat;
      done = s.done + 1;
    }

unfoldable pub after_trial : Brent → Trial → Float → Brent
after_trial s t fu = cond (lt s.fx fu) (after_worse s t fu) (after_better s t fu)

unfoldable pub step_of : Brent → Float → Brent
step_of s fu = after_trial s (trial s) fu

-- whether a retention is one that a search may give out
unfoldable pub within : Float → Bool
within x = le r_min x && le x r_max

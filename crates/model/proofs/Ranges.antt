-- What of the range of the bound on a retention holds by itself.
--     stability_in_range s    any stability but +infinity, as a curve takes it
--     decay_in_range x        any decay but a NaN
--     curve_in_range w x t    a curve of parameters, where its factors, its weights and the time are in range
use Rattle.std.proofs.Common.{◌≡◌, ℕ, ◌*◌, ◌^◌, ◌<◌, ◌≤◌, Bool, true, false, cond, T, eqb, List, refl, subst, true≢false, mul-le-mul_left, mul-pos, le_of_mul-le-mul_right, arith, lit<, lit≤}
use lib.Ieee.{Float, nan, inf, fin, up, down, round, neg, lt, le, eq, is_nan}
use lib.Ieee.Fits.{down_pos}
use lib.Ieee.Positive.{num, den, den_pos}
use Rattle.float32.specs.Float32 as Float32
use Rattle.float32.proofs.Cmp.{le_pos}
use Rattle.float32.proofs.Casts.{not-zero}
use Rattle.float32.proofs.Limits.{max-ge, clamp_between}
use Rattle.model.specs.declared.forgetting_curve.MemoryState.{MemoryState}
use Rattle.model.specs.Constants.{s_min, decay_min, decay_max}
use Rattle.model.specs.Model.{at_least, decay_of, decay1, decay2, time, curve_of}
use Rattle.model.specs.Accuracy.{Days, Stability, Factor, Decay, parts, InRange}
use Rattle.model.proofs.Rounding.{Clear}

-- ---- y ≤ x, with y above 0 and x not infinite
from-least : (y x : Float) → Clear y → 0 < num y → T (le y x) → (x ≡ inf false → ⊥)
    → Clear x × (num y * den x ≤ num x * den y)
unfolding le lt eq
from-least nan x h P t f = absurd h
from-least (inf s) x h P t f = absurd h
from-least (fin true m e) x h P t f = absurd (true≢false h.0)
from-least (fin false m e) nan h P t f = absurd t
from-least (fin false m e) (inf true) h P t f = absurd t
from-least (fin false m e) (inf false) h P t f = absurd (f refl)
from-least (fin false m e) (fin true l d) h P t f =
    absurd (not-zero (m * up e * down d) (eqb (m * up e * down d) (l * up d * down e)) (mul-pos P (down_pos d)) t)
from-least (fin false m e) (fin false l d) h P t f = ((refl, refl), le_pos m e l d (unfold le lt eq in t))

to_most : (x y : Float) → Clear x → Clear y → T (le x y) → num x * den y ≤ num y * den x
to_most nan y h k t = absurd h
to_most (inf s) y h k t = absurd h
to_most (fin true m e) y h k t = absurd (true≢false h.0)
to_most (fin false m e) nan h k t = absurd k
to_most (fin false m e) (inf s) h k t = absurd k
to_most (fin false m e) (fin true l d) h k t = absurd (true≢false k.0)
to_most (fin false m e) (fin false l d) h k t = le_pos m e l d t

-- ---- a stability
s_min-clear : Clear s_min
unfolding round
s_min-clear = (refl, refl)

s_min_pos : 0 < num s_min
unfolding round
s_min_pos = lit< tt

s_min-least : den s_min ≤ num s_min * 10001
unfolding round
s_min-least = lit≤ tt

s_min-number : is_nan s_min ≡ false
unfolding round is_nan
s_min-number = refl

pub stability_in_range : (s : Float) → (s ≡ inf false → ⊥) → Stability (at_least s)
unfolding Float32.max
stability_in_range s f =
    let w = from-least s_min (at_least s) s_min-clear s_min_pos (max-ge s s_min s_min-number)
    (finite (is_nan s) (lt s s_min)) in
    record {
      number = w.0;
      least = go (num (at_least s)) (den (at_least s)) (num s_min) (den s_min) s_min_pos w.1 s_min-least;
    }
  where
    finite : (a b : Bool) → cond a s_min (cond b s_min s) ≡ inf false → ⊥
    finite true b e = subst Clear e s_min-clear
    finite false true e = subst Clear e s_min-clear
    finite false false e = f e

    go : (n d a b : ℕ) → 0 < a → a * d ≤ n * b → b ≤ a * 10001 → d ≤ n * 10001
    go n d a b A h k = le_of_mul-le-mul_right {k = a} (omega (arith, h, mul-le-mul_left n k)) A

-- ---- a decay
decay_ends : T (le decay_min decay_max)
unfolding round le lt eq
decay_ends = tt

least-clear : Clear decay_min
unfolding round
least-clear = (refl, refl)

least_pos : 0 < num decay_min
unfolding round
least_pos = lit< tt

most_clear : Clear decay_max
unfolding round
most_clear = (refl, refl)

most_one : num decay_max ≤ den decay_max
unfolding round
most_one = lit≤ tt

not_infinite : (x y : Float) → Clear y → T (le x y) → x ≡ inf false → ⊥
not_infinite x y h t e = go y h (subst (λ (z : Float). T (le z y)) e t)
  where
    go : (y : Float) → Clear y → T (le (inf false) y) → ⊥
    go nan h t = h
    go (inf s) h t = h
    go (fin s m e) h t = unfold le lt eq in t

negated : (x : Float) → Clear x → num x ≤ den x → Decay (neg x)
unfolding neg
negated nan h l = absurd h
negated (inf s) h l = absurd h
negated (fin true m e) h l = absurd (true≢false h.0)
negated (fin false m e) h l = record { number = (refl, refl); most = l }

decay_number : (x : Float) → is_nan (decay_of x) ≡ false → is_nan x ≡ false
unfolding is_nan neg Float32.clamp lt round
decay_number nan h = h
decay_number (inf s) h = refl
decay_number (fin s m e) h = refl

pub decay_in_range : (x : Float) → is_nan (decay_of x) ≡ false → Decay (decay_of x)
decay_in_range x h =
    let c = Float32.clamp x decay_min decay_max in
    let b = clamp_between x decay_min decay_max (decay_number x h) decay_ends in
    let w = from-least decay_min c least-clear least_pos b.least (not_infinite c decay_max most_clear b.most) in
    negated c w.0
    (go (num c) (den c) (num decay_max) (den decay_max) (den_pos decay_max)
    (to_most c decay_max w.0 most_clear b.most) most_one)
  where
    go : (n d a b : ℕ) → 0 < b → n * b ≤ a * d → a ≤ b → n ≤ d
    go n d a b B h k = le_of_mul-le-mul_right {k = b} (omega (arith, h, mul-le-mul_left d k)) B

-- ---- a curve of parameters
pub curve_in_range : (w : List Float) (x : MemoryState) (t : Float)
    → (x.stability ≡ inf false → ⊥) → (x.stability_fast ≡ inf false → ⊥)
    → is_nan (curve_of w x).decay1 ≡ false → is_nan (curve_of w x).decay2 ≡ false
    → Days (time t) → Factor (curve_of w x).factor1 → Factor (curve_of w x).rate2
    → Clear (curve_of w x).weight1 → Clear (curve_of w x).weight2
    → den (curve_of w x).weight1 * den (curve_of w x).weight2 ≤ parts (curve_of w x) * 2 ^ 100
    → parts (curve_of w x) ≤ 2 ^ 100 * (den (curve_of w x).weight1 * den (curve_of w x).weight2)
    → InRange (curve_of w x) t
unfolding curve_of decay1 decay2
curve_in_range w x t f g h k d a b u v l m = record {
  days = d;
  fast = stability_in_range x.stability_fast g;
  stability = stability_in_range x.stability f;
  factor1 = a;
  rate2 = b;
  decay1 = decay_in_range _ h;
  decay2 = decay_in_range _ k;
  weight1 = u;
  weight2 = v;
  sum_least = l;
  sum_most = m;
  total = refl;
}

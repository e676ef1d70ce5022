-- The loop over trials drives the method's stepper (brent/proofs/Driven): after k trials what is left, from here, is
-- the whole search.
--   trying_start, trying_on            as the loop begins, and after a trial
--   trying_ends, trying_stops, trying_spent   where it returns
use mathlib.Core.Path.{◌≡◌, refl, sym, ap, ◌∙◌}
use Prim.Native.Nat.{ℕ, suc, ◌+◌, ◌-◌, ◌≤◌, ◌<◌}
use native.Mathlib.Omega.{arith}
use lib.Ieee.{Float}
use Rattle.entry.specs.declared.Refusal.{Refusal}
use Rattle.runs.specs.State.{Lent}
use Rattle.entry.specs.Entry.{Inputs}
use Rattle.brent.specs.declared.Stepper.{Stepper}
use Rattle.std.specs.Prelude.{Option, Some, None, Ok, Err}
use Rattle.brent.specs.Search.{Sampled, gives, refuses, Searched, ended, noted, tried, search}
use Rattle.brent.specs.Stepping.{started, next_retention, take_mean, told, answer, asked, closing, driven}
use Rattle.brent.proofs.Driven.{driven_is}
use Rattle.retention.specs.Trials.{sample, Trial, TrialContract}
use Rattle.retention.specs.Retention.{SearchAnswer, optimum_of, IsSearched}
use Rattle.retention.proofs.trials.Runs.{refused-mean, same-mean, same-refusal}

-- two searches with the same answer and the same lists
pub record SameEnd (x y : Searched (Lent Float) Refusal) : Type 0 where
  pub answer : x.answer ≡ y.answer
  pub left : x.left ≡ y.left

is_searched : {x y : Searched (Lent Float) Refusal} {r : SearchAnswer} {l : Lent Float} → SameEnd x y → IsSearched x r l
    → IsSearched y r l
is_searched s c = record { answer = c.answer ∙ ap optimum_of s.answer; lists = c.lists ∙ s.left }

-- a stepper that is not asked again says its answer
closed : (l : Lent Float) (t : Stepper) {r : SearchAnswer} → r ≡ optimum_of (told t.state (answer t))
    → IsSearched (closing l t) r l
unfolding closing ended
closed l t e = record { answer = e; lists = refl }

-- a trial that was refused ends the search
stopped : (u : Float) (l : Lent Float) (w : Refusal)
    (rest : Lent Float → Float → Searched (Lent Float) Refusal) {r : Trial}
    {after : Lent Float} → TrialContract (refuses l w) r after → (x : Refusal) → r ≡ Err x
    → IsSearched (tried u (refuses l w) rest) (Err x) after
unfolding tried ended
stopped u l w rest d x e = record { answer = ap (λ (z : Refusal). Err z) (same-refusal x w (sym e ∙ d.trial)); lists = d.lists }

-- and one that has a mean is followed by the rest
followed : (u : Float) (l : Lent Float) (m : Float) (rest : Lent Float → Float → Searched (Lent Float) Refusal)
    (y : Searched (Lent Float) Refusal) → SameEnd (tried u (gives l m) rest) y → SameEnd (rest l m) y
unfolding tried noted
followed u l m rest y s = record { answer = s.answer; left = s.left }

module _ (i : Inputs) (rounds : ℕ) (l₀ : Lent Float) where
  abbrev whole : Searched (Lent Float) Refusal
  whole = search (sample i) rounds l₀

  -- after k trials
  pub record Trying (l : Lent Float) (t : Stepper) (k : ℕ) : Type 0 where
    pub left : SameEnd (driven (sample i) (rounds + 1 - k) l t) whole
    pub within : k ≤ rounds + 1

  pub trying_start : (t : Stepper) → t ≡ started rounds → Trying l₀ t 0
  trying_start t e =
      let f : rounds + 1 - 0 ≡ rounds + 1 = omega arith in
      let s : driven (sample i) (rounds + 1 - 0) l₀ t ≡ whole = ap (λ (n : ℕ). driven (sample i) n l₀ t) f
      ∙ ap (driven (sample i) (rounds + 1) l₀) e ∙ driven_is (sample i) rounds (rounds + 1) l₀ (omega arith) in
      record {
        left = record {
          answer = ap (λ (x : Searched (Lent Float) Refusal). x.answer) s;
          left = ap (λ (x : Searched (Lent Float) Refusal). x.left) s;
        };
        within = omega arith;
      }

  pub trying_spent : {l : Lent Float} {t : Stepper} {k : ℕ} → Trying l t k → rounds < k → {r : SearchAnswer}
      → r ≡ optimum_of (told t.state (answer t)) → IsSearched whole r l
  unfolding driven
  trying_spent {l} {t} {k} g h e =
      let none : rounds + 1 - k ≡ 0 = omega arith in
      is_searched (rw none at g.left) (closed l t e)

  module _ {l : Lent Float} {t : Stepper} {k : ℕ} (g : Trying l t k) (h : k ≤ rounds) {x : Option Float}
      (a : x ≡ next_retention t) where
    one_left : rounds + 1 - k ≡ suc (rounds + 1 - (k + 1))
    one_left = omega arith

    -- what follows the trial at hand
    abbrev rest : Lent Float → Float → Searched (Lent Float) Refusal
    rest after mean = driven (sample i) (rounds + 1 - (k + 1)) after (take_mean t mean)

    split : SameEnd (asked x (λ u. tried u (sample i l u) rest) (closing l t)) whole
    unfolding driven
    split = rw a (rw one_left at g.left)

    pub trying_ends : x ≡ None → {r : SearchAnswer} → r ≡ optimum_of (told t.state (answer t)) → IsSearched whole r l
    unfolding asked
    trying_ends none e = is_searched (rw none at split) (closed l t e)

    module _ {u : Float} (asks : x ≡ Some u) {r : Trial} {after : Lent Float}
        (c : TrialContract (sample i l u) r after) where
      here : SameEnd (tried u (sample i l u) rest) whole
      unfolding asked
      here = rw asks at split

      pub trying_on : (m : Float) → r ≡ Ok m → {t' : Stepper} → t' ≡ take_mean t m → Trying after t' (k + 1)
      trying_on m e {t'} et = go (sample i l u) c here
        where
          go : (y : Sampled (Lent Float) Refusal) → TrialContract y r after → SameEnd (tried u y rest) whole
              → Trying after t' (k + 1)
          go (gives l' z) d s =
              let same : z ≡ m = same-mean z m (sym d.trial ∙ e) in
              record { left = rw (d.lists, et, ← same) (followed u l' z rest whole s); within = omega (arith, h) }
          go (refuses l' w) d s = absurd (refused-mean w m (sym d.trial ∙ e))

      pub trying_stops : (w : Refusal) → r ≡ Err w → IsSearched whole (Err w) after
      trying_stops w e = go (sample i l u) c here
        where
          go : (z : Sampled (Lent Float) Refusal) → TrialContract z r after → SameEnd (tried u z rest) whole
              → IsSearched whole (Err w) after
          go (gives l' m) d s = absurd (refused-mean w m (sym e ∙ d.trial))
          go (refuses l' z) d s = is_searched s (stopped u l' z rest d w e)

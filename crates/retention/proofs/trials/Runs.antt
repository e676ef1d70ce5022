-- The loop over a trial's runs follows the definition: after k runs, those that are left from here, with the sum so
-- far, are the whole trial's.
--   run_is                               one run
--   before_ok, before_err                what a result was whose error is turned into another
--   going_start, going_on, going_stops, going_spent   the loop
use mathlib.Core.Path.{◌≡◌, refl, sym, ap, ◌∙◌, subst}
use mathlib.Core.Option.{some}
use Prim.Native.Nat.{ℕ, suc, ◌+◌, ◌-◌, ◌≤◌, ◌<◌}
use native.Mathlib.Omega.{arith}
use lib.Ieee.{Float, neg}
use Rattle.float32.specs.Numbers.{0ᶠ}
use Rattle.float32.specs.Ops.{◌+ᶠ◌}
use Rattle.turns.proofs.Logic.{not-one}
use Rattle.entry.specs.declared.Refusal.{Refusal}
use Rattle.std.specs.Prelude.{Result, Ok, Err, MatchResult, IsErrAnd}
use Rattle.runs.specs.State.{Lent, state}
use Rattle.entry.specs.Entry.{Inputs}
use Rattle.runs.specs.Simulate.{Answer}
use Rattle.runs.specs.Demands.{RunContract}
use Rattle.brent.specs.Search.{Sampled, gives, refuses}
use Rattle.retention.specs.SampleSize.{sample_size}
use Rattle.retention.specs.Trials.{first_seed, run_inputs, target, refusal_in, sampled_as, run_of, and_then}
use Rattle.retention.specs.Trials.{runs_from, mean_of, sample, Trial, trial_of, left_by, TrialContract}

-- a run tells its target or its refusal
pub run_is : (i : Inputs) (u : Float) (n : ℕ) (l : Lent Float) {a : Answer} {after : Lent Float}
    → RunContract (run_inputs i u n) (state l 0 (first_seed + n)) a after → {r : Trial}
    → r ≡ trial_of (sampled_as (refusal_in (some a)) (target i.settings.config.learn_span after.costs after.memorized) after)
    → TrialContract (run_of i u n l) r after
unfolding run_of
run_is i u n l {a} {after} c {r} e = rw (c.result.answer, ← c.result.lists) (record { trial = e; lists = left a })
  where
    left : (a : Answer) → after
        ≡ left_by (sampled_as (refusal_in (some a)) (target i.settings.config.learn_span after.costs after.memorized) after)
    left (Ok p) = refl
    left (Err w) = refl

-- ---- a result whose error is turned into another: what it was before
module _ {T E D : Type 0} (m : Result T D) (Q : E → D → Type 0) (a : Result T E) where
  same_ok : (x y : T) → (let r : Result T D = Ok x in r ≡ Ok y) → x ≡ y
  same_ok x y e = cc

  pub before_ok : MatchResult a (λ x. m ≡ Ok x) (λ e. IsErrAnd m (Q e)) → (x : T) → m ≡ Ok x → a ≡ Ok x
  before_ok = go a
    where
      go : (a : Result T E) → MatchResult a (λ x. m ≡ Ok x) (λ e. IsErrAnd m (Q e)) → (x : T) → m ≡ Ok x → a ≡ Ok x
      go (Ok y) h x e = ap (λ (z : T). Ok z) (same_ok y x (sym h ∙ e))
      go (Err w) h x e = absurd (subst (λ r. IsErrAnd r (Q w)) e h)

  -- and the error is as the turning has it
  pub before_err : (R : E → D → Type 0) → ((w : E) (y : D) → Q w y → R w y)
      → MatchResult a (λ x. m ≡ Ok x) (λ e. IsErrAnd m (Q e)) → (y : D) → m ≡ Err y → (w : E) × (a ≡ Err w) × R w y
  before_err R told = go a
    where
      go : (a : Result T E) → MatchResult a (λ x. m ≡ Ok x) (λ e. IsErrAnd m (Q e)) → (y : D) → m ≡ Err y
          → (w : E) × (a ≡ Err w) × R w y
      go (Ok x) h y e = absurd (not-one cc)
      go (Err w) h y e = (w, refl, told w y (subst (λ r. IsErrAnd r (Q w)) e h))

-- ---- a trial that has a mean is not refused
pub refused-mean : (w : Refusal) (x : Float) → (let r : Trial = Err w in r ≡ Ok x) → ⊥
refused-mean w x e = not-one cc

pub same-mean : (x y : Float) → (let r : Trial = Ok x in r ≡ Ok y) → x ≡ y
same-mean x y e = cc

pub same-refusal : (w z : Refusal) → (let r : Trial = Err w in r ≡ Err z) → w ≡ z
same-refusal w z e = cc

module _ (i : Inputs) (u : Float) (n : ℕ) (l₀ : Lent Float) where
  -- after k runs
  pub record Going (l : Lent Float) (sum : Float) (k : ℕ) : Type 0 where
    pub left : runs_from i u (n - k) k sum l ≡ runs_from i u n 0 (neg 0ᶠ) l₀
    pub within : k ≤ n

  abbrev whole : Sampled (Lent Float) Refusal
  whole = and_then (runs_from i u n 0 (neg 0ᶠ) l₀) (λ after sum. gives after (mean_of n sum))

  pub going_start : Going l₀ (neg 0ᶠ) 0
  going_start =
      let e : n - 0 ≡ n = omega arith in
      record { left = ap (λ (m : ℕ). runs_from i u m 0 (neg 0ᶠ) l₀) e; within = omega arith }

  module _ {l : Lent Float} {sum : Float} {k : ℕ} (g : Going l sum k) (h : k < n) {r : Trial} {after : Lent Float}
      (c : TrialContract (run_of i u k l) r after) where
    one_left : n - k ≡ suc (n - (k + 1))
    one_left = omega arith

    -- the run at hand, and what follows it
    split : and_then (run_of i u k l) (λ l' x. runs_from i u (n - (k + 1)) (k + 1) (sum +ᶠ x) l')
        ≡ runs_from i u n 0 (neg 0ᶠ) l₀
    unfolding runs_from
    split = ap (λ (m : ℕ). runs_from i u m k sum l) (sym one_left) ∙ g.left

    pub going_on : (x : Float) → r ≡ Ok x → Going after (sum +ᶠ x) (k + 1)
    going_on x e = go (run_of i u k l) c split
      where
        go : (y : Sampled (Lent Float) Refusal) → TrialContract y r after
            → and_then y (λ l' z. runs_from i u (n - (k + 1)) (k + 1) (sum +ᶠ z) l') ≡ runs_from i u n 0 (neg 0ᶠ) l₀
            → Going after (sum +ᶠ x) (k + 1)
        go (gives l' z) d s =
            let same : z ≡ x = same-mean z x (sym d.trial ∙ e) in
            record {
              left = rw (d.lists, ← same) s;
              within = omega arith;
            }
        go (refuses l' w) d s = absurd (refused-mean w x (sym d.trial ∙ e))

    pub going_stops : (z : Refusal) → r ≡ Err z → TrialContract whole (Err z) after
    going_stops z e = go (run_of i u k l) c split
      where
        go : (y : Sampled (Lent Float) Refusal) → TrialContract y r after
            → and_then y (λ l' z. runs_from i u (n - (k + 1)) (k + 1) (sum +ᶠ z) l') ≡ runs_from i u n 0 (neg 0ᶠ) l₀
            → TrialContract whole (Err z) after
        go (gives l' x) d s = absurd (refused-mean z x (sym e ∙ d.trial))
        go (refuses l' w) d s = rw (← s) (record { trial = sym e ∙ d.trial; lists = d.lists })

  pub going_spent : {l : Lent Float} {sum : Float} {k : ℕ} → Going l sum k → n ≤ k → {x : Float} → x ≡ mean_of n sum
      → TrialContract whole (Ok x) l
  unfolding runs_from
  going_spent {l} {sum} {k} g h e =
      let none : n - k ≡ 0 = omega arith in
      let s : gives l sum ≡ runs_from i u n 0 (neg 0ᶠ) l₀ = ap (λ (m : ℕ). runs_from i u m k sum l) (sym none)
      ∙ g.left in
      rw (← s) (record { trial = ap (λ (z : Float). Ok z) e; lists = refl })

-- the whole loop is the trial
pub sample_is : (i : Inputs) (u : Float) (l : Lent Float) {r : Trial} {after : Lent Float} (n : ℕ)
    → n ≡ sample_size i.settings.config.learn_span → TrialContract (whole i u n l) r after
    → TrialContract (sample i l u) r after
unfolding sample
sample_is i u l n e c = rw e at c

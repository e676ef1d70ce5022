-- A TRIAL of the search (docs/RULES.md, O1 to O3): runs at one retention, each with its own seed, one after the other
-- in the same lists, and the mean of what they cost. Definitions only.
--   run_inputs i u n      the inputs of run n of a trial at u
--   total xs n           the first n numbers added up
--   target span l        what a run costs for each card that is memorized at its end
--   run_of i u n l        run n of a trial at u, from lent lists
--   runs_from i u m n sum l   m runs from run n on
--   sample i l u         the trial at u
--   TrialContract x r l  what a call says and leaves is the trial x
use Rattle.std.specs.Prelude.{ℕ, zero, suc, ◌+◌, ◌-◌, List, ◌≡◌, pos, get_or, Float, Result, Ok, Err}
use Rattle.std.proofs.Math.Option.{Option, none, some}
use Rattle.std.specs.Float.{binary32, nan}
use Rattle.std.specs.Float.Ieee.{neg, of_int}
use Rattle.float32.specs.Numbers.{0ᶠ}
use Rattle.float32.specs.Ops.{◌+ᶠ◌, ◌/ᶠ◌}
use Rattle.entry.specs.declared.Refusal.{Refusal}
use Rattle.runs.specs.State.{Lent, state, lists_of}
use Rattle.entry.specs.Entry.{Inputs, inputs}
use Rattle.runs.specs.Simulate.{Answer, simulated}
use Rattle.brent.specs.Search.{Sampled, gives, refuses}
use Rattle.retention.specs.SampleSize.{sample_size}

-- the seed of a trial's first run
abbrev pub first_seed : ℕ
first_seed = 42

-- run n of a trial at the retention u; a search looks at no other retention and no other seed
abbrev pub run_inputs : Inputs → Float → ℕ → Inputs
run_inputs i u n = inputs (record i.settings { retention = u; seed = first_seed + n }) i.parameters i.existing i.existing_counts

-- the first n numbers added up in their order, as the Rust adds: from −0
unfoldable pub total : List Float → ℕ → Float
total xs zero = neg 0ᶠ
total xs (suc n) = total xs n +ᶠ get_or xs n nan

-- the default target: what all days cost over what is memorized on the last one
unfoldable pub target : ℕ → List Float → List Float → Float
target span costs memorized = total costs span /ᶠ get_or memorized (span - 1) nan

-- a run's refusal, if it was refused; every call of a run has an answer (`RunContract`)
abbrev pub refusal_in : Option Answer → Option Refusal
refusal_in none = none
refusal_in (some (Ok p)) = none
refusal_in (some (Err r)) = some r.refusal

-- a run gives its target, or is refused, and leaves its lists
abbrev pub sampled_as : Option Refusal → Float → Lent Float → Sampled (Lent Float) Refusal
sampled_as none x l = gives l x
sampled_as (some r) x l = refuses l r

unfoldable pub run_of : Inputs → Float → ℕ → Lent Float → Sampled (Lent Float) Refusal
run_of i u n l =
    let x = simulated (run_inputs i u n) (state l 0 (first_seed + n)) in
    let after = lists_of x.state in
    sampled_as (refusal_in x.answer) (target i.settings.config.learn_span after.costs after.memorized) after

-- what follows where nothing was refused
abbrev pub and_then : {W R : Type 0} → Sampled W R → (W → Float → Sampled W R) → Sampled W R
and_then (gives w x) next = next w x
and_then (refuses w r) next = refuses w r

-- their targets are added up in the order of their seeds; the first refused run ends the trial
unfoldable pub runs_from : Inputs → Float → ℕ → ℕ → Float → Lent Float → Sampled (Lent Float) Refusal
runs_from i u zero n sum l = gives l sum
runs_from i u (suc m) n sum l = and_then (run_of i u n l) (λ after x. runs_from i u m (n + 1) (sum +ᶠ x) after)

-- the mean of so many runs
abbrev pub mean_of : ℕ → Float → Float
mean_of n sum = sum /ᶠ of_int binary32 (pos n)

unfoldable pub sample : Inputs → Lent Float → Float → Sampled (Lent Float) Refusal
sample i l u =
    let n = sample_size i.settings.config.learn_span in
    and_then (runs_from i u n 0 (neg 0ᶠ) l) (λ after sum. gives after (mean_of n sum))

-- ---- as a call says it: the mean, or the refusal of the first run that was refused
abbrev pub Trial : Type 0
Trial = Result Float Refusal

abbrev pub trial_of : Sampled (Lent Float) Refusal → Trial
trial_of (gives l x) = Ok x
trial_of (refuses l r) = Err r

abbrev pub left_by : {W R : Type 0} → Sampled W R → W
left_by (gives l x) = l
left_by (refuses l r) = l

pub record TrialContract (x : Sampled (Lent Float) Refusal) (r : Trial) (l : Lent Float) : Type 0 where
  pub trial : r ≡ trial_of x
  pub lists : l ≡ left_by x

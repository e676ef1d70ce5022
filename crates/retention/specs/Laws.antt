-- WHAT IS CLAIMED OF EVERY SEARCH beside its contract, whatever the runs give. Definitions only.
--   run_cards i, beyond_runs i l   the cards of each run, and the places behind those that the runs need
--   SearchLaws                   the claims
use Rattle.std.specs.Prelude.{ℕ, ◌+◌, ◌≤◌, ◌<◌, false, ◌⊎◌, ◌≡◌, T, length, Float, Err}
use Rattle.std.specs.Float.Ieee.{is_nan}
use Rattle.entry.specs.declared.Refusal.{Refusal}
use Rattle.runs.specs.State.{Lent, state}
use Rattle.entry.specs.Entry.{Inputs, passed}
use Rattle.entry.specs.Refusals as Refusals
use Rattle.brent.specs.Step.{within}
use Rattle.brent.specs.Search.{refused, ended, Each, NotBelow, WasTried, FoundWithin, OneMore, OnlySpent, NeverTen}
use Rattle.brent.specs.Search.{RefusedBy}
use Rattle.brent.specs.Stepping.{started, driven}
use Rattle.runs.specs.SetUp.{kept_cards, new_card_count}
use Rattle.runs.specs.Frame.{beyond, SameLengths}
use Rattle.retention.specs.Trials.{run_of, trial_of, sample}
use Rattle.retention.specs.Retention.{checked_search, optimal_retention, optimum_of, number_of}

-- every run of a search has the same cards: the existing ones that are kept, and those created
abbrev pub run_cards : Inputs → ℕ
run_cards i = kept_cards i + new_card_count i.settings.config (kept_cards i)

abbrev pub beyond_runs : Inputs → Lent Float → Lent Float
beyond_runs i l = beyond (run_cards i) i.settings.config.learn_span (state l 0 0)

pub record SearchLaws (i : Inputs) (rounds : ℕ) (l : Lent Float) : Type 0 where
  -- an entry refusal, exactly by the table, makes no trial and writes nothing
  pub entry_refusal : (r : Refusal) → checked_search rounds i l ≡ Err r
      → optimal_retention i rounds l ≡ ended l (refused r)
  -- no run of an accepted search is refused at its own entry: a search is refused by 7 or 8 of a run, by 10, or not
  -- at all
  pub run_refusal : checked_search rounds i l ≡ passed
      → RefusedBy (λ r. (Refusals.number_of r ≡ 7) ⊎ (Refusals.number_of r ≡ 8)) (optimal_retention i rounds l).answer
  -- so a search that answers 1 to 6 left every list as it was
  pub untouched : (let number = number_of (optimum_of (optimal_retention i rounds l).answer) in
      0 < number → number ≤ 6 → (optimal_retention i rounds l).left ≡ l)
  -- every list keeps its length, and the places behind those that the runs need are as they were lent
  pub lengths_same : checked_search rounds i l ≡ passed → SameLengths l (optimal_retention i rounds l).left
  pub beyond_same : checked_search rounds i l ≡ passed
      → beyond_runs i (optimal_retention i rounds l).left ≡ beyond_runs i l
  -- every retention that was tried lies within 0.70 to 0.95, and so does the one found
  pub trials_within : Each (λ t. T (within t.retention)) (optimal_retention i rounds l).trials
  pub found_within : FoundWithin (optimal_retention i rounds l).answer
  -- THE CHEAPEST OF THOSE TRIED: where no mean is a NaN, no trial's mean is below the mean of the retention found
  pub cheapest : Each (λ t. is_nan t.mean ≡ false) (optimal_retention i rounds l).trials
      → Each (λ t. NotBelow (optimal_retention i rounds l).answer t.mean) (optimal_retention i rounds l).trials
  -- and the retention found was tried, and had the mean that is told with it
  pub was_tried : WasTried (optimal_retention i rounds l).answer (optimal_retention i rounds l).trials
  -- one trial more than the rounds done, where no run was refused
  pub one_more : OneMore (optimal_retention i rounds l).answer (length (optimal_retention i rounds l).trials)
  -- 10 comes only of rounds used up, and a retention is found in fewer rounds than there are
  pub only_spent : OnlySpent (optimal_retention i rounds l).answer rounds
  -- with 57 rounds or more, and so with the Rust's 64, there is no refusal 10
  pub never_ten : 57 ≤ rounds → NeverTen (optimal_retention i rounds l).answer
  -- a run of an accepted search says the same in any lists of the same lengths, whatever they held: so a host may make
  -- the runs of a trial in lists of their own, in any order
  pub apart : checked_search rounds i l ≡ passed → (l' : Lent Float) → SameLengths l l' → (u : Float)
      → T (within u)
      → (n : ℕ) → trial_of (run_of i u n l') ≡ trial_of (run_of i u n l)
  -- and the stepper, driven with the trials' means, gives the whole search
  pub stepper : checked_search rounds i l ≡ passed → (fuel : ℕ) → rounds < fuel
      → driven (sample i) fuel l (started rounds) ≡ optimal_retention i rounds l

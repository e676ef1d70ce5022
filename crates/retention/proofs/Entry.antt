-- THE SEARCH'S ENTRY: where it refuses, the lists stay; where it passes, no run is refused at its own entry.
--   entry_is, search-refused, search_passed   the contract of a call
--   rounds_few                      the rounds of a call that passes
--   passes_again                    the entry's tests look only at the lists' lengths
--   Keeps, trials_lawful            what every trial keeps, and that it is refused by 7 or 8 or not at all
use mathlib.Core.Path.{◌≡◌, refl, sym, ap, ◌∙◌, subst}
use mathlib.Core.Bool.{Bool}
use mathlib.Core.Logic.{◌⊎◌}
use mathlib.Core.Option.{Option, none, some}
use Prim.Native.Nat.{ℕ, zero, suc, ◌+◌, ◌≤◌}
use borrow.Author.Tests.{leb-true}
use lib.Dec.{T, leb}
use lib.Ieee.{Float, neg}
use Rattle.float32.specs.Numbers.{0ᶠ}
use Rattle.float32.specs.Ops.{◌+ᶠ◌}
use Rattle.turns.proofs.Logic.{both}
use Rattle.draws.specs.Draws.{split_mix}
use Rattle.entry.specs.declared.Refusal.{Refusal}
use Rattle.std.specs.Prelude.{Ok, Err}
use Rattle.runs.specs.declared.Progress.{Progress}
use Rattle.runs.specs.State.{Lent, state, lists_of}
use Rattle.entry.specs.Entry.{Check, passed, Inputs, inputs, lengths_ok, check_settings, short_list}
use Rattle.runs.specs.Checked.{checked_with, checked}
use Rattle.entry.specs.Refusals.{number_of}
use Rattle.runs.specs.Frame.{beyond, SameLengths}
use Rattle.runs.specs.Simulate.{Answer, rules_for, simulated}
use Rattle.runs.specs.Simulate as Simulate
use Rattle.runs.specs.Demands.{end_of}
use Rattle.runs.proofs.Demands.{demands}
use Rattle.runs.proofs.Accepted.{same_tests, setting_ok}
use Rattle.brent.specs.Step.{within}
use Rattle.brent.specs.Search.{Sampled, gives, refuses, ended, search, Lawful}
use Rattle.brent.proofs.Range.{within_finite}
use Rattle.retention.specs.SampleSize.{sample_size}
use Rattle.retention.specs.Trials.{first_seed, run_inputs, refusal_in, sampled_as, run_of, and_then, runs_from}
use Rattle.retention.specs.Trials.{mean_of}
use Rattle.retention.specs.Trials.{sample}
use Rattle.retention.specs.Retention.{most_rounds, rounds_ok, checked_search, optimal_retention, SearchAnswer, IsSearched}
use Rattle.retention.specs.Laws.{beyond_runs}

-- ---- the contract of a call
module _ (i : Inputs) (rounds : ℕ) (l : Lent Float) where
  -- the tests, as the code makes them
  pub entry_is : (ok : Bool) {c : Check} → ok ≡ rounds_ok rounds
      → c ≡ checked_with ok i (state l 0 0)
      → c ≡ checked_search rounds i l
  entry_is ok f e = same_tests i (state l 0 i.settings.seed) ok e ∙ ap (λ (b : Bool). checked_with b i (state l 0 i.settings.seed)) f

  pub search-refused : (r : Refusal) → checked_search rounds i l ≡ Err r
      → IsSearched (optimal_retention i rounds l) (Err r) l
  unfolding optimal_retention ended
  search-refused r e = rw e (record { answer = refl; lists = refl })

  pub search_passed : checked_search rounds i l ≡ passed → {r : SearchAnswer} {after : Lent Float}
      → IsSearched (search (sample i) rounds l) r after → IsSearched (optimal_retention i rounds l) r after
  unfolding optimal_retention
  search_passed e c = rw e c

  pub rounds_few : checked_search rounds i l ≡ passed → rounds ≤ most_rounds
  unfolding rounds_ok
  rounds_few e =
      let ok = setting_ok (rounds_ok rounds) i (state l 0 i.settings.seed) e in
      leb-true rounds most_rounds (both (leb 1 rounds) (leb rounds most_rounds) ok).1

-- ---- the entry's tests look only at the lists' lengths
same_lengths : (ok : Bool) (i j : Inputs) (a a' b b' : ℕ) (l l' : Lent Float) → j.settings.config ≡ i.settings.config
    → j.parameters ≡ i.parameters → j.existing ≡ i.existing → j.existing_counts ≡ i.existing_counts
    → SameLengths l l' → checked_with ok j (state l' a' b') ≡ checked_with ok i (state l a b)
unfolding check_settings lengths_ok short_list
same_lengths ok i j a a' b b' l l' p q r s h =
    rw (p, q, r, s, h.cards, h.counts, h.queue_rows, h.days, h.costs, h.memorized, h.due, h.keys, h.intervals)

pub passes_again : (rounds : ℕ) (i : Inputs) (l l' : Lent Float) (u : Float) (n : ℕ)
    → checked_search rounds i l ≡ passed → SameLengths l l' → T (within u)
    → checked (run_inputs i u n) (state l' 0 (first_seed + n)) ≡ passed
passes_again rounds i l l' u n e h w =
    let ok = setting_ok (rounds_ok rounds) i (state l 0 i.settings.seed) e in
    ap (λ (b : Bool). checked_with b (run_inputs i u n) (state l' 0 (first_seed + n))) (within_finite u w ∙ sym ok)
    ∙ same_lengths (rounds_ok rounds) i (run_inputs i u n) 0 0 i.settings.seed (first_seed + n) l l' refl refl refl refl h ∙ e

-- ---- what a trial keeps, and that it is refused by 7 or 8 or not at all
abbrev pub SevenOrEight : Refusal → Type 0
SevenOrEight r = (number_of r ≡ 7) ⊎ (number_of r ≡ 8)

longer : {l l' l'' : Lent Float} → SameLengths l l' → SameLengths l' l'' → SameLengths l l''
longer p q = record {
  cards = q.cards ∙ p.cards;
  counts = q.counts ∙ p.counts;
  queue_rows = q.queue_rows ∙ p.queue_rows;
  days = q.days ∙ p.days;
  costs = q.costs ∙ p.costs;
  memorized = q.memorized ∙ p.memorized;
  due = q.due ∙ p.due;
  keys = q.keys ∙ p.keys;
  intervals = q.intervals ∙ p.intervals;
}

-- the lists' lengths, and the places behind those that a run needs
pub record Keeps (i : Inputs) (l l' : Lent Float) : Type 0 where
  pub lengths : SameLengths l l'
  pub behind : beyond_runs i l' ≡ beyond_runs i l

module _ (rounds : ℕ) (i : Inputs) (l : Lent Float) (e : checked_search rounds i l ≡ passed) where
  abbrev Lawfully : Sampled (Lent Float) Refusal → Type 0
  Lawfully = Lawful (Keeps i l) SevenOrEight

  run_lawful : (u : Float) (n : ℕ) (l' : Lent Float) → Keeps i l l' → T (within u) → Lawfully (run_of i u n l')
  unfolding run_of
  run_lawful u n l' h w =
      let j = run_inputs i u n in
      let s = state l' 0 (first_seed + n) in
      let pass = passes_again rounds i l l' u n e h.lengths w in
      let d = demands split_mix j s in
      let same : SameLengths l' (lists_of (simulated j s).state) = rw (d.run_leaves pass) (d.lengths_same pass) in
      let far : beyond_runs i (lists_of (simulated j s).state) ≡ beyond_runs i l' =
      rw (d.run_leaves pass)
      (subst (λ (c : ℕ). beyond c i.settings.config.learn_span (end_of (rules_for j) j s)
      ≡ beyond c i.settings.config.learn_span s) (d.cards_are pass) (d.beyond_same pass)) in
      go (simulated j s).answer _ (lists_of (simulated j s).state) (λ r p q. d.run_refusal pass r p q)
      (record { lengths = longer h.lengths same; behind = far ∙ h.behind })
    where
      go : (a : Option Answer) (x : Float) (after : Lent Float)
          → ((r : Refusal) (p : Progress) → a ≡ some (Simulate.refused r p) → SevenOrEight r) → Keeps i l after
          → Lawfully (sampled_as (refusal_in a) x after)
      go none x after f k = k
      go (some (Ok p)) x after f k = k
      go (some (Err r)) x after f k = (k, f r.refusal r.progress refl)

  runs_lawful : (u : Float) (m n : ℕ) (sum : Float) (l' : Lent Float) → Keeps i l l' → T (within u)
      → Lawfully (runs_from i u m n sum l')
  unfolding runs_from
  runs_lawful u zero n sum l' h w = h
  runs_lawful u (suc m) n sum l' h w =
      go (run_of i u n l') (run_lawful u n l' h w) (λ after x k. runs_lawful u m (n + 1) (sum +ᶠ x) after k w)
    where
      go : (y : Sampled (Lent Float) Refusal) → Lawfully y
          → ((after : Lent Float) (x : Float) → Keeps i l after → Lawfully (runs_from i u m (n + 1) (sum +ᶠ x) after))
          → Lawfully (and_then y (λ after x. runs_from i u m (n + 1) (sum +ᶠ x) after))
      go (gives after x) k f = f after x k
      go (refuses after r) k f = k

  pub trials_lawful : (l' : Lent Float) (u : Float) → Keeps i l l' → T (within u) → Lawfully (sample i l' u)
  unfolding sample
  trials_lawful l' u h w =
      let n = sample_size i.settings.config.learn_span in
      go n (runs_from i u n 0 (neg 0ᶠ) l') (runs_lawful u n 0 (neg 0ᶠ) l' h w)
    where
      go : (n : ℕ) (y : Sampled (Lent Float) Refusal) → Lawfully y
          → Lawfully (and_then y (λ after sum. gives after (mean_of n sum)))
      go n (gives after x) k = k
      go n (refuses after r) k = k

-- EACH RUN APART: a run of an accepted search says the same in any lists of the same lengths, whatever they held, so a
-- host may make the runs of a trial in lists of their own.
--   target_first   a target reads the first places only
--   run_apart      a run in other lists
use mathlib.Core.Path.{◌≡◌, refl, sym, ap, ◌∙◌}
use mathlib.Core.List.{List}
use mathlib.Core.Option.{Option, none, some}
use Prim.Native.Nat.{ℕ, zero, suc, ◌+◌, ◌-◌, ◌≤◌, ◌<◌}
use native.Mathlib.Omega.{arith}
use lib.Dec.{T}
use lib.ListN.{take}
use lib.Seq.{get_or-take}
use lib.Ieee.{Float, nan}
use Rattle.draws.specs.Draws.{split_mix}
use Rattle.entry.specs.declared.Refusal.{Refusal}
use Rattle.runs.specs.State.{State, Lent, state, lists_of}
use Rattle.entry.specs.Entry.{Inputs, passed}
use Rattle.runs.specs.Frame.{SameLengths}
use Rattle.runs.specs.Simulate.{simulated}
use Rattle.runs.proofs.Accepted.{lists_and_span}
use Rattle.runs.proofs.Demands.{demands}
use Rattle.brent.specs.Step.{within}
use Rattle.retention.specs.Trials.{first_seed, run_inputs, total, target, refusal_in, sampled_as, run_of, trial_of}
use Rattle.retention.specs.Retention.{checked_search}
use Rattle.retention.proofs.Entry.{passes_again}

-- ---- a target reads the first places only
total_first : (xs : List Float) (n m : ℕ) → m ≤ n → total (take n xs) m ≡ total xs m
unfolding total
total_first xs n zero h = refl
total_first xs n (suc m) h =
    rw (total_first xs n m (omega (arith, h)), get_or-take n xs m nan (omega (arith, h)))

target_first : (span : ℕ) (costs memorized : List Float) → 0 < span
    → target span (take span costs) (take span memorized) ≡ target span costs memorized
unfolding target
target_first span costs memorized h =
    rw (total_first costs span span (omega arith), get_or-take span memorized (span - 1) nan (omega (arith, h)))

same_target : (span : ℕ) (a b c d : List Float) → 0 < span → take span a ≡ take span b → take span c ≡ take span d
    → target span a c ≡ target span b d
same_target span a b c d h p q =
    sym (target_first span a c h) ∙ ap (λ (z : List Float). target span z (take span c)) p
    ∙ ap (λ (z : List Float). target span (take span b) z) q ∙ target_first span b d h

-- ---- a run in other lists
-- what a run says hangs on its refusal and its target alone
same_said : (r r' : Option Refusal) (x x' : Float) (l l' : Lent Float) → r' ≡ r → x' ≡ x
    → trial_of (sampled_as r' x' l') ≡ trial_of (sampled_as r x l)
same_said r r' x x' l l' e f = rw (e, f) (go r)
  where
    go : (z : Option Refusal) → trial_of (sampled_as z x l') ≡ trial_of (sampled_as z x l)
    go none = refl
    go (some w) = refl

pub run_apart : (rounds : ℕ) (i : Inputs) (l l' : Lent Float) (u : Float) (n : ℕ)
    → checked_search rounds i l ≡ passed → SameLengths l l' → SameLengths l l → T (within u)
    → trial_of (run_of i u n l') ≡ trial_of (run_of i u n l)
unfolding run_of
run_apart rounds i l l' u n e h same w =
    let j = run_inputs i u n in
    let s = state l 0 (first_seed + n) in
    let s' = state l' 0 (first_seed + n) in
    let pass = passes_again rounds i l l u n e same w in
    let pass' = passes_again rounds i l l' u n e h w in
    let d = demands split_mix j s in
    let d' = demands split_mix j s' in
    let span = i.settings.config.learn_span in
    let both = lists_and_span j s' pass' in
    let run = d.same_run s' pass both.0 h.keys in
    let places = run.places_are in
    same_said (refusal_in (simulated j s).answer) (refusal_in (simulated j s').answer) _ _ _ _
    (ap refusal_in run.answers)
    (same_target span (lists_of (simulated j s').state).costs (lists_of (simulated j s).state).costs
    (lists_of (simulated j s').state).memorized (lists_of (simulated j s).state).memorized both.1
    (rw (d.run_leaves pass, d'.run_leaves pass') (ap (λ (z : State Float). z.costs) places))
    (rw (d.run_leaves pass, d'.run_leaves pass') (ap (λ (z : State Float). z.memorized) places)))

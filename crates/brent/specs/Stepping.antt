-- THE SEARCH ONE TRIAL AT A TIME. Definitions only.
--   started rounds, next_retention t, take_mean t mean, answer t   the stepper
--   driven run n world t    a host that asks, tries and hands the mean in, at most n times
--   fed t means             a stepper that was handed these means
use Rattle.std.specs.Prelude.{ℕ, zero, suc, Bool, true, false, not, cond, ◌&&◌, List, [], ◌∷◌, T, ltb, Float}
use Rattle.std.specs.Prelude.{Option, Some, None}
use Rattle.brent.specs.declared.Brent.{Brent}
use Rattle.brent.specs.declared.Stepper.{Stepper}
use Rattle.brent.specs.declared.Verdict.{Verdict}
use Rattle.brent.specs.declared.Verdict.TheVariants as verdict
use Rattle.brent.specs.Step.{r_min, converged, trial, begun, step_of, within}
use Rattle.brent.specs.Search as Search

unfoldable pub started : ℕ → Stepper
started rounds = record { begun = false; rounds = rounds; state = begun r_min }

-- a round is to come
unfoldable pub goes_on : ℕ → Brent → Bool
goes_on rounds s = ltb s.done rounds && not (converged s)

unfoldable pub next_retention : Stepper → Option Float
next_retention t =
    cond t.begun (cond (goes_on t.rounds t.state) (Some (trial t.state).u) None)
    (Some r_min)

-- a mean that nobody asked for changes nothing
unfoldable pub taken_in : ℕ → Brent → Float → Brent
taken_in rounds s mean = cond (goes_on rounds s) (step_of s mean) s

unfoldable pub take_mean : Stepper → Float → Stepper
take_mean t mean =
    record {
      begun = true;
      rounds = t.rounds;
      state = cond t.begun (taken_in t.rounds t.state mean)
          (begun mean);
    }

unfoldable pub judged : ℕ → Brent → Verdict
judged rounds s =
    cond (ltb s.done rounds) (cond (converged s)
    (cond (within s.x) (verdict.Found s.x) verdict.NotFound) verdict.Open) verdict.NotFound

unfoldable pub answer : Stepper → Verdict
answer t = cond t.begun (judged t.rounds t.state) verdict.Open

-- ---- a stepper driven by its host

-- a verdict in the search's terms; an open one is never asked for (`closed` of proofs/Driven)
unfoldable pub told : {R : Type 0} → Brent → Verdict → Search.Answer R
told s (verdict.Found x) = Search.found x s.fx s.done
told s verdict.NotFound = Search.not_found s.done
told s verdict.Open = Search.not_found s.done

unfoldable pub closing : {W R : Type 0} → W → Stepper → Search.Searched W R
closing world t = Search.ended world (told t.state (answer t))

unfoldable pub asked : {X : Type 0} → Option Float → (Float → X) → X → X
asked (Some u) go stop = go u
asked None go stop = stop

-- the host asks for the next retention, tries it, hands its mean in, and does so at most n times
unfoldable pub driven : {W R : Type 0} → (W → Float → Search.Sampled W R) → ℕ → W → Stepper → Search.Searched W R
driven run zero world t = closing world t
driven run (suc n) world t =
    asked (next_retention t) (λ u. Search.tried u (run world u) (λ after mean. driven run n after (take_mean t mean)))
    (closing world t)

-- a stepper that was handed these means, asked for or not
unfoldable pub fed : Stepper → List Float → Stepper
fed t [] = t
fed t (mean ∷ means) = fed (take_mean t mean) means

abbrev pub AskedWithin : Option Float → Type 0
AskedWithin (Some u) = T (within u)
AskedWithin None = Unit {0}

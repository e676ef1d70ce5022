-- A search asks for no retention outside 0.70 to 0.95, also not for one that is then refused.
--   asks_within           what a run does at other retentions is of no account to the search
--   left_as               what each trial keeps holds of what the search leaves; it is refused only as its trials are
--   stepper_asks_within   whatever means a stepper is handed, the next retention that it asks for lies within
use mathlib.Core.Path.{◌≡◌, refl, sym, ap, ◌∙◌}
use mathlib.Core.Bool.{Bool, true, false, not, cond, ◌&&◌, true≢false}
use mathlib.Core.List.{List, [], ◌∷◌}
use Prim.Native.Nat.{ℕ, zero, suc}
use native.Mathlib.Nat.{le_trans}
use native.Mathlib.Omega.{arith}
use lib.Dec.{T, ltb}
use lib.Ieee.{Float}
use Rattle.brent.specs.declared.Brent.{Brent}
use Rattle.brent.specs.declared.Stepper.{Stepper}
use Rattle.std.proofs.Common.{Some, None}
use Rattle.brent.specs.Step.{r_min, converged, trial, begun, step_of, within}
use Rattle.brent.specs.Search.{Sampled, gives, refuses, found, not_found, Searched, ended, noted, tried}
use Rattle.brent.specs.Search.{settled}
use Rattle.brent.specs.Search.{search_on, search, Lawful, RefusedBy}
use Rattle.brent.specs.Stepping.{started, goes_on, next_retention, taken_in, take_mean, fed, AskedWithin}
use Rattle.brent.proofs.Driven.{tried_same}
use Rattle.brent.proofs.Measures.{k_min}
use Rattle.brent.proofs.Rounds as Rounds
use Rattle.brent.proofs.Range.{Ranged, begun-ranged, r_min-at, within-at}
use Rattle.brent.proofs.Between.{trial-place}

trial-within : (s : Brent) → Ranged s → converged s ≡ false → T (within (trial s).u)
trial-within s r e =
    let m = trial-place s r e in within-at (trial s).u m.k m.at (le_trans r.low m.least)
    (le_trans m.most r.high)

first-within : T (within r_min)
first-within = within-at r_min k_min r_min-at (omega arith) (omega arith)

module _ {W R : Type 0} (run run' : W → Float → Sampled W R)
    (agree : (w : W) (u : Float) → T (within u) → run w u ≡ run' w u) where
  turn : (n : ℕ) (w : W) (s : Brent) → Ranged s
      → ((after : W) (mean : Float) → Ranged (step_of s mean)
      → search_on run n after (step_of s mean) ≡ search_on run' n after (step_of s mean))
      → (b : Bool) → converged s ≡ b → search_on run (suc n) w s ≡ search_on run' (suc n) w s
  unfolding search_on
  turn n w s r h true e = rw e
  turn n w s r h false e =
      rw e
      (ap (λ (x : Sampled W R). tried (trial s).u x (λ after mean. search_on run n after (step_of s mean)))
      (agree w (trial s).u (trial-within s r e))
      ∙ tried_same (trial s).u (run' w (trial s).u) (λ after mean. search_on run n after (step_of s mean))
      (λ after mean. search_on run' n after (step_of s mean))
      (λ after mean. h after mean (Rounds.next s r e mean).to))

  same-on : (n : ℕ) (w : W) (s : Brent) → Ranged s → search_on run n w s ≡ search_on run' n w s
  unfolding search_on
  same-on zero w s r = refl
  same-on (suc n) w s r = turn n w s r (λ after mean q. same-on n after (step_of s mean) q) (converged s) refl

  pub asks_within : (rounds : ℕ) (world : W) → search run rounds world ≡ search run' rounds world
  unfolding search
  asks_within rounds world =
      ap (λ (x : Sampled W R). tried r_min x (λ after mean. search_on run rounds after (begun mean)))
      (agree world r_min first-within)
      ∙ tried_same r_min (run' world r_min) (λ after mean. search_on run rounds after (begun mean))
      (λ after mean. search_on run' rounds after (begun mean))
      (λ after mean. same-on rounds after (begun mean) (begun-ranged mean))

-- ---- what each trial keeps and how it is refused
module _ {W R : Type 0} (run : W → Float → Sampled W R) (P : W → Type 0) (Q : R → Type 0)
    (lawful : (w : W) (u : Float) → P w → T (within u) → Lawful P Q (run w u)) where
  abbrev Ends : Searched W R → Type 0
  Ends x = P x.left × RefusedBy Q x.answer

  trial-ends : (u : Float) (x : Sampled W R) (rest : W → Float → Searched W R) → Lawful P Q x
      → ((w : W) (mean : Float) → P w → Ends (rest w mean)) → Ends (tried u x rest)
  unfolding tried noted ended
  trial-ends u (gives w mean) rest h k = k w mean h
  trial-ends u (refuses w why) rest h k = h

  ends-turn : (n : ℕ) (w : W) (s : Brent) → Ranged s → P w
      → ((after : W) (mean : Float) → P after → Ranged (step_of s mean) → Ends (search_on run n after (step_of s mean)))
      → (b : Bool) → converged s ≡ b → Ends (search_on run (suc n) w s)
  unfolding search_on ended settled
  ends-turn n w s r p h true e = rw e (p, go (within s.x))
    where
      go : (b : Bool) → RefusedBy Q (cond b (found s.x s.fx s.done) (not_found s.done))
      go true = tt
      go false = tt
  ends-turn n w s r p h false e =
      rw e
      (trial-ends (trial s).u (run w (trial s).u) (λ after mean. search_on run n after (step_of s mean))
      (lawful w (trial s).u p (trial-within s r e)) (λ after mean q. h after mean q (Rounds.next s r e mean).to))

  ends_on : (n : ℕ) (w : W) (s : Brent) → Ranged s → P w → Ends (search_on run n w s)
  unfolding search_on ended
  ends_on zero w s r p = (p, tt)
  ends_on (suc n) w s r p =
      ends-turn n w s r p (λ after mean q g. ends_on n after (step_of s mean) g q) (converged s) refl

  -- what is left, and a search is refused only as its trials are
  pub left_as : (rounds : ℕ) (world : W) → P world → Ends (search run rounds world)
  unfolding search
  left_as rounds world p =
      trial-ends r_min (run world r_min) (λ after mean. search_on run rounds after (begun mean))
      (lawful world r_min p first-within) (λ after mean q. ends_on rounds after (begun mean) (begun-ranged mean) q)

-- ---- the stepper
abbrev Kept : Stepper → Type 0
Kept t = t.begun ≡ true → Ranged t.state

goes_open : (a b : Bool) → (a && not b) ≡ true → b ≡ false
goes_open true true h = absurd (true≢false (sym h))
goes_open true false h = refl
goes_open false b h = absurd (true≢false (sym h))

going_open : (rounds : ℕ) (s : Brent) → goes_on rounds s ≡ true → converged s ≡ false
unfolding goes_on
going_open rounds s h = goes_open (ltb s.done rounds) (converged s) h

taken-ranged : (rounds : ℕ) (s : Brent) (mean : Float) → Ranged s → Ranged (taken_in rounds s mean)
unfolding taken_in
taken-ranged rounds s mean r = go (goes_on rounds s) refl
  where
    go : (b : Bool) → goes_on rounds s ≡ b → Ranged (cond b (step_of s mean) s)
    go true e = (Rounds.next s r (going_open rounds s e) mean).to
    go false e = r

take-kept : (t : Stepper) (mean : Float) → Kept t → Kept (take_mean t mean)
unfolding take_mean
take-kept t mean h q = go t.begun h
  where
    go : (b : Bool) → (b ≡ true → Ranged t.state)
        → Ranged (cond b (taken_in t.rounds t.state mean) (begun mean))
    go true h = taken-ranged t.rounds t.state mean (h refl)
    go false h = begun-ranged mean

fed-kept : (t : Stepper) (means : List Float) → Kept t → Kept (fed t means)
unfolding fed
fed-kept t [] h = h
fed-kept t (mean ∷ means) h = fed-kept (take_mean t mean) means (take-kept t mean h)

next-within : (t : Stepper) → Kept t → AskedWithin (next_retention t)
unfolding next_retention
next-within t h = go t.begun (goes_on t.rounds t.state) h refl
  where
    go : (b c : Bool) → (b ≡ true → Ranged t.state) → goes_on t.rounds t.state ≡ c
        → AskedWithin (cond b (cond c (Some (trial t.state).u) None) (Some r_min))
    go true true h e = trial-within t.state (h refl) (going_open t.rounds t.state e)
    go true false h e = tt
    go false c h e = first-within

pub stepper_asks_within : (rounds : ℕ) (means : List Float) → AskedWithin (next_retention (fed (started rounds) means))
unfolding started
stepper_asks_within rounds means =
    next-within (fed (started rounds) means) (fed-kept (started rounds) means (λ e. absurd (true≢false (sym e))))

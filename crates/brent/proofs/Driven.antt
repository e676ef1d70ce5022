-- `driven_is`: a stepper that a host drives gives the whole search: its trials, what they leave, its answer. `closed`:
-- a stepper that asks for no retention has an answer.
use mathlib.Core.Path.{◌≡◌, refl, ap, ◌∙◌}
use mathlib.Core.Bool.{Bool, true, false, not, cond, ◌&&◌}
use Prim.Native.Nat.{ℕ, zero, suc, ◌+◌, ◌≤◌, ◌<◌}
use native.Mathlib.Omega.{arith}
use borrow.Author.Tests.{lt-ltb, le-ltb}
use lib.Dec.{ltb}
use lib.Ieee.{Float, lt}
use Rattle.brent.specs.declared.Brent.{Brent}
use Rattle.brent.specs.declared.Stepper.{Stepper}
use Rattle.std.proofs.Common.{Some, None}
use Rattle.brent.specs.declared.Verdict.TheVariants as verdict
use Rattle.brent.specs.Step.{r_min, converged, trial, begun, step_of, after_trial, after_worse, after_better, within}
use Rattle.brent.specs.Search.{Sampled, gives, refuses, Searched, found, not_found, ended, noted, tried}
use Rattle.brent.specs.Search.{settled, search_on, search}
use Rattle.brent.specs.Stepping.{started, goes_on, next_retention, taken_in, take_mean, judged, answer, told, closing}
use Rattle.brent.specs.Stepping.{asked, driven}

-- a round counts one
pub step_done : (s : Brent) (mean : Float) → (step_of s mean).done ≡ s.done + 1
unfolding step_of after_trial after_worse after_better
step_done s mean = go (lt s.fx mean)
  where
    go : (b : Bool) → (cond b (after_worse s (trial s) mean) (after_better s (trial s) mean)).done ≡ s.done + 1
    go true = refl
    go false = refl

-- the same trial, and the same after it
pub tried_same : {W R : Type 0} (u : Float) (x : Sampled W R) (f g : W → Float → Searched W R)
    → ((w : W) (m : Float) → f w m ≡ g w m) → tried u x f ≡ tried u x g
unfolding tried
tried_same u (gives w m) f g h = ap (noted u m) (h w m)
tried_same u (refuses w r) f g h = refl

abbrev going : ℕ → Brent → Stepper
going rounds s = record { begun = true; rounds = rounds; state = s }

module _ {W R : Type 0} (run : W → Float → Sampled W R) (rounds : ℕ) where
  -- rounds used up
  spent : (w : W) (s : Brent) → rounds ≤ s.done → closing {R = R} w (going rounds s) ≡ ended w (not_found s.done)
  unfolding closing told answer judged
  spent w s h = rw (le-ltb s.done rounds h)

  stops : (w : W) (s : Brent) → s.done < rounds → converged s ≡ true
      → closing {R = R} w (going rounds s) ≡ ended w (settled s)
  unfolding closing told answer judged settled
  stops w s h e = rw (lt-ltb s.done rounds h, e) (ap (ended w) (go (within s.x)))
    where
      go : (b : Bool) → told {R = R} s (cond b (verdict.Found s.x) verdict.NotFound) ≡ cond b
          (found s.x s.fx s.done) (not_found s.done)
      go true = refl
      go false = refl

  asks : (s : Brent) → s.done < rounds → converged s ≡ false
      → next_retention (going rounds s) ≡ Some (trial s).u
  unfolding next_retention goes_on
  asks s h e = rw (lt-ltb s.done rounds h, e)

  rests : (s : Brent) → goes_on rounds s ≡ false → next_retention (going rounds s) ≡ None
  unfolding next_retention
  rests s e = rw e

  takes : (s : Brent) (m : Float) → s.done < rounds → converged s ≡ false
      → take_mean (going rounds s) m ≡ going rounds (step_of s m)
  unfolding take_mean taken_in goes_on
  takes s m h e = rw (lt-ltb s.done rounds h, e)

  no_rounds : (s : Brent) → rounds ≤ s.done → goes_on rounds s ≡ false
  unfolding goes_on
  no_rounds s h = rw (le-ltb s.done rounds h)

  no_more : (s : Brent) → s.done < rounds → converged s ≡ true → goes_on rounds s ≡ false
  unfolding goes_on
  no_more s h e = rw (lt-ltb s.done rounds h, e)

  turn : (fuel n : ℕ) (w : W) (s : Brent) → s.done < rounds
      → ((after : W) (mean : Float) → driven run fuel after (going rounds (step_of s mean)) ≡ search_on run n after
      (step_of s mean))
      → (b : Bool) → converged s ≡ b → driven run (suc fuel) w (going rounds s) ≡ search_on run (suc n) w s
  unfolding driven search_on asked
  turn fuel n w s h rest true e = rw (rests s (no_more s h e), e) (stops w s h e)
  turn fuel n w s h rest false e =
      rw (asks s h e, e)
      (tried_same (trial s).u (run w (trial s).u)
      (λ after mean. driven run fuel after (take_mean (going rounds s) mean))
      (λ after mean. search_on run n after (step_of s mean))
      (λ after mean. ap (driven run fuel after) (takes s mean h e) ∙ rest after mean))

  on : (fuel n : ℕ) (w : W) (s : Brent) → n ≤ fuel → s.done + n ≡ rounds
      → driven run fuel w (going rounds s) ≡ search_on run n w s
  unfolding driven search_on asked
  on zero zero w s f h = spent w s (omega arith)
  on zero (suc n) w s f h = absurd (omega arith)
  on (suc fuel) zero w s f h = rw (rests s (no_rounds s (omega arith))) (spent w s (omega arith))
  on (suc fuel) (suc n) w s f h =
      turn fuel n w s (omega arith) (λ after mean. on fuel n after (step_of s mean) (omega arith)
      (ap (λ (z : ℕ). z + n) (step_done s mean) ∙ omega arith)) (converged s) refl

-- driven for more than `rounds` trials, a stepper gives the whole search
pub driven_is : {W R : Type 0} (run : W → Float → Sampled W R) (rounds fuel : ℕ) (world : W) → rounds < fuel
    → driven run fuel world (started rounds) ≡ search run rounds world
unfolding driven search started next_retention asked take_mean begun
driven_is run rounds zero world h = absurd (omega arith)
driven_is run rounds (suc fuel) world h =
    tried_same r_min (run world r_min) _ _ (λ after mean. on run rounds fuel rounds after (begun mean) (omega arith)
    (omega arith))

-- what asks for no retention has an answer
pub closed : (t : Stepper) → next_retention t ≡ None → answer t ≡ verdict.Open → ⊥
unfolding next_retention answer judged goes_on
closed t = go t.begun (ltb t.state.done t.rounds) (converged t.state) (within t.state.x)
  where
    go : (b c d e : Bool) → cond b (cond (c && not d) (Some (trial t.state).u) None)
        (Some r_min) ≡ None
        → cond b (cond c (cond d (cond e (verdict.Found
        t.state.x) verdict.NotFound) verdict.Open) verdict.NotFound) verdict.Open ≡ verdict.Open → ⊥
    go true true true true p q = let z : ◌≡◌ {A = ℕ} 0 1 = cc in omega arith
    go true true true false p q = let z : ◌≡◌ {A = ℕ} 0 1 = cc in omega arith
    go true true false e p q = let z : ◌≡◌ {A = ℕ} 0 1 = cc in omega arith
    go true false d e p q = let z : ◌≡◌ {A = ℕ} 0 1 = cc in omega arith
    go false c d e p q = let z : ◌≡◌ {A = ℕ} 0 1 = cc in omega arith

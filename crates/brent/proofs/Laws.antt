-- What a search promises its caller.
--   by-rounds      what holds of a search's end, and of a trial with what follows it, holds of the search
--   cheapest       where no mean is a NaN, no trial's mean is below the mean of the retention found
--   was_tried      the retention found was tried, and had that mean
--   found_within   it lies within 0.70 to 0.95
--   one_more       there was one trial more than rounds
use mathlib.Core.Path.{◌≡◌, refl, subst}
use mathlib.Core.Logic.{◌⊎◌, inl, inr}
use mathlib.Core.Bool.{Bool, true, false, cond}
use mathlib.Core.List.{List, [], ◌∷◌}
use Prim.Native.Nat.{ℕ, zero, suc, ◌+◌}
use native.Mathlib.Omega.{arith}
use lib.ListN.{length}
use lib.Ieee.{Float, lt, is_nan}
use Rattle.brent.specs.declared.Brent.{Brent}
use Rattle.brent.specs.Step.{r_min, converged, trial, begun, step_of, after_trial, after_worse, after_better, within}
use Rattle.brent.specs.Search.{Sampled, gives, refuses, Tried, Answer, Searched, found, not_found, refused, ended}
use Rattle.brent.specs.Search.{noted, tried, settled, search_on, search, Each, Some, NotBelow, WasTried}
use Rattle.brent.specs.Search.{FoundWithin, OneMore}
use Rattle.brent.proofs.Order.{asym, self, not_below_trans}
use Rattle.brent.proofs.Driven.{step_done}

-- ---- what holds of a search holds of its end, and of a trial with what follows it
module _ {W R : Type 0} (run : W → Float → Sampled W R) (P : ℕ → Brent → Searched W R → Type 0)
    (spent : (w : W) (s : Brent) → P 0 s (ended w (not_found s.done)))
    (stop : (n : ℕ) (w : W) (s : Brent) → converged s ≡ true → P (suc n) s (ended w (settled s)))
    (trying : (n : ℕ) (s : Brent) (x : Sampled W R) (rest : W → Float → Searched W R) → converged s ≡ false
    → ((w : W) (mean : Float) → P n (step_of s mean) (rest w mean)) → P (suc n) s (tried (trial s).u x rest)) where
  turn : (n : ℕ) (w : W) (s : Brent) → ((after : W) (mean : Float) → P n (step_of s mean)
      (search_on run n after (step_of s mean))) → (b : Bool) → converged s ≡ b → P (suc n) s (search_on run (suc n) w s)
  unfolding search_on
  turn n w s h true e = rw e (stop n w s e)
  turn n w s h false e = rw e (trying n s (run w (trial s).u) (λ after mean. search_on run n after (step_of s mean)) e h)

  pub by-rounds : (n : ℕ) (w : W) (s : Brent) → P n s (search_on run n w s)
  unfolding search_on
  by-rounds zero w s = spent w s
  by-rounds (suc n) w s = turn n w s (λ after mean. by-rounds n after (step_of s mean)) (converged s) refl

-- ---- the cheapest of those tried
abbrev Number : Tried → Type 0
Number t = is_nan t.mean ≡ false

abbrev Cheapest : {W R : Type 0} → Searched W R → Type 0
Cheapest r = Each Number r.trials → Each (λ t. NotBelow r.answer t.mean) r.trials

-- from a state whose best mean is m: neither is m below
abbrev CheapestFrom : {W R : Type 0} → Float → Searched W R → Type 0
CheapestFrom m r =
    Each Number r.trials → NotBelow r.answer m × Each (λ t. NotBelow r.answer t.mean) r.trials

-- by the best mean before a trial, the trial's, and the best after it
joins : {R : Type 0} (answer : Answer R) (b : Bool) (m mean : Float) → lt m mean ≡ b → is_nan m ≡ false
    → is_nan mean ≡ false → NotBelow answer (cond b m mean) → NotBelow answer m × NotBelow answer mean
joins (found x best done) true m mean e p q h = (h, not_below_trans mean m best p (asym m mean e) h)
joins (found x best done) false m mean e p q h = (not_below_trans m mean best q e h, h)
joins (not_found done) b m mean e p q h = (tt, tt)
joins (refused why) b m mean e p q h = (tt, tt)

best_is : (s : Brent) (mean : Float) → (step_of s mean).fx ≡ cond (lt s.fx mean) s.fx mean
unfolding step_of after_trial after_worse after_better
best_is s mean = go (lt s.fx mean)
  where
    go : (b : Bool) → (cond b (after_worse s (trial s) mean) (after_better s (trial s) mean)).fx ≡ cond b s.fx mean
    go true = refl
    go false = refl

number-or : (b : Bool) (m mean : Float) → is_nan m ≡ false → is_nan mean ≡ false → is_nan (cond b m mean) ≡ false
number-or true m mean p q = p
number-or false m mean p q = q

settled-below : (R : Type 0) (s : Brent) → NotBelow {R = R} (settled s) s.fx
unfolding settled
settled-below R s = go (within s.x) (self s.fx)
  where
    go : (b : Bool) → lt s.fx s.fx ≡ false → NotBelow {R = R}
        (cond b (found s.x s.fx s.done) (not_found s.done)) s.fx
    go true h = h
    go false h = tt

module _ {W R : Type 0} (run : W → Float → Sampled W R) where
  abbrev CheapOn : ℕ → Brent → Searched W R → Type 0
  CheapOn n s r = is_nan s.fx ≡ false → CheapestFrom s.fx r

  cheap_trial : (n : ℕ) (s : Brent) (x : Sampled W R) (rest : W → Float → Searched W R) → converged s ≡ false
      → ((w : W) (mean : Float) → CheapOn n (step_of s mean) (rest w mean))
      → CheapOn (suc n) s (tried (trial s).u x rest)
  unfolding tried noted ended
  cheap_trial n s (gives w mean) rest e h p (q, qs) =
      let r = h w mean (rw (best_is s mean) (number-or (lt s.fx mean) s.fx mean p q)) qs in
      let j = joins (rest w mean).answer (lt s.fx mean) s.fx mean refl p q (rw (best_is s mean) at r.0) in
      (j.0, (j.1, r.1))
  cheap_trial n s (refuses w why) rest e h p q = (tt, tt)

  pub cheapest : (rounds : ℕ) (world : W) → Cheapest (search run rounds world)
  unfolding search tried noted ended begun
  cheapest rounds world = go (run world r_min)
    where
      on : (w : W) (s : Brent) → CheapOn rounds s (search_on run rounds w s)
      on = by-rounds run CheapOn (λ w s p q. (tt, tt)) (λ n w s e p q. (settled-below R s, tt)) cheap_trial rounds

      go : (x : Sampled W R) → Cheapest (tried r_min x (λ after mean. search_on run rounds after (begun mean)))
      go (gives w mean) = λ q. on w (begun mean) q.0 q.1
      go (refuses w why) = λ q. tt

-- ---- the retention found was tried
abbrev Reaches : {R : Type 0} → Answer R → Float → Float → List Tried → Type 0
Reaches (found x mean done) y m ts = ((y ≡ x) × (m ≡ mean)) ⊎ Some (λ t. (t.retention ≡ x) × (t.mean ≡ mean)) ts
Reaches (not_found done) y m ts = Unit {0}
Reaches (refused why) y m ts = Unit {0}

reach_more : {R : Type 0} (answer : Answer R) (b : Bool) (y m u mean : Float) (ts : List Tried)
    → Reaches answer (cond b y u) (cond b m mean) ts → Reaches answer y m (record { retention = u; mean = mean } ∷ ts)
reach_more (found x best done) true y m u mean ts (inl h) = inl h
reach_more (found x best done) true y m u mean ts (inr h) = inr (inr h)
reach_more (found x best done) false y m u mean ts (inl h) = inr (inl h)
reach_more (found x best done) false y m u mean ts (inr h) = inr (inr h)
reach_more (not_found done) b y m u mean ts h = tt
reach_more (refused why) b y m u mean ts h = tt

reach_first : {R : Type 0} (answer : Answer R) (u mean : Float) (ts : List Tried) → Reaches answer u mean ts
    → WasTried answer (record { retention = u; mean = mean } ∷ ts)
reach_first (found x best done) u mean ts h = h
reach_first (not_found done) u mean ts h = tt
reach_first (refused why) u mean ts h = tt

place_is : (s : Brent) (mean : Float) → (step_of s mean).x ≡ cond (lt s.fx mean) s.x (trial s).u
unfolding step_of after_trial after_worse after_better
place_is s mean = go (lt s.fx mean)
  where
    go : (b : Bool) → (cond b (after_worse s (trial s) mean) (after_better s (trial s) mean)).x ≡ cond b s.x
        (trial s).u
    go true = refl
    go false = refl

module _ {W R : Type 0} (run : W → Float → Sampled W R) where
  abbrev ReachesOn : ℕ → Brent → Searched W R → Type 0
  ReachesOn n s r = Reaches r.answer s.x s.fx r.trials

  reach_stop : (n : ℕ) (w : W) (s : Brent) → converged s ≡ true → ReachesOn (suc n) s (ended w (settled s))
  unfolding ended settled
  reach_stop n w s e = go (within s.x)
    where
      go : (b : Bool) → Reaches {R = R} (cond b (found s.x s.fx s.done) (not_found s.done)) s.x s.fx []
      go true = inl (refl, refl)
      go false = tt

  reach_trial : (n : ℕ) (s : Brent) (x : Sampled W R) (rest : W → Float → Searched W R) → converged s ≡ false
      → ((w : W) (mean : Float) → ReachesOn n (step_of s mean) (rest w mean))
      → ReachesOn (suc n) s (tried (trial s).u x rest)
  unfolding tried noted ended
  reach_trial n s (gives w mean) rest e h =
      reach_more (rest w mean).answer (lt s.fx mean) s.x s.fx (trial s).u mean (rest w mean).trials
      (subst (λ (m : Float). Reaches (rest w mean).answer (cond (lt s.fx mean) s.x (trial s).u) m
      (rest w mean).trials) (best_is s mean)
      (subst (λ (y : Float). Reaches (rest w mean).answer y (step_of s mean).fx (rest w mean).trials)
      (place_is s mean) (h w mean)))
  reach_trial n s (refuses w why) rest e h = tt

  pub was_tried : (rounds : ℕ) (world : W) → WasTried (search run rounds world).answer
      (search run rounds world).trials
  unfolding search tried noted ended begun
  was_tried rounds world = go (run world r_min)
    where
      on : (w : W) (s : Brent) → ReachesOn rounds s (search_on run rounds w s)
      on = by-rounds run ReachesOn (λ w s. tt) reach_stop reach_trial rounds

      go : (x : Sampled W R) → WasTried (tried r_min x (λ after mean. search_on run rounds after (begun mean))).answer
          (tried r_min x (λ after mean. search_on run rounds after (begun mean))).trials
      go (gives w mean) =
          reach_first (search_on run rounds w (begun mean)).answer r_min mean
          (search_on run rounds w (begun mean)).trials (on w (begun mean))
      go (refuses w why) = tt

  -- ---- within the range
  abbrev WithinOn : ℕ → Brent → Searched W R → Type 0
  WithinOn n s r = FoundWithin r.answer

  within_stop : (n : ℕ) (w : W) (s : Brent) → converged s ≡ true → WithinOn (suc n) s (ended w (settled s))
  unfolding ended settled
  within_stop n w s e = go (within s.x) refl
    where
      go : (b : Bool) → within s.x ≡ b → FoundWithin {R = R}
          (cond b (found s.x s.fx s.done) (not_found s.done))
      go true e = rw e tt
      go false e = tt

  within-trial : (n : ℕ) (s : Brent) (x : Sampled W R) (rest : W → Float → Searched W R) → converged s ≡ false
      → ((w : W) (mean : Float) → WithinOn n (step_of s mean) (rest w mean))
      → WithinOn (suc n) s (tried (trial s).u x rest)
  unfolding tried noted ended
  within-trial n s (gives w mean) rest e h = h w mean
  within-trial n s (refuses w why) rest e h = tt

  pub found_within : (rounds : ℕ) (world : W) → FoundWithin (search run rounds world).answer
  unfolding search tried noted ended
  found_within rounds world = go (run world r_min)
    where
      go : (x : Sampled W R) → FoundWithin (tried r_min x (λ after mean. search_on run rounds after (begun mean))).answer
      go (gives w mean) = by-rounds run WithinOn (λ w s. tt) within_stop within-trial rounds w (begun mean)
      go (refuses w why) = tt

  -- ---- trials and rounds
  abbrev Counts : ℕ → ℕ → Answer R → Type 0
  Counts base n (found x mean done) = base + n ≡ done
  Counts base n (not_found done) = base + n ≡ done
  Counts base n (refused why) = Unit {0}

  abbrev CountsOn : ℕ → Brent → Searched W R → Type 0
  CountsOn n s r = Counts s.done (length r.trials) r.answer

  count_more : (base n : ℕ) (answer : Answer R) → Counts (base + 1) n answer → Counts base (suc n) answer
  count_more base n (found x mean done) h = omega arith
  count_more base n (not_found done) h = omega arith
  count_more base n (refused why) h = tt

  count-first : (n : ℕ) (answer : Answer R) → Counts 0 n answer → OneMore answer (suc n)
  count-first n (found x mean done) h = omega arith
  count-first n (not_found done) h = omega arith
  count-first n (refused why) h = tt

  count_stop : (n : ℕ) (w : W) (s : Brent) → converged s ≡ true → CountsOn (suc n) s (ended w (settled s))
  unfolding ended settled
  count_stop n w s e = go (within s.x)
    where
      go : (b : Bool) → Counts s.done 0 (cond b (found s.x s.fx s.done) (not_found s.done))
      go true = omega arith
      go false = omega arith

  count_spent : (w : W) (s : Brent) → CountsOn 0 s (ended w (not_found s.done))
  unfolding ended
  count_spent w s = omega arith

  count-trial : (n : ℕ) (s : Brent) (x : Sampled W R) (rest : W → Float → Searched W R) → converged s ≡ false
      → ((w : W) (mean : Float) → CountsOn n (step_of s mean) (rest w mean))
      → CountsOn (suc n) s (tried (trial s).u x rest)
  unfolding tried noted ended
  count-trial n s (gives w mean) rest e h =
      count_more s.done (length (rest w mean).trials) (rest w mean).answer
      (subst (λ (z : ℕ). Counts z (length (rest w mean).trials) (rest w mean).answer) (step_done s mean) (h w mean))
  count-trial n s (refuses w why) rest e h = tt

  pub one_more : (rounds : ℕ) (world : W) → OneMore (search run rounds world).answer
      (length (search run rounds world).trials)
  unfolding search tried noted ended begun
  one_more rounds world = go (run world r_min)
    where
      on : (w : W) (s : Brent) → CountsOn rounds s (search_on run rounds w s)
      on = by-rounds run CountsOn count_spent count_stop count-trial rounds

      go : (x : Sampled W R) → OneMore (tried r_min x (λ after mean. search_on run rounds after (begun mean))).answer
          (length (tried r_min x (λ after mean. search_on run rounds after (begun mean))).trials)
      go (gives w mean) =
          count-first (length (search_on run rounds w (begun mean)).trials)
          (search_on run rounds w (begun mean)).answer (on w (begun mean))
      go (refuses w why) = tt

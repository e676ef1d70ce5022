-- Every retention that a search tries lies within 0.70 to 0.95, whatever the means are, and 57 rounds are enough.
--   trials_within   every retention tried is in range
--   only_spent      refusal 10 comes only of rounds used up, and a retention is found in fewer
--   never_ten       with 57 rounds or more there is no refusal 10
--   trials_finite   the retentions tried are finite
use mathlib.Core.Path.{◌≡◌, refl, ap, ◌∙◌, subst}
use mathlib.Core.Bool.{true, false}
use mathlib.Core.List.{List, [], ◌∷◌}
use Prim.Native.Nat.{ℕ, suc, ◌+◌, ◌*◌, ◌≤◌, ◌<◌}
use native.Mathlib.Nat.{le_trans}
use native.Mathlib.Omega.{arith}
use lib.Dec.{T}
use lib.Ieee.{Float}
use lib.Ieee.Bits.{is_true}
use Rattle.float32.specs.Float32 as Float32
use Rattle.brent.specs.declared.Brent.{Brent}
use Rattle.brent.specs.Step.{r_min, converged, trial, begun, step_of, within}
use Rattle.brent.specs.Search.{Sampled, gives, refuses, Tried, Searched, not_found, ended, noted, tried, settled}
use Rattle.brent.specs.Search.{search_on, search, Each, OnlySpent, NeverTen}
use Rattle.brent.proofs.Measures.{k_min}
use Rattle.brent.proofs.Driven.{step_done}
use Rattle.brent.proofs.Laws.{by-rounds}
use Rattle.brent.proofs.Range.{Ranged, r_min-at, begun-ranged, within-at, within_finite}
use Rattle.brent.proofs.Between.{trial-place}
use Rattle.brent.proofs.Rounds.{Shape, worse_right, worse_left, better_right, better_left, next}

abbrev Inside : Tried → Type 0
Inside t = T (within t.retention)

module _ {W R : Type 0} (run : W → Float → Sampled W R) where
  abbrev InsideOn : ℕ → Brent → Searched W R → Type 0
  InsideOn n s r = Ranged s → Each Inside r.trials

  inside_spent : (w : W) (s : Brent) → InsideOn 0 s (ended w (not_found s.done))
  unfolding ended
  inside_spent w s r = tt

  inside_stop : (n : ℕ) (w : W) (s : Brent) → converged s ≡ true → InsideOn (suc n) s (ended w (settled s))
  unfolding ended
  inside_stop n w s e r = tt

  inside_trial : (n : ℕ) (s : Brent) (x : Sampled W R) (rest : W → Float → Searched W R) → converged s ≡ false
      → ((w : W) (mean : Float) → InsideOn n (step_of s mean) (rest w mean))
      → InsideOn (suc n) s (tried (trial s).u x rest)
  unfolding tried noted ended
  inside_trial n s (gives w mean) rest e h r =
      let m = trial-place s r e in (
        within-at (trial s).u m.k m.at (le_trans r.low m.least) (le_trans m.most r.high),
        h w mean
            (next s r e mean).to,
      )
  inside_trial n s (refuses w why) rest e h r = tt

  -- every retention tried lies within 0.70 to 0.95
  pub trials_within : (rounds : ℕ) (world : W) → Each Inside (search run rounds world).trials
  unfolding search tried noted ended
  trials_within rounds world = go (run world r_min)
    where
      go : (x : Sampled W R) → Each Inside (tried r_min x (λ after mean. search_on run rounds after (begun mean))).trials
      go (gives w mean) = (
        within-at r_min k_min r_min-at (omega arith) (omega arith),
        by-rounds run InsideOn inside_spent inside_stop inside_trial rounds w (begun mean) (begun-ranged mean),
      )
      go (refuses w why) = tt

  -- ---- refusal 10
  abbrev SpentOn : ℕ → Brent → Searched W R → Type 0
  SpentOn n s r = Ranged s → OnlySpent r.answer (s.done + n)

  spent_end : (w : W) (s : Brent) → SpentOn 0 s (ended w (not_found s.done))
  unfolding ended
  spent_end w s r = omega arith

  spent_stop : (n : ℕ) (w : W) (s : Brent) → converged s ≡ true → SpentOn (suc n) s (ended w (settled s))
  unfolding ended settled
  spent_stop n w s e r =
      rw (is_true (within s.x) (within-at s.x r.k r.X (le_trans r.low r.ik)
      (le_trans r.kj r.high))) (omega arith)

  spent_trial : (n : ℕ) (s : Brent) (x : Sampled W R) (rest : W → Float → Searched W R) → converged s ≡ false
      → ((w : W) (mean : Float) → SpentOn n (step_of s mean) (rest w mean))
      → SpentOn (suc n) s (tried (trial s).u x rest)
  unfolding tried noted ended
  spent_trial n s (gives w mean) rest e h r =
      subst (λ (z : ℕ). OnlySpent (rest w mean).answer z) (ap (λ (z : ℕ). z + n) (step_done s mean) ∙ omega arith)
      (h w mean (next s r e mean).to)
  spent_trial n s (refuses w why) rest e h r = tt

  -- refusal 10 comes only of rounds used up, and a retention is found in fewer rounds
  pub only_spent : (rounds : ℕ) (world : W) → OnlySpent (search run rounds world).answer rounds
  unfolding search tried noted ended begun
  only_spent rounds world = go (run world r_min)
    where
      go : (x : Sampled W R) → OnlySpent (tried r_min x
          (λ after mean. search_on run rounds after (begun mean))).answer rounds
      go (gives w mean) =
          subst (λ (z : ℕ). OnlySpent (search_on run rounds w (begun mean)).answer z) (omega arith)
          (by-rounds run SpentOn spent_end spent_stop spent_trial rounds w (begun mean) (begun-ranged mean))
      go (refuses w why) = tt

-- ---- how many rounds there can be
-- The ends are 4,194,304 apart at first. A trial is at least 117,000 from x and 73,000 from the end ahead of it. So
-- each round takes 73,000 off, but for one: the first better trial, where x is still at the lower end.
data Budget (n i k j : ℕ) : Type 0 where
  first : 0 < n → k ≡ i → j + 146000 < 73000 * n + 190000 + i → Budget n i k j
  later : 0 < n → i + 73000 ≤ k → k + 73000 ≤ j → j + 73000 < 73000 * n + 190000 + i → Budget n i k j

budget_on : (n i k j i' k' j' : ℕ) → i ≤ k → k ≤ j → Shape i k j i' k' j' → Budget (suc n) i k j → Budget n i' k' j'
budget_on n i k j i' k' j' o p (worse_right l a b c h g) (first P e f) = first (omega arith) (omega arith) (omega arith)
budget_on n i k j i' k' j' o p (worse_left l a b c h g) (first P e f) = absurd (omega arith)
budget_on n i k j i' k' j' o p (better_right l a b c h g) (first P e f) =
    later (omega arith) (omega arith) (omega arith) (omega arith)
budget_on n i k j i' k' j' o p (better_left l a b c h g) (first P e f) = absurd (omega arith)
budget_on n i k j i' k' j' o p (worse_right l a b c h g) (later P d e f) =
    later (omega arith) (omega arith) (omega arith) (omega arith)
budget_on n i k j i' k' j' o p (worse_left l a b c h g) (later P d e f) =
    later (omega arith) (omega arith) (omega arith) (omega arith)
budget_on n i k j i' k' j' o p (better_right l a b c h g) (later P d e f) =
    later (omega arith) (omega arith) (omega arith) (omega arith)
budget_on n i k j i' k' j' o p (better_left l a b c h g) (later P d e f) =
    later (omega arith) (omega arith) (omega arith) (omega arith)

spends : (i k j : ℕ) → Budget 0 i k j → ⊥
spends i k j (first P e f) = omega arith
spends i k j (later P d e f) = omega arith

module _ {W R : Type 0} (run : W → Float → Sampled W R) where
  abbrev EndsOn : ℕ → Brent → Searched W R → Type 0
  EndsOn n s r = (g : Ranged s) → Budget n g.i g.k g.j → NeverTen r.answer

  ends_spent : (w : W) (s : Brent) → EndsOn 0 s (ended w (not_found s.done))
  ends_spent w s g b = absurd (spends g.i g.k g.j b)

  ends_stop : (n : ℕ) (w : W) (s : Brent) → converged s ≡ true → EndsOn (suc n) s (ended w (settled s))
  unfolding ended settled
  ends_stop n w s e r b =
      rw (is_true (within s.x) (within-at s.x r.k r.X (le_trans r.low r.ik)
      (le_trans r.kj r.high))) tt

  ends-trial : (n : ℕ) (s : Brent) (x : Sampled W R) (rest : W → Float → Searched W R) → converged s ≡ false
      → ((w : W) (mean : Float) → EndsOn n (step_of s mean) (rest w mean)) → EndsOn (suc n) s (tried (trial s).u x rest)
  unfolding tried noted ended
  ends-trial n s (gives w mean) rest e h r b =
      let m = next s r e mean in
      h w mean m.to (budget_on n r.i r.k r.j m.to.i m.to.k m.to.j r.ik r.kj m.shape b)
  ends-trial n s (refuses w why) rest e h r b = tt

  -- 57 rounds are enough, and so are the Rust's 64: there is no refusal 10
  pub never_ten : (rounds : ℕ) (world : W) → 57 ≤ rounds → NeverTen (search run rounds world).answer
  unfolding search tried noted ended begun-ranged
  never_ten rounds world h = go (run world r_min)
    where
      go : (x : Sampled W R) → NeverTen (tried r_min x (λ after mean. search_on run rounds after (begun mean))).answer
      go (gives w mean) =
          by-rounds run EndsOn ends_spent ends_stop ends-trial rounds w (begun mean) (begun-ranged mean)
          (first (omega arith) refl (omega arith))
      go (refuses w why) = tt

each : (P Q : Tried → Type 0) → ((t : Tried) → P t → Q t) → (ts : List Tried) → Each P ts → Each Q ts
each P Q f [] h = tt
each P Q f (t ∷ ts) h = (f t h.0, each P Q f ts h.1)

pub trials_finite : {W R : Type 0} (run : W → Float → Sampled W R) (rounds : ℕ) (world : W)
    → Each (λ t. Float32.is_finite t.retention ≡ true) (search run rounds world).trials
trials_finite run rounds world =
    each Inside (λ t. Float32.is_finite t.retention ≡ true) (λ t h. within_finite t.retention h)
    (search run rounds world).trials (trials_within run rounds world)

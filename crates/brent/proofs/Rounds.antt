-- A round leaves a state in range.
--   Shape i k j i' k' j'   how a round moves the ends and the best retention
--   Next i k j s           a state in range after such a round
--   next                   the state after a round is one
use mathlib.Core.Path.{◌≡◌, refl, sym, ◌∙◌, subst}
use mathlib.Core.Bool.{Bool, true, false, cond, true≢false}
use Prim.Native.Nat.{ℕ, ◌+◌, ◌-◌, ◌≤◌, ◌<◌}
use native.Mathlib.Nat.{le_trans, le_of_mul-le-mul_right}
use native.Mathlib.Omega.{arith}
use borrow.Author.Tests.{leb-true, leb-false}
use lib.Dec.{T, leb}
use lib.Ieee.{Float, lt, le}
use lib.Ieee.Bits.{is_true}
use lib.Ieee.Order.{le_of_values}
use Rattle.brent.specs.declared.Brent.{Brent}
use Rattle.brent.specs.Step.{converged, trial, after_worse, after_better, after_trial, step_of}
use Rattle.brent.proofs.Values.{le-vals, below_no, below-yes}
use Rattle.brent.proofs.Multiples.{N, At, Place, at_least, at_most}
use Rattle.brent.proofs.Moves.{Strides, right, left}
use Rattle.brent.proofs.Range.{Ranged}
use Rattle.brent.proofs.Between.{trial_strides, trial-place}

before : (u x : Float) (l k : ℕ) → At u l → At x k → lt u x ≡ true → l ≤ k
before u x l k p q h = go (leb l k) (leb-true l k) (leb-false l k)
  where
    go : (b : Bool) → (b ≡ true → l ≤ k) → (b ≡ false → k < l) → l ≤ k
    go true f g = f refl
    go false f g =
        let z = g refl in absurd (true≢false (sym h ∙ below_no u x l N k N (omega arith) (omega arith) p q
        (omega arith)))

not-before : (u x : Float) (l k : ℕ) → At u l → At x k → lt u x ≡ false → k ≤ l
not-before u x l k p q h = go (leb k l) (leb-true k l) (leb-false k l)
  where
    go : (b : Bool) → (b ≡ true → k ≤ l) → (b ≡ false → l < k) → k ≤ l
    go true f g = f refl
    go false f g =
        let z = g refl in absurd (true≢false (sym (below-yes u x l N k N (omega arith) (omega arith) p q (omega arith))
        ∙ h))

from : (x u : Float) (k l : ℕ) → At x k → At u l → le x u ≡ true → k ≤ l
from x u k l p q h =
    le_of_mul-le-mul_right (le-vals x u k N l N (omega arith) (omega arith) p q (subst T (sym h) tt)) (go)
  where
    go : 0 < N
    go = omega arith

not-from : (x u : Float) (k l : ℕ) → At x k → At u l → le x u ≡ false → l ≤ k
not-from x u k l p q h = go (leb l k) (leb-true l k) (leb-false l k)
  where
    go : (b : Bool) → (b ≡ true → l ≤ k) → (b ≡ false → k < l) → l ≤ k
    go true f g = f refl
    go false f g =
        let z = g refl in absurd (true≢false (sym (is_true (le x u)
        (le_of_values x u k N l N (omega arith) (omega arith) p q (omega arith))) ∙ h))

-- how the ends i and j and the best retention k move: the trial is at l, right or left of k, and worse or better
pub data Shape (i k j i' k' j' : ℕ) : Type 0 where
  worse_right : (l : ℕ) → i' ≡ i → k' ≡ k → j' ≡ l → k + 117000 ≤ l → l + 73000 ≤ j → Shape i k j i' k' j'
  worse_left : (l : ℕ) → i' ≡ l → k' ≡ k → j' ≡ j → l + 117000 ≤ k → i + 73000 ≤ l → Shape i k j i' k' j'
  better_right : (l : ℕ) → i' ≡ k → k' ≡ l → j' ≡ j → k + 117000 ≤ l → l + 73000 ≤ j → Shape i k j i' k' j'
  better_left : (l : ℕ) → i' ≡ i → k' ≡ l → j' ≡ k → l + 117000 ≤ k → i + 73000 ≤ l → Shape i k j i' k' j'

pub record Next (i k j : ℕ) (s : Brent) : Type 0 where
  pub to : Ranged s
  pub shape : Shape i k j to.i to.k to.j

data Side (i k j l : ℕ) : Type 0 where
  on_right : k + 117000 ≤ l → l + 73000 ≤ j → Side i k j l
  on_left : l + 117000 ≤ k → i + 73000 ≤ l → Side i k j l

side : (i k j l : ℕ) (u : Float) → At u l → Strides i k j u → Side i k j l
side i k j l u p (right hi w h) =
    let m = at_most (k + 117000) hi l u p w in on_right (at_least (k + 117000) hi l u p w) (omega arith)
side i k j l u p (left lo w h g) =
    let m = at_least lo (k - 117000) l u p w in let n = at_most lo (k - 117000) l u p w in on_left (omega arith)
    (omega arith)

module _ (s : Brent) (r : Ranged s) (going : converged s ≡ false) (mean : Float) where
  abbrev u : Float
  u = (trial s).u

  at : Place r.i r.j u
  at = trial-place s r going

  which : Side r.i r.k r.j at.k
  which = side r.i r.k r.j at.k u at.at (trial_strides s r going)

  after_worse_lem : Next r.i r.k r.j (after_worse s (trial s) mean)
  unfolding after_worse
  after_worse_lem = go (lt u s.x) refl which
    where
      go : (b : Bool) → lt u s.x ≡ b → Side r.i r.k r.j at.k
          → Next r.i r.k r.j (after_worse s (trial s) mean)
      go true e (on_right h g) = let z = before u s.x at.k r.k at.at r.X e in absurd (omega arith)
      go true e (on_left h g) = record {
        to = record {
          i = at.k;
          k = r.k;
          j = r.j;
          A = rw e at.at;
          X = r.X;
          B = rw e r.B;
          low = le_trans r.low at.least;
          ik = before u s.x at.k r.k at.at r.X e;
          kj = r.kj;
          high = r.high;
        };
        shape = worse_left at.k refl refl refl h g;
      }
      go false e (on_right h g) = record {
        to = record {
          i = r.i;
          k = r.k;
          j = at.k;
          A = rw e r.A;
          X = r.X;
          B = rw e at.at;
          low = r.low;
          ik = r.ik;
          kj = not-before u s.x at.k r.k at.at r.X e;
          high = le_trans at.most r.high;
        };
        shape = worse_right at.k refl refl refl h g;
      }
      go false e (on_left h g) = let z = not-before u s.x at.k r.k at.at r.X e in absurd (omega arith)

  after_better_lem : Next r.i r.k r.j (after_better s (trial s) mean)
  unfolding after_better
  after_better_lem = go (le s.x u) refl which
    where
      go : (b : Bool) → le s.x u ≡ b → Side r.i r.k r.j at.k
          → Next r.i r.k r.j (after_better s (trial s) mean)
      go true e (on_right h g) = record {
        to = record {
          i = r.k;
          k = at.k;
          j = r.j;
          A = rw e r.X;
          X = at.at;
          B = rw e r.B;
          low = le_trans r.low r.ik;
          ik = from s.x u r.k at.k r.X at.at e;
          kj = at.most;
          high = r.high;
        };
        shape = better_right at.k refl refl refl h g;
      }
      go true e (on_left h g) = let z = from s.x u r.k at.k r.X at.at e in absurd (omega arith)
      go false e (on_right h g) = let z = not-from s.x u r.k at.k r.X at.at e in absurd (omega arith)
      go false e (on_left h g) = record {
        to = record {
          i = r.i;
          k = at.k;
          j = r.k;
          A = rw e r.A;
          X = at.at;
          B = rw e r.X;
          low = r.low;
          ik = at.least;
          kj = not-from s.x u r.k at.k r.X at.at e;
          high = le_trans r.kj r.high;
        };
        shape = better_left at.k refl refl refl h g;
      }

  pub next : Next r.i r.k r.j (step_of s mean)
  unfolding step_of after_trial
  next = go (lt s.fx mean)
    where
      go : (b : Bool) → Next r.i r.k r.j (cond b (after_worse s (trial s) mean) (after_better s (trial s) mean))
      go true = after_worse_lem
      go false = after_better_lem

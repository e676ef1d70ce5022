-- Heap order, of the keys by place alone: K x is the key at place x. What one exchange of a place with its parent, or
-- with its least child, keeps, and what each loop leaves.
--   Ordered K len                         each key is at least its parent's
--   Rising K len pos, Sinking K len pos   the same but between pos and its parent, or its children
--   Swapped K K' a b                      two keys exchanged
--   rise-step, sink-step                  an exchange moves the one place that is out of order
--   risen, sunken                         where pos too is in order, all places are
--   ordered_root                          a change of the first key leaves only the first place out of order
--   root_least                            the first key is least
use mathlib.Core.Path.{◌≡◌}
use mathlib.Core.Logic.{◌≢◌}
use Prim.Native.Nat.{ℕ, zero, suc, ◌≤◌, ◌<◌}
use native.Mathlib.Nat.{le_refl}
use native.Mathlib.Decide.{ℕ_discrete}
use native.Mathlib.Omega.{arith}
use Rattle.queue.specs.Queue.{parent}

-- each place's key is at least its parent's
abbrev pub Ordered : (ℕ → ℕ) → ℕ → Type 0
Ordered K len = (i : ℕ) → 0 < i → i < len → K (parent i) ≤ K i

-- the same but between pos and its parent, and what is below pos is at least what is above it
pub record Rising (K : ℕ → ℕ) (len pos : ℕ) : Type 0 where
  pub rest : (i : ℕ) → 0 < i → i < len → i ≢ pos → K (parent i) ≤ K i
  pub over : (i : ℕ) → 0 < i → i < len → parent i ≡ pos → 0 < pos → K (parent pos) ≤ K i

-- the same but between pos and its children
pub record Sinking (K : ℕ → ℕ) (len pos : ℕ) : Type 0 where
  pub rest : (i : ℕ) → 0 < i → i < len → parent i ≢ pos → K (parent i) ≤ K i
  pub over : (i : ℕ) → 0 < i → i < len → parent i ≡ pos → 0 < pos → K (parent pos) ≤ K i

-- K' is K with the keys at a and b exchanged
pub record Swapped (K K' : ℕ → ℕ) (a b : ℕ) : Type 0 where
  pub first : K' a ≡ K b
  pub second : K' b ≡ K a
  pub others : (x : ℕ) → x ≢ a → x ≢ b → K' x ≡ K x

module _ (K K' : ℕ → ℕ) (len pos : ℕ) (less : K pos < K (parent pos)) (below : pos < len)
    (s : Swapped K K' pos (parent pos)) (r : Rising K len pos) (positive : 0 < pos) where
  rise-rest : (i : ℕ) → 0 < i → i < len → i ≢ parent pos → K' (parent i) ≤ K' i
  rise-rest i l u ne = at (ℕ_discrete i pos) (ℕ_discrete (parent i) pos) (ℕ_discrete (parent i) (parent pos))
    where
      at : Dec (i ≡ pos) → Dec (parent i ≡ pos) → Dec (parent i ≡ parent pos) → K' (parent i) ≤ K' i
      at (yes e) b d = rw e (omega (arith, s.first, s.second))
      at (no e) (yes f) d = rw f (omega (arith, s.first, s.others i e ne, r.over i l u f positive))
      at (no e) (no f) (yes g) =
          let h : K (parent pos) ≤ K i = rw g at (r.rest i l u e) in
          rw g (omega (arith, s.second, s.others i e ne))
      at (no e) (no f) (no g) = omega (arith, s.others (parent i) f g, s.others i e ne, r.rest i l u e)

  rise-over : (i : ℕ) → 0 < i → i < len → parent i ≡ parent pos → 0 < parent pos → K' (parent (parent pos)) ≤ K' i
  rise-over i l u f q = at (ℕ_discrete i pos)
    where
      up : K' (parent (parent pos)) ≤ K (parent pos)
      up = omega (
        arith,
        s.others (parent (parent pos)) (omega arith) (omega arith),
        r.rest (parent pos) q (omega arith) (omega arith),
      )

      at : Dec (i ≡ pos) → K' (parent (parent pos)) ≤ K' i
      at (yes e) = rw e (omega (arith, s.first, up))
      at (no e) =
          let h : K (parent pos) ≤ K i = rw f at (r.rest i l u e) in
          omega (arith, s.others i e (omega arith), up)

  pub rise-step : Rising K' len (parent pos)
  rise-step = record { rest = rise-rest; over = rise-over }

module _ (K K' : ℕ → ℕ) (len pos l : ℕ) (child : parent l ≡ pos) (positive : 0 < l) (below : l < len)
    (less : K l < K pos)
    (leastly : (i : ℕ) → 0 < i → i < len → parent i ≡ pos → K l ≤ K i) (s : Swapped K K' pos l)
    (r : Sinking K len pos) where
  sink-rest : (i : ℕ) → 0 < i → i < len → parent i ≢ l → K' (parent i) ≤ K' i
  sink-rest i p u ne = at (ℕ_discrete i l) (ℕ_discrete (parent i) pos) (ℕ_discrete i pos)
    where
      at : Dec (i ≡ l) → Dec (parent i ≡ pos) → Dec (i ≡ pos) → K' (parent i) ≤ K' i
      at (yes e) b d = rw (e, child) (omega (arith, s.first, s.second))
      at (no e) (yes f) d = rw f (omega (arith, s.first, s.others i (omega arith) e, leastly i p u f))
      at (no e) (no f) (yes g) =
          let h : K (parent pos) ≤ K l = r.over l positive below child (omega arith) in
          let o : K' (parent pos) ≡ K (parent pos) = s.others (parent pos) (omega arith) (omega arith) in
          rw g (omega (arith, s.first))
      at (no e) (no f) (no g) = omega (arith, s.others (parent i) f ne, s.others i g e, r.rest i p u f)

  sink-over : (i : ℕ) → 0 < i → i < len → parent i ≡ l → 0 < l → K' (parent l) ≤ K' i
  sink-over i p u f q =
      let h : K l ≤ K i = rw f at (r.rest i p u (omega arith)) in
      rw child (omega (arith, s.first, s.others i (omega arith) (omega arith)))

  pub sink-step : Sinking K' len l
  sink-step = record { rest = sink-rest; over = sink-over }

pub risen : (K : ℕ → ℕ) (len pos : ℕ) → Rising K len pos → (0 < pos → K (parent pos) ≤ K pos) → Ordered K len
risen K len pos r stop i l u = at (ℕ_discrete i pos)
  where
    at : Dec (i ≡ pos) → K (parent i) ≤ K i
    at (yes e) = rw e (stop (omega arith))
    at (no e) = r.rest i l u e

pub sunken : (K : ℕ → ℕ) (len pos : ℕ) → Sinking K len pos → ((i : ℕ) → 0 < i → i < len → parent i ≡ pos → K pos ≤ K i)
    → Ordered K len
sunken K len pos r stop i l u = at (ℕ_discrete (parent i) pos)
  where
    at : Dec (parent i ≡ pos) → K (parent i) ≤ K i
    at (yes e) = rw e (stop i l u e)
    at (no e) = r.rest i l u e

-- keys that change at the root only
pub ordered_root : (K K' : ℕ → ℕ) (len : ℕ) → ((x : ℕ) → 0 < x → x < len → K' x ≡ K x) → Ordered K len
    → Sinking K' len 0
ordered_root K K' len same o = record {
  rest = λ i l u ne. omega
      (arith, same i l u, same (parent i) (omega arith) (omega arith), o i l u);
  over = λ i l u e p. absurd (omega arith);
}

-- the root is least
pub root_least : (K : ℕ → ℕ) (len n i : ℕ) → i ≤ n → i < len → Ordered K len → K 0 ≤ K i
root_least K len zero i h u o = let e : i ≡ 0 = omega arith in rw e (le_refl (K 0))
root_least K len (suc n) i h u o = at (ℕ_discrete i 0) (root_least K len n (parent i))
  where
    at : Dec (i ≡ 0) → (parent i ≤ n → parent i < len → Ordered K len → K 0 ≤ K (parent i)) → K 0 ≤ K i
    at (yes e) ih = rw e (le_refl (K 0))
    at (no e) ih = omega (arith, ih (omega arith) (omega arith) o, o i (omega arith) u)

-- A chain of turns between states, and what is carried along it.
--     Chain R s₀ ts s         the turns ts, latest first, lead from s₀ to s, each by a step of R
--     chain_map               by steps of R, hence by steps of Q
--     chain_each              what each step shows of its turn and the turns before it holds of the list
--     tally                   a number of the state that each turn raises by one or leaves is a count of the turns
use Prim.Native.Nat.{ℕ, ◌+◌}
use native.Mathlib.Omega.{arith}
use mathlib.Core.Bool.{Bool}
use mathlib.Core.List.{List, [], ◌∷◌}
use mathlib.Core.Path.{◌≡◌}
use Rattle.turns.specs.Sums.{bit}
use Rattle.turns.specs.Turns.{Each, All, count}

-- a step: the turns before it, the state before it, what happens, the state after it
abbrev pub Steps : Type 0 → Type 0 → Type 1
Steps A S = List A → S → A → S → Type 0

pub data Chain {A S : Type 0} (R : Steps A S) (s₀ : S) : List A → S → Type 0 where
  start : Chain R s₀ [] s₀
  more : {ts : List A} {s : S} {t : A} {s' : S} → Chain R s₀ ts s → R ts s t s' → Chain R s₀ (t ∷ ts) s'

module _ {A S : Type 0} {R : Steps A S} {s₀ : S} where
  pub chain_map : {Q : Steps A S} → ((ts : List A) (s : S) (t : A) (s' : S) → R ts s t s' → Q ts s t s')
      → {ts : List A} {s : S} → Chain R s₀ ts s → Chain Q s₀ ts s
  chain_map h start = start
  chain_map h (more {ts = ts} {s = s} {t = t} {s' = s'} c r) = more (chain_map h c) (h ts s t s' r)

  pub chain_each : {P : A → List A → Type 0}
      → ((ts : List A) (s : S) (t : A) (s' : S) → Chain R s₀ ts s → R ts s t s' → P t ts) → {ts : List A} {s : S}
      → Chain R s₀ ts s → Each P ts
  chain_each h start = tt
  chain_each h (more {ts = ts} {s = s} {t = t} {s' = s'} c r) = (h ts s t s' c r, chain_each h c)

  pub chain_all : {P : A → Type 0} → ((ts : List A) (s : S) (t : A) (s' : S) → R ts s t s' → P t)
      → {ts : List A} {s : S} → Chain R s₀ ts s → All P ts
  chain_all h start = tt
  chain_all h (more {ts = ts} {s = s} {t = t} {s' = s'} c r) = (h ts s t s' r, chain_all h c)

  -- what holds at the start and is kept by every step holds at the end
  pub chain_keeps : (I : S → Type 0) → ((ts : List A) (s : S) (t : A) (s' : S) → R ts s t s' → I s → I s') → I s₀
      → {ts : List A} {s : S} → Chain R s₀ ts s → I s
  chain_keeps I h i start = i
  chain_keeps I h i (more {ts = ts} {s = s} {t = t} {s' = s'} c r) = h ts s t s' r (chain_keeps I h i c)

  pub tally : (r : S → ℕ) (p : A → Bool)
      → ((ts : List A) (s : S) (t : A) (s' : S) → R ts s t s' → r s' ≡ r s + bit (p t)) → {ts : List A} {s : S}
      → Chain R s₀ ts s → r s ≡ r s₀ + count p ts
  tally r p h start = omega arith
  tally r p h (more {ts = ts} {s = s} {t = t} {s' = s'} c x) = omega (arith, h ts s t s' x, tally r p h c)

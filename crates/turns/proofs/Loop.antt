-- A run as a definition: take the next turn until the run stops, at most n times. Its turns are a chain; and where
-- chains are bounded in length, enough fuel comes to the stop, so that the fuel plays no part in what the run is.
--   Lawful R I ts s x, Keeps I x, lawful_keeps   a turn that is a step of R and keeps I, and one that keeps I
--   run-takes, run_stops, run_stopped   a run where a turn is taken, where it stops, and where it has stopped
--   run-add, run_one_more, run_enough   n turns and m more, one more, and any more after the stop
--   run_keeps                           what each turn keeps holds after any number
--   Came m r, came                      a run has stopped, or its fuel is spent
--   run_chain, run_ends                 the turns of a run are a chain, and with fuel enough it comes to a stop
--   Same B next r r' x, Follows B P     two runs of the same turns, and two turns of which the one follows the other
--   run_follows                         where each turn follows, so does the run
--   stop_takes, stop_stops, stop_is     how a run stops, turn by turn and in the end
use Prim.Native.Nat.{ℕ, zero, suc, ◌+◌, ◌-◌, ◌≤◌, ◌<◌}
use native.Mathlib.Omega.{arith}
use mathlib.Core.List.{List, [], ◌∷◌}
use mathlib.Core.Option.{some}
use mathlib.Core.Path.{◌≡◌, refl, sym, ap, ◌∙◌}
use native.Mathlib.Nat.{zero-add, suc-add, add-suc}
use lib.ListN.{length}
use Rattle.turns.specs.Run.{Next, takes, stops, RunState, run, stop_of}
use Rattle.turns.proofs.Chain.{Steps, Chain, start, more}

-- a turn is a step of R and keeps I; nothing is asked of a stop
abbrev pub Lawful : {A S X : Type 0} → Steps A S → (S → Type 0) → List A → S → Next A S X → Type 0
Lawful R I ts s (takes t s') = R ts s t s' × I s'
Lawful R I ts s (stops x) = Unit {0}

-- a turn keeps I
abbrev pub Keeps : {A S X : Type 0} → (S → Type 0) → Next A S X → Type 0
Keeps I (takes t s) = I s
Keeps I (stops x) = Unit {0}

pub lawful_keeps : {A S X : Type 0} (R : Steps A S) (I : S → Type 0) (ts : List A) (s : S) (x : Next A S X)
    → Lawful R I ts s x → Keeps I x
lawful_keeps R I ts s (takes t s') h = h.1
lawful_keeps R I ts s (stops x) h = tt

module _ {A S X : Type 0} (next : S → Next A S X) where
  pub run-takes : (n : ℕ) (ts : List A) (s : S) (t : A) (s' : S) → next s ≡ takes t s'
      → run next (suc n) ts s ≡ run next n (t ∷ ts) s'
  run-takes n ts s t s' e = rw (e, run)

  pub run_stops : (n : ℕ) (ts : List A) (s : S) (x : X) → next s ≡ stops x
      → run next (suc n) ts s ≡ record { turns = ts; state = s }
  run_stops n ts s x e = rw (e, run)

  -- a run that has stopped stays there
  pub run_stopped : (n : ℕ) (ts : List A) (s : S) (x : X) → next s ≡ stops x
      → run next n ts s ≡ record { turns = ts; state = s }
  run_stopped zero ts s x e = refl
  run_stopped (suc n) ts s x e = run_stops n ts s x e

  -- GOING ON: n turns and then m more are n + m turns
  pub run-add : (n m : ℕ) (ts : List A) (s : S)
      → run next (n + m) ts s ≡ run next m (run next n ts s).turns (run next n ts s).state
  run-add zero m ts s = ap (λ (k : ℕ). run next k ts s) (zero-add m)
  run-add (suc n) m ts s = ap (λ (k : ℕ). run next k ts s) (suc-add n m)
      ∙ go (next s) refl (λ t s'. run-add n m (t ∷ ts) s')
    where
      go : (x : Next A S X) → next s ≡ x
          → ((t : A) (s' : S) → run next (n + m) (t ∷ ts) s'
          ≡ run next m (run next n (t ∷ ts) s').turns (run next n (t ∷ ts) s').state)
          → run next (suc (n + m)) ts s ≡ run next m (run next (suc n) ts s).turns (run next (suc n) ts s).state
      go (takes t s') e ih = rw (run-takes (n + m) ts s t s' e, run-takes n ts s t s' e) (ih t s')
      go (stops x) e ih = rw (run_stops (n + m) ts s x e, run_stops n ts s x e) (sym (run_stopped m ts s x e))

  -- for a loop's invariant: one more turn
  pub run_one_more : (k : ℕ) (ts : List A) (s : S) (t : A) (s' : S) → next (run next k ts s).state ≡ takes t s'
      → run next (k + 1) ts s ≡ record { turns = t ∷ (run next k ts s).turns; state = s' }
  run_one_more k ts s t s' e = run-add k 1 ts s
      ∙ run-takes 0 (run next k ts s).turns (run next k ts s).state t s' e

  -- and for its end: a run that has stopped after k turns is the run of any more fuel
  pub run_enough : (k n : ℕ) (ts : List A) (s : S) (x : X) → k ≤ n → next (run next k ts s).state ≡ stops x
      → run next n ts s ≡ run next k ts s
  run_enough k n ts s x h e =
      let j : k + (n - k) ≡ n = omega arith in
      ap (λ (i : ℕ). run next i ts s) (sym j) ∙ run-add k (n - k) ts s
      ∙ run_stopped (n - k) (run next k ts s).turns (run next k ts s).state x e

  -- what each turn keeps holds after any number of turns
  pub run_keeps : (I : S → Type 0) → ((s : S) → I s → Keeps I (next s)) → (n : ℕ) (ts : List A) (s : S) → I s
      → I (run next n ts s).state
  run_keeps I law zero ts s i = i
  run_keeps I law (suc n) ts s i = go (next s) refl (law s i) (λ t s'. run_keeps I law n (t ∷ ts) s')
    where
      go : (x : Next A S X) → next s ≡ x → Keeps I (next s)
          → ((t : A) (s' : S) → I s' → I (run next n (t ∷ ts) s').state) → I (run next (suc n) ts s).state
      go (takes t s') e h ih = rw (run-takes n ts s t s' e) (ih t s' (rw e at h))
      go (stops x) e h ih = rw (run_stops n ts s x e) i

  -- it has stopped, or the fuel is spent
  pub data Came (m : ℕ) (r : RunState A S) : Type 0 where
    stopped : (x : X) → next r.state ≡ stops x → Came m r
    spent : length r.turns ≡ m → Came m r

  pub came : (n : ℕ) (ts : List A) (s : S) → Came (length ts + n) (run next n ts s)
  came zero ts s = spent (omega arith)
  came (suc n) ts s = go (next s) refl (λ t s'. came n (t ∷ ts) s')
    where
      go : (x : Next A S X) → next s ≡ x → ((t : A) (s' : S) → Came (suc (length ts) + n) (run next n (t ∷ ts) s'))
          → Came (length ts + suc n) (run next (suc n) ts s)
      go (takes t s') e ih = rw (run-takes n ts s t s' e)
          (rw (suc-add (length ts) n ∙ sym (add-suc (length ts) n)) at (ih t s'))
      go (stops x) e ih = rw (run_stops n ts s x e) (stopped x e)

  module _ (R : Steps A S) (I : S → Type 0) (law : (ts : List A) (s : S) → I s → Lawful R I ts s (next s)) where
    pub run_chain : {s₀ : S} (n : ℕ) {ts : List A} {s : S} → Chain R s₀ ts s → I s
        → Chain R s₀ (run next n ts s).turns (run next n ts s).state
    run_chain zero c i = c
    run_chain {s₀ = s₀} (suc n) {ts = ts} {s = s} c i = go (next s) refl
        (λ t s' c' i'. run_chain n {ts = t ∷ ts} {s = s'} c' i')
      where
        go : (x : Next A S X) → next s ≡ x
            → ((t : A) (s' : S) → Chain R s₀ (t ∷ ts) s' → I s'
            → Chain R s₀ (run next n (t ∷ ts) s').turns (run next n (t ∷ ts) s').state)
            → Chain R s₀ (run next (suc n) ts s).turns (run next (suc n) ts s).state
        go (takes t s') e ih = let h : R ts s t s'
            × I s' = rw e at (law ts s i) in rw (run-takes n ts s t s' e) (ih t s' (more c h.0) h.1)
        go (stops x) e ih = rw (run_stops n ts s x e) c

    -- if no chain from s₀ is longer than N, more fuel than N comes to the stop
    pub run_ends : (s₀ : S) (N : ℕ) → I s₀ → ((ts : List A) (s : S) → Chain R s₀ ts s → length ts ≤ N)
        → (x : X) × (next (run next (suc N) [] s₀).state ≡ stops x)
    run_ends s₀ N i bound = go (came (suc N) [] s₀)
      where
        go : Came (0 + suc N) (run next (suc N) [] s₀) → (x : X) × (next (run next (suc N) [] s₀).state ≡ stops x)
        go (stopped x e) = (x, e)
        go (spent e) = absurd (omega (arith, bound _ _ (run_chain (suc N) start i)))

-- two runs that have the same turns, and states that B joins, the second stopped with x
pub record Same {A S X : Type 0} (B : S → S → Type 0) (next : S → Next A S X) (r r' : RunState A S)
    (x : X) : Type 0 where
  pub turns : r.turns ≡ r'.turns
  pub states : B r.state r'.state
  pub stop : next r'.state ≡ stops x

-- A RUN THAT ANOTHER FOLLOWS: where the first takes a turn the second takes the same, and where the first stops as P
-- asks the second stops alike
module _ {A S X : Type 0} (B : S → S → Type 0) (P : X → Type 0) where
  abbrev pub Follows : Next A S X → Next A S X → Type 0
  Follows (takes t s) (takes u s') = (t ≡ u) × B s s'
  Follows (takes t s) (stops y) = ⊥
  Follows (stops x) y = P x → y ≡ stops x

  module _ (next : S → Next A S X) (law : (s s' : S) → B s s' → Follows (next s) (next s')) where
    pub run_follows : (n : ℕ) (ts us : List A) → ts ≡ us → (s s' : S) → B s s' → (x : X) → P x
        → next (run next n ts s).state ≡ stops x → Same B next (run next n ts s) (run next n us s') x
    run_follows zero ts us e s s' b x p q = record {
      turns = e;
      states = b;
      stop = let h : P x
          → next s' ≡ stops x = rw q at (law s s' b) in h p;
    }
    run_follows (suc n) ts us e s s' b x p q = go (next s) refl (next s') refl (law s s' b) q
        (λ t u z v v' c y. run_follows n (t ∷ ts) (u ∷ us) z v v' c x p y)
      where
        go : (y : Next A S X) → next s ≡ y → (y' : Next A S X) → next s' ≡ y' → Follows (next s) (next s')
            → next (run next (suc n) ts s).state ≡ stops x
            → ((t u : A) → t ∷ ts ≡ u ∷ us → (v v' : S) → B v v' → next (run next n (t ∷ ts) v).state ≡ stops x
            → Same B next (run next n (t ∷ ts) v) (run next n (u ∷ us) v') x)
            → Same B next (run next (suc n) ts s) (run next (suc n) us s') x
        go (takes t v) e₁ (takes u v') e₂ h q ih =
            let k : (t ≡ u) × B v v' = rw (e₁, e₂) at h in
            let z : t ∷ ts ≡ u ∷ us = cc (k.0, e) in
            rw (run-takes next n ts s t v e₁, run-takes next n us s' u v' e₂)
            (ih t u z v v' k.1 (rw (run-takes next n ts s t v e₁) at q))
        go (takes t v) e₁ (stops y) e₂ h q ih = let k : ⊥ = rw (e₁, e₂) at h in absurd k
        go (stops y) e₁ y' e₂ h q ih =
            let f : P y → next s' ≡ stops y = rw e₁ at h in
            let same : stops y ≡ stops x = sym e₁ ∙ (rw (run_stops next n ts s y e₁) at q) in
            let yx : y ≡ x = cc in
            let f' : next s' ≡ stops x = rw yx at (f (rw yx p)) in
            rw (run_stops next n ts s y e₁, run_stops next n us s' x f') (record { turns = e; states = b; stop = f' })

-- HOW A RUN STOPS
module _ {A S X : Type 0} (next : S → Next A S X) where
  pub stop_takes : (n : ℕ) (s : S) (t : A) (s' : S) → next s ≡ takes t s' → stop_of next (suc n) s ≡ stop_of next n s'
  stop_takes n s t s' e = rw (e, stop_of)

  pub stop_stops : (n : ℕ) (s : S) (x : X) → next s ≡ stops x → stop_of next (suc n) s ≡ some x
  stop_stops n s x e = rw (e, stop_of)

  -- a run that has come to a stop within its bound stops so
  pub stop_is : (n : ℕ) (ts : List A) (s : S) (x : X) → next (run next n ts s).state ≡ stops x
      → length (run next n ts s).turns < length ts + n → stop_of next n s ≡ some x
  stop_is zero ts s x e h = absurd (omega arith)
  stop_is (suc n) ts s x e h = go (next s) refl e h (λ t s' q l. stop_is n (t ∷ ts) s' x q l)
    where
      go : (y : Next A S X) → next s ≡ y → next (run next (suc n) ts s).state ≡ stops x
          → length (run next (suc n) ts s).turns < length ts + suc n
          → ((t : A) (s' : S) → next (run next n (t ∷ ts) s').state ≡ stops x
          → length (run next n (t ∷ ts) s').turns < suc (length ts) + n → stop_of next n s' ≡ some x)
          → stop_of next (suc n) s ≡ some x
      go (takes t s') e₁ q l ih =
          let r = run-takes next n ts s t s' e₁ in
          let l' : length (run next n (t ∷ ts) s').turns < suc (length ts) + n = let z : length
          (run next n (t ∷ ts) s').turns < length ts + suc n = rw r at l in omega arith in
          stop_takes n s t s' e₁ ∙ ih t s' (rw r at q) l'
      go (stops y) e₁ q l ih =
          let same : stops y ≡ stops x = sym e₁ ∙ (rw (run_stops next n ts s y e₁) at q) in
          let yx : y ≡ x = cc in
          stop_stops n s y e₁ ∙ ap some yx

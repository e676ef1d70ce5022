-- The loop over turns follows the definition: after k turns the lists are the state of `run k`, and what is left of the
-- run stops as the whole.
--   Going R s₀ fuel s k    the state after k turns, of at most fuel
--   going_on, going_stops   one more turn, or a stop
--   going_cut               no more turn may be taken
--   going_start             no turn yet
use mathlib.Core.Path.{◌≡◌, refl, sym, ap, subst, ◌∙◌}
use mathlib.Core.List.{[], ◌∷◌}
use mathlib.Core.Option.{none, some}
use Prim.Native.Nat.{ℕ, suc, ◌+◌, ◌-◌, ◌≤◌, ◌<◌}
use native.Mathlib.Omega.{arith}
use lib.ListN.{length}
use Rattle.turns.specs.Turns.{Turn}
use Rattle.turns.specs.Run.{Next, takes, stops, RunState, run, stop_of}
use Rattle.turns.proofs.Loop.{run_one_more, run_enough, stop_takes, stop_stops}
use Rattle.events.specs.Drawn.{Drawn}
use Rattle.std.specs.Prelude.{Result, Ok, Err, Option, Some, None}
use Rattle.entry.specs.declared.RunRefusal.{RunRefusal}
use Rattle.runs.specs.declared.Place.{Place}
use Rattle.runs.specs.State.{State, Lent, lists_of, state}
use Rattle.runs.specs.Rules.{Rules}
use Rattle.runs.specs.Turn.{Stop, next}
use Rattle.turn.specs.Steps.{stopped, TurnContract}
use Rattle.simulation.specs.Steps.{halt_of, RunTurns}
use Rattle.turns.proofs.Logic.{not-one}

-- the state of a state's lists
state_is : {C : Type 0} (s : State C) (l : Lent C) (n r : ℕ) → l ≡ lists_of s → n ≡ s.queue.len → r ≡ s.draws
    → state l n r ≡ s
state_is s l n r e en er = rw (e, en, er)

-- a stop is no turn taken
stop_took : (x : Stop) (at : Place) → stopped x ≡ Ok (Some at) → ⊥
stop_took (Ok x) at e = not-one cc
stop_took (Err r) at e = not-one cc

took_same : (a b : Place) → (let x : Result (Option Place) RunRefusal = Ok (Some a) in x ≡ Ok (Some b)) → a ≡ b
took_same a b e = cc

stopped_same : (x y : Stop) → stopped x ≡ stopped y → x ≡ y
stopped_same (Ok x) (Ok y) e = refl
stopped_same (Ok x) (Err r) e = absurd (not-one cc)
stopped_same (Err r) (Ok y) e = absurd (not-one cc)
stopped_same (Err r) (Err r') e = cc

module _ {C : Type 0} (R : Rules C) (s₀ : State C) (fuel : ℕ) where
  abbrev after : ℕ → RunState (Turn Drawn) (State C)
  after k = run (next R) k [] s₀

  -- after k turns
  pub record Going (s : State C) (k : ℕ) : Type 0 where
    pub at : s ≡ (after k).state
    pub many : length (after k).turns ≡ k
    pub within : k ≤ fuel
    pub left : stop_of (next R) (fuel - k) s ≡ stop_of (next R) fuel s₀

  module _ {st : State C} {k : ℕ} (i : Going st k) {o : Result (Option Place) RunRefusal}
      {l' : Lent C}
      (p : TurnContract (next R st) st o l') (l : k < fuel) where
    one_left : fuel - k ≡ suc (fuel - (k + 1))
    one_left = omega arith

    pub going_on : (at : Place) → o ≡ Ok (Some at) → Going (state l' at.queued at.draws) (k + 1)
    going_on at e = go (next R st) refl p
      where
        go : (x : Next (Turn Drawn) (State C) Stop) → next R st ≡ x → TurnContract x st o l'
            → Going (state l' at.queued at.draws) (k + 1)
        go (stops x) q h = absurd (stop_took x at (sym h.outcome ∙ e))
        go (takes t s') q h =
            let u : at ≡ record { queued = s'.queue.len; draws = s'.draws } = took_same at _ (sym e ∙ h.outcome) in
            let q' : next R (after k).state ≡ takes t s' = rw (← i.at) q in
            let one : after (k + 1)
            ≡ record { turns = t ∷ (after k).turns; state = s' } = run_one_more (next R) k [] s₀ t s' q' in
            let now : state l' at.queued at.draws ≡ s' = state_is s' l' at.queued at.draws h.lists
            (ap (λ (z : Place). z.queued) u) (ap (λ (z : Place). z.draws) u) in
            record {
              at = now ∙ sym (ap (λ (z : RunState (Turn Drawn) (State C)). z.state) one);
              many = ap (λ (z : RunState (Turn Drawn) (State C)). length z.turns) one ∙ omega (arith, i.many);
              within = omega arith;
              left = ap (λ (z : State C). stop_of (next R) (fuel - (k + 1)) z) now
                  ∙ sym (stop_takes (next R) (fuel - (k + 1)) st t s' q)
                  ∙ sym (ap (λ (z : ℕ). stop_of (next R) z st) one_left) ∙ i.left;
            }

    pub going_stops : (z : Stop) → o ≡ stopped z
        → RunTurns R s₀ fuel
        (record { halt = Some z; turns = k; at = record { queued = st.queue.len; draws = st.draws } }) l'
    going_stops z ez = go (next R st) refl p
      where
        go : (x : Next (Turn Drawn) (State C) Stop) → next R st ≡ x → TurnContract x st o l'
            → RunTurns R s₀ fuel
            (record { halt = Some z; turns = k; at = record { queued = st.queue.len; draws = st.draws } }) l'
        go (takes u s') q h = absurd (stop_took z _ (sym ez ∙ h.outcome))
        go (stops x) q h =
            let q' : next R (after k).state ≡ stops x = rw (← i.at) q in
            let one : after fuel ≡ after k = run_enough (next R) k fuel [] s₀ x i.within q' in
            let s : st ≡ (after fuel).state = i.at
            ∙ sym (ap (λ (z : RunState (Turn Drawn) (State C)). z.state) one) in
            let y : stop_of (next R) fuel s₀ ≡ some x = sym i.left ∙ ap (λ (z : ℕ). stop_of (next R) z st) one_left
            ∙ stop_stops (next R) (fuel - (k + 1)) st x q in
            record {
              halt = ap (λ (w : Stop). Some w) (stopped_same z x (sym ez ∙ h.outcome)) ∙ sym (ap halt_of y);
              turns = sym (ap (λ (z : RunState (Turn Drawn) (State C)). length z.turns) one ∙ i.many);
              queued = ap (λ (z : State C). z.queue.len) s;
              draws = ap (λ (z : State C). z.draws) s;
              lists = h.lists ∙ ap lists_of s;
            }

  -- a run that is cut off has taken as many turns as it may, and none has stopped it
  pub going_cut : {st : State C} {k : ℕ} → Going st k → fuel ≤ k
      → RunTurns R s₀ fuel
      (record { halt = None; turns = fuel; at = record { queued = st.queue.len; draws = st.draws } }) (lists_of st)
  going_cut {st = st} {k = k} i h =
      let j : Going st fuel = subst (λ (z : ℕ). Going st z) (omega (arith, i.within, h)) i in
      let e : fuel - fuel ≡ 0 = omega arith in
      let y : stop_of (next R) fuel s₀ ≡ none = sym j.left ∙ ap (λ (z : ℕ). stop_of (next R) z st) e in
      record {
        halt = sym (ap halt_of y);
        turns = sym j.many;
        queued = ap (λ (z : State C). z.queue.len) j.at;
        draws = ap (λ (z : State C). z.draws) j.at;
        lists = ap lists_of j.at;
      }

pub going_start : {C : Type 0} (R : Rules C) (fuel : ℕ) (s : State C) → Going R s fuel s 0
going_start R fuel s =
    let e : fuel - 0 ≡ fuel = omega arith in
    record { at = refl; many = refl; within = omega arith; left = ap (λ (z : ℕ). stop_of (next R) z s) e }

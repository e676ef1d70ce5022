-- From the state that set-up leaves to the answer: its cards are few, and what the loop leaves is what the run's
-- definition says.
use mathlib.Core.Path.{◌≡◌, ap, ◌∙◌, subst}
use Prim.Native.Nat.{ℕ, ◌≤◌}
use native.Mathlib.Omega.{arith}
use Rattle.entry.specs.Entry.{passed}
use Rattle.simulation.specs.declared.run.RunEnd.{RunEnd}
use Rattle.runs.specs.State.{State, Lent}
use Rattle.runs.specs.Rules.{Rules}
use Rattle.simulation.specs.Steps.{halt_of, RunTurns, InnerContract}
use Rattle.runs.specs.Turn.{Stop}
use Rattle.std.specs.Prelude.{Some}
use Rattle.entry.specs.Entry.{Inputs}
use Rattle.runs.specs.Checked.{checked}
use Rattle.runs.specs.SetUp.{set_up}
use Rattle.runs.specs.Simulate.{Answer, progress, answer_of, fuel, run_from}
use Rattle.runs.proofs.Accepted.{accepted}
use Rattle.runs.proofs.set_up.Invariant.{set_up_few}

-- ---- the answer of a run from that state
module _ {C : Type 0} (R : Rules C) (i : Inputs) (s : State C) {s₁ : State C}
    (up : s₁ ≡ set_up R.costs.none i s) where
  pub few_cards : checked i s ≡ passed → (s₁.queue.len ≤ 65536) × (i.settings.config.learn_span ≤ 36500)
  few_cards e =
      let ok = accepted i s e in
      let few = set_up_few R.costs i s ok in
      let l : s₁.queue.len ≡ (set_up R.costs.none i s).queue.len = ap (λ (z : State C). z.queue.len) up in
      (omega (arith, few, l, ok.deck_most), ok.span_most)

  pub inner_is : {b : ℕ} {x : RunEnd} {r : Answer} {l' : Lent C} → b ≡ fuel R s₁ → RunTurns R s₁ b x l'
      → ((y : Stop) → x.halt ≡ Some y → r ≡ answer_of y (progress x.turns s₁.queue.len x.at.queued x.at.draws))
      → InnerContract R (set_up R.costs.none i s) r l'
  unfolding run_from
  inner_is {b = b} {x = x} {r = r} {l' = l'} eb p q =
      subst (λ (z : State C). InnerContract R z r l') up (go (subst (λ (z : ℕ). RunTurns R s₁ z x l') eb p))
    where
      go : RunTurns R s₁ (fuel R s₁) x l' → InnerContract R s₁ r l'
      go h = record {
        answer = λ y e. q y (h.halt ∙ ap halt_of e) ∙ rw (h.turns, h.queued, h.draws);
        lists = h.lists;
      }

-- THE CONTRACT OF A CALL (`RunContract`): a call that an entry test fails is answered as it came, and one that passes
-- has the result of `simulated`; where it ends Ok, demand 3 holds of it.
--   refused_is, accepted_is   the contract of a call that is refused at its entry, and of one that is accepted
use mathlib.Core.Path.{◌≡◌, refl, sym, ap, ◌∙◌, subst}
use mathlib.Core.Option.{some}
use lib.Ieee.{Float}
use Rattle.draws.specs.Draws.{split_mix}
use Rattle.model.specs.Runtime as Runtime
use Rattle.events.specs.Scalars.{Scalars, of_runtime}
use Rattle.events.proofs.Loops.{runtime_is}
use Rattle.entry.specs.declared.Refusal.{Refusal}
use Rattle.entry.specs.Entry.{passed}
use Rattle.std.specs.Prelude.{Err}
use Rattle.runs.specs.declared.Progress.{Progress}
use Rattle.runs.specs.Simulate.{Answer}
use Rattle.runs.specs.Simulate.{finished, refused}
use Rattle.runs.specs.State.{State, Lent, lists_of}
use Rattle.runs.specs.Rules.{rules_of}
use Rattle.entry.specs.Entry.{Inputs}
use Rattle.runs.specs.Checked.{checked}
use Rattle.runs.specs.Simulate.{told, progress, rules_for, result_from, simulated_by, simulated, IsResult}
use Rattle.simulation.specs.Steps.{InnerContract}
use Rattle.runs.specs.Demands.{start_of, RunContract}
use Rattle.runs.proofs.Accepted.{accepted}
use Rattle.runs.proofs.run.Suits.{suits}
use Rattle.runs.proofs.run.DemandThree.{has_stopped, stops_so}
use Rattle.runs.proofs.run.Answers.{ok_demand}
use Rattle.turns.proofs.Logic.{not-one}

not_finished : (r : Refusal) (p q : Progress) → refused r p ≡ finished q → ⊥
not_finished r p q e = not-one cc

module _ (i : Inputs) (s : State Float) where
  pub refused_is : (r : Refusal) → checked i s ≡ Err r
      → RunContract i s (refused r (progress 0 0 0 i.settings.seed)) (lists_of s)
  unfolding simulated_by
  refused_is r e = record {
    result = rw e (record { answer = refl; numbers = refl; lists = refl });
    demand_three = λ p f. absurd (not_finished r (progress 0 0 0 i.settings.seed) p f);
  }

  module _ (e : checked i s ≡ passed) {r : Answer} {l' : Lent Float}
      (d : InnerContract (rules_of i.settings.config (of_runtime (Runtime.runtime_of i.parameters)))
      (start_of (rules_for i) i s) r l') where
    plainly : InnerContract (rules_for i) (start_of (rules_for i) i s) r l'
    plainly = subst (λ (x : Scalars). InnerContract (rules_of i.settings.config x) (start_of (rules_for i) i s) r l')
        (runtime_is i.parameters) d

    result : IsResult (simulated i s) r l'
    unfolding simulated_by result_from
    result =
        let ok = accepted i s e in
        let h = has_stopped (rules_for i) i s ok (suits split_mix i s ok) in
        let x = stops_so (rules_for i) i s ok (suits split_mix i s ok) h.0 h.1 in
        let a = plainly.answer h.0 x in
        rw (e, x) (record {
          answer = ap some (sym a);
          numbers = ap (λ (z : Answer). some (told z)) (sym a);
          lists = plainly.lists;
        })

    pub accepted_is : RunContract i s r l'
    accepted_is = record {
      result = result;
      demand_three = λ p f. ok_demand (rules_for i) i s (suits split_mix i s (accepted i s e)) p
          (result.answer ∙ ap some f) l' result.lists;
    }

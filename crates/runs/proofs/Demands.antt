-- THE DEMANDS, by number, of every call of the run, whatever is drawn: the record `Demands` of specs, filled in. Demand
-- 2's equation and demand 3 stand in `simulate`'s own contract.
use mathlib.Core.Path.{◌≡◌, refl, sym, ap, ◌∙◌}
use mathlib.Core.List.{List}
use mathlib.Core.Option.{some}
use mathlib.Core.Logic.{◌↔◌, ◌≢◌, ◌⊎◌, inl, inr}
use Prim.Native.Nat.{ℕ}
use lib.Ieee.{Float}
use Rattle.draws.specs.Draws.{DrawRule}
use Rattle.model.specs.Runtime.{SameRead}
use Rattle.model.proofs.Runtime.{runtime_same}
use Rattle.events.specs.Scalars.{Scalars, of_parameters, of_runtime}
use Rattle.events.proofs.Loops.{runtime_is}
use Rattle.entry.specs.declared.Refusal.{Refusal}
use Rattle.entry.specs.declared.Refusal.TheVariants as refusal
use Rattle.entry.specs.declared.RunRefusal.{RunRefusal}
use Rattle.entry.specs.declared.RunRefusal.TheVariants as run_refused
use Rattle.entry.specs.Entry.{passed}
use Rattle.runs.specs.declared.Progress.{Progress}
use Rattle.runs.specs.Simulate.{refused}
use Rattle.runs.specs.Turn.{Stop}
use Rattle.std.specs.Prelude.{Err}
use Rattle.runs.specs.State.{State}
use Rattle.runs.specs.Rules.{Rules, rules_with}
use Rattle.entry.specs.Entry.{Inputs}
use Rattle.runs.specs.Checked.{checked}
use Rattle.entry.specs.Refusals.{number_of}
use Rattle.runs.specs.SetUp.{empty_deck, add_all_cards, set_up}
use Rattle.runs.specs.RunRefusals.{StopCondition}
use Rattle.runs.specs.Simulate.{progress, answer_of, result_from, simulated_by}
use Rattle.runs.specs.Demands.{Demands, UnreadParameters, start_of, end_of, progress_of}
use Rattle.runs.proofs.Accepted.{accepted}
use Rattle.runs.proofs.turn.Stops.{stops_iff}
use Rattle.runs.proofs.run.Suits.{suits}
use Rattle.runs.proofs.run.Frame.{lists_free, cards_are, beyond_same, lengths_same}
use Rattle.runs.proofs.run.DemandThree.{turns_within, daily_rules, rows_are}
use Rattle.runs.proofs.run.Due.{due_after, due_left, never_due, counts_after, first_after}
use Rattle.runs.proofs.run.Answers.{ok_passed, told_stop, stop_told, ok_demand, refused_in}

module _ {C : Type 0} (R : Rules C) (i : Inputs) (s : State C) where
  entry_refusal : (r : Refusal) → checked i s ≡ Err r
      → simulated_by R i s ≡ record { answer = some (refused r (progress 0 0 0 i.settings.seed)); state = s }
  unfolding simulated_by
  entry_refusal r e = rw e

  run_leaves : checked i s ≡ passed → (simulated_by R i s).state ≡ end_of R i s
  unfolding simulated_by result_from
  run_leaves e = rw e

-- the answer tells the stop, and the stop has its condition
stops_exactly : (w : DrawRule) (i : Inputs) (s : State Float) → checked i s ≡ passed → (x : Stop)
    → (let R = rules_with w i.settings.config (of_parameters i.parameters) in
    ((simulated_by R i s).answer
    ≡ some (answer_of x (progress_of R i s))) ↔ StopCondition R
    (end_of R i s) x)
stops_exactly w i s e x =
    let R = rules_with w i.settings.config (of_parameters i.parameters) in
    let fit = suits w i s (accepted i s e) in
    let by = stops_iff w i.settings.config (of_parameters i.parameters) (end_of R i s) x in
    (λ z. by.0 (told_stop R i s fit e x _ z), λ z. stop_told R i s fit e x (by.1 z))

-- the answer tells the stop, and no state of the run has the condition of refusal 9
no_due_refusal : (w : DrawRule) (i : Inputs) (s : State Float) → checked i s ≡ passed → (c : ℕ) (p : Progress)
    → (simulated_by (rules_with w i.settings.config (of_parameters i.parameters)) i s).answer ≢ some
    (refused (refusal.Run (run_refused.DueCount c)) p)
no_due_refusal w i s e c p z =
    let R = rules_with w i.settings.config (of_parameters i.parameters) in
    let fit = suits w i s (accepted i s e) in
    let stop : Stop = Err (run_refused.DueCount c) in
    let by = stops_iff w i.settings.config (of_parameters i.parameters) (end_of R i s) stop in
    never_due R i s (accepted i s e) fit c (by.0 (told_stop R i s fit e stop p z))

-- the condition of a stop leaves only two refusals
seven_or_eight : {C : Type 0} (R : Rules C) (s : State C) (r : RunRefusal) → StopCondition R s (Err r)
    → ((c : ℕ) → r ≢ run_refused.DueCount c) → (number_of (refusal.Run r) ≡ 7) ⊎ (number_of (refusal.Run r) ≡ 8)
seven_or_eight R s (run_refused.ChanceOutOfRange c) h n = inl refl
seven_or_eight R s (run_refused.TableFull c) h n = inr refl
seven_or_eight R s (run_refused.DueCount c) h n = absurd (n c refl)

run_refusal : (w : DrawRule) (i : Inputs) (s : State Float) → checked i s ≡ passed → (r : Refusal) (p : Progress)
    → (simulated_by (rules_with w i.settings.config (of_parameters i.parameters)) i s).answer ≡ some (refused r p)
    → (number_of r ≡ 7) ⊎ (number_of r ≡ 8)
run_refusal w i s e r p z =
    let R = rules_with w i.settings.config (of_parameters i.parameters) in
    let fit = suits w i s (accepted i s e) in
    let x = refused_in R i s fit e r p z in
    let z′ : (simulated_by R i s).answer ≡ some (refused (refusal.Run x.0) p)
    = z ∙ ap (λ (y : Refusal). some (refused y p)) x.1 in
    let by = stops_iff w i.settings.config (of_parameters i.parameters) (end_of R i s) (Err x.0) in
    rw x.1 (seven_or_eight R (end_of R i s) x.0 (by.0 (told_stop R i s fit e (Err x.0) p z′))
    (λ c q. no_due_refusal w i s e c p (z′ ∙ ap (λ (y : RunRefusal). some (refused (refusal.Run y) p)) q)))

-- ALL OF THEM, whatever is drawn
pub demands : (w : DrawRule) (i : Inputs) (s : State Float)
    → Demands (rules_with w i.settings.config (of_parameters i.parameters)) i s
demands w i s =
    let R = rules_with w i.settings.config (of_parameters i.parameters) in
    record {
      entry_refusal = entry_refusal R i s;
      run_leaves = run_leaves R i s;
      stops_exactly = stops_exactly w i s;
      cards_are = cards_are R i s;
      beyond_same = λ e. beyond_same R i (suits w i s (accepted i s e)) s e;
      lengths_same = λ e. lengths_same R i (suits w i s (accepted i s e)) s e;
      same_run = λ s' e. lists_free R i (suits w i s (accepted i s e)) s s' e;
      demand_three = λ p e. ok_demand R i s (suits w i s (accepted i s (ok_passed R i s p e))) p e _ refl;
      ends_within = λ e. turns_within R i s (accepted i s e) (suits w i s (accepted i s e));
      daily_rules = λ e. daily_rules R i s (accepted i s e) (suits w i s (accepted i s e));
      rows = λ e. rows_are R i s (accepted i s e) (suits w i s (accepted i s e)) _ refl;
      turn_is_first = λ e n. first_after R i s (accepted i s e) (suits w i s (accepted i s e)) n;
      day_counts = λ e n. counts_after R i s (accepted i s e) (suits w i s (accepted i s e)) n;
      due_counts = λ e n. due_after R i s (accepted i s e) (suits w i s (accepted i s e)) n;
      due_counts_left = λ e. due_left R i s (accepted i s e) (suits w i s (accepted i s e));
      no_due_refusal = no_due_refusal w i s;
      run_refusal = run_refusal w i s;
    }

-- what is not read of the parameters plays no part: the model is decided by what is kept of them
same_model : (v v' : List Float) → SameRead v v' → of_parameters v ≡ of_parameters v'
same_model v v' p = sym (runtime_is v) ∙ ap of_runtime (runtime_same v v' p) ∙ runtime_is v'

pub unread_parameters : (w : DrawRule) (i : Inputs) (s : State Float) (v : List Float) → UnreadParameters w i s v
unfolding simulated_by set_up empty_deck add_all_cards
unread_parameters w i s v p e e' = rw (e, e')
    (ap (λ (x : Scalars). result_from (rules_with w i.settings.config x) (start_of (rules_with w i.settings.config x) i s))
    (sym (same_model i.parameters v p)))

-- WHAT AN ANSWER TELLS of the run: how it stopped and what it came to; and where it is Ok, demand 3.
--   ok_passed, passed_is   a call that ends Ok has passed its entry, and one that has passed has the run's result
--   told-all, told_stop    an answer tells the stop and the progress, and the stop alone
--   stop_told              a run that has stopped so answers so
--   refused_in             an accepted call is refused in the run alone
--   ok_demand              demand 3 of a run that ends Ok
use mathlib.Core.Path.{◌≡◌, refl, sym, ap, ◌∙◌}
use mathlib.Core.Option.{Option, none, some}
use Rattle.turns.specs.Run.{stops}
use Rattle.entry.specs.declared.Refusal.{Refusal}
use Rattle.entry.specs.declared.Refusal.TheVariants as refusal
use Rattle.entry.specs.declared.RunRefusal.{RunRefusal}
use Rattle.entry.specs.Entry.{Check}
use Rattle.entry.specs.Entry.{passed}
use Rattle.runs.specs.declared.Progress.{Progress}
use Rattle.runs.specs.declared.Refused.{Refused}
use Rattle.runs.specs.Simulate.{Answer}
use Rattle.runs.specs.Simulate.{finished, refused}
use Rattle.runs.specs.Turn.{Stop}
use Rattle.std.specs.Prelude.{Ok, Err}
use Rattle.runs.specs.State.{State, Lent, lists_of}
use Rattle.runs.specs.Rules.{Rules}
use Rattle.runs.specs.Turn.{next}
use Rattle.entry.specs.Entry.{Inputs}
use Rattle.runs.specs.Checked.{checked}
use Rattle.runs.specs.Simulate.{Outcome, progress, answer_of, answer_if, result_from, after_check, simulated_by}
use Rattle.runs.specs.Demands.{start_of, end_of, progress_of, DemandThree}
use Rattle.runs.proofs.Accepted.{accepted}
use Rattle.runs.proofs.run.Suits.{Suits}
use Rattle.runs.proofs.run.DemandThree.{has_stopped, stops_so, daily_rules, rows_are}
use Rattle.runs.proofs.run.Frame.{longer_table}
use Rattle.turns.proofs.Logic.{not-one}

same_finished : (p q : Progress) → some (finished p) ≡ some (finished q) → p ≡ q
same_finished p q e = cc

same_err : (x y : Refused) → (let a : Answer = Err x in some a ≡ some (Err y)) → x ≡ y
same_err x y e = cc

same-refused : (r r' : Refusal) (p q : Progress) → some (refused r p) ≡ some (refused r' q)
    → (r ≡ r') × (p ≡ q)
same-refused r r' p q e =
    let same = same_err (record { refusal = r; progress = p }) (record { refusal = r'; progress = q }) e in
    (ap (λ (z : Refused). z.refusal) same, ap (λ (z : Refused). z.progress) same)

same_run : (r r' : RunRefusal) → refusal.Run r ≡ refusal.Run r' → r ≡ r'
same_run r r' e = cc

refused-not : (r : Refusal) (p q : Progress) → some (refused r p) ≡ some (finished q) → ⊥
refused-not r p q e = not-one cc

no_answer : (a : Answer) → none ≡ some a → ⊥
no_answer a e = not-one cc

same_some : (x y : Stop) → some x ≡ some y → x ≡ y
same_some x y e = cc

-- an answer tells how the run stopped, and its progress
told : (x : Option Stop) (y : Stop) (p q : Progress) → answer_if x p ≡ some (answer_of y q) → (x ≡ some y) × (p ≡ q)
told none (Ok y) p q e = absurd (no_answer (finished q) e)
told none (Err r) p q e = absurd (no_answer (refused (refusal.Run r) q) e)
told (some (Ok x)) (Ok y) p q e = (refl, same_finished p q e)
told (some (Ok x)) (Err r) p q e = absurd (refused-not (refusal.Run r) q p (sym e))
told (some (Err r)) (Ok y) p q e = absurd (refused-not (refusal.Run r) p q e)
told (some (Err r)) (Err r') p q e = let z = same-refused (refusal.Run r) (refusal.Run r') p q e in
    (ap (λ (w : RunRefusal). some (Err w)) (same_run r r' z.0), z.1)

-- a refusal that is told of a stop is one of a run
in_a_run : (x : Stop) (r : Refusal) (p q : Progress) → some (answer_of x p) ≡ some (refused r q)
    → (y : RunRefusal) × (r ≡ refusal.Run y)
in_a_run (Ok x) r p q e = absurd (refused-not r q p (sym e))
in_a_run (Err y) r p q e = (y, sym (same-refused (refusal.Run y) r p q e).0)

module _ {C : Type 0} (R : Rules C) (i : Inputs) (s : State C) where
  -- a call that ends Ok has passed its entry
  pub ok_passed : (p : Progress) → (simulated_by R i s).answer ≡ some (finished p) → checked i s ≡ passed
  unfolding simulated_by
  ok_passed p e = go (checked i s) e
    where
      go : (c : Check) → (after_check R i c s).answer ≡ some (finished p) → c ≡ passed
      go (Ok u) x = refl
      go (Err r) x = absurd (refused-not r (progress 0 0 0 i.settings.seed) p x)

  pub passed_is : checked i s ≡ passed → simulated_by R i s ≡ result_from R (start_of R i s)
  unfolding simulated_by
  passed_is e = rw e

  module _ (fit : Suits R i) (e : checked i s ≡ passed) where
    abbrev own : Progress
    own = progress_of R i s

    -- an accepted call that answers so has stopped so
    pub told-all : (y : Stop) (q : Progress) → (simulated_by R i s).answer ≡ some (answer_of y q)
        → (next R (end_of R i s) ≡ stops y) × (own ≡ q)
    unfolding result_from
    told-all y q z =
        let t = told _ y own q (sym (ap (λ (r : Outcome C). r.answer) (passed_is e)) ∙ z) in
        let h = has_stopped R i s (accepted i s e) fit in
        let x = stops_so R i s (accepted i s e) fit h.0 h.1 in
        (h.1 ∙ ap stops (same_some h.0 y (sym x ∙ t.0)), t.1)

    pub told_stop : (y : Stop) (q : Progress) → (simulated_by R i s).answer ≡ some (answer_of y q)
        → next R (end_of R i s) ≡ stops y
    told_stop y q z = (told-all y q z).0

    -- and one that has stopped so answers so
    pub stop_told : (y : Stop) → next R (end_of R i s) ≡ stops y → (simulated_by R i s).answer ≡ some (answer_of y own)
    unfolding result_from
    stop_told y z = ap (λ (r : Outcome C). r.answer) (passed_is e)
        ∙ ap (λ (x : Option Stop). answer_if x own) (stops_so R i s (accepted i s e) fit y z)

    -- and one that is refused is so in the run
    pub refused_in : (r : Refusal) (q : Progress) → (simulated_by R i s).answer ≡ some (refused r q)
        → (y : RunRefusal) × (r ≡ refusal.Run y)
    refused_in r q z =
        let h = has_stopped R i s (accepted i s e) fit in
        in_a_run h.0 r own q (sym (stop_told h.0 h.1) ∙ z)

  -- DEMAND 3
  pub ok_demand : Suits R i → (p : Progress) → (simulated_by R i s).answer ≡ some (finished p) → (l : Lent C)
      → l ≡ lists_of (simulated_by R i s).state → DemandThree R i s p l
  unfolding result_from
  ok_demand fit p e l el =
      let ok = ok_passed p e in
      let t = told-all fit ok (Ok tt) p e in
      record {
        demand = daily_rules R i s (accepted i s ok) fit;
        rows = rows_are R i s (accepted i s ok) fit l
            (el ∙ ap (λ (r : Outcome C). lists_of r.state) (passed_is ok));
        turns_reported = sym (ap (λ (z : Progress). z.turns) t.1);
        longer_table = λ s' longer. longer_table R i fit s s' ok longer t.0;
      }

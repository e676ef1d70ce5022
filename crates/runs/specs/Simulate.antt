-- THE RUN, from its inputs and the lent lists to its answer and the lists that it leaves. Definitions only.
--   Answer, finished, refused      what a run answers: how far it came to its end, or why it was refused and where
--   Told, told, told_if            an answer by the refusals' numbers
--   Outcome, answer_of, answer_if  an answer with the state that is left
--   rules_for i                   the rules of a run's inputs
--   fuel, run_from, result_from   a run from a state
--   simulated_by R i s, simulated i s   a call, by any rules and by its own
--   IsResult x r l               what a call says and leaves is the result x
use Rattle.std.specs.Prelude.{ℕ, suc, [], ◌≡◌, length, Float, Result, Ok, Err}
use Rattle.std.proofs.Math.Option.{Option, none, some}
use Rattle.turns.specs.Turns.{Turn, turn_bound}
use Rattle.turns.specs.Run.{RunState, run, stop_of}
use Rattle.events.specs.Scalars.{of_parameters}
use Rattle.events.specs.Drawn.{Drawn}
use Rattle.entry.specs.declared.Refusal.{Refusal}
use Rattle.entry.specs.declared.Refusal.TheVariants as refusal
use Rattle.entry.specs.Refusals.{number_of, second_of}
use Rattle.runs.specs.declared.Progress.{Progress}
use Rattle.runs.specs.declared.Refused.{Refused}
use Rattle.runs.specs.State.{State, Lent, lists_of}
use Rattle.runs.specs.Rules.{Rules, rules_of}
use Rattle.runs.specs.Turn.{Stop, next}
use Rattle.entry.specs.Entry.{Check, Inputs}
use Rattle.runs.specs.Checked.{checked}
use Rattle.runs.specs.SetUp.{set_up}

-- what a run answers: how far it came to its end, or why it was refused and how far it had come
abbrev pub Answer : Type 0
Answer = Result Progress Refused

abbrev pub finished : Progress → Answer
finished p = Ok p

abbrev pub refused : Refusal → Progress → Answer
refused r p = Err (record { refusal = r; progress = p })

-- an answer by the table of refusals (docs/RULES.md, E8): its number and second number, 0 and 0 where the run came to its
-- end, and how far it came
pub record Told : Type 0 where
  pub number : ℕ
  pub second : ℕ
  pub progress : Progress

abbrev pub told : Answer → Told
told (Ok p) = record { number = 0; second = 0; progress = p }
told (Err x) = record { number = number_of x.refusal; second = second_of x.refusal; progress = x.progress }

abbrev pub told_if : Option Answer → Option Told
told_if none = none
told_if (some r) = some (told r)

-- an answer, and the state that is left; a run that its bound cuts off has no answer, and the contract of a call
-- (`IsResult`) says that it has one
pub record Outcome (C : Type 0) : Type 0 where
  pub answer : Option Answer
  pub state : State C

abbrev pub progress : ℕ → ℕ → ℕ → ℕ → Progress
progress turns cards queued draws = record { turns = turns; cards = cards; queued = queued; draws = draws }

abbrev pub answer_of : Stop → Progress → Answer
answer_of (Ok x) p = finished p
answer_of (Err r) p = refused (refusal.Run r) p

abbrev pub answer_if : Option Stop → Progress → Option Answer
answer_if none p = none
answer_if (some x) p = some (answer_of x p)

-- the rules of a run's inputs: FSRS-7 by their parameters, and SplitMix64
abbrev pub rules_for : Inputs → Rules Float
rules_for i = rules_of i.settings.config (of_parameters i.parameters)

module _ {C : Type 0} (R : Rules C) where
  -- one turn more than is ever taken (`ends_within`)
  abbrev pub fuel : State C → ℕ
  fuel s = suc (turn_bound s.queue.len R.span)

  -- the turns, latest first, and the state that they lead to
  unfoldable pub run_from : State C → RunState (Turn Drawn) (State C)
  run_from s = run (next R) (fuel s) [] s

  unfoldable pub result_from : State C → Outcome C
  result_from s =
      let r = run_from s in
      record {
        answer = answer_if (stop_of (next R) (fuel s) s)
            (progress (length r.turns) s.queue.len r.state.queue.len r.state.draws);
        state = r.state;
      }

  -- an entry refusal leaves the lists as they are
  abbrev pub after_check : Inputs → Check → State C → Outcome C
  after_check i (Ok x) s = result_from (set_up R.costs.none i s)
  after_check i (Err r) s = record { answer = some (refused r (progress 0 0 0 i.settings.seed)); state = s }

  -- a run by any rules, from inputs and lent lists
  unfoldable pub simulated_by : Inputs → State C → Outcome C
  simulated_by i s = after_check i (checked i s) s

-- and by the rules of the inputs
abbrev pub simulated : Inputs → State Float → Outcome Float
simulated i = simulated_by (rules_for i) i

-- an answer and lists are those of a result
pub record IsResult {C : Type 0} (x : Outcome C) (r : Answer) (l : Lent C) : Type 0 where
  pub answer : x.answer ≡ some r
  -- so its number, its second number and how far it came are those of the definition's answer
  pub numbers : told_if x.answer ≡ some (told r)
  pub lists : l ≡ lists_of x.state

-- What a turn leaves, as the contracts of its steps and its own say it. Definitions only.
--   stopped x                    what a turn that is not taken answers
--   outcome_of n, after_of s n   what a turn answers, and the state after it
--   TurnContract n s r l         what a turn leaves
use Rattle.std.specs.Prelude.{◌≡◌, Result, Ok, Err, Option, Some, None}
use Rattle.turns.specs.Turns.{Turn}
use Rattle.turns.specs.Run.{Next, takes, stops}
use Rattle.events.specs.Drawn.{Drawn}
use Rattle.entry.specs.declared.RunRefusal.{RunRefusal}
use Rattle.runs.specs.declared.Place.{Place}
use Rattle.runs.specs.State.{State, Lent, lists_of}
use Rattle.runs.specs.Turn.{Stop}

-- a stop tells nothing at the run's end, and else the refusal
abbrev pub stopped : Stop → Result (Option Place) RunRefusal
stopped (Ok x) = Ok None
stopped (Err r) = Err r

-- a turn taken tells the queue's length and the state of the draws after it
abbrev pub outcome_of : {C : Type 0} → Next (Turn Drawn) (State C) Stop → Result (Option Place) RunRefusal
outcome_of (takes t s) = Ok (Some (record { queued = s.queue.len; draws = s.draws }))
outcome_of (stops x) = stopped x

abbrev pub after_of : {C : Type 0} → State C → Next (Turn Drawn) (State C) Stop → State C
after_of s (takes t s') = s'
after_of s (stops x) = s

-- the outcome, and the lists as the turn leaves them: untouched where it stops
pub record TurnContract {C : Type 0} (n : Next (Turn Drawn) (State C) Stop) (s : State C)
    (r : Result (Option Place) RunRefusal) (l : Lent C) : Type 0 where
  pub outcome : r ≡ outcome_of n
  pub lists : l ≡ lists_of (after_of s n)

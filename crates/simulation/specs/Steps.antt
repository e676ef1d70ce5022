-- What the loop over turns and the joining of a card leave, as the contracts of private functions say it: no caller of
-- the run needs it. Definitions only.
--   halt_of x            how a run of turns halts
--   RunTurns R s n r l   what the loop over turns leaves
--   InnerContract R s r l   what a call that the entry accepts leaves
--   deck_of, Joined      the lists of cards, at set-up, and what the joining of cards leaves
use Rattle.std.specs.Prelude.{ℕ, [], ◌≡◌, length, Option, Some, None}
use Rattle.std.proofs.Math.Option as Math
use Rattle.turns.specs.Run.{run, stop_of}
use Rattle.entry.specs.declared.lists.Lists.{Lists}
use Rattle.entry.specs.Lists.{SameLists}
use Rattle.simulation.specs.declared.run.RunEnd.{RunEnd}
use Rattle.runs.specs.State.{State, Lent, lists_of}
use Rattle.runs.specs.Rules.{Rules}
use Rattle.runs.specs.SetUp.{Deck, deck}
use Rattle.runs.specs.Simulate.{Answer, progress, answer_of, fuel, run_from}
use Rattle.runs.specs.Turn.{Stop, next}

-- a run of turns halts by its stop, or it is cut off
abbrev pub halt_of : Math.Option Stop → Option Stop
halt_of (Math.some x) = Some x
halt_of Math.none = None

-- what the loop over turns leaves, from a state and for at most n turns
pub record RunTurns {C : Type 0} (R : Rules C) (s : State C) (n : ℕ) (r : RunEnd) (l : Lent C) : Type 0 where
  pub halt : r.halt ≡ halt_of (stop_of (next R) n s)
  pub turns : r.turns ≡ length (run (next R) n [] s).turns
  pub queued : r.at.queued ≡ (run (next R) n [] s).state.queue.len
  pub draws : r.at.draws ≡ (run (next R) n [] s).state.draws
  pub lists : l ≡ lists_of (run (next R) n [] s).state

-- and what a call that the entry accepts leaves, from the state as set up
pub record InnerContract {C : Type 0} (R : Rules C) (s : State C) (r : Answer) (l : Lent C) : Type 0 where
  pub answer : (x : Stop) → stop_of (next R) (fuel R s) s ≡ Math.some x
      → r ≡ answer_of x (progress (length (run_from R s).turns) s.queue.len
      (run_from R s).state.queue.len (run_from R s).state.draws)
  pub lists : l ≡ lists_of (run_from R s).state

-- ---- set-up: the lists of cards, and what the joining of cards leaves
abbrev pub deck_of : Lists → ℕ → Deck
deck_of x len = deck x.cards.now x.counts.now x.queue_rows.now x.due.now len

pub record Joined (d : Deck) (old : Lists) (len : ℕ) (new : Lists) : Type 0 where
  pub same : SameLists old new
  pub deck_is : deck_of new len ≡ d
  pub days_are : new.days.now ≡ old.days.now
  pub costs_are : new.costs.now ≡ old.costs.now
  pub memorized_are : new.memorized.now ≡ old.memorized.now
  pub keys_are : new.keys.now ≡ old.keys.now
  pub intervals_are : new.intervals.now ≡ old.intervals.now

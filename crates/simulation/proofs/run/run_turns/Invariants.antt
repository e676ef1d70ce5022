-- The invariant of its loop, `Going`: after so many turns the lists are the state of `run`, and what is left stops as
-- the whole does; the lists are those that were lent.
use Rattle.entry.specs.Lists.{SameLists}
use Rattle.runs.specs.Rules.{rules_as}
use Rattle.runs.specs.State.{state_at}
use Rattle.simulation.proofs.run.Loop.{Going}
use Rattle.simulation.proofs.run.run_turns.Given as goal

abbrev pub invariant-loop-turns : goal.invariant-loop-turns
invariant-loop-turns l = record {
  going : Going (rules_as l.rules) (state_at l.initial.lists l.fn.from) l.fuel (state_at l.lists l.at) l.turns;
  same : SameLists l.initial.lists l.lists;
}

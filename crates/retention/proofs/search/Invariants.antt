-- The invariant of its loop, `Trying`: after so many trials what is left is the whole search; the lists are those that
-- were lent.
use Rattle.entry.specs.Lists.{SameLists}
use Rattle.runs.specs.State.{lent_of}
use Rattle.entry.specs.Lists.{inputs_of}
use Rattle.retention.proofs.Rounds.{Trying}
use Rattle.retention.proofs.search.Given as goal

abbrev pub invariant-loop : goal.invariant-loop
invariant-loop l = record {
  trying : Trying (inputs_of l.learner l.settings) l.rounds (lent_of l.initial.lists) (lent_of l.lists) l.stepper l.counter;
  same : SameLists l.initial.lists l.lists;
}

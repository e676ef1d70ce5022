-- The invariant of its loop, `Going`: after so many runs what is left is the whole trial; the lists are those that were
-- lent.
use Rattle.entry.specs.Lists.{SameLists}
use Rattle.runs.specs.State.{lent_of}
use Rattle.entry.specs.Lists.{inputs_of}
use Rattle.retention.proofs.trials.Runs.{Going}
use Rattle.retention.proofs.trials.sample.Given as goal

abbrev pub invariant-loop-made : goal.invariant-loop-made
invariant-loop-made l = record {
  going : Going (inputs_of l.learner l.settings) l.retention l.runs (lent_of l.initial.lists) (lent_of l.lists) l.sum l.made;
  same : SameLists l.initial.lists l.lists;
}

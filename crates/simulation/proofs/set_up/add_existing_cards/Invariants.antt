-- The invariant of its loop: the lists are those of the first i existing cards joined.
use Rattle.runs.specs.SetUp.{add_existing_cards}
use Rattle.simulation.specs.Steps.{deck_of, Joined}
use Rattle.simulation.proofs.set_up.add_existing_cards.Given as goal

abbrev pub invariant-loop-i : goal.invariant-loop-i
invariant-loop-i l =
    Joined (add_existing_cards l.span l.learner.existing.now l.learner.existing_counts.now l.i
    (deck_of l.initial.lists 0)) l.initial.lists l.len l.lists

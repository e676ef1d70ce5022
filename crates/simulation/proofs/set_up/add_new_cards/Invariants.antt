-- The invariant of its loop: the lists are those of the first i new cards joined.
use Rattle.runs.specs.SetUp.{add_new_cards}
use Rattle.simulation.specs.Steps.{deck_of, Joined}
use Rattle.simulation.proofs.set_up.add_new_cards.Given as goal

abbrev pub invariant-loop-i : goal.invariant-loop-i
invariant-loop-i l =
    Joined (add_new_cards l.settings.retention l.settings.config.learn_limit l.i
    (deck_of l.initial.lists l.fn.from)) l.initial.lists l.len l.lists

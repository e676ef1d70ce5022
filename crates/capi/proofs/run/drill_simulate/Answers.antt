-- The numbers are those of the answer, and the list that of the lengths.
use Rattle.std.proofs.Common.{rules}
use Rattle.capi.proofs.Left.{run_left}
use Rattle.capi.proofs.run.drill_simulate.Goals as goal

pub returns : goal.returns
returns c =
    run_left c.simulate-told.new.lists (search rules) (search rules) (search rules) (search rules) (search rules)
    (search rules) (search rules) (search rules) (search rules)
    (rw (c.numbers_of.ensures, c.short_list-list.ensures, c.lengths.ensures)) c.simulate-told.ensures.run

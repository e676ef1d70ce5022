-- The numbers are those of the answer, and the list that of the lengths.
use Rattle.std.proofs.Common.{rules}
use Rattle.capi.proofs.Left.{search_left}
use Rattle.capi.proofs.search.drill_optimal_retention.Goals as goal

pub returns : goal.returns
returns c =
    search_left c.optimal_retention-told.new.lists (search rules) (search rules) (search rules) (search rules)
    (search rules) (search rules) (search rules) (search rules) (search rules)
    (rw (c.numbers_of.ensures, c.short_list-list.ensures, c.lengths.ensures)) c.optimal_retention-told.ensures.search

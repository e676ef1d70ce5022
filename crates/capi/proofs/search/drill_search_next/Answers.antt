use lib.Ieee.{of_bits, of_fields}
use Rattle.std.proofs.Common.{rules}
use Rattle.capi.specs.Search.{asked}
use Rattle.capi.proofs.search.drill_search_next.Goals as goal

pub returns : goal.returns
unfolding asked of_bits of_fields
returns c = search rules

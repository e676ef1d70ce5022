use mathlib.Core.Path.{◌≡◌, ◌∙◌}
use Prim.Native.Nat.{◌/◌}
use lib.Ieee.{of_bits, of_fields}
use Rattle.runs.specs.SetUp.{new_card}
use Rattle.simulation.proofs.set_up.Loops.{quotient_is}
use Rattle.simulation.proofs.set_up.new_card.Goals as goal

pub returns : goal.returns
unfolding new_card of_bits of_fields
returns c =
    let e : c.unwrap_or.result ≡ c.args.i / c.args.limit = c.unwrap_or.ensures
    ∙ quotient_is c.args.i c.args.limit c.checked_div.result c.checked_div.ensures in
    rw (c.from_u32.ensures, e)

use lib.Ieee.{nan, of_bits, of_fields, div}
use mathlib.Core.Path.{◌≡◌}
use mathlib.Core.List.{[], ◌∷◌}
use lib.ListN.{get_or}
use native.Mathlib.Omega.{arith}
use Rattle.std.proofs.lemmas.Grind.{common_steps}
use Rattle.cards.proofs.Rows.{row_is}
use Rattle.cards.proofs.configuration.row_of.Goals as goal

pub returns : goal.returns
unfolding of_bits of_fields div
returns c =
    let row : c.unwrap_or.result ≡ get_or c.rows_of.result.now c.args.i (nan ∷ nan ∷ nan ∷ nan ∷ []) = grind (arith, common_steps) in
    rw (row, c.rows_of.ensures) (row_is c.args.table c.args.i (omega (arith, c.well_formed.0)))

-- `float32::to_u32` meets its contract: `proofs/Cut.antt` has the quick path.
use Rattle.std.proofs.Common.{T, ◌∙◌}
use lib.Ieee.{binary32, fits, of_bits, lt, le}
use Rattle.float32.proofs.Cmp.{yes}
use Rattle.float32.proofs.Casts.{two_to}
use Rattle.float32.proofs.Decode.{finite_no_nan}
use Rattle.float32.proofs.Cut.{between_finite, cut_low, cut_high, cut_is}
use Rattle.float32.proofs.to_u32.Goals as goal

module _ (c : goal.Then-x-2) where
  held : T (fits binary32 c.args.x)
  held = yes c.well_formed.0.1

  from_one : T (le (two_to 0) c.args.x)
  unfolding of_bits
  from_one = yes c.if-x.true

  under : T (lt c.args.x (two_to 24))
  unfolding of_bits
  under = yes c.if-x-2.true

pub float_to_bits-x : goal.float_to_bits-x
float_to_bits-x c =
    let x = c.args.x in
    finite_no_nan x (between_finite x (from_one c) (under c))

pub whole_part-requires : goal.whole_part-requires
whole_part-requires c =
    let x = c.args.x in
    (cut_low x (held c) (from_one c) (under c), cut_high x (held c) (from_one c) (under c))

pub returns-then-x-2 : goal.returns-then-x-2
returns-then-x-2 c =
    c.whole_part.ensures ∙ cut_is c.args.x (held c.before) (from_one c.before) (under c.before)

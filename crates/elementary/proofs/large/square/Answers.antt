use Rattle.std.proofs.Common.{◌/◌, ◌%◌, ◌^◌}
use Rattle.elementary.proofs.large.Squaring.{SquareFits, square_is}
use Rattle.elementary.proofs.large.square.Goals as goal

fit : (c : goal.Start) → SquareFits (c.args.x / 2 ^ 31) (c.args.x % 2 ^ 31) c.args.x
fit c = square_is c.args.x c.requires

pub returns : goal.returns
returns c = (fit c).is

-- float32's `even_is` says whose pattern it is.
use Rattle.std.proofs.Common.{arith}
use Rattle.float32.proofs.Exact.{even_is}
use Rattle.elementary.proofs.Common.{below_nan}
use Rattle.model.proofs.forgetting_curve.nearest_f32.Goals as goal

pub float_from_bits-result : goal.float_from_bits-result
float_from_bits-result c = below_nan _ (omega arith)

pub returns : goal.returns
returns c = even_is c.args.b c.requires.least c.requires.most

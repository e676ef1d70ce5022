-- The `f64` sum is exact (proofs/Exact), so its rounding is the fused operation's (float32's `exact_is`).
use Rattle.std.proofs.Common.{◌∙◌}
use lib.Ieee.{of_bits, of_fields, round, sub}
use Rattle.float32.proofs.Cmp.{yes}
use Rattle.float32.proofs.Widened.{widens}
use Rattle.float32.proofs.Exact.{exact-number, exact-low, exact-high, exact_is}
use Rattle.model.specs.Model.{squeezed}
use Rattle.model.proofs.Exact.{finite_there, squeezed-sum}
use Rattle.model.proofs.forgetting_curve.squeezed_exact.Goals as goal

pub float_to_float-r : goal.float_to_float-r
float_to_float-r c =
    widens c.args.r (yes c.well_formed.0.1) (finite_there c.args.r (yes c.well_formed.0.1) (yes c.requires.least) (yes c.requires.most))

pub float_to_bits-r : goal.float_to_bits-r
unfolding of_bits of_fields round sub
float_to_bits-r c =
    exact-number (squeezed-sum c.args.r (yes c.well_formed.0.1) (yes c.requires.least) (yes c.requires.most))

pub nearest_f32-requires : goal.nearest_f32-requires
unfolding of_bits of_fields round sub
nearest_f32-requires c =
    let s = squeezed-sum c.args.r (yes c.well_formed.0.1) (yes c.requires.least) (yes c.requires.most) in
    record { least = exact-low s; most = exact-high s }

pub returns : goal.returns
unfolding squeezed of_bits of_fields round sub
returns c =
    c.nearest_f32.ensures ∙ exact_is (squeezed-sum c.args.r (yes c.well_formed.0.1) (yes c.requires.least) (yes c.requires.most))

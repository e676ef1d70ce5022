use Rattle.std.proofs.Common.{◌<◌, ◌^◌, T, sym, subst, arith, ltb→lt}
use lib.Ieee.{binary32, to_bits}
use lib.Ieee.Bits.{to_bits-lt}
use Rattle.elementary.proofs.Common.{number_is}
use Rattle.elementary.proofs.blocks.is_base.Goals as goal

pub returns-then-not-is_nan : goal.returns-then-not-is_nan
returns-then-not-is_nan c =
    let w : to_bits binary32 c.args.x < 2 ^ 32 = to_bits-lt binary32 c.args.x (subst T (sym c.well_formed.0.1) tt) in
    λ e. let k = ltb→lt _ 268435456 (subst T (sym e) tt) in record {
      single = subst T (sym c.well_formed.0.1) tt;
      number = number_is c.args.x _ c.is_nan.ensures.value c.if-not-is_nan.true;
      low = omega (arith, k, w);
      high = omega (arith, k, w);
    }

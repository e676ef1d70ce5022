use Rattle.std.proofs.Common.{ap, ◌∙◌, le_trans, le_of_eq, arith}
use lib.Ieee.{binary32, of_bits}
use Rattle.elementary.proofs.power.Steps.{log_most, arg_quick, pow_quick}
use Rattle.elementary.proofs.power.quick_pow.Goals as goal

pub quick_arg-z-requires : goal.quick_arg-z-requires
quick_arg-z-requires c =
    let q = c.requires in (
      le_trans (le_of_eq c.log2_of-l.ensures) (log_most _ (omega (arith, q.x_high))),
      omega arith,
      omega (arith, q.y_low, q.y_high),
      omega (arith, q.y_low, q.y_high),
    )

pub returns : goal.returns
returns c =
    let q = c.requires in
    let z = c.quick_arg-z.result in
    c.normal_of.ensures
    ∙ ap (of_bits binary32) (pow_quick c.args.b c.args.c c.log2_of-l.result z q.x_low c.log2_of-l.ensures
    (arg_quick c.log2_of-l.result c.args.c z q.y_low q.y_high c.quick_arg-z.ensures))

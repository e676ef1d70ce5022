-- The four ranges of the definition, by the digits of z.
use Rattle.std.proofs.Common.{◌+◌, ◌*◌, ◌/◌, ◌%◌, ◌^◌, sym, ap, ◌∙◌, le_trans, le_of_eq, lit≤}
use lib.Ieee.{binary32, of_bits}
use Rattle.elementary.proofs.exp2.Value.{value_zero, value_inf}
use Rattle.elementary.proofs.Common.{below_nan}
use Rattle.elementary.proofs.exp2.Words.{normal_is, normal-le, sub_is, sub-le}
use Rattle.elementary.proofs.exp2.ranged.Goals as goal

pub float_from_bits-result : goal.float_from_bits-result
float_from_bits-result c =
    below_nan c.normal.result (le_trans (le_of_eq c.normal.ensures)
    (normal-le c.args.z c.args.d c.requires c.if-z-lt-ARG_INFINITE.true))

pub returns-then-z-lt-ARG_INFINITE : goal.returns-then-z-lt-ARG_INFINITE
returns-then-z-lt-ARG_INFINITE c =
    ap (of_bits binary32) (c.normal.ensures ∙ normal_is c.args.z c.args.d c.requires
    c.if-z-ge-ARG_NORMAL.true c.if-z-lt-ARG_INFINITE.true)

pub returns-then-z-ge-ARG_NORMAL : goal.returns-then-z-ge-ARG_NORMAL
returns-then-z-ge-ARG_NORMAL c = ap (of_bits binary32) (sym (value_inf c.args.z c.if-z-lt-ARG_INFINITE.false))

pub returns-then-z-lt-ARG_ZERO : goal.returns-then-z-lt-ARG_ZERO
returns-then-z-lt-ARG_ZERO c = ap (of_bits binary32) (sym (value_zero c.args.z c.if-z-lt-ARG_ZERO.true))

pub float_from_bits-result-else-z-lt-ARG_ZERO : goal.float_from_bits-result-else-z-lt-ARG_ZERO
float_from_bits-result-else-z-lt-ARG_ZERO c =
    below_nan ((c.args.d / 2 ^ 32 + c.args.z / 2 ^ 32 % 128 * 2 ^ 24 + 128) / 512)
    (le_trans (sub-le c.args.z c.args.d c.requires) (lit≤ tt))

pub returns-else-z-lt-ARG_ZERO : goal.returns-else-z-lt-ARG_ZERO
returns-else-z-lt-ARG_ZERO c =
    ap (of_bits binary32) (sub_is c.args.z c.args.d c.requires c.if-z-lt-ARG_ZERO.false c.if-z-ge-ARG_NORMAL.false)

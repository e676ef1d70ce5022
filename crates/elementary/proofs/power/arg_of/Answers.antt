use Rattle.std.proofs.Common.{◌*◌, ◌%◌, ◌^◌, ◌≤◌, ◌∙◌, le_trans, le_of_eq, arith}
use Rattle.elementary.proofs.power.Order.{diff_le, diff_is}
use Rattle.elementary.proofs.power.Steps.{arg_other, product_small}
use Rattle.elementary.proofs.power.arg_of.Goals as goal

-- |log2 x| is at most 149
size : (c : goal.After-abs_diff) → c.abs_diff.result ≤ 639950127104
size c =
    le_trans (le_of_eq (c.abs_diff.ensures ∙ diff_is c.args.l (159 * 2 ^ 32)))
    (diff_le (159 * 2 ^ 32) c.args.l 639950127104 (omega (arith, c.requires)) (omega (arith, c.requires)))

pub product_of-u-requires : goal.product_of-u-requires
product_of-u-requires c = (size c, c.requires.2)

pub signed_arg-requires : goal.signed_arg-requires
signed_arg-requires c =
    le_trans (le_of_eq c.product_of-u.ensures)
    (product_small c.abs_diff.result (c.args.c % 2 ^ 31) (size c.before) c.requires.2)

pub returns : goal.returns
returns c =
    arg_other c.args.l c.args.c c.signed_arg.result c.abs_diff.result c.product_of-u.result
    (c.abs_diff.ensures ∙ diff_is c.args.l (159 * 2 ^ 32)) c.product_of-u.ensures c.signed_arg.ensures

use Rattle.std.proofs.Common.{ℕ, ◌+◌, ◌*◌, ◌/◌, ◌%◌, ◌^◌, ◌≤◌, ap, ◌∙◌, le_trans, le_of_eq, arith}
use Rattle.elementary.specs.Power.{signed_arg, fine_arg}
use Rattle.elementary.proofs.power.Order.{diff_le, diff_is}
use Rattle.elementary.proofs.large.Steps.{product_le}
use Rattle.elementary.proofs.large.fine_arg.Goals as goal

size : (c : goal.After-abs_diff) → (c.args.c % 2 ^ 23 + 2 ^ 23) * c.abs_diff.result ≤ 1152921504741064704
size c =
    product_le c.args.c c.abs_diff.result
    (le_trans (le_of_eq (c.abs_diff.ensures ∙ diff_is c.args.l (159 * 2 ^ 35)))
    (diff_le (159 * 2 ^ 35) c.args.l 68719476744 (omega arith) (omega arith)))

pub overflow_mul-u : goal.overflow_mul-u
overflow_mul-u c = rw c.from.ensures (omega (arith, size c))

pub signed_arg-requires : goal.signed_arg-requires
signed_arg-requires c = rw c.from.ensures (omega (arith, size c))

pub returns : goal.returns
unfolding fine_arg
returns c =
    c.signed_arg.ensures ∙ rw c.from.ensures (ap (λ (g : ℕ). signed_arg (159 * 2 ^ 35) c.args.l c.args.c
    ((c.args.c % 2 ^ 23 + 2 ^ 23) * g / 2 ^ 13)) (c.abs_diff.ensures ∙ diff_is c.args.l (159 * 2 ^ 35)))

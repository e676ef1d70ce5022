use Rattle.std.proofs.Common.{◌+◌, ◌-◌, ◌*◌, ◌^◌, Bool, cond, sym, ap, ◌∙◌}
use Rattle.elementary.specs.Power.{signed_arg}
use Rattle.elementary.proofs.power.signed_arg.Goals as goal

pub returns-then-is_negative : goal.returns-then-is_negative
unfolding signed_arg
returns-then-is_negative c =
    ap (λ (b : Bool). cond b ((2 ^ 16 + 126) * 2 ^ 39 - c.args.u) ((2 ^ 16 + 126) * 2 ^ 39 + c.args.u))
    (sym c.if-is_negative.true ∙ c.is_negative.ensures)

pub returns-else-is_negative : goal.returns-else-is_negative
unfolding signed_arg
returns-else-is_negative c =
    ap (λ (b : Bool). cond b ((2 ^ 16 + 126) * 2 ^ 39 - c.args.u) ((2 ^ 16 + 126) * 2 ^ 39 + c.args.u))
    (sym c.if-is_negative.false ∙ c.is_negative.ensures)

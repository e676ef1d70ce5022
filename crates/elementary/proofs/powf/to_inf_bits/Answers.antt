use Rattle.std.proofs.Common.{sym, ◌∙◌}
use Rattle.elementary.proofs.powf.Cases.{to_inf_low, to_inf_high}
use Rattle.elementary.proofs.powf.to_inf_bits.Goals as goal

pub returns-then-b-lt1065353216 : goal.returns-then-b-lt1065353216
returns-then-b-lt1065353216 c =
    c.zero_size.ensures ∙ sym (to_inf_low c.args.b c.args.c
    c.if-b-lt1065353216.true)

pub returns-else-b-lt1065353216 : goal.returns-else-b-lt1065353216
returns-else-b-lt1065353216 c =
    c.inf_bits.ensures ∙ sym (to_inf_high c.args.b c.args.c
    c.if-b-lt1065353216.false)

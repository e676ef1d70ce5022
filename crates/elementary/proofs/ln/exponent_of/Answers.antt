use Rattle.std.proofs.Common.{sym, ◌∙◌}
use Rattle.elementary.proofs.ln.Parts.{exponent-sub, exponent-normal}
use Rattle.elementary.proofs.ln.exponent_of.Goals as goal

pub returns-then-b-lt8388608 : goal.returns-then-b-lt8388608
returns-then-b-lt8388608 c = c.from.ensures ∙ sym (exponent-sub c.args.b c.if-b-lt8388608.true)

pub returns-else-b-lt8388608 : goal.returns-else-b-lt8388608
returns-else-b-lt8388608 c = c.from-else-b-lt8388608.ensures ∙ sym (exponent-normal c.args.b c.if-b-lt8388608.false)

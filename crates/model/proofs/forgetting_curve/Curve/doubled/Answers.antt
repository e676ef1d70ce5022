use Rattle.std.proofs.Common.{◌≡◌, ◌+◌, ◌-◌, sym, ◌∙◌, arith}
use lib.Ieee.{of_bits, of_fields, round}
use Rattle.model.specs.Model.{retention}
use Rattle.model.proofs.Steps.{doubled-on, doubled_off, doubled-end}
use Rattle.model.proofs.forgetting_curve.Curve.doubled.Goals as goal

pub loop-preserved : goal.loop-preserved
unfolding of_bits of_fields round
loop-preserved c =
    let fewer : 16 - (c.loop.counter + 1) ≡ 16 - c.loop.counter - 1 = omega arith in
    rw (fewer, c.min-high.ensures)
    (sym
    (doubled-on (retention c.args.self) c.args.desired (16 - c.loop.counter) c.loop.high (omega arith)
    (sym c.stays_above.ensures ∙ c.if-not-stays_above.false))
    ∙ c.loop.invariant)

pub returns-then-not-stays_above : goal.returns-then-not-stays_above
returns-then-not-stays_above c =
    sym
    (doubled_off (retention c.args.self) c.args.desired (16 - c.loop.counter) c.loop.high
    (sym c.stays_above.ensures ∙ c.if-not-stays_above.true))
    ∙ c.loop.invariant

pub returns : goal.returns
returns c =
    sym (doubled-end (retention c.args.self) c.args.desired (16 - c.loop.counter) c.loop.high (omega arith))
    ∙ c.loop.invariant

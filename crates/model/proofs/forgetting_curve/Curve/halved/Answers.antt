use Rattle.std.proofs.Common.{◌≡◌, ◌+◌, ◌-◌, sym, ap, ◌∙◌, arith}
use lib.Ieee.{lt, of_bits, of_fields, round}
use Rattle.model.specs.Model.{retention}
use Rattle.model.proofs.Steps.{halved_up, halved_down, halved-end}
use Rattle.model.proofs.forgetting_curve.Curve.halved.Goals.{then-retention-desired, else-retention-desired}
use Rattle.model.proofs.forgetting_curve.Curve.halved.Goals as goal

pub loop-preserved : goal.loop-preserved
unfolding of_bits of_fields round
loop-preserved c =
    let fewer : 50 - (c.loop.counter + 1) ≡ 50 - c.loop.counter - 1 = omega arith in
    elim c.if-retention-desired.branch [
      | then-retention-desired w ↦
          rw (fewer, w.low-is, w.high-is)
          (sym
          (halved_up (retention c.args.self) c.args.desired (50 - c.loop.counter) c.loop.low c.loop.high (omega arith)
          (ap (lt c.args.desired) (sym c.retention.ensures.value) ∙ w.if-retention-desired.true))
          ∙ c.loop.invariant)
      | else-retention-desired w ↦
          rw (fewer, w.low-is, w.high-is)
          (sym
          (halved_down (retention c.args.self) c.args.desired (50 - c.loop.counter) c.loop.low c.loop.high (omega arith)
          (ap (lt c.args.desired) (sym c.retention.ensures.value) ∙ w.if-retention-desired.false))
          ∙ c.loop.invariant)
    ]

pub returns : goal.returns
unfolding of_bits of_fields round
returns c =
    c.clamp.ensures
    ∙ sym
    (halved-end (retention c.args.self) c.args.desired (50 - c.loop.counter) c.loop.low c.loop.high (omega arith))
    ∙ c.loop.invariant

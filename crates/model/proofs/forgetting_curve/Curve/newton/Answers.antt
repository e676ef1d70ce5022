use Rattle.std.proofs.Common.{◌≡◌, ℕ, ◌+◌, ◌-◌, Bool, sym, ap, ◌∙◌, arith, rules}
use lib.Ieee.{Float, of_bits, of_fields, round}
use Rattle.float32.specs.Float32.{is_finite}
use Rattle.model.specs.Model.{newton, newton_step}
use Rattle.model.proofs.Steps.{newton-on, newton_off, newton_still, newton-end}
use Rattle.model.proofs.forgetting_curve.Curve.newton.Goals.{then-same-via-then-same, then-same-via-else-same+then-not-is_finite}
use Rattle.model.proofs.forgetting_curve.Curve.newton.Goals as goal

-- a turn, once its step is made
module _ (c : goal.After-newton_step-next) where
  abbrev step : Float → Float
  step = newton_step c.args.self c.args.desired

  abbrev u : Float
  u = c.loop.u

  abbrev left : ℕ
  left = 7 - c.loop.counter

  step_is : c.newton_step-next.result ≡ step u
  unfolding newton_step of_bits of_fields round
  step_is =
      rw (
        ← c.ln_f32-least.ensures.value,
        ← c.ln_f32-most.ensures.value,
      ) c.newton_step-next.ensures

  finite_is : (b r : Bool) → b ≡ is_finite c.newton_step-next.result → b ≡ r → is_finite (step u) ≡ r
  finite_is b r e h = ap is_finite (sym step_is) ∙ sym e ∙ h

pub returns-then-same : goal.returns-then-same
returns-then-same c =
    elim c.then-same.branch [
      | then-same-via-then-same w ↦
          let still = c.same.ensures.0 w.if-same.true in
          still
          ∙ sym
          (newton_still (step c.before.before) (left c.before.before) (u c.before.before)
          (sym (step_is c.before.before) ∙ still))
          ∙ c.loop.invariant
      | then-same-via-else-same+then-not-is_finite w ↦
          step_is c.before.before
          ∙ sym
          (newton_off (step c.before.before) (left c.before.before) (u c.before.before) (omega arith)
          (finite_is c.before.before _ _ w.is_finite.ensures w.if-not-is_finite.true))
          ∙ c.loop.invariant
    ]

pub loop-preserved : goal.loop-preserved
loop-preserved c =
    let turn = c.before.before.before.before in
    let fewer : 7 - (c.loop.counter + 1) ≡ 7 - c.loop.counter - 1 = omega arith in
    rw fewer
    (ap (newton (left turn - 1) (step turn)) (step_is turn)
    ∙ sym
    (newton-on (step turn) (left turn) (u turn) (omega arith)
    (finite_is turn _ _ c.is_finite.ensures c.if-not-is_finite.false))
    ∙ c.loop.invariant)

pub returns : goal.returns
returns c =
    sym (newton-end (newton_step c.args.self c.args.desired) (7 - c.loop.counter) c.loop.u (omega arith))
    ∙ c.loop.invariant

pub same-requires : goal.same-requires
same-requires c = search rules

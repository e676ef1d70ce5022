use native.Mathlib.Omega.{arith}
use mathlib.Core.Path.{refl, ◌∙◌}
use Rattle.model.specs.Model.{retention}
use Rattle.days.proofs.Spans.{added, range_turn, range_end}
use Rattle.days.proofs.memorized.add_days.Goals as goal

pub loop-d-init : goal.loop-d-init
loop-d-init c = (refl, refl)

pub loop-d-preserved : goal.loop-d-preserved
loop-d-preserved c = (
  range_turn (λ t. retention c.args.curve t) c.args.last _ _ _ _ _ _ _ _
      c.loop-d.invariant.0 c.loop-d-test.true c.from_u32.ensures
      c.retention.ensures.value (c.add_cost.ensures ∙ added _ _ _),
  omega arith,
)

pub returns : goal.returns
returns c = range_end (λ t. retention c.args.curve t)
    c.args.last _ _ _ _ _ c.loop-d.invariant.0 (omega arith)

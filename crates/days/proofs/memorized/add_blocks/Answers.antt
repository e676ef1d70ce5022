use native.Mathlib.Omega.{arith}
use Rattle.model.specs.Model.{retention}
use Rattle.days.proofs.Spans.{range_end, strides_turn}
use Rattle.days.proofs.memorized.add_blocks.Goals as goal

pub loop-d-preserved : goal.loop-d-preserved
loop-d-preserved c = (
  strides_turn (λ t. retention c.args.curve t) c.args.last _ _ _ _ _ _ _ c.loop-d.invariant.0 c.min-n.ensures
      c.add_block.ensures,
  omega arith,
)

pub returns : goal.returns
returns c =
    range_end (λ t. retention c.args.curve t)
    c.args.last _ _ _ _ _ c.loop-d.invariant.0 (omega arith)

use native.Mathlib.Omega.{arith}
use mathlib.Core.Path.{refl, ◌∙◌}
use Rattle.runs.specs.SetUp.{introduced_before}
use Rattle.simulation.proofs.set_up.Loops.{known_next, known_le, bit_is}
use Rattle.simulation.proofs.set_up.introduced_before.Goals as goal

pub loop-i-init : goal.loop-i-init
unfolding introduced_before
loop-i-init c = (refl, omega arith)

pub loop-i-preserved : goal.loop-i-preserved
loop-i-preserved c =
    let e = c.from-count.ensures ∙ bit_is c.is_introduced.result in (
      known_next c.args.learner.existing.now c.args.learner.existing_counts.now _ _ _ _ _ c.loop-i.invariant.0
          c.card_at-card.ensures c.is_introduced.ensures (rw e refl),
      known_le _ _ _ c.is_introduced.result c.loop-i.invariant.1 (rw e refl),
    )

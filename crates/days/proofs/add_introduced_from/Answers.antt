use native.Mathlib.Omega.{arith}
use mathlib.Core.Path.{refl, ◌∙◌}
use Rattle.days.proofs.Spans.{introduce_turn, introduce_end}
use Rattle.days.proofs.Laws.{introduced_is, four_kept}
use Rattle.days.proofs.add_introduced_from.Goals as goal

pub loop-d-init : goal.loop-d-init
loop-d-init c = (refl, c.told-rows)

pub loop-d-preserved : goal.loop-d-preserved
loop-d-preserved c = (
  introduce_turn _ _ _ _ _ _ c.loop-d.invariant.0 c.loop-d-test.true
      (c.add_one.ensures ∙ introduced_is c.loop-d.rows c.loop-d.d (c.loop-d.invariant.1 c.loop-d.d)),
  rw c.add_one.ensures (four_kept c.loop-d.rows 3 c.loop-d.d c.loop-d.invariant.1),
)

pub returns : goal.returns
returns c = introduce_end _ _ _ _ _ c.loop-d.invariant.0 (omega arith)

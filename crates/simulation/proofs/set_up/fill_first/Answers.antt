-- Place after place is filled, up to the end of a shorter list.
use mathlib.Core.Path.{refl, ap, ◌∙◌}
use mathlib.Core.List.{List}
use lib.ListN.{set, length-set}
use native.Mathlib.Omega.{arith}
use Rattle.runs.specs.SetUp.{filled_with}
use Rattle.simulation.proofs.set_up.Loops.{filled_all, filled_next}
use Rattle.simulation.proofs.set_up.fill_first.Goals as goal

pub loop-i-init : goal.loop-i-init
unfolding filled_with
loop-i-init g c = (refl, refl)

pub loop-i-preserved : goal.loop-i-preserved
loop-i-preserved g c = (
  ap (λ (z : List _). set z c.loop-i.i c.args.x) c.loop-i.invariant.0 ∙ filled_next c.args.x c.loop-i.i c.args.list.now,
  length-set c.loop-i.list c.loop-i.i c.args.x ∙ c.loop-i.invariant.1,
)

pub returns : goal.returns
returns g c = c.loop-i.invariant.0 ∙ filled_all c.args.x c.args.n c.loop-i.i c.args.list.now (omega arith)

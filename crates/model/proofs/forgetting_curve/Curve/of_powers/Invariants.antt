-- As many places are filled as there were turns.
use Rattle.std.proofs.Common.{◌≡◌, get_or}
use lib.Ieee.{nan}
use Rattle.float32.specs.Ops.{◌+ᶠ◌, ◌*ᶠ◌, ◌/ᶠ◌}
use Rattle.elementary.specs.Filled.{filled}
use Rattle.model.specs.Model.{squeezed}
use Rattle.model.proofs.forgetting_curve.Curve.of_powers.Given as goal

abbrev pub invariant-loop-i : goal.invariant-loop-i
invariant-loop-i l =
    l.r ≡ filled
    (λ i. squeezed ((l.self.weight1 *ᶠ get_or l.p1 i nan +ᶠ l.self.weight2 *ᶠ get_or l.p2 i nan) /ᶠ l.self.total)) l.i
    l.initial.r

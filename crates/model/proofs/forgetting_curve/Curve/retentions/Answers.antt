use Rattle.std.proofs.Common.{ℕ, min, get_or, ap, ◌∙◌}
use native.Mathlib.Nat.{min-eq_left}
use lib.Ieee.{nan}
use Rattle.elementary.specs.Filled.{filled}
use Rattle.model.specs.Model.{retention}
use Rattle.model.proofs.Retentions.{retentions_are}
use Rattle.model.proofs.forgetting_curve.Curve.retentions.Goals as goal

pub returns : goal.returns
returns c =
    let curve = c.args.self in
    let a = c.args.a.now in
    let small = c.up_to_64-n.ensures.1 in
    retentions_are curve a _ _ _ _ _ _ _ c.up_to_64-n.result (min c.up_to_64-n.result 64)
    (min-eq_left small) small small c.bases.ensures.first c.bases.ensures.second
    c.powers_of.ensures.value c.powers_of-2.ensures.value c.of_powers.ensures
    ∙ ap (λ (n : ℕ). filled (λ i. retention curve (get_or a i nan)) n a) c.up_to_64-n.ensures.0

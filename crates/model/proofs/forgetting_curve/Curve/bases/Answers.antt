use Rattle.std.proofs.Common.{refl, ap, ◌∙◌}
use lib.Ieee.{Float}
use Rattle.elementary.specs.Filled.{filled}
use Rattle.elementary.proofs.Filled.{fill_turn}
use Rattle.model.specs.Model.{base}
use Rattle.model.proofs.forgetting_curve.Curve.bases.Goals as goal

pub loop-i-init : goal.loop-i-init
unfolding filled
loop-i-init c = record { first = refl; second = refl }

pub loop-i-preserved : goal.loop-i-preserved
loop-i-preserved c =
    let self = c.args.self in
    let inv = c.loop-i.invariant in
    let t = c.max-t.ensures in
    record {
      first = fill_turn _ _ _ _ _ inv.first (c.base.ensures ∙ ap (λ (t : Float). base self.factor1 t self.fast) t);
      second = fill_turn _ _ _ _ _ inv.second
          (c.base-in-loop-i.ensures ∙ ap (λ (t : Float). base self.rate2 t self.stability) t);
    }

-- As many places are filled as there were turns.
use Rattle.std.proofs.Common.{◌≡◌, get_or}
use lib.Ieee.{nan}
use Rattle.elementary.specs.Filled.{filled}
use Rattle.model.specs.Model.{time, base}
use Rattle.model.proofs.forgetting_curve.Curve.bases.Given as goal

abbrev pub invariant-loop-i : goal.invariant-loop-i
invariant-loop-i l = record {
  first : l.b1 ≡ filled (λ i. base l.self.factor1 (time (get_or l.times i nan)) l.self.fast) l.i l.initial.b1;
  second : l.b2 ≡ filled (λ i. base l.self.rate2 (time (get_or l.times i nan)) l.self.stability) l.i l.initial.b2;
}

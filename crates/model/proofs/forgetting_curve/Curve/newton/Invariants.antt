-- The steps that are left come from u to what all seven come to from the start. A step that is not finite ends them by
-- their definition, and one that changes nothing is what every later one would give.
use Rattle.std.proofs.Common.{◌≡◌, ◌-◌}
use Rattle.model.specs.Model.{newton, newton_step}
use Rattle.model.proofs.forgetting_curve.Curve.newton.Given as goal

abbrev pub invariant-loop : goal.invariant-loop
invariant-loop l =
    newton (7 - l.counter) (newton_step l.self l.desired) l.u ≡ newton 7 (newton_step l.self l.desired) l.start

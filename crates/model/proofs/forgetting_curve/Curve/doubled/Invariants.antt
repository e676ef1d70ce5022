-- The doublings that are left come from `high` to what all sixteen come to from the start.
use Rattle.std.proofs.Common.{◌≡◌, ◌-◌}
use Rattle.model.specs.Model.{doubled, retention}
use Rattle.model.proofs.forgetting_curve.Curve.doubled.Given as goal

abbrev pub invariant-loop : goal.invariant-loop
invariant-loop l =
    doubled (16 - l.counter) (retention l.self) l.desired l.high ≡ doubled 16 (retention l.self) l.desired l.start

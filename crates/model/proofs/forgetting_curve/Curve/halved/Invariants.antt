-- The halvings that are left come from `low` and `high` to what all fifty come to from 0 and the end.
use Rattle.std.proofs.Common.{◌≡◌, ◌-◌}
use Rattle.float32.specs.Numbers.{0ᶠ}
use Rattle.model.specs.Model.{halved, retention}
use Rattle.model.proofs.forgetting_curve.Curve.halved.Given as goal

abbrev pub invariant-loop : goal.invariant-loop
invariant-loop l =
    halved (50 - l.counter) (retention l.self) l.desired l.low l.high
    ≡ halved 50 (retention l.self) l.desired 0ᶠ l.end

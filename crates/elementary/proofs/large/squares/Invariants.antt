-- The invariant of its loop: the squares that are left of y are k squares of x.
use Rattle.std.proofs.Common.{◌≡◌, ◌-◌}
use Rattle.elementary.specs.Power.{squares}
use Rattle.elementary.proofs.large.squares.Given as goal

abbrev pub invariant-loop : goal.invariant-loop
invariant-loop l = squares (l.k - l.counter) l.y ≡ squares l.k l.x

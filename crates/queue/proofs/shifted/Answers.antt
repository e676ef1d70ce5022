-- `queue::shifted` meets its contract: an i32 and 2 ^ 31 make a sum of 64 bits that is not negative.
use mathlib.Core.Path.{refl}
use native.Mathlib.Omega.{arith}
use mir.Syntax.{w64}
use mir.ValLaws.{to_z_pos}
use Rattle.queue.specs.Key.{shifted}
use Rattle.queue.proofs.Keys.{widened, shifted_sum, shifted-lt}
use Rattle.queue.proofs.shifted.Goals as goal

pub returns : goal.returns
returns c =
    let p = c.args.priority in
    let h = c.ranges.priority.sfits in
    rw (c.from.ensures, widened p h, shifted_sum p h, to_z_pos w64 (shifted p) (omega (arith, shifted-lt p h))) (refl, shifted-lt p h)

use native.Mathlib.Omega.{arith}
use Rattle.intervals.proofs.Steps.{share_fits}
use Rattle.intervals.proofs.home.Goals as goal

pub overflow_mul-result : goal.overflow_mul-result
overflow_mul-result c = omega (arith, share_fits _ _ _ _ _ c.mixed.ensures c.min.ensures)

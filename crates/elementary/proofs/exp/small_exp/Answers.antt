use Rattle.std.proofs.Common.{ℕ, ◌+◌, ◌*◌, ◌/◌, ◌^◌, ◌<◌, ◌≤◌, refl, mul-le-mul, arith}
use Rattle.elementary.specs.Exp.{small}
use Rattle.elementary.proofs.exp.small_exp.Goals as goal

-- the product is below 2^31 * 2^32
fits : (s : ℕ) → s < 2 ^ 31 → s * (2 ^ 31 + s / 1024) ≤ 2 ^ 63
fits s h = mul-le-mul {n₁ = s} {m₁ = 2 ^ 31 + s / 1024} {n₂ = (2 ^ 31)} {m₂ = (2 ^ 32)} (omega arith) (omega arith)

pub returns : goal.returns
unfolding small
returns c = refl

use Rattle.std.proofs.Common.{ℕ, ◌*◌, ◌/◌, ◌%◌, ◌^◌, ◌≤◌, ap₂, le_trans, le_of_eq, le_of_lt, mul-le-mul, arith}
use Rattle.elementary.specs.Exp.{mant}
use Rattle.elementary.proofs.exp.Error.{table-high, small-lt}
use Rattle.elementary.proofs.exp.mantissa.Goals as goal

pub overflow_mul-result : goal.overflow_mul-result
overflow_mul-result c =
    let r = c.args.r in
    let h : c.power_at.result ≤ 4581298449 = le_trans (le_of_eq c.power_at.ensures)
    (table-high (r / 2 ^ 39) (omega arith)) in
    let k : c.small_exp.result ≤ 2155872256 = le_trans (le_of_eq c.small_exp.ensures)
    (le_of_lt (small-lt (r % 2 ^ 39) (omega arith))) in
    omega (arith, mul-le-mul h k)

pub returns : goal.returns
unfolding mant
returns c = ap₂ (λ (t g : ℕ). t * g / 2 ^ 31) c.power_at.ensures c.small_exp.ensures

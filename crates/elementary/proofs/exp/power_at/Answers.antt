use Rattle.std.proofs.Common.{◌≡◌, ℕ, ◌*◌, ◌/◌, ◌%◌, ◌^◌, ◌≤◌, slice_index, ap, ap₂, ◌∙◌, le_trans, le_of_eq, mul-le-mul, arith}
use Rattle.elementary.specs.Exp.{power, coarse}
use Rattle.elementary.proofs.exp.Error.{coarse-high, fine-high}
use Rattle.elementary.proofs.exp.power_at.Goals as goal

pub overflow_mul-result : goal.overflow_mul-result
overflow_mul-result c =
    let i = c.args.i in
    let h : c.coarse_at.result ≤ 4294967295 = le_trans (le_of_eq c.coarse_at.ensures)
    (coarse-high (i / 32) (omega arith)) in
    let k : c.fine_at.result ≤ 2290649225 = le_trans (le_of_eq c.fine_at.ensures)
    (fine-high (i % 32) (omega arith)) in
    omega (arith, mul-le-mul h k)

pub returns : goal.returns
unfolding power
returns c =
    let whole : c.args.i / 32 ≡ c.args.i / 32 % 16 = omega arith in
    ap₂ (λ (a b : ℕ). a * b / 2 ^ 31) (c.coarse_at.ensures ∙ ap (λ (k : ℕ). slice_index coarse k) whole) c.fine_at.ensures

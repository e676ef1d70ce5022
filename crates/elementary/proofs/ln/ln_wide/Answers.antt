use Rattle.std.proofs.Common.{ℕ, ◌+◌, ◌*◌, ap, arith}
use Rattle.elementary.specs.Ln.{ln_wide}
use Rattle.elementary.proofs.ln.Fixed.{ln_mant-lt}
use Rattle.elementary.proofs.ln.ln_wide.Goals as goal

pub overflow_add-result : goal.overflow_add-result
overflow_add-result c = omega (
  arith,
  ln_mant-lt c.args.m c.requires.1 c.requires.2,
  c.ln_mant.ensures,
)

pub returns : goal.returns
unfolding ln_wide
returns c = ap (λ (z : ℕ). c.args.n * 3121657384082679 + z) c.ln_mant.ensures

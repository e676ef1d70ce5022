use Rattle.std.proofs.Common.{ℕ, ◌+◌, sym, ap, ◌∙◌, arith}
use Rattle.elementary.proofs.powf.Cases.{zero_odd, zero_even, size-le}
use Rattle.elementary.proofs.powf.zero_bits.Goals as goal

pub overflow_add-result : goal.overflow_add-result
overflow_add-result c = omega (arith, c.zero_size.ensures, size-le c.args.c)

pub returns-then-is_odd : goal.returns-then-is_odd
returns-then-is_odd c =
    ap (λ (z : ℕ). z + c.args.b) c.zero_size.ensures
    ∙ sym (zero_odd c.args.b c.args.c (sym c.is_odd.ensures ∙ c.if-is_odd.true))

pub returns-else-is_odd : goal.returns-else-is_odd
returns-else-is_odd c =
    c.zero_size-else-is_odd.ensures ∙ sym (zero_even c.args.b c.args.c
    (sym c.is_odd.ensures ∙ c.if-is_odd.false))

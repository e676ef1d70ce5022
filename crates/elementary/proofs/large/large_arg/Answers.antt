use Rattle.std.proofs.Common.{ℕ, ◌^◌, ◌≤◌, sym, ap, ◌∙◌, subst}
use Rattle.elementary.specs.Power.{fine_arg}
use Rattle.elementary.proofs.large.Cases.{arg_low, arg_mid, arg_high}
use Rattle.elementary.proofs.large.Steps.{fine_tight, plus, minus}
use Rattle.elementary.proofs.large.large_arg.Goals as goal

pub returns-then-c-lt2147483648 : goal.returns-then-c-lt2147483648
returns-then-c-lt2147483648 c =
    sym (arg_low c.args.x c.args.c c.if-x-lt-QUARTER.true
    ∙ plus c.args.c 0 (2 ^ 56) c.if-c-lt2147483648.true)

pub returns-else-c-lt2147483648 : goal.returns-else-c-lt2147483648
returns-else-c-lt2147483648 c =
    sym (arg_low c.args.x c.args.c c.if-x-lt-QUARTER.true
    ∙ minus c.args.c 0 (2 ^ 56) c.if-c-lt2147483648.false)

pub fine_arg-requires : goal.fine_arg-requires
fine_arg-requires c =
    subst (λ (n : ℕ). (5394478923776 ≤ n) × (n ≤ 5531917877256)) (sym c.fine_log2.ensures)
    (fine_tight c.args.x c.if-x-lt-QUARTER.false c.if-x-lt-FOUR.true)

pub returns-then-x-lt-FOUR : goal.returns-then-x-lt-FOUR
returns-then-x-lt-FOUR c =
    c.fine_arg.ensures ∙ ap (λ (n : ℕ). fine_arg n c.args.c) c.fine_log2.ensures
    ∙ sym (arg_mid c.args.x c.args.c c.if-x-lt-QUARTER.false c.if-x-lt-FOUR.true)

pub returns-then-c-lt2147483648-2 : goal.returns-then-c-lt2147483648-2
returns-then-c-lt2147483648-2 c =
    sym (arg_high c.args.x c.args.c c.if-x-lt-FOUR.false
    ∙ plus c.args.c (2 ^ 56) 0 c.if-c-lt2147483648-2.true)

pub returns-else-c-lt2147483648-2 : goal.returns-else-c-lt2147483648-2
returns-else-c-lt2147483648-2 c =
    sym (arg_high c.args.x c.args.c c.if-x-lt-FOUR.false
    ∙ minus c.args.c (2 ^ 56) 0 c.if-c-lt2147483648-2.false)

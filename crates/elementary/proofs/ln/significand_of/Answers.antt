use Rattle.std.proofs.Common.{sym, ◌∙◌, lt_of_lt_of_le, mod-eq_of_lt, arith, lit≤}
use lib.Count.{count_leading_zeros}
use Rattle.elementary.proofs.ln.Parts.{Sub, sub32, significand-sub, significand-normal}
use Rattle.elementary.proofs.ln.significand_of.Goals as goal
use Rattle.elementary.proofs.ln.significand_of.Goals.{Then-b-lt8388608}

sub : (c : Then-b-lt8388608) → Sub c.args.b (count_leading_zeros 32 c.args.b)
sub c = sub32 c.args.b c.requires.0 c.if-b-lt8388608.true

pub overflow_sub-b : goal.overflow_sub-b
overflow_sub-b c = omega (arith, (sub c).least)

pub returns-then-b-lt8388608 : goal.returns-then-b-lt8388608
returns-then-b-lt8388608 c = c.from.ensures ∙ mod-eq_of_lt (lt_of_lt_of_le (sub c.before).high (lit≤ tt))
    ∙ sym (significand-sub c.args.b c.if-b-lt8388608.true)

pub returns-else-b-lt8388608 : goal.returns-else-b-lt8388608
returns-else-b-lt8388608 c = c.from-else-b-lt8388608.ensures ∙ sym (significand-normal c.args.b c.if-b-lt8388608.false)

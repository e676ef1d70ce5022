-- The five cases of the definition, by the pattern of x and the number of squares.
use Rattle.std.proofs.Common.{◌+◌, ◌-◌, ◌/◌, ◌%◌, ◌^◌, sym, ap, ◌∙◌, lt_of_lt_of_le, mod-eq_of_lt, arith, lit≤}
use Rattle.elementary.specs.Power.{squares}
use Rattle.elementary.proofs.large.Law.{start_range}
use Rattle.elementary.proofs.large.Cases.{squared_1, squared_2, squared_3, squared_4, squared_5}
use Rattle.elementary.proofs.large.squared.Goals as goal

pub returns-then-p-lt-PATTERN_QUARTER : goal.returns-then-p-lt-PATTERN_QUARTER
returns-then-p-lt-PATTERN_QUARTER c = sym (squared_1 c.args.p c.args.c c.if-p-lt-PATTERN_QUARTER.true)

pub returns-then-k-le24 : goal.returns-then-k-le24
returns-then-k-le24 c =
    let p = c.args.p in
    let r = start_range (p / 2 ^ 23) (2 ^ 23 + p % 2 ^ 23) (omega arith) (omega arith) (omega arith) (omega arith) in
    c.squares.ensures ∙ rw c.from-m.ensures (ap (squares (c.args.c % 2 ^ 31 / 2 ^ 23 - 133))
    (mod-eq_of_lt (lt_of_lt_of_le r.1 (lit≤ tt)))
    ∙ sym (squared_2 p c.args.c c.if-p-lt-PATTERN_QUARTER.false c.if-p-lt-PATTERN_FOUR.true
    c.if-k-le24.true))

pub returns-then-p-lt-PATTERN_ONE : goal.returns-then-p-lt-PATTERN_ONE
returns-then-p-lt-PATTERN_ONE c =
    sym
    (squared_3 c.args.p c.args.c c.if-p-lt-PATTERN_QUARTER.false c.if-p-lt-PATTERN_ONE.true c.if-k-le24.false)

pub returns-else-p-lt-PATTERN_ONE : goal.returns-else-p-lt-PATTERN_ONE
returns-else-p-lt-PATTERN_ONE c =
    sym
    (squared_4 c.args.p c.args.c c.if-p-lt-PATTERN_ONE.false c.if-p-lt-PATTERN_FOUR.true c.if-k-le24.false)

pub returns-else-p-lt-PATTERN_FOUR : goal.returns-else-p-lt-PATTERN_FOUR
returns-else-p-lt-PATTERN_FOUR c = sym (squared_5 c.args.p c.args.c c.if-p-lt-PATTERN_FOUR.false)

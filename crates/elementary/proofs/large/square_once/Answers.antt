use Rattle.std.proofs.Common.{◌*◌, ◌/◌, ◌^◌, sym, ◌∙◌}
use Rattle.elementary.proofs.large.Squaring.{squares_zero, squares-low, squares-mid, squares-high}
use Rattle.elementary.proofs.large.square_once.Goals as goal
use Rattle.elementary.proofs.large.square_once.Goals.{else-x-ge-QUARTER-via-then-x-ge-QUARTER+else-x-lt-FOUR, else-x-ge-QUARTER-via-else-x-ge-QUARTER}

pub returns-then-x-lt-FOUR : goal.returns-then-x-lt-FOUR
returns-then-x-lt-FOUR c =
    let x = c.args.x in
    c.square.ensures ∙ sym (squares-mid 0 x c.if-x-ge-QUARTER.true c.if-x-lt-FOUR.true
    ∙ squares_zero (x * x / 2 ^ 60))

pub returns-else-x-ge-QUARTER : goal.returns-else-x-ge-QUARTER
returns-else-x-ge-QUARTER c = elim c.else-x-ge-QUARTER.branch [
  | else-x-ge-QUARTER-via-then-x-ge-QUARTER+else-x-lt-FOUR w ↦ sym (squares-high 0 c.args.x w.if-x-lt-FOUR.false)
  | else-x-ge-QUARTER-via-else-x-ge-QUARTER w ↦ sym (squares-low 0 c.args.x w.if-x-ge-QUARTER.false)
]

-- Each arm returns what the definition's two `cond` pick under the arm's tests.
use Rattle.std.proofs.Common.{sym, ◌∙◌, true≢false}
use Rattle.float32.specs.Float32.{min}
use Rattle.float32.proofs.min.Goals as goal
use Rattle.float32.proofs.min.Goals.{then-is_nan, else-is_nan}

pub returns-then-y-x : goal.returns-then-y-x
unfolding min
returns-then-y-x c = elim c.if-is_nan.branch [
  | then-is_nan w ↦ rw (← c.is_nan.ensures.value, w.if-is_nan.true)
  | else-is_nan w ↦ rw (← c.is_nan.ensures.value, w.if-is_nan.false, sym w.value-is ∙ c.if-y-x.true)
]

pub returns-else-y-x : goal.returns-else-y-x
unfolding min
returns-else-y-x c = elim c.if-is_nan.branch [
  | then-is_nan w ↦ absurd (true≢false (sym w.if-is_nan.true ∙ sym w.value-is ∙ c.if-y-x.false))
  | else-is_nan w ↦ rw (← c.is_nan.ensures.value, w.if-is_nan.false, sym w.value-is ∙ c.if-y-x.false)
]

-- Each arm returns what the definition's two `cond` pick under the arm's tests.
use Rattle.std.proofs.Common.{sym, ◌∙◌, true≢false}
use Rattle.float32.specs.Float32.{max}
use Rattle.float32.proofs.max.Goals as goal
use Rattle.float32.proofs.max.Goals.{then-is_nan, else-is_nan}

pub returns-then-x-y : goal.returns-then-x-y
unfolding max
returns-then-x-y c = elim c.if-is_nan.branch [
  | then-is_nan w ↦ rw (← c.is_nan.ensures.value, w.if-is_nan.true)
  | else-is_nan w ↦ rw (← c.is_nan.ensures.value, w.if-is_nan.false, sym w.value-is ∙ c.if-x-y.true)
]

pub returns-else-x-y : goal.returns-else-x-y
unfolding max
returns-else-x-y c = elim c.if-is_nan.branch [
  | then-is_nan w ↦ absurd (true≢false (sym w.if-is_nan.true ∙ sym w.value-is ∙ c.if-x-y.false))
  | else-is_nan w ↦ rw (← c.is_nan.ensures.value, w.if-is_nan.false, sym w.value-is ∙ c.if-x-y.false)
]

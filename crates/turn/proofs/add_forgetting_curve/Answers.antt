use Rattle.runs.specs.Turn.{add_forgetting_curve}
use Rattle.turn.proofs.add_forgetting_curve.Goals as goal

pub returns-then-not-is_new : goal.returns-then-not-is_new
unfolding add_forgetting_curve
returns-then-not-is_new c =
    rw (
      ← c.is_new.ensures,
      c.if-not-is_new.true,
      c.add_forgetting_curve_range.ensures,
      c.requires,
      c.to_u32-from.ensures,
    )

pub returns-else-not-is_new : goal.returns-else-not-is_new
unfolding add_forgetting_curve
returns-else-not-is_new c = rw (← c.is_new.ensures, c.if-not-is_new.false)

use Rattle.days.proofs.Laws.{wrong_is, correct_is}
use Rattle.days.proofs.add_review.Goals as goal

pub returns-then-recalled : goal.returns-then-recalled
returns-then-recalled c = rw (c.add_one-then-recalled.ensures, c.add_one.ensures, c.if-recalled.true) (correct_is c.args.rows.now c.args.d (c.told-rows c.args.d))

pub returns-else-recalled : goal.returns-else-recalled
returns-else-recalled c = rw (c.add_one.ensures, c.if-recalled.false) (wrong_is c.args.rows.now c.args.d (c.told-rows c.args.d))

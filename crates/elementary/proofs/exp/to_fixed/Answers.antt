use Rattle.std.proofs.Common.{lt_of_lt_of_le, mod-eq_of_lt, lit≤}
use Rattle.elementary.specs.Exp.{fixed}
use Rattle.elementary.proofs.exp.Cases.{fixed_pos}
use Rattle.elementary.proofs.exp.to_fixed.Goals as goal

pub returns : goal.returns
unfolding fixed
returns c = rw c.from.ensures (mod-eq_of_lt (lt_of_lt_of_le (fixed_pos c.args.a c.requires.1) (lit≤ tt)))

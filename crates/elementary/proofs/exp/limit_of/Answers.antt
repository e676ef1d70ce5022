use Rattle.std.proofs.Common.{◌^◌, sym, ap, le-ltb, lt-ltb}
use Rattle.elementary.specs.Exp.{limit}
use Rattle.elementary.proofs.exp.limit_of.Goals as goal

pub returns-then-b-lt2147483648 : goal.returns-then-b-lt2147483648
unfolding limit
returns-then-b-lt2147483648 c = sym (ap limit (lt-ltb c.args.b (2 ^ 31) c.if-b-lt2147483648.true))

pub returns-else-b-lt2147483648 : goal.returns-else-b-lt2147483648
unfolding limit
returns-else-b-lt2147483648 c = sym (ap limit (le-ltb c.args.b (2 ^ 31) c.if-b-lt2147483648.false))

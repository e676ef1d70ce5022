use Rattle.std.proofs.Common.{◌^◌, Bool, sym, ap, le-ltb, lt-ltb}
use Rattle.elementary.specs.Exp.{shifted}
use Rattle.elementary.proofs.exp.shift.Goals as goal

pub returns-then-b-lt2147483648 : goal.returns-then-b-lt2147483648
unfolding shifted
returns-then-b-lt2147483648 c = sym (ap (λ (s : Bool). shifted s c.args.x)
    (lt-ltb c.args.b (2 ^ 31) c.if-b-lt2147483648.true))

pub returns-else-b-lt2147483648 : goal.returns-else-b-lt2147483648
unfolding shifted
returns-else-b-lt2147483648 c = sym (ap (λ (s : Bool). shifted s c.args.x)
    (le-ltb c.args.b (2 ^ 31) c.if-b-lt2147483648.false))

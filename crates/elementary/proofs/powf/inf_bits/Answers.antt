use Rattle.std.proofs.Common.{sym}
use Rattle.elementary.proofs.powf.Cases.{inf_plus, inf_minus}
use Rattle.elementary.proofs.powf.inf_bits.Goals as goal

pub returns-then-c-lt2147483648 : goal.returns-then-c-lt2147483648
returns-then-c-lt2147483648 c = sym (inf_plus c.args.c c.if-c-lt2147483648.true)

pub returns-else-c-lt2147483648 : goal.returns-else-c-lt2147483648
returns-else-c-lt2147483648 c = sym (inf_minus c.args.c c.if-c-lt2147483648.false)

use Rattle.std.proofs.Common.{sym}
use Rattle.elementary.proofs.powf.Cases.{size_plus, size_minus}
use Rattle.elementary.proofs.powf.zero_size.Goals as goal

pub returns-then-c-lt2147483648 : goal.returns-then-c-lt2147483648
returns-then-c-lt2147483648 c = sym (size_plus c.args.c c.if-c-lt2147483648.true)

pub returns-else-c-lt2147483648 : goal.returns-else-c-lt2147483648
returns-else-c-lt2147483648 c = sym (size_minus c.args.c c.if-c-lt2147483648.false)

use Rattle.std.proofs.Common.{rules, ◌≡◌, ◌%◌}
use Rattle.power_tables.proofs.Lookups.{powers_are}
use Rattle.power_tables.proofs.power_at.Goals as goal

pub returns : goal.returns
returns c = powers_are (c.args.i % _) (search rules)

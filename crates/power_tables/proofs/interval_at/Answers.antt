use Rattle.std.proofs.Common.{rules, ◌≡◌, ◌%◌}
use Rattle.power_tables.proofs.Lookups.{lines_are, curvatures_are}
use Rattle.power_tables.proofs.interval_at.Goals as goal

pub returns : goal.returns
returns c = (lines_are (c.args.i % _) (search rules), curvatures_are (c.args.i % _) (search rules))

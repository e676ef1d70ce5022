use Rattle.model.proofs.Runtime.{curve_is}
use Rattle.capi.proofs.interval_table.drill_certifies_rounded_interval.Goals as goal

pub returns : goal.returns
returns c = rw (
  c.certifies_rounded_interval.ensures,
  c.curve.ensures,
  c.new.ensures,
  curve_is,
)

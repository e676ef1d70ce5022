use mathlib.Core.Path.{sym, ◌∙◌}
use Rattle.intervals.specs.Table.{table}
use Rattle.model.specs.Runtime.{curve_of}
use Rattle.intervals.proofs.Schedule.{slot_held, slot_anew}
use Rattle.intervals.proofs.scheduled_interval.Goals as goal

pub returns-then-sure : goal.returns-then-sure
returns-then-sure c =
    slot_held (curve_of c.args.model) c.args.stability c.args.retention c.args.most
    (table c.args.keys.now c.args.intervals.now) c.stability_bucket-s.result
    c.retention_bucket-r.result c.stability_bucket-s.ensures.value
    c.retention_bucket-r.ensures
    (sym c.lookup-entry.ensures.entry ∙ c.in-Found.is) c.curve.result
    c.certifies_rounded_interval-sure.result
    c.curve.ensures c.certifies_rounded_interval-sure.ensures c.if-sure.true

pub returns-else-sure : goal.returns-else-sure
returns-else-sure c =
    slot_anew (curve_of c.args.model) c.args.stability c.args.retention c.args.most
    (table c.args.keys.now c.args.intervals.now) c.stability_bucket-s.result
    c.retention_bucket-r.result c.stability_bucket-s.ensures.value
    c.retention_bucket-r.ensures
    (sym c.lookup-entry.ensures.entry ∙ c.in-Found.is) c.curve.result
    c.certifies_rounded_interval-sure.result
    c.curve.ensures c.certifies_rounded_interval-sure.ensures c.if-sure.false
    c.scheduled-else-sure.ensures

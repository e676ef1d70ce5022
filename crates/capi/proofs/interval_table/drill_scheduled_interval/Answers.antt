use Rattle.model.proofs.Runtime.{curves_are}
use Rattle.capi.proofs.interval_table.drill_scheduled_interval.Goals as goal

pub returns : goal.returns
returns c =
    record {
      value = rw (
        c.interval_in.ensures,
        c.scheduled_interval-slot.ensures,
        c.new.ensures,
        curves_are,
      );
      intervals_after = rw (
        c.enter_slot.ensures,
        c.scheduled_interval-slot.ensures,
        c.new.ensures,
        curves_are,
      );
    }

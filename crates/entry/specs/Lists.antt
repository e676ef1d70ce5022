-- What a call is given, as its definitions have it. Definitions only.
--   SameLists old new    each list of `new` is the one that `old` was lent
--   lengths_of_lists x   the lengths of the lists that a call writes
--   inputs_of l s        a run's inputs, of what is read of a learner and of its settings
use Rattle.std.specs.Prelude.{◌≡◌, length}
use Rattle.entry.specs.declared.lists.Lists.{Lists}
use Rattle.entry.specs.declared.lists.Lengths.{Lengths}
use Rattle.entry.specs.declared.lists.Learner.{Learner}
use Rattle.entry.specs.declared.lists.Settings.{Settings}
use Rattle.entry.specs.Entry.{Inputs, inputs}

pub record SameLists (old new : Lists) : Type 0 where
  pub cards : new.cards.ghost_name ≡ old.cards.ghost_name
  pub counts : new.counts.ghost_name ≡ old.counts.ghost_name
  pub queue_rows : new.queue_rows.ghost_name ≡ old.queue_rows.ghost_name
  pub days : new.days.ghost_name ≡ old.days.ghost_name
  pub costs : new.costs.ghost_name ≡ old.costs.ghost_name
  pub memorized : new.memorized.ghost_name ≡ old.memorized.ghost_name
  pub due : new.due.ghost_name ≡ old.due.ghost_name
  pub keys : new.keys.ghost_name ≡ old.keys.ghost_name
  pub intervals : new.intervals.ghost_name ≡ old.intervals.ghost_name

abbrev pub lengths_of_lists : Lists → Lengths
lengths_of_lists x = record {
  cards = length x.cards.now;
  counts = length x.counts.now;
  queue_rows = length x.queue_rows.now;
  days = length x.days.now;
  costs = length x.costs.now;
  memorized = length x.memorized.now;
  due = length x.due.now;
  keys = length x.keys.now;
  intervals = length x.intervals.now;
}

abbrev pub inputs_of : Learner → Settings → Inputs
inputs_of l s = inputs s l.parameters.now l.existing.now l.existing_counts.now

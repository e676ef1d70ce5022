-- Lent lists stay those that were lent, call after call.
use mathlib.Core.Path.{refl, ◌∙◌}
use Rattle.entry.specs.declared.lists.Lists.{Lists}
use Rattle.entry.specs.Lists.{SameLists}

pub same_lists : (x : Lists) → SameLists x x
same_lists x = record {
  cards = refl;
  counts = refl;
  queue_rows = refl;
  days = refl;
  costs = refl;
  memorized = refl;
  due = refl;
  keys = refl;
  intervals = refl;
}

pub same_then : {x y z : Lists} → SameLists x y → SameLists y z → SameLists x z
same_then p q = record {
  cards = q.cards ∙ p.cards;
  counts = q.counts ∙ p.counts;
  queue_rows = q.queue_rows ∙ p.queue_rows;
  days = q.days ∙ p.days;
  costs = q.costs ∙ p.costs;
  memorized = q.memorized ∙ p.memorized;
  due = q.due ∙ p.due;
  keys = q.keys ∙ p.keys;
  intervals = q.intervals ∙ p.intervals;
}

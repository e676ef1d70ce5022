-- WHICH PLACES A RUN HAS TO DO WITH: of lists that are longer than it needs, the first ones. Definitions only.
--   first_places cards span s   the state of the first places: a row a card, a place a day, and the due counts
--   beyond cards span s        the places behind them
--   extended s b               s with the places b behind those of its lists
--   SameLengths l l'           each list of l' is as long as that of l
use Rattle.std.specs.Prelude.{ℕ, [], ◌++◌, ◌≡◌, length, take, drop}
use Rattle.days.specs.Due.{due_days}
use Rattle.queue.specs.Queue.{queue}
use Rattle.runs.specs.State.{State, Lent}

module _ {C : Type 0} where
  abbrev pub first_places : ℕ → ℕ → State C → State C
  first_places cards span s = record {
    cards = take cards s.cards;
    counts = take cards s.counts;
    queue = queue (take cards s.queue.rows) s.queue.len;
    days = take span s.days;
    costs = take span s.costs;
    memorized = take span s.memorized;
    due = take (due_days span) s.due;
    table = s.table;
    draws = s.draws;
  }

  abbrev pub beyond : ℕ → ℕ → State C → Lent C
  beyond cards span s = record {
    cards = drop cards s.cards;
    counts = drop cards s.counts;
    queue_rows = drop cards s.queue.rows;
    days = drop span s.days;
    costs = drop span s.costs;
    memorized = drop span s.memorized;
    due = drop (due_days span) s.due;
    keys = [];
    intervals = [];
  }

  abbrev pub extended : State C → Lent C → State C
  extended s b = record {
    cards = s.cards ++ b.cards;
    counts = s.counts ++ b.counts;
    queue = queue (s.queue.rows ++ b.queue_rows) s.queue.len;
    days = s.days ++ b.days;
    costs = s.costs ++ b.costs;
    memorized = s.memorized ++ b.memorized;
    due = s.due ++ b.due;
    table = s.table;
    draws = s.draws;
  }

-- the lists keep their lengths
pub record SameLengths {C : Type 0} (l l' : Lent C) : Type 0 where
  pub cards : length l'.cards ≡ length l.cards
  pub counts : length l'.counts ≡ length l.counts
  pub queue_rows : length l'.queue_rows ≡ length l.queue_rows
  pub days : length l'.days ≡ length l.days
  pub costs : length l'.costs ≡ length l.costs
  pub memorized : length l'.memorized ≡ length l.memorized
  pub due : length l'.due ≡ length l.due
  pub keys : length l'.keys ≡ length l.keys
  pub intervals : length l'.intervals ≡ length l.intervals

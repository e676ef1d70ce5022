-- The state of a run: the lent lists, the queue's length and the state of the draws. Definitions only.
--   State C, Lent C           the state of a run, and the lists as a caller has them
--   state, lists_of            the one from the other
--   lent_of, state_at          the lists that a call is lent, and the state between two turns
--   key_of k, card_in s c       a card's order key; the card at place c
--   with_cards, with_queue, ..  a state with one part written anew
use Rattle.std.specs.Prelude.{ℕ, List, Float}
use Rattle.cards.specs.declared.card.Card.{Card}
use Rattle.cards.specs.Day.{day_of, is_new}
use Rattle.cards.specs.Cards.{card_at}
use Rattle.queue.specs.Key.{card_priority}
use Rattle.queue.specs.Queue.{Queue, queue}
use Rattle.intervals.specs.Table.{Table, table}
use Rattle.entry.specs.declared.lists.Lists.{Lists}
use Rattle.runs.specs.declared.Place.{Place}

-- `C` is what a cost is
pub record State (C : Type 0) : Type 0 where
  pub cards : List (List Float)
  pub counts : List (List ℕ)
  pub queue : Queue
  pub days : List (List ℕ)
  pub costs : List C  -- of each day
  pub memorized : List Float  -- on each day
  pub due : List ℕ
  pub table : Table
  pub draws : ℕ

-- a card's order key in the queue: its day, reviews before new, its difficulty
abbrev pub key_of : Card → ℕ
key_of k = card_priority (day_of k.due) (is_new k.last_date) k.difficulty

-- THE LENT LISTS, as a caller has them: rows of cards and of their counts, of the queue, of days' counts, the days'
-- costs, what is memorized on each, the due counts, and the interval table
pub record Lent (C : Type 0) : Type 0 where
  pub cards : List (List Float)
  pub counts : List (List ℕ)
  pub queue_rows : List (List ℕ)
  pub days : List (List ℕ)
  pub costs : List C
  pub memorized : List Float
  pub due : List ℕ
  pub keys : List (List ℕ)
  pub intervals : List Float

module _ {C : Type 0} where
  abbrev pub card_in : State C → ℕ → Card
  card_in s c = card_at s.cards s.counts c

  abbrev pub lent : List (List Float) → List (List ℕ) → List (List ℕ) → List (List ℕ) → List C → List Float → List ℕ
      → List (List ℕ) → List Float → Lent C
  lent cards counts queue_rows days costs memorized due keys intervals = record {
    cards = cards;
    counts = counts;
    queue_rows = queue_rows;
    days = days;
    costs = costs;
    memorized = memorized;
    due = due;
    keys = keys;
    intervals = intervals;
  }

  -- the state of lent lists, of a queue's length and of the draws
  abbrev pub state : Lent C → ℕ → ℕ → State C
  state l len draws = record {
    cards = l.cards;
    counts = l.counts;
    queue = queue l.queue_rows len;
    days = l.days;
    costs = l.costs;
    memorized = l.memorized;
    due = l.due;
    table = table l.keys l.intervals;
    draws = draws;
  }

  -- and the lent lists of a state
  abbrev pub lists_of : State C → Lent C
  lists_of s = record {
    cards = s.cards;
    counts = s.counts;
    queue_rows = s.queue.rows;
    days = s.days;
    costs = s.costs;
    memorized = s.memorized;
    due = s.due;
    keys = s.table.keys;
    intervals = s.table.intervals;
  }

  -- ---- a state with one part written anew, the others as they are
  abbrev pub with_cards : List (List Float) → State C → State C
  with_cards x s = record s { cards = x }

  abbrev pub with_queue : Queue → State C → State C
  with_queue x s = record s { queue = x }

  abbrev pub with_memorized : List Float → State C → State C
  with_memorized x s = record s { memorized = x }

  abbrev pub with_due : List ℕ → State C → State C
  with_due x s = record s { due = x }

  abbrev pub with_table : Table → State C → State C
  with_table x s = record s { table = x }

  abbrev pub with_draws : ℕ → State C → State C
  with_draws x s = record s { draws = x }

-- the lists that a call is lent, and the state between two turns, of those lists
abbrev pub lent_of : Lists → Lent Float
lent_of x = lent x.cards.now x.counts.now x.queue_rows.now x.days.now x.costs.now x.memorized.now x.due.now x.keys.now
    x.intervals.now

abbrev pub state_at : Lists → Place → State Float
state_at x at = state (lent_of x) at.queued at.draws

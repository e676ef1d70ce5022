-- WHAT A STATE MUST SATISFY for a run to be lawful from it, in parts: `LongEnough`, `InOrder`, `TableInRange`, `Counts`,
-- `DueCounts`. Set-up leaves such a state, and every turn keeps it one, by any rules whose slots are lawful;
-- `DueBounds` is what it says of the due counts. Definitions only.
--   day_in, new_in, key_in, lapses_in, ..   a card's numbers, by the lists of rows
--   RunBounds                           of the span and the number of cards
--   StateInvariant                      of a state: its parts are the records before it
--   DueBounds, CountBounds, FirstInOrder   what it says of the due counts, of a day's counts, and of the card that has
--   the turn
use Rattle.std.specs.Prelude.{ℕ, ◌+◌, ◌≤◌, ◌<◌, min, Bool, true, false, not, ◌&&◌, List, [], ◌≡◌, eqb, leb, ltb, length, get_or, Float}
use Rattle.std.specs.Float.{nan}
use Rattle.turns.specs.Sums.{bit, sum_to}
use Rattle.cards.specs.Day.{day_of, is_new, IntervalInRange}
use Rattle.cards.specs.Cards.{no_floats, most_lapses}
use Rattle.days.specs.Counts.{learned_at, reviewed_at, correct_at, introduced_at}
use Rattle.days.specs.Due.{due_days}
use Rattle.queue.specs.Key.{priority_of, card_priority, NoLater}
use Rattle.queue.specs.Queue.{Queue, front}
use Rattle.queue.specs.Sound.{Keyed, queued}
use Rattle.intervals.specs.Table.{Table, places, free_at, value_at}
use Rattle.entry.specs.Entry.{most_cards, most_days}
use Rattle.runs.specs.State.{State}

-- ---- of the card at place c, by the lists of rows
abbrev pub difficulty_in : List (List Float) → ℕ → Float
difficulty_in cards c = get_or (get_or cards c no_floats) 0 nan

abbrev pub last_in : List (List Float) → ℕ → Float
last_in cards c = get_or (get_or cards c no_floats) 2 nan

abbrev pub due_in : List (List Float) → ℕ → Float
due_in cards c = get_or (get_or cards c no_floats) 3 nan

abbrev pub day_in : List (List Float) → ℕ → ℕ
day_in cards c = day_of (due_in cards c)

abbrev pub new_in : List (List Float) → ℕ → Bool
new_in cards c = is_new (last_in cards c)

abbrev pub key_in : List (List Float) → ℕ → ℕ
key_in cards c = card_priority (day_in cards c) (new_in cards c) (difficulty_in cards c)

abbrev pub lapses_in : List (List ℕ) → ℕ → ℕ
lapses_in counts c = get_or (get_or counts c []) 1 0

-- card c is queued, has a last date, and its day is d
abbrev pub awaits : List (List Float) → Queue → ℕ → ℕ → Bool
awaits cards q d c = queued q c && (not (new_in cards c) && eqb (day_in cards c) d)

-- ---- the span and the number of cards
pub record RunBounds (span cards : ℕ) : Type 0 where
  pub some : 0 < span
  pub most : span ≤ most_days
  pub few : cards ≤ most_cards

-- ---- the state

-- a row for each card and for each day, and a due count for each day that is counted
pub record LongEnough {C : Type 0} (cards span : ℕ) (s : State C) : Type 0 where
  pub cards_long : cards ≤ length s.cards
  pub counts_long : cards ≤ length s.counts
  pub days_long : span ≤ length s.days
  pub costs_long : span ≤ length s.costs
  pub due_long : due_days span ≤ length s.due

-- the queue is sound, each queued card is a card of the run under its key, and every day fits an i32
pub record InOrder {C : Type 0} (cards : ℕ) (s : State C) : Type 0 where
  pub keyed : Keyed cards (key_in s.cards) s.queue
  pub near : (c : ℕ) → c < cards → day_in s.cards c < 2147483648

-- every interval that the table holds is 1 to 36,500
abbrev pub TableInRange : Table → Type 0
TableInRange t = (p : ℕ) → p < places t → free_at t p ≡ false → IntervalInRange (value_at t p)

-- on each day no more recalls than reviews, introduced cards no more than cards that are not new, and events no more
-- than cards that are now due later; of each card a lapse a day at most
pub record Counts {C : Type 0} (cards span : ℕ) (s : State C) : Type 0 where
  pub recalls : (d : ℕ) → d < span → correct_at s.days d ≤ reviewed_at s.days d
  pub introduced : (d : ℕ) → d < span → introduced_at s.days d + sum_to cards (λ c. bit (new_in s.cards c)) ≤ cards
  pub events : (d : ℕ) → d < span
      → learned_at s.days d + reviewed_at s.days d ≤ sum_to cards (λ c. bit (ltb d (day_in s.cards c)))
  pub lapses : (c : ℕ) → c < cards → lapses_in s.counts c ≤ most_lapses + min (day_in s.cards c) span

-- on each day that is counted, the due count has every queued card with a last date whose day it is, and at most the
-- cards that are due then or later
pub record DueCounts (n span : ℕ) (cards : List (List Float)) (q : Queue) (due : List ℕ) : Type 0 where
  pub least : (d : ℕ) → d < due_days span → sum_to n (λ c. bit (awaits cards q d c)) ≤ get_or due d 0
  pub most : (d : ℕ) → d < due_days span → get_or due d 0 ≤ sum_to n (λ c. bit (leb d (day_in cards c)))

pub record StateInvariant {C : Type 0} (cards span : ℕ) (s : State C) : Type 0 where
  pub lengths : LongEnough cards span s
  pub order : InOrder cards s
  pub table : TableInRange s.table
  pub counts : Counts cards span s
  pub due : DueCounts cards span s.cards s.queue s.due

-- WHAT IT SAYS OF THE DUE COUNTS: on each day that is counted at least the queued cards with a last date whose day it
-- is, and at most the run's cards
pub record DueBounds {C : Type 0} (cards span : ℕ) (s : State C) : Type 0 where
  pub least : (d : ℕ) → d < due_days span → sum_to cards (λ c. bit (awaits s.cards s.queue d c)) ≤ get_or s.due d 0
  pub most : (d : ℕ) → d < due_days span → get_or s.due d 0 ≤ cards

-- OF A DAY'S COUNTS: at most the run's cards are learned and reviewed, at most the reviewed recalled, at most the cards
-- introduced
pub record CountBounds {C : Type 0} (cards span : ℕ) (s : State C) : Type 0 where
  pub events : (d : ℕ) → d < span → learned_at s.days d + reviewed_at s.days d ≤ cards
  pub recalls : (d : ℕ) → d < span → correct_at s.days d ≤ reviewed_at s.days d
  pub introduced : (d : ℕ) → d < span → introduced_at s.days d ≤ cards

-- OF THE CARD THAT HAS THE TURN: it comes no later than every queued card, by its day, reviews before new cards, and
-- its difficulty × 100
abbrev pub FirstInOrder : {C : Type 0} → State C → Type 0
FirstInOrder s =
    let f = front s.queue in
    (c : ℕ) → queued s.queue c ≡ true
    → NoLater (day_in s.cards f) (new_in s.cards f) (priority_of (difficulty_in s.cards f))
    (day_in s.cards c) (new_in s.cards c) (priority_of (difficulty_in s.cards c))

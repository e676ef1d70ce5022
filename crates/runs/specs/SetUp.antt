-- How a run is set up from its inputs and the lent lists (docs/RULES.md, S1 to S5). Definitions only.
--   new_card, new_card_count      a new card, and how many there are
--   Deck, add_card              what the joining of cards writes, and one card more
--   add_kept_card, add_existing_card, add_existing_cards, add_new_cards, add_all_cards   existing and new cards
--   kept_count, kept_cards, introduced_before   how many existing cards are kept, and how many of these have a last date
--   set_up none i s             the state that a run begins with
use Rattle.std.specs.Prelude.{ℕ, zero, suc, ◌+◌, ◌-◌, ◌/◌, true, not, ◌&&◌, cond, List, [], ◌∷◌, eqb, length, set, pos, Float}
use Rattle.std.specs.Float.{inf, binary32}
use Rattle.std.specs.Float.Ieee.{of_int}
use Rattle.float32.specs.Numbers.{0ᶠ}
use Rattle.turns.specs.Sums.{bit}
use Rattle.cards.specs.declared.configuration.SimulatorConfig.{SimulatorConfig}
use Rattle.cards.specs.declared.card.Card.{Card}
use Rattle.cards.specs.Day.{day_of, is_new}
use Rattle.cards.specs.Cards.{card_at, write_floats, write_counts, is_kept}
use Rattle.days.specs.Due.{due_days, add_due}
use Rattle.queue.specs.Queue.{Queue, queue, pushed}
use Rattle.intervals.specs.Table.{clear_in}
use Rattle.runs.specs.State.{State, key_of}
use Rattle.entry.specs.Entry.{Inputs}

-- a list with x at each of its first n places
unfoldable pub filled_with : {A : Type 0} → A → ℕ → List A → List A
filled_with x zero l = l
filled_with x (suc n) l = set (filled_with x n l) n x

-- new card i, from 0 (its id in the Rust is −i), is due on day i / learn_limit
unfoldable pub new_card : Float → ℕ → ℕ → Card
new_card retention limit i = record {
  difficulty = inf true;
  stability = inf true;
  last_date = inf true;
  due = of_int binary32 (pos (i / limit));
  interval = inf true;
  desired_retention = retention;
  reps = 0;
  lapses = 0;
}

-- what the cards' joining writes
pub record Deck : Type 0 where
  pub cards : List (List Float)
  pub counts : List (List ℕ)
  pub queue : Queue
  pub due : List ℕ

abbrev pub deck : List (List Float) → List (List ℕ) → List (List ℕ) → List ℕ → ℕ → Deck
deck cards counts rows due len = record { cards = cards; counts = counts; queue = queue rows len; due = due }

-- a card joins as the run's next: its place is the queue's length so far
unfoldable pub add_card : Deck → Card → Deck
add_card s k = record {
  cards = write_floats s.cards s.queue.len k;
  counts = write_counts s.counts s.queue.len k;
  queue = pushed s.queue s.queue.len (key_of k);
  due = s.due;
}

-- a kept card joins, and is counted on its day
unfoldable pub add_kept_card : ℕ → Deck → Card → Deck
add_kept_card span s k = record (add_card s k) { due = add_due span s.due (day_of k.due) }

-- an existing card joins only if it is kept
unfoldable pub add_existing_card : ℕ → Deck → Card → Deck
add_existing_card span s k = cond (is_kept k) (add_kept_card span s k) s

-- the first n existing cards
unfoldable pub add_existing_cards : ℕ → List (List Float) → List (List ℕ) → ℕ → Deck → Deck
add_existing_cards span cards counts zero s = s
add_existing_cards span cards counts (suc i) s = add_existing_card span (add_existing_cards span cards counts i s)
    (card_at cards counts i)

-- how many of the first n existing cards are kept
unfoldable pub kept_count : List (List Float) → List (List ℕ) → ℕ → ℕ
kept_count cards counts zero = 0
kept_count cards counts (suc i) = kept_count cards counts i + bit (is_kept (card_at cards counts i))

abbrev pub kept_cards : Inputs → ℕ
kept_cards i = kept_count i.existing i.existing_counts (length i.existing)

-- how many of the first n existing cards are kept and have a last date
unfoldable pub introduced_before : List (List Float) → List (List ℕ) → ℕ → ℕ
introduced_before cards counts zero = 0
introduced_before cards counts (suc i) =
    let k = card_at cards counts i in
    introduced_before cards counts i + bit (is_kept k && not (is_new k.last_date))

-- n new cards join
unfoldable pub add_new_cards : Float → ℕ → ℕ → Deck → Deck
add_new_cards retention limit zero s = s
add_new_cards retention limit (suc i) s = add_card (add_new_cards retention limit i s) (new_card retention limit i)

-- how many new cards there are: none at a learn limit of 0, else as many as the deck has left
unfoldable pub new_card_count : SimulatorConfig → ℕ → ℕ
new_card_count g kept = cond (eqb g.learn_limit 0) 0 (g.deck_size - kept)

-- the queue empty, and due counts of 0
unfoldable pub empty_deck : {C : Type 0} → Inputs → State C → Deck
empty_deck i s = record {
  cards = s.cards;
  counts = s.counts;
  queue = queue s.queue.rows 0;
  due = filled_with 0 (due_days i.settings.config.learn_span) s.due;
}

-- the existing cards that are kept, and then the new ones
unfoldable pub add_all_cards : Inputs → Deck → Deck
add_all_cards i s =
    let kept = add_existing_cards i.settings.config.learn_span i.existing i.existing_counts (length i.existing) s in
    add_new_cards i.settings.retention i.settings.config.learn_limit (new_card_count i.settings.config kept.queue.len) kept

-- the row of counts at set-up: the known cards are introduced on each day
abbrev pub first_day_counts : Inputs → List ℕ
first_day_counts i = 0 ∷ 0 ∷ 0 ∷ introduced_before i.existing i.existing_counts (length i.existing) ∷ []

-- every day begins at the cost of no event, the table is emptied, and the draws are at the seed
unfoldable pub set_up : {C : Type 0} → C → Inputs → State C → State C
set_up none i s =
    let deck = add_all_cards i (empty_deck i s) in
    record {
      cards = deck.cards;
      counts = deck.counts;
      queue = deck.queue;
      days = filled_with (first_day_counts i) i.settings.config.learn_span s.days;
      costs = filled_with none i.settings.config.learn_span s.costs;
      memorized = filled_with 0ᶠ i.settings.config.learn_span s.memorized;
      due = deck.due;
      table = clear_in s.table;
      draws = i.settings.seed;
    }

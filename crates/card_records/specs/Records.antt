-- CARD RECORDS: a run whose existing cards are one lent list of records (docs/RULES.md, K1 to K6). Definitions only.
--   blank                    what stands past a list's end
--   floats_at, counts_at cs i  record i's row of floats and its row of counts
--   float_rows, count_rows cs  the records as the rows of the core's two lists
--   record_bad cs i           refusal 5 turns record i away
--   has_room, checked_records  the entry's tests: the core's, with the room for the rows in refusal 6
--   copied c n               how many of n records are copied
--   laid c new old           a list that is written over from its first place on where the tests pass
--   record_inputs w cs s     the core's inputs, with the records' rows as their existing cards
--   RecordsContract          WHAT A CALL PROMISES
use Rattle.std.specs.Prelude.{ℕ, ◌≡◌, Bool, ◌&&◌, List, ◌++◌, map, leb, Float, length, get_or, drop, Ok, Err}
use Rattle.float32.specs.Float32.{is_finite}
use Rattle.cards.specs.declared.card.Card.{Card}
use Rattle.cards.specs.Cards.{card_of, no_floats, no_counts, floats_of, counts_of}
use Rattle.entry.specs.declared.lists.Settings.{Settings}
use Rattle.entry.specs.Entry.{Check, Inputs, inputs, is_bad, check_settings, check_cards}
use Rattle.runs.specs.declared.Progress.{Progress}
use Rattle.runs.specs.State.{State, Lent}
use Rattle.runs.specs.Checked.{lists_ok}
use Rattle.runs.specs.Simulate.{Answer, finished, IsResult, rules_for, after_check}
use Rattle.runs.specs.Demands.{DemandThree}

-- what stands past a list's end
unfoldable pub blank : Card
blank = card_of no_floats no_counts

abbrev pub floats_at : List Card → ℕ → List Float
floats_at cs i = floats_of (get_or cs i blank)

abbrev pub counts_at : List Card → ℕ → List ℕ
counts_at cs i = counts_of (get_or cs i blank)

-- the records as the core's lists have them: a row of six floats and a row of two counts for each, in their order
abbrev pub float_rows : List Card → List (List Float)
float_rows cs = map floats_of cs

abbrev pub count_rows : List Card → List (List ℕ)
count_rows cs = map counts_of cs

-- record i is kept and not as refusal 5 asks
abbrev pub record_bad : List Card → ℕ → Bool
record_bad cs i = is_bad (get_or cs i blank)

-- there is room for n rows of floats and n rows of counts
abbrev pub has_room : ℕ → ℕ → ℕ → Bool
has_room n floats counts = leb n floats && leb n counts

-- the core's tests on inputs whose existing cards are the records' rows, in its order, with the room in refusal 6
unfoldable pub checked_records : Inputs → State Float → ℕ → ℕ → Check
checked_records i s floats counts =
    let n = length i.existing in
    check_settings (is_finite i.settings.retention) (lists_ok i s && has_room n floats counts) i.parameters i.settings.config n
    (check_cards i.existing i.existing_counts n)

-- how many of n records are copied: all, or none where a test fails
abbrev pub copied : Check → ℕ → ℕ
copied (Ok x) n = n
copied (Err r) n = 0

-- a list with others at its first places where the tests pass, and else as it was
abbrev pub laid : {A : Type 0} → Check → List A → List A → List A
laid (Ok x) new old = new ++ drop (length new) old
laid (Err r) new old = old

-- the core's inputs: the records' rows are their existing cards
abbrev pub record_inputs : List Float → List Card → Settings → Inputs
record_inputs w cs s = inputs s w (float_rows cs) (count_rows cs)

-- WHAT A CALL PROMISES. `i` has the records' rows as its existing cards, `room` and `room-counts` are lent for them.
pub record RecordsContract (i : Inputs) (s : State Float) (room : List (List Float)) (room-counts : List (List ℕ))
    (r : Answer) (l : Lent Float) (room' : List (List Float)) (room-counts' : List (List ℕ)) : Type 0 where
  -- the answer and every list are those of the core's definition (`simulated i s`) where the tests pass; else the
  -- answer is the first refusal, and every list is as it was
  pub result : IsResult (after_check (rules_for i) i (checked_records i s (length room) (length room-counts)) s) r l
  -- demand 3 where it ends Ok
  pub demand_three : (p : Progress) → r ≡ finished p → DemandThree (rules_for i) i s p l
  -- the room holds the rows where the tests pass, and behind them what it held; else it is as it was
  pub floats_left : room' ≡ laid (checked_records i s (length room) (length room-counts)) i.existing room
  pub counts_left : room-counts' ≡ laid (checked_records i s (length room) (length room-counts))
      i.existing_counts room-counts

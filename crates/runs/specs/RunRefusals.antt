-- WHEN A RUN STOPS, AND HOW (docs/RULES.md, R1 to R4): a condition for each stop, on the state that the turns taken
-- lead to, whose queue's first card has the turn. Definitions only.
--   turn_card, turn_day, chosen    that card, its day, and what the turn does with it
--   ChanceRefused, TableRefused, DueRefused   refusals 7, 8 and 9, with card c
--   StopCondition R s x             the condition for the stop x
use Rattle.std.specs.Prelude.{ℕ, ◌<◌, Bool, true, false, ◌≡◌, pos, Ok, Err, Some}
use Rattle.std.proofs.Math.Option.{none}
use Rattle.std.specs.Float.{binary32}
use Rattle.std.specs.Float.Ieee.{of_int}
use Rattle.float32.specs.Ops.{◌-ᶠ◌}
use Rattle.cards.specs.declared.card.Card.{Card}
use Rattle.cards.specs.declared.choice.Choice.{Choice}
use Rattle.cards.specs.declared.choice.Choice.TheVariants as choice
use Rattle.cards.specs.Day.{is_new}
use Rattle.days.specs.Due.{none_due}
use Rattle.events.specs.declared.Memory.{Memory}
use Rattle.events.specs.Events.{chance_ok}
use Rattle.queue.specs.Queue.{front}
use Rattle.intervals.specs.Bucket.{stability_bucket, retention_bucket}
use Rattle.intervals.specs.Table.{places, held_in, count_in}
use Rattle.entry.specs.declared.RunRefusal.TheVariants as refusal
use Rattle.runs.specs.State.{State}
use Rattle.runs.specs.Rules.{Rules}
use Rattle.runs.specs.Turn.{Stop, first, turn_choice}

-- a learning of a new card, or a review
abbrev pub event_choice : Bool → Choice
event_choice true = choice.Learn
event_choice false = choice.Review

module _ {C : Type 0} (R : Rules C) (s : State C) where
  abbrev pub turn_card : Card
  turn_card = (first s).card

  abbrev pub turn_day : ℕ
  turn_day = (first s).day

  abbrev pub chosen : Choice
  chosen = turn_choice R s (first s)

  -- 7: the turn of c, the first card, is a review, and its recall chance is NaN or not 0 to 1
  pub record ChanceRefused (c : ℕ) : Type 0 where
    pub queued : 0 < s.queue.len
    pub is_first : c ≡ front s.queue
    pub review : chosen ≡ choice.Review
    pub chance : chance_ok
        (R.model.chance (of_int binary32 (pos turn_day) -ᶠ turn_card.last_date) turn_card.stability) ≡ false

  -- 8: the turn of c, the first card, is an event; the key of the stability that it leaves is not held, and every place
  -- of the table is used (in a run: as many keys are held as it is long)
  pub record TableRefused (c : ℕ) : Type 0 where
    pub queued : 0 < s.queue.len
    pub is_first : c ≡ front s.queue
    pub new : Bool
    pub event_chosen : chosen ≡ event_choice new
    pub memory : Memory
    pub happens : R.model.event R.draw turn_card new turn_day s.draws ≡ Some memory
    pub new-key : held_in s.table (stability_bucket memory.stability)
        (retention_bucket turn_card.desired_retention) ≡ none
    pub full : count_in s.table ≡ places s.table

  -- 9: c, the first card, has a last date and is put off from a day that counts none; no run comes to it (`Demands`,
  -- `no_due_refusal`)
  pub record DueRefused (c : ℕ) : Type 0 where
    pub queued : 0 < s.queue.len
    pub is_first : c ≡ front s.queue
    pub put_off : chosen ≡ choice.PutOff
    pub is_none_due : none_due s.due (is_new turn_card.last_date) turn_day ≡ true

  -- the end: an empty queue
  abbrev pub StopCondition : Stop → Type 0
  StopCondition (Ok x) = s.queue.len ≡ 0
  StopCondition (Err (refusal.ChanceOutOfRange c)) = ChanceRefused c
  StopCondition (Err (refusal.TableFull c)) = TableRefused c
  StopCondition (Err (refusal.DueCount c)) = DueRefused c

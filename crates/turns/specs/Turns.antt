-- THE TURNS OF A RUN, what is counted of them, and what is claimed of the whole list (docs/RULES.md, D2 to D5).
-- A list of turns is kept LATEST FIRST: behind a turn stand the turns before it.
-- Nothing here names a model version, a way to draw or a number format: `E` is whatever an event records besides its
-- kind, such as its ratings, and `C` is whatever costs are, with their own sum.
--   Kind E, Turn E                                    what a turn is: a card, a day, and one of four kinds
--   Each P ts, All P ts, count p ts                   a claim of each turn, with or without those before it; a count
--   is_learn, is_review, is_event, is_correct, is_lapse    tests of a kind; an event is a learning or a review
--   on_day p d ts                                      how many turns of a day are of such a kind
--   learned_on d ts, reviewed_on d ts, correct_on d ts   a day's learnings, reviews and recalled reviews
--   handled_on c d ts                                  the events of a card on a day
--   CostRule E C, cost_on b d ts                       how costs are added, and the cost of a day
--   Limits C                                          the limits in force on each day
--   turn_bound cards span                             the most turns that a run takes
--   Demand cards span b l ts                          what is claimed of the turns
--   DayRows C                                         what the rows say of each day
--   Rows span introduced₀ lapses₀ lapses b rows ts    what is claimed of the rows that a run writes
use Rattle.std.specs.Prelude.{ℕ, suc, ◌+◌, ◌*◌, ◌≤◌, ◌<◌, Bool, true, false, not, ◌&&◌, cond, List, [], ◌∷◌, ◌≡◌, eqb, length}
use Rattle.turns.specs.Sums.{bit, sum_to}

pub data Kind (E : Type 0) : Type 0 where
  learn : E → Kind E
  review : Bool → E → Kind E  -- true: recalled
  put_off : Kind E
  retire : Kind E

pub record Turn (E : Type 0) : Type 0 where
  pub card : ℕ
  pub day : ℕ
  pub kind : Kind E

-- P of each turn with the turns before it
abbrev pub Each : {A : Type 0} → (A → List A → Type 0) → List A → Type 0
Each P [] = Unit {0}
Each P (t ∷ ts) = P t ts × Each P ts

-- P of each turn
abbrev pub All : {A : Type 0} → (A → Type 0) → List A → Type 0
All P [] = Unit {0}
All P (t ∷ ts) = P t × All P ts

-- how many turns pass the test p
abbrev pub count : {A : Type 0} → (A → Bool) → List A → ℕ
count p [] = 0
count p (t ∷ ts) = bit (p t) + count p ts

module _ {E : Type 0} where
  abbrev pub is_learn : Kind E → Bool
  is_learn (learn e) = true
  is_learn (review r e) = false
  is_learn put_off = false
  is_learn retire = false

  abbrev pub is_review : Kind E → Bool
  is_review (learn e) = false
  is_review (review r e) = true
  is_review put_off = false
  is_review retire = false

  abbrev pub is_event : Kind E → Bool
  is_event (learn e) = true
  is_event (review r e) = true
  is_event put_off = false
  is_event retire = false

  abbrev pub is_correct : Kind E → Bool
  is_correct (learn e) = false
  is_correct (review r e) = r
  is_correct put_off = false
  is_correct retire = false

  abbrev pub is_lapse : Kind E → Bool
  is_lapse (learn e) = false
  is_lapse (review r e) = not r
  is_lapse put_off = false
  is_lapse retire = false

  -- the turns of day d whose kind passes p
  abbrev pub on_day : (Kind E → Bool) → ℕ → List (Turn E) → ℕ
  on_day p d ts = count (λ t. p t.kind && eqb t.day d) ts

  abbrev pub learned_on : ℕ → List (Turn E) → ℕ
  learned_on = on_day is_learn

  abbrev pub reviewed_on : ℕ → List (Turn E) → ℕ
  reviewed_on = on_day is_review

  abbrev pub correct_on : ℕ → List (Turn E) → ℕ
  correct_on = on_day is_correct

  -- the events of card c on day d
  abbrev pub handled_on : ℕ → ℕ → List (Turn E) → ℕ
  handled_on c d ts = count (λ t. is_event t.kind && (eqb t.card c && eqb t.day d)) ts

-- How costs are added: the cost of no event, the sum of the day so far and one more, the cost of an event
pub record CostRule (E C : Type 0) : Type 0 where
  pub none : C
  pub plus : C → C → C
  pub cost : Turn E → C

-- the cost of day d: that of its events, added in their order
abbrev pub cost_on : {E C : Type 0} → CostRule E C → ℕ → List (Turn E) → C
cost_on b d [] = b.none
cost_on b d (t ∷ ts) =
    let before = cost_on b d ts in
    cond (is_event t.kind && eqb t.day d) (b.plus before (b.cost t)) before

-- The limits in force on each day: how many learnings, how many reviews, whether learnings count as reviews, which cost
-- is above the maximum
pub record Limits (C : Type 0) : Type 0 where
  pub learns : ℕ → ℕ
  pub reviews : ℕ → ℕ
  pub learns_count_as_reviews : ℕ → Bool
  pub is_over : ℕ → C → Bool

-- the most turns of a run of `cards` cards over `span` days: one of each card on each day, and one to retire it
abbrev pub turn_bound : ℕ → ℕ → ℕ
turn_bound cards span = cards * suc span

-- DEMAND 3, of the list of turns of a run of `cards` cards over `span` days
pub record Demand {E C : Type 0} (cards span : ℕ) (b : CostRule E C) (l : Limits C) (ts : List (Turn E)) : Type 0 where
  pub learned_within : (d : ℕ) → learned_on d ts ≤ l.learns d
  pub reviewed_within : (d : ℕ) → reviewed_on d ts ≤ l.reviews d
  pub both_within : (d : ℕ) → l.learns_count_as_reviews d ≡ true → learned_on d ts + reviewed_on d ts ≤ l.reviews d
  pub reviews_first : Each (λ t before. is_review t.kind ≡ true → learned_on t.day before ≡ 0) ts
  pub once : (c d : ℕ) → handled_on c d ts ≤ 1
  pub cost_within : Each (λ t before. is_event t.kind ≡ true → l.is_over t.day (cost_on b t.day before) ≡ false) ts
  pub in_span : All (λ t. is_event t.kind ≡ true → t.day < span) ts
  pub days_rise : Each (λ t before. All (λ u. u.day ≤ t.day) before) ts
  pub turns_within : length ts ≤ turn_bound cards span

-- what a run's rows say of each day
pub record DayRows (C : Type 0) : Type 0 where
  pub learned : ℕ → ℕ
  pub reviewed : ℕ → ℕ
  pub correct : ℕ → ℕ
  pub introduced : ℕ → ℕ
  pub cost : ℕ → C

-- and of the rows that the run writes: `introduced₀` cards had a last date at set-up, and all cards' lapses were
-- `lapses₀` at set-up and are `lapses` now
pub record Rows {E C : Type 0} (span introduced₀ lapses₀ lapses : ℕ) (b : CostRule E C) (rows : DayRows C)
    (ts : List (Turn E)) : Type 0 where
  pub learned_is : (d : ℕ) → d < span → rows.learned d ≡ learned_on d ts
  pub reviewed_is : (d : ℕ) → d < span → rows.reviewed d ≡ reviewed_on d ts
  pub correct_is : (d : ℕ) → d < span → rows.correct d ≡ correct_on d ts
  pub introduced_is : (d : ℕ) → d < span → rows.introduced d ≡ introduced₀ + sum_to (suc d) rows.learned
  pub cost_is : (d : ℕ) → d < span → rows.cost d ≡ cost_on b d ts
  pub lapses_are : sum_to span rows.reviewed + lapses₀ ≡ sum_to span rows.correct + lapses

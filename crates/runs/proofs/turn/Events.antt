-- Learnings and reviews are steps of the theory, and keep what the run's state keeps.
--   new_int                                a card with a day for its last date is not new
--   counts_long, own_lapses, else_lapses   the lapses after a card is written: the list's length, its own, the others'
--   step_learn, good_learn                 a learning is a step, and leaves a good state
--   step-review, good-review               a review is a step, and leaves a good state
use mathlib.Core.Path.{◌≡◌, refl, sym, ap, ◌∙◌, subst}
use mathlib.Core.Bool.{Bool, true, false, not, ◌&&◌, cond}
use mathlib.Core.List.{List, []}
use mathlib.Core.Logic.{◌≢◌}
use Prim.Native.Nat.{ℕ, suc, ◌+◌, ◌-◌, ◌≤◌, ◌<◌, min}
use native.Mathlib.Decide.{ℕ_discrete}
use native.Mathlib.Omega.{arith}
use lib.Dec.{ltb, eqb}
use lib.ListN.{get_or, length, length-set}
use lib.Seq.{get_or-set_same, get_or-set_other}
use lib.IntN.{pos}
use lib.Ieee.{Float, nan, inf, fin, binary32, add, of_int, round, eq}
use lib.Ieee.Exact.{HasValue}
use lib.Ieee.Back.{round_whole}
use Rattle.turns.specs.Sums.{bit, sum_to}
use Rattle.turns.specs.Turns.{Turn, learn, review}
use Rattle.turns.proofs.Sums.{sum_same, sum-at, sum-le, lt-step, and-le, bit_le}
use Rattle.turns.proofs.Demand.{Step}
use Rattle.cards.specs.declared.card.Card.{Card}
use Rattle.cards.specs.Day.{IntervalInRange, day_of, is_new}
use Rattle.cards.specs.Cards.{card_at, no_counts, write_floats, write_counts, counts_of, most_lapses}
use Rattle.turns.proofs.Logic.{get_d_any}
use Rattle.cards.proofs.Later.{day_later, day-bound}
use Rattle.days.specs.Counts.{saturating_suc, learned_at, reviewed_at, correct_at, introduced_at, add_learn, add_review}
use Rattle.days.specs.Counts.{add_introduced_from, add_event}
use Rattle.days.specs.Sums.{cost_at, add_cost}
use Rattle.days.proofs.Laws.{saturating_is, learn_long, learn_learned, learn_reviewed, learn_correct, learn_introduced}
use Rattle.days.proofs.Laws.{from-long, from_learned, from_reviewed, from_correct, from_introduced, review-long}
use Rattle.days.proofs.Laws.{review_learned, review_reviewed, review_introduced, review_correct, cost_long, cost_added}
use Rattle.days.specs.Due.{due_days, add_due}
use Rattle.days.proofs.Due.{add-long}
use Rattle.events.specs.declared.Memory.{Memory}
use Rattle.queue.specs.Queue.{front, front_changed}
use Rattle.queue.specs.Sound.{Keyed}
use Rattle.queue.proofs.Queued.{front-queued}
use Rattle.queue.proofs.Change.{change-queued}
use Rattle.queue.proofs.Keyed.{requeue}
use Rattle.intervals.specs.declared.Slot.{Slot}
use Rattle.intervals.specs.declared.Slot.TheVariants as slot
use Rattle.intervals.specs.Table.{Table, places, free_at, value_at}
use Rattle.intervals.specs.Schedule.{interval_of, entered}
use Rattle.intervals.proofs.Change.{enter-places, value_same, value_other, free_other}
use Rattle.events.specs.Drawn.{Drawn}
use Rattle.runs.specs.State.{State, card_in, key_of}
use Rattle.runs.specs.Turn.{card_after_event, turn_as, event_turn, after_event}
use Rattle.runs.specs.Turn.{first_at}
use Rattle.runs.specs.Rules.{Rules}
use Rattle.runs.specs.Invariant.{day_in, new_in, key_in, lapses_in, RunBounds, DueCounts, StateInvariant}
use Rattle.runs.proofs.turn.Views.{view, columns}
use Rattle.runs.proofs.turn.Due.{due_event}
use Rattle.runs.proofs.turn.Invariant.{write-long, else_key, else_day, else_new, own-day, own_new, own_key}
use Rattle.runs.proofs.turn.Invariant.{is_card, has_row, first-is}

-- a whole number is no minus infinity
new_of : (x : Float) (n : ℕ) → HasValue x false n 1 → is_new x ≡ false
unfolding is_new eq
new_of nan n v = absurd v
new_of (inf s) n v = absurd v
new_of (fin s m e) n v = refl

pub new_int : (n : ℕ) → n ≤ 16777216 → is_new (of_int binary32 (pos n)) ≡ false
unfolding of_int
new_int n h = new_of (round binary32 false n 1) n (round_whole binary32 false n h)

-- ---- lapses after a card is written
module _ (counts : List (List ℕ)) (c : ℕ) (k : Card) where
  pub counts_long : length (write_counts counts c k) ≡ length counts
  unfolding write_counts
  counts_long = length-set counts c (counts_of k)

  pub own_lapses : c < length counts → lapses_in (write_counts counts c k) c ≡ k.lapses
  unfolding write_counts
  own_lapses h = ap (λ (l : List ℕ). get_or l 1 0) (get_or-set_same counts c (counts_of k) [] h)

  pub else_lapses : (x : ℕ) → x ≢ c → lapses_in (write_counts counts c k) x ≡ lapses_in counts x
  unfolding write_counts
  else_lapses x ne = ap (λ (l : List ℕ). get_or l 1 0) (get_or-set_other counts c x (counts_of k) [] ne)

-- a fair interval entered leaves a table of fair intervals
fair_entered : (t : Table) (x : Slot) → IntervalInRange (interval_of x)
    → ((p : ℕ) → p < places t → free_at t p ≡ false → IntervalInRange (value_at t p))
    → (p : ℕ) → p < places (entered t x) → free_at (entered t x) p ≡ false → IntervalInRange (value_at (entered t x) p)
fair_entered t (slot.Keep v) f h p l e = h p l e
fair_entered t slot.Full f h p l e = h p l e
fair_entered t (slot.Enter q a b v) f h p l e = go (ℕ_discrete p q)
  where
    within : p < places t
    within = omega (arith, l, enter-places t q a b v)

    go : Dec (p ≡ q) → IntervalInRange (value_at (entered t (slot.Enter q a b v)) p)
    go (yes x) = rw x (rw (value_same t q a b v (omega (arith, within, x))) f)
    go (no x) = rw (value_other t q a b v p x) (h p within (sym (free_other t q a b v p x) ∙ e))

module _ {C : Type 0} (R : Rules C) (cards : ℕ) (fine : RunBounds R.span cards) (ts : List (Turn Drawn))
    (s : State C) (good : StateInvariant cards R.span s) (some : 0 < s.queue.len)
    (new : Bool) (x : Memory) (t : Slot) (fair : IntervalInRange (interval_of t))
    (h : day_of (card_in s (front s.queue)).due < R.span) where
  abbrev c : ℕ
  c = front s.queue

  abbrev fs : List (List Float)
  fs = s.cards

  abbrev rows : List (List ℕ)
  rows = s.days

  abbrev k : Card
  k = card_in s c

  abbrev d : ℕ
  d = day_of k.due

  abbrev k' : Card
  k' = card_after_event k new x d (interval_of t)

  abbrev fs' : List (List Float)
  fs' = write_floats fs c k'

  mine : c < cards
  mine = is_card R cards fine ts s good some

  row : c < length fs
  row = has_row R cards fine ts s good some

  due_day : day_in fs' c ≡ day_of (add binary32 (of_int binary32 (pos d)) (interval_of t))
  unfolding card_after_event
  due_day = own-day fs c k' row

  dated : new_in fs' c ≡ false
  unfolding card_after_event
  dated = own_new fs c k' row ∙ new_int d (omega (arith, h, fine.most))

  onward : d < day_in fs' c
  onward = rw due_day (day_later d (interval_of t) (omega (arith, h, fine.most)) fair.least)

  keyed' : Keyed cards (key_in fs') (front_changed s.queue (key_of k'))
  keyed' = requeue cards (key_in fs) s.queue good.order.keyed (key_in fs') (key_of k') some (else_key fs c k')
      (sym (own_key fs c k' row))

  near' : (i : ℕ) → i < cards → day_in fs' i < 2147483648
  near' i l = at (ℕ_discrete i c)
    where
      at : Dec (i ≡ c) → day_in fs' i < 2147483648
      at (yes q) = let b = day-bound d (interval_of t) (omega (arith, h, fine.most)) fair in rw q
          (rw due_day (omega arith))
      at (no q) = omega (arith, else_day fs c k' i q, good.order.near i l)

  abbrev none : C
  none = R.costs.none

  pays : (y : C) (i : ℕ) → i < R.span
      → cost_at none (add_cost none R.costs.plus s.costs d y) i
      ≡ cond (eqb d i) (R.costs.plus (cost_at none s.costs i) y) (cost_at none s.costs i)
  pays y i l = cost_added none R.costs.plus s.costs d y i (omega (arith, h, good.lengths.costs_long))

  -- what is drawn
  abbrev rs : Drawn
  rs = R.model.ratings R.draw k new d s.draws

  lapses_now : lapses_in (write_counts s.counts c k') c ≡ k'.lapses
  lapses_now = own_lapses s.counts c k' (omega (arith, mine, good.lengths.counts_long))

  lapses_then : k.lapses ≡ lapses_in s.counts c
  unfolding card_at
  lapses_then = ap (λ (l : List ℕ). get_or l 1 0)
      (get_d_any s.counts c no_counts [] (omega (arith, mine, good.lengths.counts_long)))

  -- a day's events are no more than the cards: each has put its card to a later day
  few_events : (i : ℕ) → i < R.span → learned_at rows i + reviewed_at rows i ≤ 65536
  few_events i l = omega (
    arith,
    good.counts.events i l,
    sum-le cards 1 (λ j. bit (ltb i (day_in fs j))) (λ j u. bit_le (ltb i (day_in fs j))),
    fine.few,
  )

  later_cards : (i : ℕ)
      → sum_to cards (λ j. bit (ltb i (day_in fs j))) + bit (eqb d i) ≤ sum_to cards (λ j. bit (ltb i (day_in fs' j)))
  unfolding card_at
  later_cards i = omega (
    arith,
    lt-step i d (day_in fs' c) onward,
    sum-at cards c (λ j. bit (ltb i (day_in fs j))) (λ j. bit (ltb i (day_in fs' j))) mine
        (λ j ne. ap (λ (y : ℕ). bit (ltb i y)) (else_day fs c k' j ne)),
  )

  -- the card is counted on its new day
  due_now : DueCounts cards R.span fs' (front_changed s.queue (key_of k'))
      (add_due R.span s.due (day_of k'.due))
  unfolding card_at
  due_now =
      subst (λ (z : ℕ). DueCounts cards R.span fs' (front_changed s.queue (key_of k'))
      (add_due R.span s.due z)) (own-day fs c k' row)
      (due_event cards R.span fs s.queue s.due good.due fs' (front_changed s.queue (key_of k')) c mine
      (else_day fs c k') (else_new fs c k')
      (λ i ne. change-queued s.queue (key_of k') good.order.keyed.sound.distinct i) fine.few
      good.lengths.due_long onward)

  due_long' : due_days R.span ≤ length (add_due R.span s.due (day_of k'.due))
  due_long' = omega (arith, good.lengths.due_long, add-long R.span s.due (day_of k'.due))

  -- a lapse a day at most
  lapses_then_few : k.lapses ≤ most_lapses + d
  unfolding card_at
  lapses_then_few = omega (arith, good.counts.lapses c mine, lapses_then)

  lapses_few : (n : ℕ) → n ≤ 1 → lapses_in (write_counts s.counts c k') c ≡ lapses_in s.counts c + n
      → (i : ℕ) → i < cards → lapses_in (write_counts s.counts c k') i ≤ most_lapses + min (day_in fs' i) R.span
  unfolding card_at
  lapses_few n few e i l = at (ℕ_discrete i c)
    where
      at : Dec (i ≡ c) → lapses_in (write_counts s.counts c k') i ≤ most_lapses + min (day_in fs' i) R.span
      at (yes q) = rw q (omega (arith, e, few, good.counts.lapses c mine, onward, h))
      at (no q) = omega (arith, good.counts.lapses i l, else_lapses s.counts c k' i q, else_day fs c k' i q)

  -- ---- A LEARNING
  module _ (en : new_in fs c ≡ true) (is : new ≡ true) (l-ok : learned_at rows d < R.limits.learns d)
      (b-ok : R.limits.learns_count_as_reviews d ≡ true → learned_at rows d + reviewed_at rows d < R.limits.reviews d)
      (c-ok : R.limits.is_over d (cost_at R.costs.none s.costs d) ≡ false) where
    abbrev rows' : List (List ℕ)
    rows' = add_introduced_from (add_learn rows d) (R.span - d) d

    learn_row : (i : ℕ) → learned_at rows' i ≡ learned_at rows i + bit (eqb d i)
    learn_row i = from_learned (add_learn rows d) (R.span - d) d i
        ∙ learn_learned rows d i (omega (arith, h, good.lengths.days_long)) (omega (arith, few_events d h))

    review_row : (i : ℕ) → reviewed_at rows' i ≡ reviewed_at rows i
    review_row i = from_reviewed (add_learn rows d) (R.span - d) d i ∙ learn_reviewed rows d i

    correct_row : (i : ℕ) → correct_at rows' i ≡ correct_at rows i
    correct_row i = from_correct (add_learn rows d) (R.span - d) d i ∙ learn_correct rows d i

    introduced_row : (i : ℕ) → i < R.span → introduced_at rows' i ≡ introduced_at rows i + bit (ltb d (suc i))
    introduced_row i l =
        from_introduced (R.span - d) d (add_learn rows d)
        (λ j u v. omega (
          arith,
          learn_introduced rows d j,
          good.counts.introduced j (omega (arith, h)),
          fine.few,
        )) (omega (arith, learn_long rows d, h, good.lengths.days_long)) i (omega (arith, h))
        ∙ ap (λ (n : ℕ). n + bit (ltb d (suc i))) (learn_introduced rows d i)

    same_lapses : lapses_in (write_counts s.counts c k') c ≡ lapses_in s.counts c
    unfolding card_after_event
    same_lapses = lapses_now ∙ rw is lapses_then

    pub step_learn : Step view (columns R.costs.none) R.costs R.limits cards R.span ts s
        (event_turn R s (first_at c k d) true x) (after_event R s (first_at c k d) true x t)
    unfolding after_event add_event card_at
    step_learn = rw (← is) (record {
      moves = record {
        is_card = mine;
        is_queued = front-queued s.queue some;
        is_day = refl;
        does = (en, dated, (h, onward));
        others = λ i ne. record {
          same-day = else_day fs c k' i ne;
          same_new = else_new fs c k' i ne;
          same-queued = change-queued s.queue (key_of k') good.order.keyed.sound.distinct i;
        };
      };
      least = first-is R cards fine ts s good some;
      writes = record {
        learns = λ i l. learn_row i;
        reviews = λ i l. omega (arith, review_row i);
        corrects = λ i l. omega (arith, correct_row i);
        introduces = introduced_row;
        lapse = omega (arith, same_lapses);
        other_lapses = else_lapses s.counts c k';
        pays = pays (R.costs.cost (turn_as (first_at c k d) (learn rs)));
      };
      tests = (l-ok, b-ok, c-ok);
    })

    fewer : sum_to cards (λ i. bit (new_in fs' i)) + 1 ≡ sum_to cards (λ i. bit (new_in fs i))
    fewer = omega (
      arith,
      sum-at cards c (λ i. bit (new_in fs i)) (λ i. bit (new_in fs' i)) mine (λ i ne. ap bit (else_new fs c k' i ne)),
      ap bit en,
      ap bit dated,
    )

    pub good_learn : StateInvariant cards R.span (after_event R s (first_at c k d) true x t)
    unfolding after_event add_event
    good_learn = rw (← is) (record {
      lengths = record {
        cards_long = omega (arith, good.lengths.cards_long, write-long fs c k');
        counts_long = omega (arith, good.lengths.counts_long, counts_long s.counts c k');
        days_long = omega (
          arith,
          good.lengths.days_long,
          from-long (add_learn rows d) (R.span - d) d,
          learn_long rows d,
        );
        costs_long = omega (
          arith,
          good.lengths.costs_long,
          cost_long none R.costs.plus s.costs d (R.costs.cost (turn_as (first_at c k d) (learn rs))),
        );
        due_long = due_long';
      };
      order = record {
        keyed = keyed';
        near = near';
      };
      table = fair_entered s.table t fair good.table;
      counts = record {
        recalls = λ i l. omega (arith, good.counts.recalls i l, review_row i, correct_row i);
        introduced = λ i l. omega
            (arith, good.counts.introduced i l, introduced_row i l, fewer, bit_le (ltb d (suc i)));
        events = λ i l. omega (arith, good.counts.events i l, learn_row i, review_row i, later_cards i);
        lapses = lapses_few 0 (omega arith) (omega (arith, same_lapses));
      };
      due = due_now;
    })

  -- ---- A REVIEW
  module _ (en : new_in fs c ≡ false) (is : new ≡ false) (r-ok : reviewed_at rows d < R.limits.reviews d)
      (c-ok : R.limits.is_over d (cost_at R.costs.none s.costs d) ≡ false) where
    abbrev rows'' : List (List ℕ)
    rows'' = add_review rows d x.recalled

    in_rows : d < length rows
    in_rows = omega (arith, h, good.lengths.days_long)

    reviewed_row : (i : ℕ) → reviewed_at rows'' i ≡ reviewed_at rows i + bit (eqb d i)
    reviewed_row i = review_reviewed rows d x.recalled i in_rows (omega (arith, few_events d h))

    recalled_row : (i : ℕ) → correct_at rows'' i ≡ correct_at rows i + bit (x.recalled && eqb d i)
    recalled_row i = review_correct rows d x.recalled i in_rows
        (omega (arith, good.counts.recalls d h, few_events d h))

    lapsed : (b : Bool) (n : ℕ) → n < 4294967295 → cond b n (saturating_suc n) ≡ n + bit (not b)
    lapsed true n l = omega arith
    lapsed false n l = saturating_is n l

    more_lapses : lapses_in (write_counts s.counts c k') c ≡ lapses_in s.counts c + bit (not x.recalled)
    unfolding card_after_event
    more_lapses = lapses_now
        ∙ rw is (lapsed x.recalled k.lapses (omega (arith, lapses_then_few, h, fine.most))
        ∙ ap (λ (n : ℕ). n + bit (not x.recalled)) lapses_then)

    pub step-review : Step view (columns R.costs.none) R.costs R.limits cards R.span ts s
        (event_turn R s (first_at c k d) false x) (after_event R s (first_at c k d) false x t)
    unfolding after_event add_event card_at
    step-review = rw (← is) (record {
      moves = record {
        is_card = mine;
        is_queued = front-queued s.queue some;
        is_day = refl;
        does = (en, dated, (h, onward));
        others = λ i ne. record {
          same-day = else_day fs c k' i ne;
          same_new = else_new fs c k' i ne;
          same-queued = change-queued s.queue (key_of k') good.order.keyed.sound.distinct i;
        };
      };
      least = first-is R cards fine ts s good some;
      writes = record {
        learns = λ i l. omega (arith, review_learned rows d x.recalled i);
        reviews = λ i l. reviewed_row i;
        corrects = λ i l. recalled_row i;
        introduces = λ i l. omega (arith, review_introduced rows d x.recalled i);
        lapse = more_lapses;
        other_lapses = else_lapses s.counts c k';
        pays = pays (R.costs.cost (turn_as (first_at c k d) (review x.recalled rs)));
      };
      tests = (r-ok, c-ok);
    })

    all_new : (i : ℕ) → new_in fs' i ≡ new_in fs i
    all_new i = at (ℕ_discrete i c)
      where
        at : Dec (i ≡ c) → new_in fs' i ≡ new_in fs i
        at (yes q) = rw q (dated ∙ sym en)
        at (no q) = else_new fs c k' i q

    pub good-review : StateInvariant cards R.span (after_event R s (first_at c k d) false x t)
    unfolding after_event add_event
    good-review = rw (← is) (record {
      lengths = record {
        cards_long = omega (arith, good.lengths.cards_long, write-long fs c k');
        counts_long = omega (arith, good.lengths.counts_long, counts_long s.counts c k');
        days_long = omega (arith, good.lengths.days_long, review-long rows d x.recalled);
        costs_long = omega (
          arith,
          good.lengths.costs_long,
          cost_long none R.costs.plus s.costs d (R.costs.cost (turn_as (first_at c k d) (review x.recalled rs))),
        );
        due_long = due_long';
      };
      order = record {
        keyed = keyed';
        near = near';
      };
      table = fair_entered s.table t fair good.table;
      counts = record {
        recalls = λ i l. omega
            (arith, good.counts.recalls i l, reviewed_row i, recalled_row i, and-le x.recalled (eqb d i));
        introduced = λ i l. omega (
          arith,
          good.counts.introduced i l,
          review_introduced rows d x.recalled i,
          sum_same cards (λ j. bit (new_in fs' j)) (λ j. bit (new_in fs j)) (λ j u. ap bit (all_new j)),
        );
        events = λ i l. omega
            (arith, good.counts.events i l, review_learned rows d x.recalled i, reviewed_row i, later_cards i);
        lapses = lapses_few (bit (not x.recalled)) (bit_le (not x.recalled)) more_lapses;
      };
      due = due_now;
    })

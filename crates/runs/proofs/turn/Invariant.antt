-- What the run's state keeps, and that putting off and retiring are steps of the theory and keep it.
--   write-long, write-own, write_else   the rows after a card is written: their number, its own, the others
--   else_key, else_day, else_new        the others' keys, days and newness stay
--   own-day, own_new, own_key           its own are those of the card written
--   is_card, has_row, first-is          the first card is one of the cards, has a row, and comes first by its day
--   in_span                             a card that is not retired has its day in the span
--   step-put, good-put                  a putting off is a step, and leaves a good state
--   step_retire, good_retire            a retiring is a step, and leaves a good state
use mathlib.Core.Path.{◌≡◌, refl, sym, ap, ◌∙◌}
use mathlib.Core.Bool.{Bool, true, false}
use mathlib.Core.List.{List}
use mathlib.Core.Logic.{◌≢◌}
use Prim.Native.Nat.{ℕ, ◌+◌, ◌-◌, ◌*◌, ◌^◌, ◌≤◌, ◌<◌, min}
use native.Mathlib.Decide.{ℕ_discrete}
use native.Mathlib.Omega.{arith}
use lib.Dec.{leb, ltb}
use lib.ListN.{get_or, length, length-set}
use lib.Seq.{get_or-set_same, get_or-set_other}
use lib.IntN.{pos}
use lib.Ieee.{Float, binary32, of_int, of_bits, le}
use Rattle.turns.specs.Sums.{bit}
use Rattle.turns.specs.Turns.{Turn, Kind, put_off, retire}
use Rattle.turns.proofs.Sums.{sum_same, sum-at, lt-step}
use Rattle.turns.proofs.Demand.{Step}
use Rattle.cards.specs.declared.card.Card.{Card}
use Rattle.cards.specs.Day.{day_of, is_new, next_due}
use Rattle.cards.specs.Cards.{no_floats, card_at, floats_of, write_floats, most_lapses}
use Rattle.cards.specs.Choices.{retires}
use Rattle.cards.proofs.Later.{day_later, day-next, day_in-span, day-bound, one_in_range}
use Rattle.days.proofs.Due.{move_long}
use Rattle.queue.specs.Key.{card_priority, priority_of}
use Rattle.queue.specs.Queue.{front, front_changed, popped}
use Rattle.queue.specs.Sound.{queued}
use Rattle.queue.proofs.Keys.{packed-day, priority_in}
use Rattle.queue.proofs.Queued.{front-queued}
use Rattle.queue.proofs.Change.{change-queued}
use Rattle.queue.proofs.Pop.{pop_other, pop-front}
use Rattle.queue.proofs.Keyed.{keyed_least, queued-named, requeue, unqueue}
use Rattle.events.specs.Drawn.{Drawn}
use Rattle.runs.specs.State.{State, card_in, key_of}
use Rattle.runs.specs.Turn.{card_after_put_off, after_put_off, after_retire, turn_as}
use Rattle.runs.specs.Turn.{first_at}
use Rattle.runs.specs.Rules.{Rules}
use Rattle.runs.specs.Invariant.{difficulty_in, day_in, new_in, key_in, RunBounds, StateInvariant}
use Rattle.runs.proofs.turn.Views.{view, columns}
use Rattle.runs.proofs.turn.Due.{due_put, due_retire}
use Rattle.turns.proofs.Logic.{or_left}

-- keys in order put places in order
key-place : (d d' : ℕ) (n n' : Bool) (x x' : Float) → d < 2147483648 → d' < 2147483648
    → card_priority d n x ≤ card_priority d' n' x' → 2 * d + bit n ≤ 2 * d' + bit n'
unfolding card_priority
key-place d d' n n' x x' h h' l =
    let e : min d (2 ^ 31 - 1) ≡ d = omega arith in
    let e' : min d' (2 ^ 31 - 1) ≡ d' = omega arith in
    let p = packed-day (min d (2 ^ 31 - 1)) (min d' (2 ^ 31 - 1)) n n' (priority_of x) (priority_of x') (priority_in x)
    (priority_in x') l in
    omega (arith, p, e, e')

-- ---- rows of cards after one is written
module _ (cards : List (List Float)) (c : ℕ) (k : Card) where
  pub write-long : length (write_floats cards c k) ≡ length cards
  unfolding write_floats
  write-long = length-set cards c (floats_of k)

  pub write-own : c < length cards → get_or (write_floats cards c k) c no_floats ≡ floats_of k
  unfolding write_floats
  write-own h = get_or-set_same cards c (floats_of k) no_floats h

  pub write_else : (x : ℕ) → x ≢ c → get_or (write_floats cards c k) x no_floats ≡ get_or cards x no_floats
  unfolding write_floats
  write_else x ne = get_or-set_other cards c x (floats_of k) no_floats ne

  pub else_key : (x : ℕ) → x ≢ c → key_in (write_floats cards c k) x ≡ key_in cards x
  else_key x ne = rw (write_else x ne)

  pub else_day : (x : ℕ) → x ≢ c → day_in (write_floats cards c k) x ≡ day_in cards x
  else_day x ne = rw (write_else x ne)

  pub else_new : (x : ℕ) → x ≢ c → new_in (write_floats cards c k) x ≡ new_in cards x
  else_new x ne = rw (write_else x ne)

  pub own-day : c < length cards → day_in (write_floats cards c k) c ≡ day_of k.due
  own-day h = rw (write-own h)

  pub own_new : c < length cards → new_in (write_floats cards c k) c ≡ is_new k.last_date
  own_new h = rw (write-own h)

  pub own_key : c < length cards → key_in (write_floats cards c k) c ≡ key_of k
  own_key h = rw (write-own h)

module _ {C : Type 0} (R : Rules C) (cards : ℕ) (fine : RunBounds R.span cards) (ts : List (Turn Drawn))
    (s : State C) (good : StateInvariant cards R.span s) (some : 0 < s.queue.len) where
  abbrev c : ℕ
  c = front s.queue

  abbrev fs : List (List Float)
  fs = s.cards

  abbrev k : Card
  k = card_in s c

  abbrev d : ℕ
  d = day_of k.due

  abbrev StepTo : Kind Drawn → State C → Type 0
  StepTo kind s' = Step view (columns R.costs.none) R.costs R.limits cards R.span ts s (turn_as (first_at c k d) kind) s'

  pub is_card : c < cards
  is_card = good.order.keyed.named 0 some

  pub has_row : c < length fs
  has_row = omega (arith, is_card, good.lengths.cards_long)

  pub first-is : (x : ℕ) → view.queued s x ≡ true
      → 2 * day_in fs c + bit (new_in fs c) ≤ 2 * day_in fs x + bit (new_in fs x)
  first-is x q =
      key-place (day_in fs c) (day_in fs x) (new_in fs c) (new_in fs x) (difficulty_in fs c) (difficulty_in fs x)
      (good.order.near c is_card) (good.order.near x (queued-card x q))
      (keyed_least cards (key_in fs) s.queue good.order.keyed some x q)
    where
      queued-card : (x : ℕ) → queued s.queue x ≡ true → x < cards
      queued-card = queued-named cards (key_in fs) s.queue good.order.keyed

  pub in_span : retires R.span R.lapse_limit k ≡ false → d < R.span
  unfolding retires
  in_span e = day_in-span R.span k.due fine.some fine.most
      (or_left (le (of_int binary32 (pos R.span)) k.due) (leb R.lapse_limit k.lapses) e)

  -- ---- PUTTING OFF
  abbrev k' : Card
  k' = card_after_put_off k d

  abbrev fs' : List (List Float)
  fs' = write_floats fs c k'

  put_own_day : day_in fs' c ≡ day_of (next_due d)
  unfolding card_after_put_off
  put_own_day = own-day fs c k' has_row

  put_own_new : new_in fs' c ≡ new_in fs c
  unfolding card_after_put_off card_at
  put_own_new = own_new fs c k' has_row

  put-new : (x : ℕ) → new_in fs' x ≡ new_in fs x
  put-new x = at (ℕ_discrete x c)
    where
      at : Dec (x ≡ c) → new_in fs' x ≡ new_in fs x
      at (yes e) = rw e put_own_new
      at (no e) = else_new fs c k' x e

  pub step-put : retires R.span R.lapse_limit k ≡ false → StepTo put_off (after_put_off R s (first_at c k d))
  unfolding after_put_off card_at
  step-put e =
      let h : d < R.span = in_span e in
      record {
        moves = record {
          is_card = is_card;
          is_queued = front-queued s.queue some;
          is_day = refl;
          does = (
            put-new c,
            (
              h,
              rw put_own_day (day_later d (of_bits binary32 0x3F80_0000) (omega (arith, fine.most))
                  one_in_range.least),
            ),
          );
          others = λ x ne. record {
            same-day = else_day fs c k' x ne;
            same_new = put-new x;
            same-queued = change-queued s.queue (key_of k') good.order.keyed.sound.distinct x;
          };
        };
        least = first-is;
        writes = record {
          learns = λ i l. omega arith;
          reviews = λ i l. omega arith;
          corrects = λ i l. omega arith;
          introduces = λ i l. omega arith;
          lapse = omega arith;
          other_lapses = λ x ne. refl;
          pays = λ i l. refl;
        };
        tests = tt;
      }

  pub good-put : retires R.span R.lapse_limit k ≡ false → StateInvariant cards R.span (after_put_off R s (first_at c k d))
  unfolding after_put_off card_at
  good-put e = record {
    lengths = record {
      cards_long = omega (arith, good.lengths.cards_long, write-long fs c k');
      counts_long = good.lengths.counts_long;
      days_long = good.lengths.days_long;
      costs_long = good.lengths.costs_long;
      due_long = omega (arith, good.lengths.due_long, move_long R.span s.due (is_new k.last_date) d);
    };
    order = record {
      keyed = requeue cards (key_in fs) s.queue good.order.keyed (key_in fs') (key_of k') some (else_key fs c k')
          (sym (own_key fs c k' has_row));
      near = λ x l. at x l (ℕ_discrete x c);
    };
    table = good.table;
    counts = record {
      recalls = good.counts.recalls;
      introduced = λ i l. omega (
        arith,
        good.counts.introduced i l,
        sum_same cards (λ x. bit (new_in fs' x)) (λ x. bit (new_in fs x)) (λ x u. ap bit (put-new x)),
      );
      events = λ i l. omega (
        arith,
        good.counts.events i l,
        lt-step i d (day_in fs' c) later,
        sum-at cards c (λ x. bit (ltb i (day_in fs x))) (λ x. bit (ltb i (day_in fs' x))) is_card
            (λ x ne. ap (λ (y : ℕ). bit (ltb i y)) (else_day fs c k' x ne)),
      );
      lapses = λ x l. few x l (ℕ_discrete x c);
    };
    due = due_put cards R.span fs s.queue s.due good.due fs' (front_changed s.queue (key_of k')) c is_card
        (else_day fs c k') (λ x ne. put-new x)
        (λ x ne. change-queued s.queue (key_of k') good.order.keyed.sound.distinct x) fine.few
        good.lengths.due_long
        (front-queued s.queue some) (put-new c) (omega (arith, in_span e))
        (put_own_day ∙ day-next d (omega (arith, in_span e, fine.most)) ∙ omega arith);
  }
    where
      later : d < day_in fs' c
      later = rw put_own_day
          (day_later d (of_bits binary32 0x3F80_0000) (omega (arith, in_span e, fine.most)) one_in_range.least)

      few : (x : ℕ) → x < cards → Dec (x ≡ c)
          → (columns R.costs.none).lapses s x ≤ most_lapses + min (day_in fs' x) R.span
      few x l (yes q) = omega (arith, good.counts.lapses x l, later, ap (day_in fs) q, ap (day_in fs') q)
      few x l (no q) = omega (arith, good.counts.lapses x l, else_day fs c k' x q)

      at : (x : ℕ) → x < cards → Dec (x ≡ c) → day_in fs' x < 2147483648
      at x l (yes q) = let b = day-bound d (of_bits binary32 0x3F80_0000)
          (omega (arith, in_span e, fine.most)) one_in_range in rw (q, put_own_day) (omega arith)
      at x l (no q) = omega (arith, else_day fs c k' x q, good.order.near x l)

  -- ---- RETIRING
  pub step_retire : StepTo retire (after_retire R s (first_at c k d))
  unfolding after_retire card_at
  step_retire = record {
    moves = record {
      is_card = is_card;
      is_queued = front-queued s.queue some;
      is_day = refl;
      does = (refl, pop-front s.queue good.order.keyed.sound.distinct);
      others = λ x ne. record {
        same-day = refl;
        same_new = refl;
        same-queued = pop_other s.queue good.order.keyed.sound.distinct x ne;
      };
    };
    least = first-is;
    writes = record {
      learns = λ i l. omega arith;
      reviews = λ i l. omega arith;
      corrects = λ i l. omega arith;
      introduces = λ i l. omega arith;
      lapse = omega arith;
      other_lapses = λ x ne. refl;
      pays = λ i l. refl;
    };
    tests = tt;
  }

  pub good_retire : StateInvariant cards R.span (after_retire R s (first_at c k d))
  unfolding after_retire
  good_retire = record {
    lengths = record {
      cards_long = good.lengths.cards_long;
      counts_long = good.lengths.counts_long;
      days_long = good.lengths.days_long;
      costs_long = good.lengths.costs_long;
      due_long = good.lengths.due_long;
    };
    order = record {
      keyed = unqueue cards (key_in fs) s.queue good.order.keyed;
      near = good.order.near;
    };
    table = good.table;
    counts = record {
      recalls = good.counts.recalls;
      introduced = good.counts.introduced;
      events = good.counts.events;
      lapses = good.counts.lapses;
    };
    due = due_retire cards R.span fs s.queue s.due good.due fs (popped s.queue) c is_card (λ x ne. refl)
        (λ x ne. refl)
        (pop_other s.queue good.order.keyed.sound.distinct) refl (pop-front s.queue good.order.keyed.sound.distinct);
  }

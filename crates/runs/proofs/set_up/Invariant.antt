-- Set-up: the cards join the run one by one; then the state is as the theory of turns starts from, and good.
--   filled-long, filled_at                        a list with its first places filled: its length, and those places
--   Joining rows cards-len counts-len dated n s   the deck after n cards have joined, so many of them with a last date
--   join                                          one more card joins
--   Came b i s ok dated most s'                   a deck of so many cards at most, with its counts of due cards
--   set_up_few                                    a run has no more cards than its deck size
--   set_up_start                                  its rows are as set up
--   set_up_good                                   its state is good
use mathlib.Core.Path.{◌≡◌, refl, sym, ap, ◌∙◌, subst}
use mathlib.Core.Bool.{Bool, true, false, not, ◌&&◌, cond, true≢false}
use mathlib.Core.List.{List, []}
use Prim.Native.Nat.{ℕ, zero, suc, ◌+◌, ◌-◌, ◌/◌, ◌≤◌, ◌<◌}
use native.Mathlib.Decide.{ℕ_discrete}
use native.Mathlib.Nat.{div-le_self}
use native.Mathlib.Omega.{arith}
use borrow.Author.Tests.{leb-true}
use lib.Dec.{T, eqb, leb}
use lib.ListN.{length, get_or, set, replicate, length-set, length-replicate, get_or-replicate}
use lib.Seq.{get_or-set_same, get_or-set_other}
use lib.IntN.{pos}
use lib.Ieee.{Float, nan, inf, fin, of_bits, of_fields, binary32, of_int, round, neg, le, lt, eq, is_nan, to_unsigned}
use lib.Ieee.Exact.{HasValue}
use lib.Ieee.Back.{round_whole}
use Rattle.float32.specs.Float32.{is_finite}
use Rattle.float32.proofs.Cmp as cmp
use Rattle.float32.proofs.Limits.{le_refl}
use Rattle.turns.specs.Sums.{bit, sum_to}
use Rattle.turns.proofs.Sums.{sum_same}
use Rattle.turns.specs.Turns.{CostRule}
use Rattle.turns.proofs.Columns.{SetUp}
use Rattle.cards.specs.declared.card.Card.{Card}
use Rattle.cards.specs.Day.{day_of, is_new}
use Rattle.cards.specs.Cards.{card_at, write_floats, write_counts, is_kept, farthest, most_lapses, date_ok, history_ok, card_ok}
use Rattle.cards.proofs.Later.{day_cut, whole_le}
use Rattle.days.specs.Due.{due_days}
use Rattle.queue.specs.Queue.{pushed}
use Rattle.queue.specs.Sound.{Keyed}
use Rattle.queue.proofs.Filled.{Filled, fill_none, fill_same, fill_next}
use Rattle.intervals.specs.Table.{Table, places, free_at, clear_in}
use Rattle.events.specs.Drawn.{Drawn}
use Rattle.runs.specs.State.{State}
use Rattle.entry.specs.Entry.{Inputs}
use Rattle.runs.specs.SetUp.{Deck, new_card, add_card, add_kept_card, add_existing_card, add_existing_cards, introduced_before, add_new_cards, new_card_count, empty_deck, add_all_cards, first_day_counts, set_up, filled_with}
use Rattle.runs.specs.Invariant.{day_in, new_in, key_in, lapses_in, DueCounts, StateInvariant}
use Rattle.runs.proofs.turn.Views.{columns}
use Rattle.runs.proofs.turn.Invariant.{write-long, else_key, else_day, else_new, own-day, own_new, own_key}
use Rattle.runs.proofs.turn.Events.{counts_long, own_lapses, else_lapses}
use Rattle.runs.proofs.set_up.Due.{due_new, due_kept, kept-long}
use Rattle.runs.proofs.Accepted.{Accepted}
use Rattle.turns.proofs.Logic.{both}

-- ---- a list with its first places filled
pub filled-long : {A : Type 0} (x : A) (n : ℕ) (l : List A) → length (filled_with x n l) ≡ length l
unfolding filled_with
filled-long x zero l = refl
filled-long x (suc n) l = length-set (filled_with x n l) n x ∙ filled-long x n l

pub filled_at : {A : Type 0} (x d : A) (n : ℕ) (l : List A) (i : ℕ) → i < n → n ≤ length l → get_or (filled_with x n l) i d ≡ x
unfolding filled_with
filled_at x d zero l i h u = absurd (omega arith)
filled_at x d (suc n) l i h u = go (ℕ_discrete i n) (filled_at x d n l i)
  where
    go : Dec (i ≡ n) → (i < n → n ≤ length l → get_or (filled_with x n l) i d ≡ x) → get_or (set (filled_with x n l) n x) i d ≡ x
    go (yes e) ih = rw e (get_or-set_same (filled_with x n l) n x d (omega (arith, filled-long x n l)))
    go (no e) ih = get_or-set_other (filled_with x n l) n i x d e ∙ ih (omega (arith, e)) (omega arith)

-- ---- the days of cards at set-up
number : (x : Float) (n : ℕ) → HasValue x false n 1 → is_nan x ≡ false
unfolding is_nan
number nan n v = absurd v
number (inf s) n v = absurd v
number (fin s m e) n v = refl

day_int : (n : ℕ) → n ≤ 65536 → day_of (of_int binary32 (pos n)) ≤ n
unfolding of_int
day_int n h =
    let v : HasValue (round binary32 false n 1) false n 1 = round_whole binary32 false n (omega arith) in
    let t : T (le (round binary32 false n 1) (round binary32 false n 1)) = le_refl (round binary32 false n 1)
    (number (round binary32 false n 1) n v) in
    rw (day_cut (round binary32 false n 1)) (whole_le 32 n (round binary32 false n 1) (round binary32 false n 1) v t)

farthest-value : HasValue farthest false 16777216 1
unfolding round
farthest-value = (refl, refl)

day-kept : (k : Card) → card_ok k ≡ true → day_of k.due < 2147483648
unfolding card_ok
day-kept k e =
    let rest : Bool = history_ok k && leb k.lapses most_lapses in
    let a = both (is_finite k.stability) (is_finite k.desired_retention && (date_ok k.due && rest)) e in
    let b = both (is_finite k.desired_retention) (date_ok k.due && rest) a.1 in
    let c = both (date_ok k.due) rest b.1 in
    let d = both (le (neg farthest) k.due) (le k.due farthest) c.0 in
    let u : to_unsigned 32 k.due ≤ 16777216 =
    whole_le 32 16777216 farthest k.due farthest-value (cmp.yes d.1) in
    rw (day_cut k.due) (omega (arith, u))

lapses_kept : (k : Card) → card_ok k ≡ true → k.lapses ≤ most_lapses
unfolding card_ok
lapses_kept k e =
    let rest : Bool = history_ok k && leb k.lapses most_lapses in
    let a = both (is_finite k.stability) (is_finite k.desired_retention && (date_ok k.due && rest)) e in
    let b = both (is_finite k.desired_retention) (date_ok k.due && rest) a.1 in
    let c = both (date_ok k.due) rest b.1 in
    leb-true k.lapses most_lapses (both (history_ok k) (leb k.lapses most_lapses) c.1).1

-- ---- n cards have joined, `dated` of them with a last date; the lists are as long as they were
pub record Joining (rows : List (List ℕ)) (cards-len counts-len dated n : ℕ) (s : Deck) : Type 0 where
  pub cards_are : length s.cards ≡ cards-len
  pub counts_are : length s.counts ≡ counts-len
  pub fill : Filled (key_in s.cards) rows n s.queue
  pub near : (c : ℕ) → c < n → day_in s.cards c < 2147483648
  pub news : dated + sum_to n (λ c. bit (new_in s.cards c)) ≡ n
  pub lapses : (c : ℕ) → c < n → lapses_in s.counts c ≤ most_lapses

either : (b : Bool) → bit (not b) + bit b ≡ 1
either true = refl
either false = refl

module _ (rows : List (List ℕ)) (lc ln : ℕ) where
  -- the cards that have joined are the queue's
  at_length : (dated n : ℕ) (s : Deck) → Joining rows lc ln dated n s → Joining rows lc ln dated s.queue.len s
  at_length dated n s j = subst (λ (z : ℕ). Joining rows lc ln dated z s) (sym j.fill.count) j

  join_here : (dated : ℕ) (s : Deck) (k : Card) → Joining rows lc ln dated s.queue.len s → s.queue.len < lc
      → s.queue.len < ln → s.queue.len < length rows → s.queue.len < 65536 → day_of k.due < 2147483648
      → k.lapses ≤ most_lapses
      → Joining rows lc ln (dated + bit (not (is_new k.last_date))) (suc s.queue.len) (add_card s k)
  unfolding add_card
  join_here dated s k j h hn r few near most = record {
    cards_are = write-long s.cards n k ∙ j.cards_are;
    counts_are = counts_long s.counts n k ∙ j.counts_are;
    fill = subst (λ (key : ℕ). Filled (key_in cs') rows (suc n) (pushed s.queue n key)) (own_key s.cards n k row)
        (fill_next (key_in cs') rows n s.queue r (omega arith)
        (fill_same (key_in s.cards) (key_in cs') rows n s.queue
        (λ c l. sym (else_key s.cards n k c (omega arith))) j.fill));
    near = λ c l. at c l (ℕ_discrete c n);
    news = omega (
      arith,
      j.news,
      either (is_new k.last_date),
      ap bit (own_new s.cards n k row),
      sum_same n (λ c. bit (new_in cs' c)) (λ c. bit (new_in s.cards c))
          (λ c l. ap bit (else_new s.cards n k c (omega arith))),
    );
    lapses = λ c l. lapsed c l (ℕ_discrete c n);
  }
    where
      n : ℕ
      n = s.queue.len

      cs' : List (List Float)
      cs' = write_floats s.cards n k

      row : n < length s.cards
      row = omega (arith, j.cards_are)

      at : (c : ℕ) → c < suc n → Dec (c ≡ n) → day_in cs' c < 2147483648
      at c l (yes e) = rw (e, own-day s.cards n k row) near
      at c l (no e) = omega (arith, else_day s.cards n k c e, j.near c (omega arith))

      lapsed : (c : ℕ) → c < suc n → Dec (c ≡ n) → lapses_in (write_counts s.counts n k) c ≤ most_lapses
      lapsed c l (yes e) = rw (e, own_lapses s.counts n k (omega (arith, j.counts_are))) most
      lapsed c l (no e) = omega (arith, else_lapses s.counts n k c e, j.lapses c (omega arith))

  pub join : (dated n : ℕ) (s : Deck) (k : Card) → Joining rows lc ln dated n s → n < lc → n < ln → n < length rows
      → n < 65536 → day_of k.due < 2147483648 → k.lapses ≤ most_lapses
      → Joining rows lc ln (dated + bit (not (is_new k.last_date))) (suc n) (add_card s k)
  join dated n s k j h hn r few near most =
      let e : s.queue.len ≡ n = j.fill.count in
      subst (λ (z : ℕ). Joining rows lc ln (dated + bit (not (is_new k.last_date))) (suc z) (add_card s k)) e
      (join_here dated s k (at_length dated n s j) (omega arith) (omega arith) (omega arith) (omega arith) near most)

-- ---- the existing cards
module _ {C : Type 0} (b : CostRule Drawn C) (i : Inputs) (s : State C) (ok : Accepted i s) where
  abbrev rows : List (List ℕ)
  rows = s.queue.rows

  abbrev es : List (List Float)
  es = i.existing

  abbrev ns : List (List ℕ)
  ns = i.existing_counts

  abbrev span : ℕ
  span = i.settings.config.learn_span

  abbrev deck : ℕ
  deck = i.settings.config.deck_size

  -- so many have joined, and the state is as they left it
  pub record Came (dated most : ℕ) (s' : Deck) : Type 0 where
    pub cards : ℕ
    pub few : cards ≤ most
    pub joining : Joining rows (length s.cards) (length s.counts) dated cards s'
    pub due_long : due_days span ≤ length s'.due
    pub due : DueCounts s'.queue.len span s'.cards s'.queue s'.due

  none : Came 0 0 (empty_deck i s)
  unfolding empty_deck
  none = record {
    cards = 0;
    few = omega arith;
    joining = record {
      cards_are = refl;
      counts_are = refl;
      fill = fill_none (key_in s.cards) rows;
      near = λ c l. absurd (omega arith);
      news = refl;
      lapses = λ c l. absurd (omega arith);
    };
    due_long = omega (arith, ok.due_long, filled-long 0 (due_days span) s.due);
    due = record {
      least = λ d h. omega arith;
      most = λ d h. omega (arith, filled_at 0 0 (due_days span) s.due d h ok.due_long);
    };
  }

  retained_same : (dated n : ℕ) (s' : Deck) (k : Card)
      → Joining rows (length s.cards) (length s.counts) dated n (add_card s' k)
      → Joining rows (length s.cards) (length s.counts) dated n (add_kept_card span s' k)
  unfolding add_kept_card
  retained_same dated n s' k j = record {
    cards_are = j.cards_are;
    counts_are = j.counts_are;
    fill = j.fill;
    near = j.near;
    news = j.news;
    lapses = j.lapses;
  }

  retains : (n : ℕ) → n ≤ length es → Came (introduced_before es ns n) n (add_existing_cards span es ns n (empty_deck i s))
  unfolding add_existing_cards add_existing_card introduced_before
  retains zero h = none
  retains (suc n) h = go (is_kept k) refl (retains n (omega arith))
    where
      k : Card
      k = card_at es ns n

      before : Deck
      before = add_existing_cards span es ns n (empty_deck i s)

      go : (b : Bool) → is_kept k ≡ b → Came (introduced_before es ns n) n before
          → Came (introduced_before es ns n + bit (b && not (is_new k.last_date))) (suc n)
          (cond b (add_kept_card span before k) before)
      go true e c =
          let l : c.cards < deck = omega (arith, c.few, ok.existing_few) in
          let fine = ok.cards_ok n (omega arith) e in
          let j =
          join rows (length s.cards) (length s.counts) (introduced_before es ns n) c.cards before k
          c.joining (omega (arith, ok.cards_long)) (omega (arith, ok.counts_long))
          (omega (arith, ok.queue_long)) (omega (arith, ok.deck_most)) (day-kept k fine) (lapses_kept k fine) in
          let row : c.cards < length before.cards = omega (arith, ok.cards_long, c.joining.cards_are) in
          record {
            cards = suc c.cards;
            few = omega (arith, c.few);
            joining = retained_same (introduced_before es ns n + bit (not (is_new k.last_date)))
                (suc c.cards) before k j;
            due_long = kept-long span before k c.due_long;
            due = due_kept span before k c.cards c.joining.fill j.fill row c.due
                (omega (arith, ok.deck_most, c.joining.fill.count)) c.due_long;
          }
      go false e c = record {
        cards = c.cards;
        few = omega (arith, c.few);
        joining = subst (λ (z : ℕ). Joining rows (length s.cards) (length s.counts) z c.cards before)
            (let z : introduced_before es ns n ≡ introduced_before es ns n + 0 = omega arith in z) c.joining;
        due_long = c.due_long;
        due = c.due;
      }

  -- ---- the new ones
  abbrev kept : Deck
  kept = add_existing_cards span es ns (length es) (empty_deck i s)

  all_kept : Came (introduced_before es ns (length es)) (length es) kept
  all_kept = retains (length es) (omega arith)

  new_day : (n : ℕ) → n < 65536 → day_of (new_card i.settings.retention i.settings.config.learn_limit n).due < 2147483648
  unfolding new_card
  new_day n h = let l = div-le_self n i.settings.config.learn_limit in omega
      (arith, l, day_int (n / i.settings.config.learn_limit) (omega (arith, l)))

  new_lapses : (n : ℕ) → (new_card i.settings.retention i.settings.config.learn_limit n).lapses ≤ most_lapses
  unfolding new_card
  new_lapses n = omega arith

  new_new : (n : ℕ) → is_new (new_card i.settings.retention i.settings.config.learn_limit n).last_date ≡ true
  unfolding new_card is_new eq
  new_new n = refl

  creates : (n : ℕ) → all_kept.cards + n ≤ deck
      → Came (introduced_before es ns (length es)) (all_kept.cards + n)
      (add_new_cards i.settings.retention i.settings.config.learn_limit n kept)
  unfolding add_new_cards
  creates zero h = record {
    cards = all_kept.cards;
    few = omega arith;
    joining = all_kept.joining;
    due_long = all_kept.due_long;
    due = all_kept.due;
  }
  creates (suc n) h = go (creates n (omega arith))
    where
      before : Deck
      before = add_new_cards i.settings.retention i.settings.config.learn_limit n kept

      k : Card
      k = new_card i.settings.retention i.settings.config.learn_limit n

      go : Came (introduced_before es ns (length es)) (all_kept.cards + n) before
          → Came (introduced_before es ns (length es)) (all_kept.cards + suc n) (add_card before k)
      go c =
          let l : c.cards < deck = omega (arith, c.few, h) in
          let j =
          join rows (length s.cards) (length s.counts) (introduced_before es ns (length es)) c.cards before k
          c.joining (omega (arith, ok.cards_long)) (omega (arith, ok.counts_long))
          (omega (arith, ok.queue_long)) (omega (arith, ok.deck_most)) (new_day n (omega (arith, h, ok.deck_most)))
          (new_lapses n) in
          let row : c.cards < length before.cards = omega (arith, ok.cards_long, c.joining.cards_are) in
          let as_many : introduced_before es ns (length es) + bit (not (is_new k.last_date))
          ≡ introduced_before es ns (length es) = omega (arith, ap (λ (b : Bool). bit (not b)) (new_new n)) in
          record {
            cards = suc c.cards;
            few = omega (arith, c.few);
            joining = subst (λ (z : ℕ). Joining rows (length s.cards) (length s.counts) z (suc c.cards)
                (add_card before k)) as_many j;
            due_long = unfold add_card in c.due_long;
            due = due_new span before k c.cards c.joining.fill j.fill row c.due (new_new n);
          }

  -- ---- the whole set-up
  room : all_kept.cards + new_card_count i.settings.config kept.queue.len ≤ deck
  unfolding new_card_count
  room = go (eqb i.settings.config.learn_limit 0)
    where
      go : (b : Bool) → all_kept.cards + cond b 0 (deck - kept.queue.len) ≤ deck
      go true = omega (arith, all_kept.few, ok.existing_few)
      go false = omega (arith, all_kept.few, ok.existing_few, all_kept.joining.fill.count)

  abbrev s₁ : Deck
  s₁ = add_all_cards i (empty_deck i s)

  all_joined : Came (introduced_before es ns (length es)) deck s₁
  unfolding add_all_cards
  all_joined =
      let c = creates (new_card_count i.settings.config kept.queue.len) room in
      record {
        cards = c.cards;
        few = omega (arith, c.few, room);
        joining = c.joining;
        due_long = c.due_long;
        due = c.due;
      }

  len_is : s₁.queue.len ≡ all_joined.cards
  len_is = all_joined.joining.fill.count

  row_at : (d : ℕ) → d < span → get_or (filled_with (first_day_counts i) span s.days) d [] ≡ first_day_counts i
  row_at d h = filled_at (first_day_counts i) [] span s.days d h ok.days_long

  costs_at : (d : ℕ) → d < span → get_or (filled_with b.none span s.costs) d b.none ≡ b.none
  costs_at d h = filled_at b.none b.none span s.costs d h ok.costs_long

  -- every place of the emptied table is free
  all_free : (t : Table) (p : ℕ) → p < places (clear_in t) → free_at (clear_in t) p ≡ true
  unfolding lt of_bits of_fields
  all_free t p h =
      let e : get_or (replicate (length t.intervals) (of_bits binary32 0)) p nan ≡ of_bits binary32 0 =
      get_or-replicate (length t.intervals) p (of_bits binary32 0) nan
      (omega (arith, h, length-replicate (length t.intervals) (of_bits binary32 0))) in
      rw e

  pub set_up_few : (set_up b.none i s).queue.len ≤ deck
  unfolding set_up
  set_up_few = omega (arith, len_is, all_joined.few)

  pub set_up_start : SetUp (columns b.none) b span (introduced_before es ns (length es)) (set_up b.none i s)
  unfolding set_up
  set_up_start = record {
    learned_none = λ d h. ap (λ (l : List ℕ). get_or l 0 0) (row_at d h);
    reviewed_none = λ d h. ap (λ (l : List ℕ). get_or l 1 0) (row_at d h);
    correct_none = λ d h. ap (λ (l : List ℕ). get_or l 2 0) (row_at d h);
    introduced_is = λ d h. ap (λ (l : List ℕ). get_or l 3 0) (row_at d h);
    cost_none = λ d h. costs_at d h;
  }

  pub set_up_good : StateInvariant (set_up b.none i s).queue.len span (set_up b.none i s)
  unfolding set_up
  set_up_good =
      let j = all_joined.joining in
      record {
        lengths = record {
          cards_long = omega (arith, len_is, all_joined.few, j.cards_are, ok.cards_long);
          counts_long = omega (arith, len_is, all_joined.few, j.counts_are, ok.counts_long);
          days_long = omega (arith, ok.days_long, filled-long (first_day_counts i) span s.days);
          costs_long = omega (arith, ok.costs_long, filled-long b.none span s.costs);
          due_long = all_joined.due_long;
        };
        order = record {
          keyed = subst (λ (z : ℕ). Keyed z (key_in s₁.cards) s₁.queue) (sym len_is) j.fill.keyed;
          near = λ c l. j.near c (omega (arith, l, len_is));
        };
        table = λ p l e. absurd (true≢false (sym (all_free s.table p l) ∙ e));
        counts = record {
          recalls = λ d h. omega (arith, ap (λ (l : List ℕ). get_or l 2 0) (row_at d h));
          introduced = λ d h. news d h;
          events = λ d h. omega
              (arith, ap (λ (l : List ℕ). get_or l 0 0) (row_at d h), ap (λ (l : List ℕ). get_or l 1 0) (row_at d h));
          lapses = λ c l. omega (arith, j.lapses c (omega (arith, l, len_is)));
        };
        due = all_joined.due;
      }
    where
      news : (d : ℕ) → d < span
          → get_or (get_or (filled_with (first_day_counts i) span s.days) d []) 3 0 + sum_to s₁.queue.len
          (λ c. bit (new_in s₁.cards c)) ≤ s₁.queue.len
      news d h = rw len_is (omega (arith, ap (λ (l : List ℕ). get_or l 3 0) (row_at d h), all_joined.joining.news))

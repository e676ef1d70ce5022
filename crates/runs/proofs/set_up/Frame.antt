-- Set-up in longer lists, and from lists with other contents: the run's own places come out the same, and the places
-- behind them stay.
--   OwnPlaces        two decks that began from other lists have the same cards so far, each in front of what is left of
--                    its lists
--   own-all          so it is when all cards have come
--   starts_alike     so two calls with equal inputs begin alike in their first places, and each with the places behind
--                    them as lent
use mathlib.Core.Path.{◌≡◌, refl, sym, ap, ◌∙◌}
use mathlib.Core.Bool.{Bool, true, false, cond}
use mathlib.Core.List.{List, [], ◌∷◌, ◌++◌}
use Prim.Native.Nat.{ℕ, zero, suc, ◌+◌, ◌-◌, ◌≤◌, ◌<◌}
use native.Mathlib.Omega.{arith}
use lib.Dec.{eqb}
use lib.ListN.{get_or, set, drop, length, length-append, length-replicate, replicate, replicate-append-replicate}
use lib.Seq.{set_at, append_snoc, drop-cons}
use lib.Ieee.{Float}
use Rattle.turns.specs.Sums.{bit}
use Rattle.turns.proofs.Sums.{bit_le}
use Rattle.cards.specs.declared.card.Card.{Card}
use Rattle.cards.specs.declared.configuration.SimulatorConfig.{SimulatorConfig}
use Rattle.cards.specs.Day.{day_of}
use Rattle.cards.specs.Cards.{card_at, floats_of, counts_of, write_floats, write_counts, is_kept}
use Rattle.days.specs.Due.{due_days, add_due}
use Rattle.days.proofs.Due.{add-long}
use Rattle.days.proofs.Frame.{add_due-own}
use Rattle.queue.specs.Queue.{queue, bubble_up, pushed}
use Rattle.queue.proofs.Frame.{pushed_grown, bubble_long}
use Rattle.runs.specs.State.{State, key_of}
use Rattle.float32.specs.Numbers.{0ᶠ}
use Rattle.intervals.specs.Table.{Table, clear_in}
use Rattle.runs.specs.Frame.{beyond, extended}
use Rattle.runs.proofs.turn.Frame.{Exact}
use Rattle.entry.specs.Entry.{Inputs}
use Rattle.runs.proofs.Accepted.{Accepted}
use Rattle.runs.specs.SetUp.{new_card, Deck, add_card, add_kept_card, add_existing_card, add_existing_cards, kept_count, add_new_cards, new_card_count, empty_deck, add_all_cards, first_day_counts, set_up, filled_with}

-- the deck `own` in front of what is left of the lists of s₀
abbrev pub in_front : Deck → Deck → Deck
in_front own s₀ = record {
  cards = own.cards ++ drop own.queue.len s₀.cards;
  counts = own.counts ++ drop own.queue.len s₀.counts;
  queue = queue (own.queue.rows ++ drop own.queue.len s₀.queue.rows) own.queue.len;
  due = own.due ++ s₀.due;
}

-- its lists have a row for each of its cards, and the due counts of a span
pub record ExactDeck (span : ℕ) (own : Deck) : Type 0 where
  pub cards_are : length own.cards ≡ own.queue.len
  pub counts_are : length own.counts ≡ own.queue.len
  pub rows_are : length own.queue.rows ≡ own.queue.len
  pub due_are : length own.due ≡ due_days span

-- lists with room for so many cards
pub record Room (cards : ℕ) (s₀ : Deck) : Type 0 where
  pub cards_long : cards ≤ length s₀.cards
  pub counts_long : cards ≤ length s₀.counts
  pub rows_long : cards ≤ length s₀.queue.rows

-- ---- one more card
abbrev grow : Deck → Card → Deck
grow own k = record {
  cards = own.cards ++ (floats_of k ∷ []);
  counts = own.counts ++ (counts_of k ∷ []);
  queue = queue (bubble_up (own.queue.rows ++ ((key_of k ∷ own.queue.len ∷ []) ∷ [])) own.queue.len)
      (own.queue.len + 1);
  due = own.due;
}

-- a row written into the first place of what is left
grown_list : {A : Type 0} (own l : List A) (n : ℕ) (x : A) → length own ≡ n → n < length l
    → set (own ++ drop n l) n x ≡ (own ++ (x ∷ [])) ++ drop (n + 1) l
grown_list own l n x e h =
    let first : drop n l ≡ get_or l n x ∷ drop (suc n) l = drop-cons l n x h in
    let one : n + 1 ≡ suc n = omega arith in
    rw (first, one) (set_at own (get_or l n x) (drop (suc n) l) x n e ∙ sym (append_snoc own x (drop (suc n) l)))

grown_rows : (a l : List (List ℕ)) (n card key : ℕ) → length a ≡ n → n < length l → n < 65536
    → pushed (queue (a ++ drop n l) n) card key
    ≡ queue (bubble_up (a ++ ((key ∷ card ∷ []) ∷ [])) n ++ drop (n + 1) l) (n + 1)
grown_rows a l n card key e h few =
    let one : n + 1 ≡ suc n = omega arith in
    let first : drop n l ≡ get_or l n [] ∷ drop (n + 1) l = rw one (drop-cons l n [] h) in
    rw first (rw (← e) (pushed_grown a (get_or l (length a) []) (drop (length a + 1) l) card key (omega (arith, e, few))))

module _ (span : ℕ) (own s₀ : Deck) (ex : ExactDeck span own) (k : Card) (room : Room (own.queue.len + 1) s₀)
    (few : own.queue.len < 65536) where
  grown_queue : pushed (in_front own s₀).queue own.queue.len (key_of k) ≡ (in_front (grow own k) s₀).queue
  grown_queue = grown_rows own.queue.rows s₀.queue.rows own.queue.len own.queue.len (key_of k)
      ex.rows_are (omega (arith, room.rows_long)) few

  grown : add_card (in_front own s₀) k ≡ in_front (grow own k) s₀
  unfolding add_card write_floats write_counts
  grown =
      rw (
        grown_list own.cards s₀.cards own.queue.len (floats_of k) ex.cards_are
            (omega (arith, room.cards_long)),
        grown_list own.counts s₀.counts own.queue.len (counts_of k) ex.counts_are
            (omega (arith, room.counts_long)),
        grown_queue,
      )

grown_exact : (span : ℕ) (own : Deck) (k : Card) → ExactDeck span own → ExactDeck span (grow own k)
grown_exact span own k ex = record {
  cards_are = omega (arith, ex.cards_are, length-append own.cards (floats_of k ∷ []));
  counts_are = omega (arith, ex.counts_are, length-append own.counts (counts_of k ∷ []));
  rows_are = omega (
    arith,
    ex.rows_are,
    bubble_long (own.queue.rows ++ ((key_of k ∷ own.queue.len ∷ []) ∷ [])) own.queue.len,
    length-append own.queue.rows ((key_of k ∷ own.queue.len ∷ []) ∷ []),
  );
  due_are = ex.due_are;
}

-- no more are kept than there are
pub kept_few : (cards : List (List Float)) (counts : List (List ℕ)) (n : ℕ) → kept_count cards counts n ≤ n
unfolding kept_count
kept_few cards counts zero = omega arith
kept_few cards counts (suc n) = omega (arith, kept_few cards counts n, bit_le (is_kept (card_at cards counts n)))

-- ---- two decks, from other lists
module _ (span deck : ℕ) (s₀ s₀' : Deck) (room : Room deck s₀) (room' : Room deck s₀') (few : deck ≤ 65536) where
  pub record OwnPlaces (s s' : Deck) (n : ℕ) : Type 0 where
    pub own : Deck
    pub exact : ExactDeck span own
    pub count : own.queue.len ≡ n
    pub here : s ≡ in_front own s₀
    pub there : s' ≡ in_front own s₀'

  room_for : (n : ℕ) → n < deck → Room (n + 1) s₀
  room_for n h = record {
    cards_long = omega (arith, h, room.cards_long);
    counts_long = omega (arith, h, room.counts_long);
    rows_long = omega (arith, h, room.rows_long);
  }

  room_for' : (n : ℕ) → n < deck → Room (n + 1) s₀'
  room_for' n h = record {
    cards_long = omega (arith, h, room'.cards_long);
    counts_long = omega (arith, h, room'.counts_long);
    rows_long = omega (arith, h, room'.rows_long);
  }

  -- the same count in other words
  counted : (s s' : Deck) (n n' : ℕ) → n ≡ n' → OwnPlaces s s' n → OwnPlaces s s' n'
  counted s s' n n' e p = record {
    own = p.own;
    exact = p.exact;
    count = p.count ∙ e;
    here = p.here;
    there = p.there;
  }

  own_card : (s s' : Deck) (k : Card) (n : ℕ) → n < deck → OwnPlaces s s' n
      → OwnPlaces (add_card s k) (add_card s' k) (n + 1)
  own_card s s' k n h p =
      let o = p.own in
      record {
        own = grow o k;
        exact = grown_exact span o k p.exact;
        count = omega (arith, p.count);
        here = ap (λ (z : Deck). add_card z k) p.here
            ∙ grown span o s₀ p.exact k (room_for o.queue.len (omega (arith, h, p.count)))
            (omega (arith, h, few, p.count));
        there = ap (λ (z : Deck). add_card z k) p.there
            ∙ grown span o s₀' p.exact k (room_for' o.queue.len (omega (arith, h, p.count)))
            (omega (arith, h, few, p.count));
      }

  -- a kept card is counted on its day
  with_due : Deck → List ℕ → Deck
  with_due s due = record { cards = s.cards; counts = s.counts; queue = s.queue; due = due }

  kept_is : (s : Deck) (k : Card) → add_kept_card span s k ≡ with_due (add_card s k) (add_due span s.due (day_of k.due))
  unfolding add_kept_card with_due
  kept_is s k = refl

  own_kept : (s s' : Deck) (k : Card) (n : ℕ) → n < deck → OwnPlaces s s' n
      → OwnPlaces (add_kept_card span s k) (add_kept_card span s' k) (n + 1)
  unfolding with_due add_card own_card
  own_kept s s' k n h p =
      let o = p.own in
      let q = own_card s s' k n h p in
      let d : ℕ = day_of k.due in
      record {
        own = with_due (grow o k) (add_due span o.due d);
        exact = record {
          cards_are = q.exact.cards_are;
          counts_are = q.exact.counts_are;
          rows_are = q.exact.rows_are;
          due_are = add-long span o.due d ∙ p.exact.due_are;
        };
        count = q.count;
        here = kept_is s k ∙ both s s₀ q.here
            (ap (λ (z : Deck). add_due span z.due d) p.here
            ∙ add_due-own span o.due s₀.due d (omega (arith, p.exact.due_are)));
        there = kept_is s' k
            ∙ both s' s₀' q.there
            (ap (λ (z : Deck). add_due span z.due d) p.there
            ∙ add_due-own span o.due s₀'.due d (omega (arith, p.exact.due_are)));
      }
    where
      both : (z z₀ : Deck) → add_card z k ≡ in_front (grow p.own k) z₀
          → add_due span z.due (day_of k.due) ≡ add_due span p.own.due (day_of k.due) ++ z₀.due
          → with_due (add_card z k) (add_due span z.due (day_of k.due))
          ≡ in_front (with_due (grow p.own k) (add_due span p.own.due (day_of k.due))) z₀
      both z z₀ e f = rw f (ap (λ (w : Deck). with_due w (add_due span p.own.due (day_of k.due) ++ z₀.due)) e)

  own_existing : (s s' : Deck) (k : Card) (n : ℕ) → n < deck → OwnPlaces s s' n
      → OwnPlaces (add_existing_card span s k) (add_existing_card span s' k) (n + bit (is_kept k))
  unfolding add_existing_card
  own_existing s s' k n h p = go (is_kept k)
    where
      go : (t : Bool) → OwnPlaces (cond t (add_kept_card span s k) s) (cond t (add_kept_card span s' k) s') (n + bit t)
      go true = own_kept s s' k n h p
      go false = counted s s' n (n + 0) (omega arith) p

  own_existing_all : (cards : List (List Float)) (counts : List (List ℕ)) (n : ℕ) (s s' : Deck) → n ≤ deck
      → OwnPlaces s s' 0
      → OwnPlaces (add_existing_cards span cards counts n s) (add_existing_cards span cards counts n s')
      (kept_count cards counts n)
  unfolding add_existing_cards kept_count
  own_existing_all cards counts zero s s' h p = p
  own_existing_all cards counts (suc n) s s' h p =
      own_existing _ _ (card_at cards counts n) (kept_count cards counts n) (omega (arith, h, kept_few cards counts n))
      (own_existing_all cards counts n s s' (omega (arith, h)) p)

  own_new_all : (retention : Float) (limit n kept : ℕ) (s s' : Deck) → kept + n ≤ deck → OwnPlaces s s' kept
      → OwnPlaces (add_new_cards retention limit n s) (add_new_cards retention limit n s') (kept + n)
  unfolding add_new_cards
  own_new_all retention limit zero kept s s' h p = counted s s' kept (kept + 0) (omega arith) p
  own_new_all retention limit (suc n) kept s s' h p =
      counted _ _ (kept + n + 1) (kept + suc n) (omega arith)
      (own_card _ _ (new_card retention limit n) (kept + n) (omega (arith, h))
      (own_new_all retention limit n kept s s' (omega (arith, h)) p))

-- ---- the deck of a call
filled_is : {A : Type 0} (x : A) (n : ℕ) (l : List A) → n ≤ length l → filled_with x n l ≡ replicate n x ++ drop n l
unfolding filled_with
filled_is x zero l h = refl
filled_is x (suc n) l h =
    let one : n + 1 ≡ suc n = omega arith in
    let more : replicate n x ++ (x ∷ []) ≡ replicate (suc n) x = replicate-append-replicate n 1 x
    ∙ ap (λ (z : ℕ). replicate z x) one in
    rw (filled_is x n l (omega (arith, h)))
    (grown_list (replicate n x) l n x (length-replicate n x) (omega (arith, h)) ∙ rw (more, one))

-- the lists that a deck is dealt into
abbrev pub lists_deck : {C : Type 0} → ℕ → State C → Deck
lists_deck span s = record {
  cards = s.cards;
  counts = s.counts;
  queue = queue s.queue.rows 0;
  due = drop (due_days span) s.due;
}

pub has_room : {C : Type 0} (i : Inputs) (s : State C) → Accepted i s
    → Room i.settings.config.deck_size (lists_deck i.settings.config.learn_span s)
has_room i s ok = record { cards_long = ok.cards_long; counts_long = ok.counts_long; rows_long = ok.queue_long }

pub new_few : (g : SimulatorConfig) (kept : ℕ) → kept ≤ g.deck_size → kept + new_card_count g kept ≤ g.deck_size
unfolding new_card_count
new_few g kept h = go (eqb g.learn_limit 0)
  where
    go : (t : Bool) → kept + cond t 0 (g.deck_size - kept) ≤ g.deck_size
    go true = omega arith
    go false = omega arith

module _ {C : Type 0} (i : Inputs) (s s' : State C) (ok : Accepted i s) (ok' : Accepted i s') where
  abbrev span : ℕ
  span = i.settings.config.learn_span

  abbrev deck : ℕ
  deck = i.settings.config.deck_size

  abbrev Own : Deck → Deck → ℕ → Type 0
  Own = OwnPlaces span deck (lists_deck span s) (lists_deck span s') (has_room i s ok) (has_room i s' ok') ok.deck_most

  empty-own : Own (empty_deck i s) (empty_deck i s') 0
  unfolding empty_deck
  empty-own = record {
    own = record { cards = []; counts = []; queue = queue [] 0; due = replicate (due_days span) 0 };
    exact = record {
      cards_are = refl;
      counts_are = refl;
      rows_are = refl;
      due_are = length-replicate (due_days span) 0;
    };
    count = refl;
    here = rw (filled_is 0 (due_days span) s.due ok.due_long);
    there = rw (filled_is 0 (due_days span) s'.due ok'.due_long);
  }

  -- the existing cards that are kept
  abbrev kept_of : State C → Deck
  kept_of z = add_existing_cards span i.existing i.existing_counts (length i.existing) (empty_deck i z)

  abbrev dealt : State C → ℕ → Deck
  dealt z kept = add_new_cards i.settings.retention i.settings.config.learn_limit (new_card_count i.settings.config kept) (kept_of z)

  abbrev kept : ℕ
  kept = kept_count i.existing i.existing_counts (length i.existing)

  pub own-all : Own (add_all_cards i (empty_deck i s)) (add_all_cards i (empty_deck i s'))
      (kept + new_card_count i.settings.config kept)
  unfolding add_all_cards
  own-all =
      let r = has_room i s ok in
      let r' = has_room i s' ok' in
      let p = own_existing_all span deck (lists_deck span s) (lists_deck span s') r r' ok.deck_most i.existing
      i.existing_counts (length i.existing) (empty_deck i s) (empty_deck i s') ok.existing_few empty-own in
      let few : kept + new_card_count i.settings.config kept ≤ deck = new_few i.settings.config kept
      (omega (arith, kept_few i.existing i.existing_counts (length i.existing), ok.existing_few)) in
      let q = own_new_all span deck (lists_deck span s) (lists_deck span s') r r' ok.deck_most i.settings.retention
      i.settings.config.learn_limit (new_card_count i.settings.config kept) kept (kept_of s) (kept_of s') few p in
      record {
        own = q.own;
        exact = q.exact;
        count = q.count;
        here = ap (dealt s) (ap (λ (z : Deck). z.queue.len) p.here ∙ p.count) ∙ q.here;
        there = ap (dealt s') (ap (λ (z : Deck). z.queue.len) p.there ∙ p.count) ∙ q.there;
      }

-- ---- the state as set up
-- the run's own places, with an emptied table t
abbrev pub own_state : {C : Type 0} → C → Inputs → Deck → Table → State C
own_state none i own t = record {
  cards = own.cards;
  counts = own.counts;
  queue = own.queue;
  days = replicate i.settings.config.learn_span (first_day_counts i);
  costs = replicate i.settings.config.learn_span none;
  memorized = replicate i.settings.config.learn_span 0ᶠ;
  due = own.due;
  table = clear_in t;
  draws = i.settings.seed;
}

-- two calls begin with the same places, each in front of those that it was lent behind them
pub record StartsAlike {C : Type 0} (none : C) (i : Inputs) (s s' : State C) : Type 0 where
  pub own : Deck
  pub count : (let kept = kept_count i.existing i.existing_counts (length i.existing) in own.queue.len
      ≡ kept + new_card_count i.settings.config kept)
  pub exact : (t : Table) → Exact own.queue.len i.settings.config.learn_span (own_state none i own t)
  pub here : set_up none i s
      ≡ extended (own_state none i own s.table) (beyond own.queue.len i.settings.config.learn_span s)
  pub there : set_up none i s'
      ≡ extended (own_state none i own s'.table) (beyond own.queue.len i.settings.config.learn_span s')

pub starts_alike : {C : Type 0} (none : C) (i : Inputs) (s s' : State C) → Accepted i s → Accepted i s'
    → StartsAlike none i s s'
unfolding set_up
starts_alike none i s s' ok ok' =
    let span : ℕ = i.settings.config.learn_span in
    let p = own-all i s s' ok ok' in
    record {
      own = p.own;
      count = p.count;
      exact = λ t. record {
        cards_are = p.exact.cards_are;
        counts_are = p.exact.counts_are;
        rows_are = p.exact.rows_are;
        days_are = length-replicate span (first_day_counts i);
        costs_are = length-replicate span none;
        memorized_are = length-replicate span 0ᶠ;
        due_are = p.exact.due_are;
        queued = omega arith;
      };
      here = rw (
        p.here,
        filled_is (first_day_counts i) span s.days ok.days_long,
        filled_is none span s.costs ok.costs_long,
        filled_is 0ᶠ span s.memorized ok.memorized_long,
      );
      there = rw (
        p.there,
        filled_is (first_day_counts i) span s'.days ok'.days_long,
        filled_is none span s'.costs ok'.costs_long,
        filled_is 0ᶠ span s'.memorized ok'.memorized_long,
      );
    }

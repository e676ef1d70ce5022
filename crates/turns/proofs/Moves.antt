-- What a turn does to its card, as far as the order of the queue plays no part; and what follows for any chain of such
-- turns, from any state: no card has two turns on one day, each has at most span + 1 turns in all, and the turns are at
-- most cards × (span + 1).
-- A state is looked at through a `View`: the day of each card, whether it is new, whether it is queued.
--   View S, Same v s s' c       how a state is looked at, and a card that looks the same in two
--   Onward v span c d s'        a card goes on to a later day, from a day in the span
--   Does v span kind c d s s'   what a turn of each kind needs of its card and leaves of it
--   Moves v cards span s t s'   the whole of a turn
--   onward, event_in_span       its card leaves or goes on, and an event lies in the span
--   MoveSteps v cards span      turns as steps of a chain
--   turns_within                   the bound on turns
use Prim.Native.Nat.{ℕ, suc, ◌≤◌, ◌<◌}
use native.Mathlib.Omega.{arith}
use native.Mathlib.Decide.{ℕ_discrete}
use mathlib.Core.Bool.{Bool, true, false, false≢true}
use mathlib.Core.List.{List, ◌∷◌}
use mathlib.Core.Logic.{◌≢◌}
use mathlib.Core.Path.{◌≡◌, sym, ◌∙◌}
use lib.Dec.{eqb}
use lib.ListN.{length}
use Rattle.turns.proofs.Sums.{sum-le, at_same, at_ne}
use Rattle.turns.specs.Turns.{Kind, learn, review, put_off, retire, Turn, count, is_event, turn_bound}
use Rattle.turns.proofs.Counting.{count-all, count-length}
use Rattle.turns.proofs.Chain.{Steps, Chain, start, more, chain_all}

pub record View (S : Type 0) : Type 0 where
  pub day : S → ℕ → ℕ
  pub new : S → ℕ → Bool
  pub queued : S → ℕ → Bool

module _ {S : Type 0} (v : View S) where
  -- card c looks the same in both states
  pub record Same (s s' : S) (c : ℕ) : Type 0 where
    pub same-day : v.day s' c ≡ v.day s c
    pub same_new : v.new s' c ≡ v.new s c
    pub same-queued : v.queued s' c ≡ v.queued s c

  -- its day d is within the span, and its next day is later
  abbrev pub Onward : ℕ → ℕ → ℕ → S → Type 0
  Onward span c d s' = (d < span) × (d < v.day s' c)

module _ {E S : Type 0} (v : View S) where
  -- what a turn of each kind, of card c on day d, needs of its card and leaves of it
  abbrev pub Does : ℕ → Kind E → ℕ → ℕ → S → S → Type 0
  Does span (learn e) c d s s' = (v.new s c ≡ true) × (v.new s' c ≡ false) × Onward v span c d s'
  Does span (review r e) c d s s' = (v.new s c ≡ false) × (v.new s' c ≡ false) × Onward v span c d s'
  Does span put_off c d s s' = (v.new s' c ≡ v.new s c) × Onward v span c d s'
  Does span retire c d s s' = (v.new s' c ≡ v.new s c) × (v.queued s' c ≡ false)

  pub record Moves (cards span : ℕ) (s : S) (t : Turn E) (s' : S) : Type 0 where
    pub is_card : t.card < cards
    pub is_queued : v.queued s t.card ≡ true
    pub is_day : v.day s t.card ≡ t.day
    pub does : Does span t.kind t.card t.day s s'
    pub others : (c : ℕ) → c ≢ t.card → Same v s s' c

  module _ {cards span : ℕ} {s : S} {t : Turn E} {s' : S} (m : Moves cards span s t s') where
    -- a turn's card leaves the queue, or goes on to a later day
    pub onward : v.queued s' t.card ≡ true → Onward v span t.card t.day s'
    onward = go t.kind m.does
      where
        go : (k : Kind E) → Does span k t.card t.day s s' → v.queued s' t.card ≡ true
            → Onward v span t.card t.day s'
        go (learn e) x q = x.2
        go (review r e) x q = x.2
        go put_off x q = x.1
        go retire x q = absurd (false≢true (sym x.1 ∙ q))

    pub event_in_span : is_event t.kind ≡ true → t.day < span
    event_in_span = go t.kind m.does
      where
        go : (k : Kind E) → Does span k t.card t.day s s' → is_event k ≡ true → t.day < span
        go (learn e) x q = x.2.0
        go (review r e) x q = x.2.0
        go put_off x q = absurd (false≢true q)
        go retire x q = absurd (false≢true q)

  -- The turns of card c are at most span + 1; while it is queued, at most span, and at most its day
  record Used (span c : ℕ) (ts : List (Turn E)) (s : S) : Type 0 where
    all : count (λ t. eqb t.card c) ts ≤ suc span
    queued-span : v.queued s c ≡ true → count (λ t. eqb t.card c) ts ≤ span
    queued-day : v.queued s c ≡ true → count (λ t. eqb t.card c) ts ≤ v.day s c

  abbrev pub MoveSteps : ℕ → ℕ → Steps (Turn E) S
  MoveSteps cards span ts s t s' = Moves cards span s t s'

  module _ {cards span : ℕ} (ts : List (Turn E)) {s : S} {t : Turn E} {s' : S} (m : Moves cards span s t s') where
    used_own : Used span t.card ts s → Used span t.card (t ∷ ts) s'
    used_own u = record {
      all = omega (arith, at_same t.card, u.queued-span m.is_queued);
      queued-span = λ q. omega (arith, at_same t.card, u.queued-day m.is_queued, m.is_day, onward m q);
      queued-day = λ q. omega (arith, at_same t.card, u.queued-day m.is_queued, m.is_day, onward m q);
    }

    used_other : (c : ℕ) → c ≢ t.card → Used span c ts s → Used span c (t ∷ ts) s'
    used_other c h u = record {
      all = omega (arith, at_ne t.card c (omega arith), u.all);
      queued-span = λ q. omega
          (arith, at_ne t.card c (omega arith), u.queued-span (sym (m.others c h).same-queued ∙ q));
      queued-day = λ q. omega (
        arith,
        at_ne t.card c (omega arith),
        (m.others c h).same-day,
        u.queued-day (sym (m.others c h).same-queued ∙ q),
      );
    }

  used : {cards span : ℕ} {s₀ : S} (c : ℕ) {ts : List (Turn E)} {s : S} → Chain (MoveSteps cards span) s₀ ts s
      → Used span c ts s
  used c start = record { all = omega arith; queued-span = λ q. omega arith; queued-day = λ q. omega arith }
  used {cards = cards} {span = span} c (more {ts = ts} {s = s} {t = t} {s' = s'} r m) = go (ℕ_discrete c t.card)
      (used c r)
    where
      go : Dec (c ≡ t.card) → Used span c ts s → Used span c (t ∷ ts) s'
      go (yes e) u = rw e (used_own ts m (rw e at u))
      go (no e) u = used_other ts m c e u

  -- THE BOUND ON TURNS, from any state and in any order of the queue
  pub turns_within : (cards span : ℕ) {s₀ : S} {ts : List (Turn E)} {s : S} → Chain (MoveSteps cards span) s₀ ts s
      → length ts ≤ turn_bound cards span
  turns_within cards span {ts = ts} r =
      omega (
        arith,
        count-length ts,
        count-all (λ t. true) (λ t. t.card) cards ts (chain_all (λ ts s t s' m q. m.is_card) r),
        sum-le cards (suc span) (λ c. count (λ t. eqb t.card c) ts) (λ c h. (used c r).all),
      )

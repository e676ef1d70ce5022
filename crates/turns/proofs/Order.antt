-- The order of the queue, of which one number says all: a card's place is twice its day, and one more while it is new,
-- so that a day's reviews come before its new cards. A turn takes a card whose place is least. Then places never fall
-- along a chain: so days never fall, and on no day does a review come after a learning.
--   place v s c, Least v s c              a card's place, and a card that none stands before
--   least_by_key                          a queue that orders by place first has its least place first
--   Orderly v cards span ts s t s'        a turn in the order of the queue
--   days_never_fall, reviews_come_first   what a chain of such turns keeps
use Prim.Native.Nat.{ℕ, suc, ◌+◌, ◌*◌, ◌≤◌, ◌<◌}
use native.Mathlib.Omega.{arith}
use native.Mathlib.Decide.{ℕ_discrete, dec_le}
use native.Mathlib.Nat.{mul-le-mul_right}
use mathlib.Core.Bool.{Bool, true, false, ◌&&◌, false≢true}
use mathlib.Core.List.{List}
use mathlib.Core.Path.{◌≡◌, refl, sym, ap, ◌∙◌}
use lib.Dec.{eqb}
use borrow.Author.Tests.{ne_eqb}
use Rattle.turns.specs.Sums.{bit}
use Rattle.turns.proofs.Sums.{bit_le}
use Rattle.turns.specs.Turns.{Kind, learn, review, put_off, retire, Turn, Each, All, is_learn, is_review, learned_on}
use Rattle.turns.proofs.Counting.{all_map, count_none}
use Rattle.turns.proofs.Chain.{Chain, start, more, chain_each}
use Rattle.turns.proofs.Moves.{View, Does, Moves, onward}

module _ {S : Type 0} (v : View S) where
  abbrev pub place : S → ℕ → ℕ
  place s c = 2 * v.day s c + bit (v.new s c)

  -- card c is first in the queue
  abbrev pub Least : S → ℕ → Type 0
  Least s c = (c' : ℕ) → v.queued s c' ≡ true → place s c ≤ place s c'

  -- a queue that orders by place first, and then by some number below w, has its least place first
  pub least_by_key : (w : ℕ) (then : ℕ → ℕ) (s : S) (c : ℕ) → ((c' : ℕ) → v.queued s c' ≡ true → then c' < w)
      → ((c' : ℕ) → v.queued s c' ≡ true → place s c * w + then c ≤ place s c' * w + then c') → Least s c
  least_by_key w then s c small h c' q = go (dec_le (place s c) (place s c'))
    where
      go : Dec (place s c ≤ place s c') → place s c ≤ place s c'
      go (yes l) = l
      go (no n) = absurd (omega
          (arith, h c' q, small c' q, mul-le-mul_right w (let l : suc (place s c') ≤ place s c = omega arith in l)))

module _ {E S : Type 0} (v : View S) where
  -- a step in the order of the queue
  pub record Orderly (cards span : ℕ) (ts : List (Turn E)) (s : S) (t : Turn E) (s' : S) : Type 0 where
    pub moves : Moves v cards span s t s'
    pub least : Least v s t.card

  -- the place that a turn shows by its kind
  abbrev rank : Turn E → ℕ
  rank t = 2 * t.day + bit (is_learn t.kind)

  module _ {cards span : ℕ} {s : S} {t : Turn E} {s' : S} (m : Moves v cards span s t s') where
    rank_le : rank t ≤ place v s t.card
    rank_le = go t.kind m.does
      where
        go : (k : Kind E) → Does v span k t.card t.day s s' → 2 * t.day + bit (is_learn k) ≤ place v s t.card
        go (learn e) x = omega (arith, m.is_day, ap bit x.0)
        go (review r e) x = omega (arith, m.is_day)
        go put_off x = omega (arith, m.is_day)
        go retire x = omega (arith, m.is_day)

    review-place : is_review t.kind ≡ true → place v s t.card ≡ 2 * t.day
    review-place = go t.kind m.does
      where
        go : (k : Kind E) → Does v span k t.card t.day s s' → is_review k ≡ true → place v s t.card ≡ 2 * t.day
        go (learn e) x q = absurd (false≢true q)
        go (review r e) x q = omega (arith, m.is_day, ap bit x.0)
        go put_off x q = absurd (false≢true q)
        go retire x q = absurd (false≢true q)

    -- what bounds the queue's places from below goes on doing so
    floor-kept : (x : ℕ) → ((c : ℕ) → v.queued s c ≡ true → x ≤ place v s c) → (c : ℕ) → v.queued s' c ≡ true
        → x ≤ place v s' c
    floor-kept x f c q = go (ℕ_discrete c t.card)
      where
        own : v.queued s' t.card ≡ true → x ≤ place v s' t.card
        own q' = omega (arith, f t.card m.is_queued, bit_le (v.new s t.card), m.is_day, onward v m q')

        go : Dec (c ≡ t.card) → x ≤ place v s' c
        go (yes e) = rw e (own (rw e at q))
        go (no e) = omega (
          arith,
          f c (sym (m.others c e).same-queued ∙ q),
          (m.others c e).same-day,
          ap bit (m.others c e).same_new,
        )

  -- no queued card stands before a turn that was
  floor : {cards span : ℕ} {s₀ : S} {ts : List (Turn E)} {s : S} → Chain (Orderly cards span) s₀ ts s
      → All (λ u. (c : ℕ) → v.queued s c ≡ true → rank u ≤ place v s c) ts
  floor start = tt
  floor (more {ts = ts} {s = s} {t = t} r o) = (
    floor-kept o.moves (rank t) (λ c q. omega (arith, rank_le o.moves, o.least c q)),
    all_map (λ u. floor-kept o.moves (rank u)) ts (floor r),
  )

  -- so each turn's card stands at or behind all turns before it
  behind : {cards span : ℕ} {s₀ : S} {ts : List (Turn E)} {s : S} {t : Turn E} {s' : S}
      → Chain (Orderly cards span) s₀ ts s → Moves v cards span s t s' → All (λ u. rank u ≤ place v s t.card) ts
  behind {ts = ts} {t = t} r m = all_map (λ u f. f t.card m.is_queued) ts (floor r)

  pub days_never_fall : {cards span : ℕ} {s₀ : S} {ts : List (Turn E)} {s : S} → Chain (Orderly cards span) s₀ ts s
      → Each (λ t before. All (λ u. u.day ≤ t.day) before) ts
  days_never_fall = chain_each
      (λ ts s t s' r o. all_map (λ u h. omega (arith, o.moves.is_day, bit_le (v.new s t.card))) ts
      (behind r o.moves))

  pub reviews_come_first : {cards span : ℕ} {s₀ : S} {ts : List (Turn E)} {s : S} → Chain (Orderly cards span) s₀ ts s
      → Each (λ t before. is_review t.kind ≡ true → learned_on t.day before ≡ 0) ts
  reviews_come_first = chain_each
      (λ ts s t s' r o q. count_none (λ u. is_learn u.kind && eqb u.day t.day) ts
      (all_map (λ u h. none u t (omega (arith, review-place o.moves q))) ts (behind r o.moves)))
    where
      none : (u t : Turn E) → rank u ≤ 2 * t.day → (is_learn u.kind && eqb u.day t.day) ≡ false
      none u t = go (is_learn u.kind)
        where
          go : (b : Bool) → 2 * u.day + bit b ≤ 2 * t.day → (b && eqb u.day t.day) ≡ false
          go false h = refl
          go true h = ne_eqb u.day t.day (omega arith)

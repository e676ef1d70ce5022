-- What a card's joining leaves of the due counts: `DueCounts` holds of one card more.
--   due_new               a new card: nothing is counted
--   due_kept, kept-long   an existing card: it is counted on its day
use mathlib.Core.Path.{◌≡◌, sym, ap, ◌∙◌, subst}
use mathlib.Core.Bool.{Bool, true, not, ◌&&◌}
use mathlib.Core.List.{List}
use Prim.Native.Nat.{ℕ, suc, ◌+◌, ◌≤◌, ◌<◌}
use native.Mathlib.Omega.{arith}
use borrow.Author.Tests.{lt-ltb}
use lib.Dec.{leb, eqb}
use lib.ListN.{get_or, length}
use lib.Ieee.{Float}
use Rattle.turns.specs.Sums.{bit, sum_to}
use Rattle.turns.proofs.Sums.{sum_same, and-le, here_le}
use Rattle.cards.specs.declared.card.Card.{Card}
use Rattle.cards.specs.Day.{day_of, is_new}
use Rattle.cards.specs.Cards.{write_floats}
use Rattle.days.specs.Due.{due_days, add_due}
use Rattle.days.proofs.Due.{added, add-long}
use Rattle.queue.specs.Queue.{Queue}
use Rattle.queue.specs.Sound.{queued}
use Rattle.queue.proofs.Filled.{Filled}
use Rattle.runs.specs.SetUp.{Deck, add_card, add_kept_card}
use Rattle.runs.specs.Invariant.{day_in, new_in, DueCounts}
use Rattle.runs.proofs.turn.Due.{waiting, reached, due_below}
use Rattle.runs.proofs.turn.Invariant.{else_day, else_new, own-day, own_new}

pub kept-long : (span : ℕ) (s : Deck) (k : Card) → due_days span ≤ length s.due
    → due_days span ≤ length (add_kept_card span s k).due
unfolding add_kept_card
kept-long span s k long = omega (arith, add-long span s.due (day_of k.due))

-- the n cards so far are queued, and so is k after them
module _ (span : ℕ) (s : Deck) (k : Card) (n : ℕ) {key key' : ℕ → ℕ} {rows : List (List ℕ)}
    (f : Filled key rows n s.queue) (f' : Filled key' rows (suc n) (add_card s k).queue)
    (row : n < length s.cards) (old : DueCounts s.queue.len span s.cards s.queue s.due) where
  abbrev m : ℕ
  m = s.queue.len

  abbrev cs : List (List Float)
  cs = s.cards

  abbrev cs' : List (List Float)
  cs' = write_floats cs m k

  abbrev q' : Queue
  q' = (add_card s k).queue

  abbrev new : Bool
  new = is_new k.last_date

  abbrev day : ℕ
  day = day_of k.due

  has_row : m < length cs
  has_row = omega (arith, f.count)

  one_more : q'.len ≡ suc m
  one_more = f'.count ∙ ap suc (sym f.count)

  still_queued : (c : ℕ) → c < m → queued q' c ≡ queued s.queue c
  still_queued c l =
      let h : c < n = omega (arith, f.count) in
      f'.all c ∙ lt-ltb c (suc n) (omega arith) ∙ sym (f.all c ∙ lt-ltb c n h)

  waiting_now : (d : ℕ)
      → sum_to (suc m) (waiting cs' q' d) ≤ sum_to m (waiting cs s.queue d) + bit (not new && eqb day d)
  waiting_now d = omega (arith, own, sum_same m (waiting cs' q' d) (waiting cs s.queue d) others)
    where
      own : waiting cs' q' d m ≤ bit (not new && eqb day d)
      own =
          rw (← own-day cs m k has_row, ← own_new cs m k has_row)
          (and-le (queued q' m) (not (new_in cs' m) && eqb (day_in cs' m) d))

      others : (c : ℕ) → c < m → waiting cs' q' d c ≡ waiting cs s.queue d c
      others c l = rw (else_day cs m k c (omega arith), else_new cs m k c (omega arith), still_queued c l)

  reached_now : (d : ℕ) → sum_to (suc m) (reached cs' d) ≡ sum_to m (reached cs d) + bit (leb d day)
  reached_now d = omega (arith, own, sum_same m (reached cs' d) (reached cs d) others)
    where
      own : reached cs' d m ≡ bit (leb d day)
      own = rw (own-day cs m k has_row)

      others : (c : ℕ) → c < m → reached cs' d c ≡ reached cs d c
      others c l = rw (else_day cs m k c (omega arith))

  pub due_new : new ≡ true → DueCounts q'.len span (add_card s k).cards q' (add_card s k).due
  unfolding add_card
  due_new e = subst (λ (z : ℕ). DueCounts z span cs' q' s.due) (sym one_more) (record {
    least = λ d h. omega (arith, old.least d h, waiting_now d, ap (λ (b : Bool). bit (not b && eqb day d)) e);
    most = λ d h. omega (arith, old.most d h, reached_now d);
  })

  pub due_kept : m ≤ 65536 → due_days span ≤ length s.due
      → (let s' = add_kept_card span s k in DueCounts s'.queue.len span s'.cards s'.queue s'.due)
  unfolding add_kept_card add_card
  due_kept few long = subst (λ (z : ℕ). DueCounts z span cs' q' (add_due span s.due day)) (sym one_more) (record {
    least = λ d h. omega (arith, old.least d h, waiting_now d, at d h, and-le (not new) (eqb day d));
    most = λ d h. omega (arith, old.most d h, reached_now d, at d h, here_le d day);
  })
    where
      at : (d : ℕ) → d < due_days span → get_or (add_due span s.due day) d 0 ≡ get_or s.due d 0 + bit (eqb day d)
      at = added span s.due day long (due_below m span cs s.queue s.due old few)

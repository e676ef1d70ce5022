-- What a turn leaves of the due counts: its card is taken from the day it waited for and counted on its next day, and
-- no other card is moved.
--   waiting, reached                   1 for a card that waits for day d; 1 for one whose day is d or later
--   due_few, due_below                 a due count is at most the cards, so it is not at the top
--   waits_one                          the day of a queued card with a last date counts it
--   due_put, due_event, due_retire     `DueCounts` after a putting off, an event, a retiring
use mathlib.Core.Path.{◌≡◌, ap}
use mathlib.Core.Bool.{Bool, true, false, not, ◌&&◌}
use mathlib.Core.List.{List}
use mathlib.Core.Logic.{◌≢◌}
use Prim.Native.Nat.{ℕ, ◌+◌, ◌≤◌, ◌<◌}
use native.Mathlib.Omega.{arith}
use lib.Dec.{leb, eqb}
use lib.ListN.{get_or, length}
use lib.Ieee.{Float}
use Rattle.turns.specs.Sums.{bit}
use Rattle.turns.proofs.Sums.{sum-at, sum-le, term_le, le_step, and-le, bit_le, at_same}
use Rattle.days.specs.Due.{due_days, add_due, move_due}
use Rattle.days.proofs.Due.{Below, added, moved}
use Rattle.queue.specs.Queue.{Queue}
use Rattle.queue.specs.Sound.{queued}
use Rattle.runs.specs.Invariant.{day_in, new_in, awaits, DueCounts}

-- who waits for day d
module _ (cards : List (List Float)) (q : Queue) (d c : ℕ) where
  awaits-le : bit (awaits cards q d c) ≤ bit (eqb (day_in cards c) d)
  awaits-le =
      let n = not (new_in cards c) in
      let e = eqb (day_in cards c) d in
      omega (arith, and-le (queued q c) (n && e), and-le n e)

  awaits_is : queued q c ≡ true → bit (awaits cards q d c) ≡ bit (not (new_in cards c) && eqb (day_in cards c) d)
  awaits_is e = rw e

  awaits-not : queued q c ≡ false → bit (awaits cards q d c) ≡ 0
  awaits-not e = rw e

abbrev pub waiting : List (List Float) → Queue → ℕ → ℕ → ℕ
waiting cards q d c = bit (awaits cards q d c)

abbrev pub reached : List (List Float) → ℕ → ℕ → ℕ
reached cards d c = bit (leb d (day_in cards c))

module _ (n span : ℕ) (cards : List (List Float)) (q : Queue) (due : List ℕ) (old : DueCounts n span cards q due) where
  pub due_few : (d : ℕ) → d < due_days span → get_or due d 0 ≤ n
  due_few d h = omega (arith, old.most d h, sum-le n 1 (reached cards d) (λ c l. bit_le (leb d (day_in cards c))))

  pub due_below : n ≤ 65536 → Below span due
  due_below few d h = omega (arith, due_few d h)

  pub waits_one : (c : ℕ) → c < n → queued q c ≡ true → day_in cards c < due_days span
      → bit (not (new_in cards c)) ≤ get_or due (day_in cards c) 0
  waits_one c l e h = go (new_in cards c) (awaits_is cards q day c e)
    where
      day : ℕ
      day = day_in cards c

      go : (b : Bool) → bit (awaits cards q day c) ≡ bit (not b && eqb day day) → bit (not b) ≤ get_or due day 0
      go true x = omega arith
      go false x = omega (arith, x, at_same day, old.least day h, term_le n c (waiting cards q day) l)

  -- card c is changed, and no other: what the counts have more is what the card has more
  module _ (cards' : List (List Float)) (q' : Queue) (c : ℕ) (is_card : c < n)
      (same-day : (x : ℕ) → x ≢ c → day_in cards' x ≡ day_in cards x)
      (same_new : (x : ℕ) → x ≢ c → new_in cards' x ≡ new_in cards x)
      (same-queued : (x : ℕ) → x ≢ c → queued q' x ≡ queued q x) where
    abbrev day : ℕ
    day = day_in cards c

    abbrev day' : ℕ
    day' = day_in cards' c

    abbrev new : Bool
    new = new_in cards c

    changed : (due' : List ℕ)
        → ((d : ℕ) → d < due_days span → get_or due d 0 + waiting cards' q' d c ≤ get_or due' d 0 + waiting cards q d c)
        → ((d : ℕ) → d < due_days span → get_or due' d 0 + reached cards d c ≤ get_or due d 0 + reached cards' d c)
        → DueCounts n span cards' q' due'
    changed due' less more = record {
      least = λ d h. omega (
        arith,
        old.least d h,
        less d h,
        sum-at n c (waiting cards q d) (waiting cards' q' d) is_card
            (λ x ne. rw (same-day x ne, same_new x ne, same-queued x ne)),
      );
      most = λ d h. omega (
        arith,
        old.most d h,
        more d h,
        sum-at n c (reached cards d) (reached cards' d) is_card (λ x ne. rw (same-day x ne)),
      );
    }

    pub due_retire : day' ≡ day → queued q' c ≡ false → DueCounts n span cards' q' due
    due_retire e gone =
        changed due (λ d h. omega (arith, awaits-not cards' q' d c gone))
        (λ d h. omega (arith, ap (λ (x : ℕ). bit (leb d x)) e))

    module _ (few : n ≤ 65536) (long : due_days span ≤ length due) where
      pub due_event : day < day' → DueCounts n span cards' q' (add_due span due day')
      due_event later =
          changed (add_due span due day') (λ d h. omega (arith, at d h, awaits-le cards' q' d c))
          (λ d h. omega (arith, at d h, le_step d day day' later))
        where
          at : (d : ℕ) → d < due_days span → get_or (add_due span due day') d 0 ≡ get_or due d 0 + bit (eqb day' d)
          at = added span due day' long (due_below few)

      pub due_put : queued q c ≡ true → new_in cards' c ≡ new → day < due_days span → day' ≡ day + 1
          → DueCounts n span cards' q' (move_due span due new day)
      due_put is_queued en l next =
          changed due' (λ d h. omega (arith, at d h, now d, awaits_is cards q d c is_queued))
          (λ d h. omega (arith, at d h, and-le (not new) (eqb (day + 1) d), later d))
        where
          due' : List ℕ
          due' = move_due span due new day

          at : (d : ℕ) → d < due_days span
              → get_or due' d 0 + bit (not new && eqb day d) ≡ get_or due d 0 + bit (not new && eqb (day + 1) d)
          at = moved span due new day long (due_below few) l (waits_one c is_card is_queued l)

          later : (d : ℕ) → bit (leb d day) + bit (eqb (day + 1) d) ≤ bit (leb d day')
          later d = rw next (le_step d day (day + 1) (omega arith))

          -- now it waits for the next day, if it has a last date
          now : (d : ℕ) → bit (awaits cards' q' d c) ≤ bit (not new && eqb (day + 1) d)
          now d = rw (← next, ← en) (and-le (queued q' c) (not (new_in cards' c) && eqb day' d))

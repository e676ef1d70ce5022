-- The card queue as functions on its list of rows: a binary heap, the smallest key first. A row is an order key and a
-- card number.
-- Comparisons and exchanges are those of `CardPriorityQueue`, so cards with equal keys are served in the same order.
--   key_at rows i, card_index_at rows i        the key and the card of the row at a place
--   parent i, swap rows i j                 the place above i, and the list with two rows exchanged
--   rise n rows pos, bubble_up rows pos      a row goes up while its parent's key is greater
--   lesser rows i j, least rows len pos     the place with the lesser key of two, and of a place and its children
--   sink n rows len pos, heapify rows len   a row goes down while a child's key is less, and the first row so
--   Queue, queue rows n                     a list of rows, and how many of its first places are taken
--   front q, has_room q, has_front q          the first card, and whether one more finds room or there is one
--   pushed q card key, popped q             the queue with a card more, and without its first
--   rekeyed rows key, front_changed q key    the first card with another key, and the queue after that
use Rattle.std.specs.Prelude.{List, [], ◌∷◌, Bool, cond, ◌&&◌, ℕ, zero, suc, ◌+◌, ◌-◌, ◌*◌, ◌/◌, ◌%◌, ◌^◌, get_or, set, length, leb, ltb, eqb}

-- the key of the row at a place
abbrev pub key_at : List (List ℕ) → ℕ → ℕ
key_at rows i = get_or (get_or rows i []) 0 0

-- the card number of the row at a place, a u32
abbrev pub card_index_at : List (List ℕ) → ℕ → ℕ
card_index_at rows i = get_or (get_or rows i []) 1 0 % 2 ^ 32

abbrev pub parent : ℕ → ℕ
parent i = (i - 1) / 2

abbrev pub swap : List (List ℕ) → ℕ → ℕ → List (List ℕ)
swap rows i j = set (set rows i (get_or rows j [])) j (get_or rows i [])

-- the row at pos changes places with its parent while the parent's key is greater; n is at least pos
unfoldable pub rise : ℕ → List (List ℕ) → ℕ → List (List ℕ)
rise zero rows pos = rows
rise (suc n) rows pos =
    let risen = rise n (swap rows pos (parent pos)) (parent pos) in
    cond (ltb 0 pos && ltb (key_at rows pos) (key_at rows (parent pos))) risen rows

abbrev pub bubble_up : List (List ℕ) → ℕ → List (List ℕ)
bubble_up rows pos = rise pos rows pos

-- of two places the second, if its key is less
unfoldable pub lesser : List (List ℕ) → ℕ → ℕ → ℕ
lesser rows i j = cond (ltb (key_at rows j) (key_at rows i)) j i

-- of a place and its children among the first len, the one with the least key; of equal keys the first in that order
unfoldable pub least : List (List ℕ) → ℕ → ℕ → ℕ
least rows len pos =
    let first = lesser rows pos (2 * pos + 1) in
    cond (ltb (2 * pos + 2) len) (lesser rows first (2 * pos + 2)) first

-- the row at pos changes places with its lesser child while that child's key is less; n is at least len - pos
unfoldable pub sink : ℕ → List (List ℕ) → ℕ → ℕ → List (List ℕ)
sink zero rows len pos = rows
sink (suc n) rows len pos =
    let next = least rows len pos in
    let sunk = sink n (swap rows pos next) len next in
    cond (ltb (2 * pos + 1) len) (cond (eqb next pos) rows sunk) rows

abbrev pub heapify : List (List ℕ) → ℕ → List (List ℕ)
heapify rows len = sink len rows len 0

-- the whole queue: its list, and how many of its first places are taken
pub record Queue : Type 0 where
  pub rows : List (List ℕ)
  pub len : ℕ

abbrev pub queue : List (List ℕ) → ℕ → Queue
queue rows n = record { rows = rows; len = n }

-- the first card, 0 in an empty list
abbrev pub front : Queue → ℕ
front q = card_index_at q.rows 0

-- a place is free, and one more card can be counted in a u32
abbrev pub has_room : Queue → Bool
has_room q = ltb q.len (length q.rows) && ltb q.len (2 ^ 32 - 1)

-- there is a first card, and the length lies within the list
abbrev pub has_front : Queue → Bool
has_front q = ltb 0 q.len && leb q.len (length q.rows)

-- a card joins as the last and rises to its place; a full queue stays as it is
unfoldable pub pushed : Queue → ℕ → ℕ → Queue
pushed q card key =
    cond (has_room q) (queue (bubble_up (set q.rows q.len (key ∷ card ∷ [])) q.len) (q.len + 1)) q

-- the first card leaves; the last takes its place and sinks
unfoldable pub popped : Queue → Queue
popped q =
    let n = q.len - 1 in
    cond (has_front q) (queue (heapify (set q.rows 0 (get_or q.rows n [])) n) n) q

-- the first card with another key, its number as it stands
abbrev pub rekeyed : List (List ℕ) → ℕ → List (List ℕ)
rekeyed rows key = set rows 0 (key ∷ get_or (get_or rows 0 []) 1 0 ∷ [])

-- the first card's key changes, and it sinks to its place
unfoldable pub front_changed : Queue → ℕ → Queue
front_changed q key = cond (has_front q) (queue (heapify (rekeyed q.rows key) q.len) q.len) q

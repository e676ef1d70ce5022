-- What a queue keeps, and which cards it holds.
--   Distinct q                     its cards lie within the list, none twice
--   HeapOrder q                    no key is less than its parent's
--   Sound q                        both
--   stands rows n c, queued q c    whether a card stands in the first n rows, and in the queue
--   Keyed cards k q                it is sound, and each card stands with its own key
use Rattle.std.specs.Prelude.{◌≡◌, Bool, false, ◌||◌, List, ℕ, zero, suc, ◌≤◌, ◌<◌, eqb, length}
use Rattle.queue.specs.Queue.{Queue, key_at, card_index_at, parent}

-- the cards lie within the list, none twice
pub record Distinct (q : Queue) : Type 0 where
  pub room : q.len ≤ length q.rows
  pub once : (i j : ℕ) → i < q.len → j < q.len → card_index_at q.rows i ≡ card_index_at q.rows j → i ≡ j

-- no key is less than its parent's
abbrev pub HeapOrder : Queue → Type 0
HeapOrder q = (i : ℕ) → 0 < i → i < q.len → key_at q.rows (parent i) ≤ key_at q.rows i

-- both: who is queued after each operation follows from the first alone, who is first from the second
pub record Sound (q : Queue) : Type 0 where
  pub distinct : Distinct q
  pub order : HeapOrder q

-- card c stands at one of the first n places
abbrev pub stands : List (List ℕ) → ℕ → ℕ → Bool
stands rows zero c = false
stands rows (suc n) c = eqb (card_index_at rows n) c || stands rows n c

abbrev pub queued : Queue → ℕ → Bool
queued q c = stands q.rows q.len c

-- a sound queue of cards below `cards`, where each card stands with the key that k gives it
pub record Keyed (cards : ℕ) (k : ℕ → ℕ) (q : Queue) : Type 0 where
  pub sound : Sound q
  pub named : (i : ℕ) → i < q.len → card_index_at q.rows i < cards
  pub key : (i : ℕ) → i < q.len → key_at q.rows i ≡ k (card_index_at q.rows i)

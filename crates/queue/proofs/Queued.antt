-- Which cards are queued, and which of them is first.
--   stands_here, stands_where   a card is queued where a place holds it, and only there
--   bool_eq                     two tests that pass in the same cases are one
--   card-same, key-same         two rows alike hold the same card, with the same key
--   front-queued, front-least   the first card is queued, and its key is least
use mathlib.Core.Path.{◌≡◌, refl, sym, ap, ◌∙◌}
use mathlib.Core.List.{List, []}
use mathlib.Core.Bool.{Bool, true, false, ◌||◌, false≢true}
use Prim.Native.Nat.{ℕ, zero, suc, ◌≤◌, ◌<◌}
use native.Mathlib.Nat.{le_refl}
use native.Mathlib.Decide.{ℕ_discrete}
use native.Mathlib.Omega.{arith}
use borrow.Author.Tests.{eq-eqb, eqb-true}
use lib.Dec.{eqb}
use lib.ListN.{get_or}
use Rattle.queue.specs.Queue.{Queue, key_at, card_index_at, front}
use Rattle.queue.specs.Sound.{HeapOrder, stands, queued}
use Rattle.queue.proofs.Order.{root_least}

pub stands_here : (rows : List (List ℕ)) (n c i : ℕ) → i < n → card_index_at rows i ≡ c → stands rows n c ≡ true
stands_here rows zero c i l e = absurd (omega arith)
stands_here rows (suc n) c i l e = at (ℕ_discrete i n) (stands_here rows n c i)
  where
    right : (a : Bool) → (a || true) ≡ true
    right true = refl
    right false = refl

    at : Dec (i ≡ n) → (i < n → card_index_at rows i ≡ c → stands rows n c ≡ true)
        → (eqb (card_index_at rows n) c || stands rows n c) ≡ true
    at (yes x) ih = rw (eq-eqb (card_index_at rows n) c (ap (λ (z : ℕ). card_index_at rows z) (sym x) ∙ e))
    at (no x) ih = rw (ih (omega arith) e) (right (eqb (card_index_at rows n) c))

pub stands_where : (rows : List (List ℕ)) (n c : ℕ) → stands rows n c ≡ true
    → (i : ℕ) × (i < n) × (card_index_at rows i ≡ c)
stands_where rows zero c e = absurd (false≢true e)
stands_where rows (suc n) c e = at (eqb (card_index_at rows n) c) refl e (stands_where rows n c)
  where
    at : (a : Bool) → eqb (card_index_at rows n) c ≡ a → (a || stands rows n c) ≡ true
        → (stands rows n c ≡ true → (i : ℕ) × (i < n) × (card_index_at rows i ≡ c))
        → (i : ℕ) × (i < suc n) × (card_index_at rows i ≡ c)
    at true x y ih = (n, omega arith, eqb-true (card_index_at rows n) c x)
    at false x y ih = let t = ih y in (t.0, omega (arith, t.1), t.2)

pub bool_eq : (a b : Bool) → (a ≡ true → b ≡ true) → (b ≡ true → a ≡ true) → a ≡ b
bool_eq true b f g = sym (f refl)
bool_eq false true f g = g refl
bool_eq false false f g = refl

-- two rows alike hold the same card
pub card-same : (rows rows' : List (List ℕ)) (i j : ℕ) → get_or rows i [] ≡ get_or rows' j []
    → card_index_at rows i ≡ card_index_at rows' j
card-same rows rows' i j e = rw e

pub key-same : (rows rows' : List (List ℕ)) (i j : ℕ) → get_or rows i [] ≡ get_or rows' j [] → key_at rows i ≡ key_at rows' j
key-same rows rows' i j e = rw e

pub front-queued : (q : Queue) → 0 < q.len → queued q (front q) ≡ true
front-queued q some = stands_here q.rows q.len (front q) 0 some refl

pub front-least : (q : Queue) → HeapOrder q → (i : ℕ) → i < q.len → key_at q.rows 0 ≤ key_at q.rows i
front-least q order i l = root_least (key_at q.rows) q.len i i (le_refl i) l order

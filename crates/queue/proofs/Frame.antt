-- A queue in a longer list: the places behind its own play no part, and stay as they are.
--   widened q b                          the queue q with the rows b behind its list
--   popped-widened, changed_widened      a pop and a change of the front do the same there
--   pushed_grown                         a push into the first free place grows the list of the queue's own rows
--   popped-long, changed_long, bubble_long   and lists keep their lengths
--   popped_less, changed_same            how many cards are queued after
use mathlib.Core.Path.{◌≡◌, refl, sym, ap, ◌∙◌}
use mathlib.Core.Bool.{Bool, true, false, ◌&&◌, cond}
use mathlib.Core.List.{List, [], ◌∷◌, ◌++◌}
use Prim.Native.Nat.{ℕ, zero, suc, ◌+◌, ◌-◌, ◌*◌, ◌%◌, ◌^◌, ◌≤◌, ◌<◌}
use native.Mathlib.Omega.{arith}
use borrow.Author.Tests.{lt-ltb, le-leb, ltb-true}
use lib.Dec.{eqb, ltb}
use lib.ListN.{get_or, set, length, length-append, length-set, get_or-append}
use lib.Seq.{set-append_left, set_at, append_snoc}
use Rattle.queue.specs.Queue.{Queue, queue, key_at, parent, swap, rise, bubble_up, lesser, least, sink, heapify}
use Rattle.queue.specs.Queue.{has_front, rekeyed, front, pushed, popped, front_changed}

abbrev pub widened : Queue → List (List ℕ) → Queue
widened q b = queue (q.rows ++ b) q.len

-- ---- lengths
swap-long : (a : List (List ℕ)) (i j : ℕ) → length (swap a i j) ≡ length a
swap-long a i j = length-set (set a i (get_or a j [])) j _ ∙ length-set a i _

rise-long : (n : ℕ) (a : List (List ℕ)) (pos : ℕ) → length (rise n a pos) ≡ length a
unfolding rise
rise-long zero a pos = refl
rise-long (suc n) a pos = go (ltb 0 pos && ltb (key_at a pos) (key_at a (parent pos)))
    (rise-long n (swap a pos (parent pos)) (parent pos))
  where
    go : (t : Bool) → length (rise n (swap a pos (parent pos)) (parent pos)) ≡ length (swap a pos (parent pos))
        → length (cond t (rise n (swap a pos (parent pos)) (parent pos)) a) ≡ length a
    go true ih = ih ∙ swap-long a pos (parent pos)
    go false ih = refl

pub bubble_long : (a : List (List ℕ)) (pos : ℕ) → length (bubble_up a pos) ≡ length a
bubble_long a pos = rise-long pos a pos

sink-long : (n : ℕ) (a : List (List ℕ)) (len pos : ℕ) → length (sink n a len pos) ≡ length a
unfolding sink
sink-long zero a len pos = refl
sink-long (suc n) a len pos = go (ltb (2 * pos + 1) len) (eqb (least a len pos) pos)
    (sink-long n (swap a pos (least a len pos)) len (least a len pos))
  where
    go : (t u : Bool) → length (sink n (swap a pos (least a len pos)) len (least a len pos))
        ≡ length (swap a pos (least a len pos))
        → length (cond t (cond u a (sink n (swap a pos (least a len pos)) len (least a len pos))) a) ≡ length a
    go true true ih = refl
    go true false ih = ih ∙ swap-long a pos (least a len pos)
    go false u ih = refl

pub popped-long : (q : Queue) → length (popped q).rows ≡ length q.rows
unfolding popped
popped-long q = go (has_front q)
  where
    go : (t : Bool) → length
        (cond t (queue (heapify (set q.rows 0 (get_or q.rows (q.len - 1) [])) (q.len - 1))
        (q.len - 1)) q).rows ≡ length q.rows
    go true = sink-long (q.len - 1) _ (q.len - 1) 0 ∙ length-set q.rows 0 _
    go false = refl

pub changed_long : (q : Queue) (key : ℕ) → length (front_changed q key).rows ≡ length q.rows
unfolding front_changed
changed_long q key = go (has_front q)
  where
    go : (t : Bool) → length (cond t (queue (heapify (rekeyed q.rows key) q.len) q.len) q).rows
        ≡ length q.rows
    go true = sink-long q.len _ q.len 0 ∙ length-set q.rows 0 _
    go false = refl

pub popped_less : (q : Queue) → (popped q).len ≤ q.len
unfolding popped
popped_less q = go (has_front q)
  where
    go : (t : Bool) → (cond t
        (queue (heapify (set q.rows 0 (get_or q.rows (q.len - 1) [])) (q.len - 1)) (q.len - 1)) q).len ≤ q.len
    go true = omega arith
    go false = omega arith

pub changed_same : (q : Queue) (key : ℕ) → (front_changed q key).len ≡ q.len
unfolding front_changed
changed_same q key = go (has_front q)
  where
    go : (t : Bool) → (cond t (queue (heapify (rekeyed q.rows key) q.len) q.len) q).len ≡ q.len
    go true = refl
    go false = refl

-- ---- the list's own places
module _ (a b : List (List ℕ)) where
  row_own : (i : ℕ) → i < length a → get_or (a ++ b) i [] ≡ get_or a i []
  row_own i h = get_or-append a b [] i h

  pub key-own : (i : ℕ) → i < length a → key_at (a ++ b) i ≡ key_at a i
  key-own i h = ap (λ (r : List ℕ). get_or r 0 0) (row_own i h)

  swap-own : (i j : ℕ) → i < length a → j < length a → swap (a ++ b) i j ≡ swap a i j ++ b
  swap-own i j h k =
      rw (row_own i h, row_own j k, set-append_left a b i (get_or a j []) h)
      (set-append_left (set a i (get_or a j [])) b j (get_or a i []) (omega (arith, length-set a i (get_or a j []))))

  lesser-own : (i j : ℕ) → i < length a → j < length a → lesser (a ++ b) i j ≡ lesser a i j
  unfolding lesser
  lesser-own i j h k = rw (key-own i h, key-own j k)

lesser-below : (a : List (List ℕ)) (i j n : ℕ) → i < n → j < n → lesser a i j < n
unfolding lesser
lesser-below a i j n h k = go (ltb (key_at a j) (key_at a i))
  where
    go : (t : Bool) → cond t j i < n
    go true = k
    go false = h

least-own : (a b : List (List ℕ)) (len pos : ℕ) → len ≤ length a → 2 * pos + 1 < len
    → (least (a ++ b) len pos ≡ least a len pos) × (least a len pos < length a)
unfolding least
least-own a b len pos h k = go (ltb (2 * pos + 2) len) refl
  where
    first : lesser (a ++ b) pos (2 * pos + 1) ≡ lesser a pos (2 * pos + 1)
    first = lesser-own a b pos (2 * pos + 1) (omega arith) (omega arith)

    below : lesser a pos (2 * pos + 1) < length a
    below = lesser-below a pos (2 * pos + 1) (length a) (omega arith) (omega arith)

    go : (t : Bool) → ltb (2 * pos + 2) len ≡ t
        → (cond t (lesser (a ++ b) (lesser (a ++ b) pos (2 * pos + 1)) (2 * pos + 2))
        (lesser (a ++ b) pos (2 * pos + 1))
        ≡ cond t (lesser a (lesser a pos (2 * pos + 1)) (2 * pos + 2)) (lesser a pos (2 * pos + 1)))
        × (cond t (lesser a (lesser a pos (2 * pos + 1)) (2 * pos + 2)) (lesser a pos (2 * pos + 1)) < length a)
    go true e =
        let in_len = ltb-true (2 * pos + 2) len e in (
          rw first (lesser-own a b (lesser a pos (2 * pos + 1)) (2 * pos + 2) below (omega (arith, in_len))),
          lesser-below a _ _ (length a) below (omega (arith, in_len)),
        )
    go false e = (first, below)

rise-own : (n : ℕ) (a b : List (List ℕ)) (pos : ℕ) → pos < length a → rise n (a ++ b) pos ≡ rise n a pos ++ b
unfolding rise
rise-own zero a b pos h = refl
rise-own (suc n) a b pos h =
    rw (key-own a b pos h, key-own a b (parent pos) up, swap-own a b pos (parent pos) h up)
    (go (ltb 0 pos && ltb (key_at a pos) (key_at a (parent pos)))
    (rise-own n (swap a pos (parent pos)) b (parent pos) (omega (arith, up, swap-long a pos (parent pos)))))
  where
    up : parent pos < length a
    up = omega (arith, h)

    go : (t : Bool) → rise n (swap a pos (parent pos) ++ b) (parent pos)
        ≡ rise n (swap a pos (parent pos)) (parent pos) ++ b
        → cond t (rise n (swap a pos (parent pos) ++ b) (parent pos)) (a ++ b)
        ≡ cond t (rise n (swap a pos (parent pos)) (parent pos)) a ++ b
    go true ih = ih
    go false ih = refl

sink-own : (n : ℕ) (a b : List (List ℕ)) (len pos : ℕ) → len ≤ length a → pos < length a
    → sink n (a ++ b) len pos ≡ sink n a len pos ++ b
unfolding sink
sink-own zero a b len pos h k = refl
sink-own (suc n) a b len pos h k = go (ltb (2 * pos + 1) len) refl (λ v p u w. sink-own n v b len p u w)
  where
    more : 2 * pos + 1 < len
        → ((v : List (List ℕ)) (p : ℕ) → len ≤ length v → p < length v → sink n (v ++ b) len p ≡ sink n v len p ++ b)
        → cond (eqb (least (a ++ b) len pos) pos) (a ++ b)
        (sink n (swap (a ++ b) pos (least (a ++ b) len pos)) len (least (a ++ b) len pos))
        ≡ cond (eqb (least a len pos) pos) a (sink n (swap a pos (least a len pos)) len (least a len pos)) ++ b
    more in_len ih =
        let l = least-own a b len pos h in_len in
        rw (l.0, swap-own a b pos (least a len pos) k l.1)
        (by (eqb (least a len pos) pos)
        (ih (swap a pos (least a len pos)) (least a len pos) (omega (arith, h, swap-long a pos (least a len pos)))
        (omega (arith, l.1, swap-long a pos (least a len pos)))))
      where
        by : (t : Bool) → sink n (swap a pos (least a len pos) ++ b) len (least a len pos)
            ≡ sink n (swap a pos (least a len pos)) len (least a len pos) ++ b
            → cond t (a ++ b) (sink n (swap a pos (least a len pos) ++ b) len (least a len pos))
            ≡ cond t a (sink n (swap a pos (least a len pos)) len (least a len pos)) ++ b
        by true ih = refl
        by false ih = ih

    go : (t : Bool) → ltb (2 * pos + 1) len ≡ t
        → ((v : List (List ℕ)) (p : ℕ) → len ≤ length v → p < length v → sink n (v ++ b) len p ≡ sink n v len p ++ b)
        → cond t (cond (eqb (least (a ++ b) len pos) pos) (a ++ b)
        (sink n (swap (a ++ b) pos (least (a ++ b) len pos)) len (least (a ++ b) len pos))) (a ++ b)
        ≡ cond t (cond (eqb (least a len pos) pos) a
        (sink n (swap a pos (least a len pos)) len (least a len pos))) a ++ b
    go true e ih = more (ltb-true (2 * pos + 1) len e) ih
    go false e ih = refl

-- ---- the queue's operations
module _ (q : Queue) (b : List (List ℕ)) (some : 0 < q.len) (room : q.len ≤ length q.rows) where
  has_front_lem : has_front q ≡ true
  has_front_lem = rw (lt-ltb 0 q.len some, le-leb q.len (length q.rows) room)

  has_front-wide : has_front (widened q b) ≡ true
  has_front-wide = rw (
    lt-ltb 0 q.len some,
    le-leb q.len (length (q.rows ++ b)) (omega (arith, room, length-append q.rows b)),
  )

  pub front-widened : front (widened q b) ≡ front q
  front-widened = ap (λ (r : List ℕ). get_or r 1 0 % 2 ^ 32) (row_own q.rows b 0 (omega (arith, some, room)))

  pub popped-widened : popped (widened q b) ≡ widened (popped q) b
  unfolding popped
  popped-widened =
      rw (
        has_front_lem,
        has_front-wide,
        row_own q.rows b (q.len - 1) (omega (arith, some, room)),
        set-append_left q.rows b 0 (get_or q.rows (q.len - 1) []) (omega (arith, some, room)),
      )
      (ap (λ (r : List (List ℕ)). queue r (q.len - 1))
      (sink-own (q.len - 1) _ b (q.len - 1) 0
      (omega (arith, room, length-set q.rows 0 (get_or q.rows (q.len - 1) [])))
      (omega (arith, some, room, length-set q.rows 0 (get_or q.rows (q.len - 1) [])))))

  pub changed_widened : (key : ℕ) → front_changed (widened q b) key ≡ widened (front_changed q key) b
  unfolding front_changed
  changed_widened key =
      rw (
        has_front_lem,
        has_front-wide,
        row_own q.rows b 0 (omega (arith, some, room)),
        set-append_left q.rows b 0 (key ∷ get_or (get_or q.rows 0 []) 1 0 ∷ []) (omega (arith, some, room)),
      )
      (ap (λ (r : List (List ℕ)). queue r q.len)
      (sink-own q.len _ b q.len 0
      (omega (arith, room, length-set q.rows 0 (key ∷ get_or (get_or q.rows 0 []) 1 0 ∷ [])))
      (omega (arith, some, room, length-set q.rows 0 (key ∷ get_or (get_or q.rows 0 []) 1 0 ∷ [])))))

-- a push into the first place behind the queue's own rows
pub pushed_grown : (a : List (List ℕ)) (y : List ℕ) (b : List (List ℕ)) (card key : ℕ) → length a < 65536
    → pushed (queue (a ++ y ∷ b) (length a)) card key
    ≡ queue (bubble_up (a ++ ((key ∷ card ∷ []) ∷ [])) (length a) ++ b) (length a + 1)
unfolding pushed
pushed_grown a y b card key few =
    let row : List ℕ = key ∷ card ∷ [] in
    let long : length (a ++ y ∷ b) ≡ length a + suc (length b) = length-append a (y ∷ b) in
    let own : length (a ++ (row ∷ [])) ≡ length a + 1 = length-append a (row ∷ []) in
    rw (
      lt-ltb (length a) (length (a ++ y ∷ b)) (omega (arith, long)),
      lt-ltb (length a) (2 ^ 32 - 1) (omega (arith, few)),
      set_at a y b row (length a) refl,
      sym (append_snoc a row b),
    )
    (ap (λ (r : List (List ℕ)). queue r (length a + 1))
    (rise-own (length a) (a ++ (row ∷ [])) b (length a) (omega (arith, own))))

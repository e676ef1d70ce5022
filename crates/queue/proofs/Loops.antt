-- One turn of each of the heap's loops as equations of the definitions. The code keeps the moving row aside and writes
-- one row a level; put at the place that is left, it makes each such write an exchange.
--   rise_stop, rise_more                          a row rests, or goes up one level
--   bubble_turn, bubble_end                       the same of bubble_up's loop
--   lesser-yes, lesser_no, least-two, least-one   the least of a place and its children, case by case
--   least_range                                   it lies at pos or behind, among the first len
--   sink_stop, sink_more                          a row rests, or goes down one level
--   sink-turn, sink_rests                         the same of heapify's loop, at a place with two children
--   only_moves, only_rests                        and at a place with at most one
--   room-yes, front-yes                           a row finds room, and there is a first card
--   push_is                                       a push that finds room
--   pop-empty, pop_is                             a pop: with no card, and with one
--   change-empty, change_is                       a change of the first card's key, in the same cases
use mathlib.Core.Path.{◌≡◌, refl, sym, ap, ◌∙◌}
use mathlib.Core.List.{List, [], ◌∷◌}
use mathlib.Core.Bool.{true}
use mathlib.Core.Logic.{◌≢◌}
use Prim.Native.Nat.{ℕ, zero, suc, ◌+◌, ◌-◌, ◌*◌, ◌^◌, ◌≤◌, ◌<◌}
use native.Mathlib.Decide.{ℕ_discrete, dec_lt}
use native.Mathlib.Omega.{arith}
use borrow.Author.Tests.{lt-ltb, le-ltb, le-leb, eq-eqb, ne_eqb}
use lib.ListN.{get_or, set, length}
use lib.Seq.{get_or-set_same, get_or-set_other, set-set}
use Rattle.queue.specs.Queue.{key_at, parent, swap, rise, bubble_up, lesser, least, sink, heapify}
use Rattle.queue.specs.Queue.{queue, has_room, has_front, pushed, popped, rekeyed, front_changed}

-- an exchange of the moving row with the one at q
hole : (rows : List (List ℕ)) (row : List ℕ) (pos q : ℕ) → pos < length rows → q ≢ pos
    → swap (set rows pos row) pos q ≡ set (set rows pos (get_or rows q [])) q row
hole rows row pos q l ne = rw
    (get_or-set_other rows pos q row [] ne, get_or-set_same rows pos row [] l, set-set rows pos row (get_or rows q []))

-- the keys where the moving row is put at pos
key-own : (rows : List (List ℕ)) (row : List ℕ) (pos : ℕ) → pos < length rows
    → key_at (set rows pos row) pos ≡ get_or row 0 0
key-own rows row pos l = rw (get_or-set_same rows pos row [] l)

key_other : (rows : List (List ℕ)) (row : List ℕ) (pos q : ℕ) → q ≢ pos → key_at (set rows pos row) q ≡ key_at rows q
key_other rows row pos q ne = rw (get_or-set_other rows pos q row [] ne)

-- ---- bubble_up
pub rise_stop : (n : ℕ) (rows : List (List ℕ)) (pos : ℕ) → (0 < pos → key_at rows (parent pos) ≤ key_at rows pos)
    → rise n rows pos ≡ rows
unfolding rise
rise_stop zero rows pos stop = refl
rise_stop (suc n) rows pos stop = at (dec_lt 0 pos)
  where
    at : Dec (0 < pos) → rise (suc n) rows pos ≡ rows
    at (yes l) = rw (lt-ltb 0 pos l, le-ltb (key_at rows pos) (key_at rows (parent pos)) (stop l))
    at (no l) = rw (le-ltb 0 pos (omega arith))

pub rise_more : (n : ℕ) (rows : List (List ℕ)) (pos : ℕ) → 0 < pos → key_at rows pos < key_at rows (parent pos)
    → rise (suc n) rows pos ≡ rise n (swap rows pos (parent pos)) (parent pos)
unfolding rise
rise_more n rows pos l less = rw (lt-ltb 0 pos l, lt-ltb (key_at rows pos) (key_at rows (parent pos)) less)

-- any bound from pos up will do
rise_fuel : (m n : ℕ) (rows : List (List ℕ)) (pos : ℕ) → pos ≤ m → pos ≤ n → rise m rows pos ≡ rise n rows pos
unfolding rise
rise_fuel zero n rows pos hm hn = sym (rise_stop n rows pos (λ l. absurd (omega arith)))
rise_fuel (suc m) zero rows pos hm hn = rise_stop (suc m) rows pos (λ l. absurd (omega arith))
rise_fuel (suc m) (suc n) rows pos hm hn = at (dec_lt 0 pos) (dec_lt (key_at rows pos) (key_at rows (parent pos)))
    (rise_fuel m n (swap rows pos (parent pos)) (parent pos))
  where
    at : Dec (0 < pos) → Dec (key_at rows pos < key_at rows (parent pos))
        → (parent pos ≤ m → parent pos ≤ n
        → rise m (swap rows pos (parent pos)) (parent pos) ≡ rise n (swap rows pos (parent pos)) (parent pos))
        → rise (suc m) rows pos ≡ rise (suc n) rows pos
    at (yes l) (yes less) ih = rise_more m rows pos l less ∙ ih (omega arith) (omega arith)
        ∙ sym (rise_more n rows pos l less)
    at (yes l) (no less) ih = rise_stop (suc m) rows pos (λ z. omega arith)
        ∙ sym (rise_stop (suc n) rows pos (λ z. omega arith))
    at (no l) d ih = rise_stop (suc m) rows pos (λ z. absurd (l z))
        ∙ sym (rise_stop (suc n) rows pos (λ z. absurd (l z)))

bubble_step : (rows : List (List ℕ)) (pos : ℕ) → 0 < pos → key_at rows pos < key_at rows (parent pos)
    → bubble_up rows pos ≡ bubble_up (swap rows pos (parent pos)) (parent pos)
bubble_step rows zero l less = absurd (omega arith)
bubble_step rows (suc n) l less =
    rise_more n rows (suc n) l less
    ∙ rise_fuel n (parent (suc n)) (swap rows (suc n) (parent (suc n))) (parent (suc n)) (omega arith) (omega arith)

-- one turn of bubble_up's loop, where the row above is greater
pub bubble_turn : (rows : List (List ℕ)) (row : List ℕ) (pos : ℕ) (s : List (List ℕ))
    → bubble_up (set rows pos row) pos ≡ s
    → 0 < pos
    → pos < length rows
    → get_or row 0 0 < key_at rows (parent pos)
    → bubble_up (set (set rows pos (get_or rows (parent pos) [])) (parent pos) row) (parent pos) ≡ s
bubble_turn rows row pos s e l u less =
    let ne : parent pos ≢ pos = omega arith in
    let less' : key_at (set rows pos row) pos < key_at (set rows pos row) (parent pos) =
    omega (arith, key-own rows row pos u, key_other rows row pos (parent pos) ne) in
    rw (← hole rows row pos (parent pos) u ne) (sym (bubble_step (set rows pos row) pos l less') ∙ e)

-- the loop ends at the root, or under a row that is not greater
pub bubble_end : (rows : List (List ℕ)) (row : List ℕ) (pos : ℕ) (s : List (List ℕ))
    → bubble_up (set rows pos row) pos ≡ s
    → pos < length rows
    → (0 < pos → key_at rows (parent pos) ≤ get_or row 0 0)
    → set rows pos row ≡ s
bubble_end rows row pos s e u stop =
    sym (rise_stop pos (set rows pos row) pos
    (λ l. let ne : parent pos ≢ pos = omega arith in omega
    (arith, stop l, key-own rows row pos u, key_other rows row pos (parent pos) ne))) ∙ e

-- ---- the least of a place and its children
pub lesser-yes : (rows : List (List ℕ)) (i j : ℕ) → key_at rows j < key_at rows i → lesser rows i j ≡ j
unfolding lesser
lesser-yes rows i j l = rw (lt-ltb (key_at rows j) (key_at rows i) l)

pub lesser_no : (rows : List (List ℕ)) (i j : ℕ) → key_at rows i ≤ key_at rows j → lesser rows i j ≡ i
unfolding lesser
lesser_no rows i j l = rw (le-ltb (key_at rows j) (key_at rows i) l)

pub least-two : (rows : List (List ℕ)) (len pos : ℕ) → 2 * pos + 2 < len
    → least rows len pos ≡ lesser rows (lesser rows pos (2 * pos + 1)) (2 * pos + 2)
unfolding least
least-two rows len pos l = rw (lt-ltb (2 * pos + 2) len l)

pub least-one : (rows : List (List ℕ)) (len pos : ℕ) → len ≤ 2 * pos + 2
    → least rows len pos ≡ lesser rows pos (2 * pos + 1)
unfolding least
least-one rows len pos l = rw (le-ltb (2 * pos + 2) len l)

-- the place of least key, where the moving row is put at pos: pos itself, if the lesser child's key is not less, else
-- that child
module _ (rows : List (List ℕ)) (row : List ℕ) (len pos : ℕ) (room : 2 * pos + 1 < len)
    (within : len ≤ length rows) where
  abbrev v : List (List ℕ)
  v = set rows pos row

  abbrev left : ℕ
  left = 2 * pos + 1

  abbrev right : ℕ
  right = 2 * pos + 2

  own : key_at v pos ≡ get_or row 0 0
  own = key-own rows row pos (omega arith)

  at_left : key_at v left ≡ key_at rows left
  at_left = key_other rows row pos left (omega arith)

  at_right : key_at v right ≡ key_at rows right
  at_right = key_other rows row pos right (omega arith)

  -- the left child alone
  one_stays : len ≤ right → get_or row 0 0 ≤ key_at rows left → least v len pos ≡ pos
  one_stays l h = least-one v len pos l ∙ lesser_no v pos left (omega (arith, own, at_left))

  one_moves : len ≤ right → key_at rows left < get_or row 0 0 → least v len pos ≡ left
  one_moves l h = least-one v len pos l ∙ lesser-yes v pos left (omega (arith, own, at_left))

  -- both children: left first, then right against the better of the two
  both_stay : right < len → get_or row 0 0 ≤ key_at rows left → get_or row 0 0 ≤ key_at rows right → least v len pos ≡ pos
  both_stay l a b =
      least-two v len pos l ∙ rw (lesser_no v pos left (omega (arith, own, at_left)))
      (lesser_no v pos right (omega (arith, own, at_right)))

  both_left : right < len → key_at rows left < get_or row 0 0 → key_at rows left ≤ key_at rows right → least v len pos ≡ left
  both_left l a b =
      least-two v len pos l ∙ rw (lesser-yes v pos left (omega (arith, own, at_left)))
      (lesser_no v left right (omega (arith, at_left, at_right)))

  both_right : right < len → key_at rows right < get_or row 0 0 → key_at rows right < key_at rows left
      → least v len pos ≡ right
  both_right l a b = least-two v len pos l ∙ at (dec_lt (key_at rows left) (get_or row 0 0))
    where
      at : Dec (key_at rows left < get_or row 0 0) → lesser v (lesser v pos left) right ≡ right
      at (yes d) = rw (lesser-yes v pos left (omega (arith, own, at_left)))
          (lesser-yes v left right (omega (arith, at_left, at_right)))
      at (no d) = rw (lesser_no v pos left (omega (arith, own, at_left)))
          (lesser-yes v pos right (omega (arith, own, at_right)))

  two_stays : right < len → get_or row 0 0 ≤ key_at rows (lesser rows left right) → least v len pos ≡ pos
  two_stays l h = at (dec_lt (key_at rows right) (key_at rows left))
    where
      at : Dec (key_at rows right < key_at rows left) → least v len pos ≡ pos
      at (yes d) =
          let h' : get_or row 0 0 ≤ key_at rows right = rw (lesser-yes rows left right d) at h in
          both_stay l (omega arith) h'
      at (no d) =
          let h' : get_or row 0 0 ≤ key_at rows left = rw (lesser_no rows left right (omega arith)) at h in
          both_stay l h' (omega arith)

  two_moves : right < len → key_at rows (lesser rows left right) < get_or row 0 0
      → least v len pos ≡ lesser rows left right
  two_moves l h = at (dec_lt (key_at rows right) (key_at rows left))
    where
      at : Dec (key_at rows right < key_at rows left) → least v len pos ≡ lesser rows left right
      at (yes d) =
          let e : lesser rows left right ≡ right = lesser-yes rows left right d in
          let h' : key_at rows right < get_or row 0 0 = rw e at h in
          both_right l h' d ∙ sym e
      at (no d) =
          let e : lesser rows left right ≡ left = lesser_no rows left right (omega arith) in
          let h' : key_at rows left < get_or row 0 0 = rw e at h in
          both_left l h' (omega arith) ∙ sym e

-- ---- heapify
lesser_range : (rows : List (List ℕ)) (i j a b : ℕ) → a ≤ i → a ≤ j → i < b → j < b
    → (a ≤ lesser rows i j) × (lesser rows i j < b)
lesser_range rows i j a b ai aj ib jb = at (dec_lt (key_at rows j) (key_at rows i))
  where
    at : Dec (key_at rows j < key_at rows i) → (a ≤ lesser rows i j) × (lesser rows i j < b)
    at (yes l) = rw (lesser-yes rows i j l) (aj, jb)
    at (no l) = rw (lesser_no rows i j (omega arith)) (ai, ib)

pub least_range : (rows : List (List ℕ)) (len pos : ℕ) → 2 * pos + 1 < len
    → (pos ≤ least rows len pos) × (least rows len pos < len)
least_range rows len pos l = at (dec_lt (2 * pos + 2) len)
  where
    first : (pos ≤ lesser rows pos (2 * pos + 1)) × (lesser rows pos (2 * pos + 1) < len)
    first = lesser_range rows pos (2 * pos + 1) pos len (omega arith) (omega arith) (omega arith) (omega arith)

    at : Dec (2 * pos + 2 < len) → (pos ≤ least rows len pos) × (least rows len pos < len)
    at (yes d) = rw (least-two rows len pos d)
        (lesser_range rows (lesser rows pos (2 * pos + 1)) (2 * pos + 2) pos len first.0 (omega arith) first.1 d)
    at (no d) = rw (least-one rows len pos (omega arith)) first

pub sink_stop : (n : ℕ) (rows : List (List ℕ)) (len pos : ℕ) → (2 * pos + 1 < len → least rows len pos ≡ pos)
    → sink n rows len pos ≡ rows
unfolding sink
sink_stop zero rows len pos stop = refl
sink_stop (suc n) rows len pos stop = at (dec_lt (2 * pos + 1) len)
  where
    at : Dec (2 * pos + 1 < len) → sink (suc n) rows len pos ≡ rows
    at (yes l) = rw (lt-ltb (2 * pos + 1) len l, eq-eqb (least rows len pos) pos (stop l))
    at (no l) = rw (le-ltb (2 * pos + 1) len (omega arith))

pub sink_more : (n : ℕ) (rows : List (List ℕ)) (len pos : ℕ) → 2 * pos + 1 < len → least rows len pos ≢ pos
    → sink (suc n) rows len pos ≡ sink n (swap rows pos (least rows len pos)) len (least rows len pos)
unfolding sink
sink_more n rows len pos l ne = rw (lt-ltb (2 * pos + 1) len l, ne_eqb (least rows len pos) pos ne)

-- any bound from len - pos up will do
sink_fuel : (m n : ℕ) (rows : List (List ℕ)) (len pos : ℕ) → len - pos ≤ m → len - pos ≤ n
    → sink m rows len pos ≡ sink n rows len pos
unfolding sink
sink_fuel zero n rows len pos hm hn = sym (sink_stop n rows len pos (λ l. absurd (omega arith)))
sink_fuel (suc m) zero rows len pos hm hn = sink_stop (suc m) rows len pos (λ l. absurd (omega arith))
sink_fuel (suc m) (suc n) rows len pos hm hn =
    at (dec_lt (2 * pos + 1) len) (ℕ_discrete (least rows len pos) pos)
    (sink_fuel m n (swap rows pos (least rows len pos)) len (least rows len pos))
  where
    at : Dec (2 * pos + 1 < len) → Dec (least rows len pos ≡ pos)
        → (let next = least rows len pos in len - next ≤ m → len - next ≤ n
        → sink m (swap rows pos next) len next ≡ sink n (swap rows pos next) len next)
        → sink (suc m) rows len pos ≡ sink (suc n) rows len pos
    at (yes l) (yes e) ih = sink_stop (suc m) rows len pos (λ z. e) ∙ sym (sink_stop (suc n) rows len pos (λ z. e))
    at (yes l) (no e) ih =
        let r = least_range rows len pos l in
        sink_more m rows len pos l e ∙ ih (omega arith) (omega arith) ∙ sym (sink_more n rows len pos l e)
    at (no l) d ih = sink_stop (suc m) rows len pos (λ z. absurd (l z))
        ∙ sym (sink_stop (suc n) rows len pos (λ z. absurd (l z)))

sink-step : (rows : List (List ℕ)) (len pos : ℕ) → 2 * pos + 1 < len → least rows len pos ≢ pos
    → sink len rows len pos ≡ sink len (swap rows pos (least rows len pos)) len (least rows len pos)
sink-step rows zero pos l ne = absurd (omega arith)
sink-step rows (suc n) pos l ne =
    let r = least_range rows (suc n) pos l in
    let next = least rows (suc n) pos in
    sink_more n rows (suc n) pos l ne
    ∙ sink_fuel n (suc n) (swap rows pos next) (suc n) next (omega arith) (omega arith)

-- the moving row changes places with the one at next
sink_moves : (rows : List (List ℕ)) (row : List ℕ) (len pos next : ℕ) → 2 * pos + 1 < len → len ≤ length rows
    → pos < next
    → least (set rows pos row) len pos ≡ next
    → sink len (set (set rows pos (get_or rows next [])) next row) len next ≡ sink len (set rows pos row) len pos
sink_moves rows row len pos next l w p m =
    let ne : next ≢ pos = omega arith in
    rw (← hole rows row pos next (omega arith) ne)
    (sym (rw m at (sink-step (set rows pos row) len pos l (λ z. ne (sym m ∙ z)))))

-- heapify's loop, at a place pos with the children left and left + 1
module _ (rows : List (List ℕ)) (row : List ℕ) (len pos left next : ℕ) (s : List (List ℕ))
    (e : sink len (set rows pos row) len pos ≡ s)
    (place : left ≡ 2 * pos + 1)
    (both : left + 1 < len)
    (within : len ≤ length rows)
    (child : next ≡ lesser rows left (left + 1)) where
  lesser_is : lesser rows left (left + 1) ≡ lesser rows (2 * pos + 1) (2 * pos + 2)
  lesser_is = rw place (ap (lesser rows (2 * pos + 1)) (omega arith))

  -- one turn, where the lesser child's key is less
  pub sink-turn : left ≤ next → key_at rows next < get_or row 0 0
      → sink len (set (set rows pos (get_or rows next [])) next row) len next ≡ s
  sink-turn g less =
      let less' : key_at rows (lesser rows (2 * pos + 1) (2 * pos + 2)) < get_or row 0 0 = rw (child, lesser_is) at less in
      let m : least (set rows pos row) len pos
      ≡ next = two_moves rows row len pos (omega arith) within (omega arith) less' ∙ sym (child ∙ lesser_is) in
      sink_moves rows row len pos next (omega arith) within (omega arith) m ∙ e

  -- the end, where it is not
  pub sink_rests : get_or row 0 0 ≤ key_at rows next → set rows pos row ≡ s
  sink_rests stop =
      let stop' : get_or row 0 0 ≤ key_at rows (lesser rows (2 * pos + 1) (2 * pos + 2)) = rw (child, lesser_is) at stop in
      sym (sink_stop len (set rows pos row) len pos (λ l. two_stays rows row len pos l within (omega arith) stop')) ∙ e

-- at a place with at most one child, left
module _ (rows : List (List ℕ)) (row : List ℕ) (len pos left : ℕ) (place : left ≡ 2 * pos + 1) (last : len ≤ left + 1)
    (within : len ≤ length rows) where
  pub only_moves : left < len → key_at rows left < get_or row 0 0
      → set (set rows pos (get_or rows left [])) left row ≡ sink len (set rows pos row) len pos
  only_moves l less =
      let less' : key_at rows (2 * pos + 1) < get_or row 0 0 = rw place at less in
      let m : least (set rows pos row) len pos
      ≡ left = one_moves rows row len pos (omega arith) within (omega arith) less' ∙ sym place in
      sym (sink_stop len (set (set rows pos (get_or rows left [])) left row) len left (λ z. absurd (omega arith)))
      ∙ sink_moves rows row len pos left (omega arith) within (omega arith) m

  pub only_rests : (left < len → get_or row 0 0 ≤ key_at rows left)
      → set rows pos row ≡ sink len (set rows pos row) len pos
  only_rests stop =
      sym (sink_stop len (set rows pos row) len pos
      (λ l. one_stays rows row len pos l within (omega arith) (rw place at (stop (omega arith)))))

-- ---- the operations, by the tests that the code makes
module _ (rows : List (List ℕ)) (len : ℕ) where
  pub room-yes : len < length rows → len < 2 ^ 32 - 1 → has_room (queue rows len) ≡ true
  room-yes h l = rw (lt-ltb len (length rows) h, lt-ltb len (2 ^ 32 - 1) l)

  pub front-yes : 0 < len → len ≤ length rows → has_front (queue rows len) ≡ true
  front-yes h l = rw (lt-ltb 0 len h, le-leb len (length rows) l)

  module _ (card key : ℕ) where
    pub push_is : len < length rows → len < 2 ^ 32 - 1 → (rows' : List (List ℕ))
        → rows' ≡ bubble_up (set rows len (key ∷ card ∷ [])) len
        → queue rows' (len + 1) ≡ pushed (queue rows len) card key
    unfolding pushed
    push_is h l rows' e = rw (e, room-yes h l)

  pub pop-empty : len ≡ 0 → queue rows len ≡ popped (queue rows len)
  unfolding popped
  pop-empty e = rw (le-ltb 0 len (omega arith))

  pub pop_is : 0 < len → len ≤ length rows → (rows' : List (List ℕ))
      → rows' ≡ heapify (set rows 0 (get_or rows (len - 1) [])) (len - 1)
      → queue rows' (len - 1) ≡ popped (queue rows len)
  unfolding popped
  pop_is h l rows' e = rw (e, front-yes h l)

  module _ (key : ℕ) where
    pub change-empty : len ≡ 0 → queue rows len ≡ front_changed (queue rows len) key
    unfolding front_changed
    change-empty e = rw (le-ltb 0 len (omega arith))

    pub change_is : 0 < len → len ≤ length rows → (rows' : List (List ℕ)) → rows' ≡ heapify (rekeyed rows key) len
        → queue rows' len ≡ front_changed (queue rows len) key
    unfolding front_changed
    change_is h l rows' e = rw (e, front-yes h l)

-- What holds before each loop and is kept by each of its exchanges holds after it: `rise_keeps` and `sink_keeps` carry
-- every law of the heap.
--   swap-first, swap-second, swap_other, swapped   the rows after an exchange, and their keys
--   rise_keeps                                     a law that each exchange upwards keeps, and where bubble_up ends
--   least-below, least_child                       the place chosen has the least key, and is a child if it is not pos
--   sink_keeps                                     a law that each exchange downwards keeps, and where heapify ends
use mathlib.Core.Path.{◌≡◌, ◌∙◌}
use mathlib.Core.List.{List, []}
use mathlib.Core.Logic.{◌≢◌, ◌⊎◌, inl, inr}
use Prim.Native.Nat.{ℕ, zero, suc, ◌+◌, ◌-◌, ◌*◌, ◌≤◌, ◌<◌}
use native.Mathlib.Decide.{ℕ_discrete, dec_lt}
use native.Mathlib.Omega.{arith}
use lib.ListN.{get_or, set, length, length-set}
use lib.Seq.{get_or-set_same, get_or-set_other}
use Rattle.queue.specs.Queue.{key_at, parent, swap, rise, lesser, least, sink}
use Rattle.queue.proofs.Loops.{rise_stop, rise_more, lesser-yes, lesser_no, least-one, least-two, least_range}
use Rattle.queue.proofs.Loops.{sink_stop, sink_more}
use Rattle.queue.proofs.Order.{Swapped}

-- ---- an exchange, place by place
module _ (rows : List (List ℕ)) (a b : ℕ) where
  pub swap-first : a < length rows → a ≢ b → get_or (swap rows a b) a [] ≡ get_or rows b []
  swap-first l ne = get_or-set_other (set rows a (get_or rows b [])) b a (get_or rows a []) [] ne
      ∙ get_or-set_same rows a (get_or rows b []) [] l

  pub swap-second : b < length rows → get_or (swap rows a b) b [] ≡ get_or rows a []
  swap-second l = get_or-set_same (set rows a (get_or rows b [])) b (get_or rows a []) [] (simp length-set l)

  pub swap_other : (x : ℕ) → x ≢ a → x ≢ b → get_or (swap rows a b) x [] ≡ get_or rows x []
  swap_other x na nb = get_or-set_other (set rows a (get_or rows b [])) b x (get_or rows a []) [] nb
      ∙ get_or-set_other rows a x (get_or rows b []) [] na

  pub swapped : a < length rows → b < length rows → a ≢ b → Swapped (key_at rows) (key_at (swap rows a b)) a b
  swapped la lb ne = record {
    first = rw (swap-first la ne);
    second = rw (swap-second lb);
    others = λ x na nb. rw (swap_other x na nb);
  }

-- ---- bubble_up
module _ (P : List (List ℕ) → ℕ → Type 0)
    (step : (rows : List (List ℕ)) (pos : ℕ) → 0 < pos → key_at rows pos < key_at rows (parent pos) → P rows pos
    → P (swap rows pos (parent pos)) (parent pos)) where
  -- the place at which the loop ends, and why
  pub rise_keeps : (n : ℕ) (rows : List (List ℕ)) (pos : ℕ) → pos ≤ n → P rows pos
      → (at : ℕ) × (P (rise n rows pos) at)
      × (0 < at → key_at (rise n rows pos) (parent at) ≤ key_at (rise n rows pos) at)
  unfolding rise
  rise_keeps zero rows pos b r = (pos, r, λ l. absurd (omega arith))
  rise_keeps (suc n) rows pos b r = at (dec_lt 0 pos) (dec_lt (key_at rows pos) (key_at rows (parent pos)))
      (rise_keeps n (swap rows pos (parent pos)) (parent pos))
    where
      Kept : List (List ℕ) → Type 0
      Kept v = (at : ℕ) × (P v at) × (0 < at → key_at v (parent at) ≤ key_at v at)

      rests : (0 < pos → key_at rows (parent pos) ≤ key_at rows pos) → Kept (rise (suc n) rows pos)
      rests stop = rw (rise_stop (suc n) rows pos stop) (pos, r, stop)

      at : Dec (0 < pos) → Dec (key_at rows pos < key_at rows (parent pos))
          → (parent pos ≤ n → P (swap rows pos (parent pos)) (parent pos)
          → Kept (rise n (swap rows pos (parent pos)) (parent pos)))
          → Kept (rise (suc n) rows pos)
      at (yes l) (yes less) ih = rw (rise_more n rows pos l less) (ih (omega arith) (step rows pos l less r))
      at (yes l) (no less) ih = rests (λ z. omega arith)
      at (no l) d ih = rests (λ z. absurd (l z))

-- ---- heapify: what the place chosen is
module _ (rows : List (List ℕ)) where
  lesser-both : (i j : ℕ)
      → (key_at rows (lesser rows i j) ≤ key_at rows i) × (key_at rows (lesser rows i j) ≤ key_at rows j)
  lesser-both i j = at (dec_lt (key_at rows j) (key_at rows i))
    where
      at : Dec (key_at rows j < key_at rows i)
          → (key_at rows (lesser rows i j) ≤ key_at rows i) × (key_at rows (lesser rows i j) ≤ key_at rows j)
      at (yes l) = rw (lesser-yes rows i j l) (omega arith)
      at (no l) = rw (lesser_no rows i j (omega arith)) (omega arith)

  lesser-either : (i j : ℕ) → (lesser rows i j ≡ i) ⊎ ((lesser rows i j ≡ j) × (key_at rows j < key_at rows i))
  lesser-either i j = at (dec_lt (key_at rows j) (key_at rows i))
    where
      at : Dec (key_at rows j < key_at rows i)
          → (lesser rows i j ≡ i) ⊎ ((lesser rows i j ≡ j) × (key_at rows j < key_at rows i))
      at (yes l) = inr (lesser-yes rows i j l, l)
      at (no l) = inl (lesser_no rows i j (omega arith))

  module _ (len pos : ℕ) (room : 2 * pos + 1 < len) where
    first : ℕ
    first = lesser rows pos (2 * pos + 1)

    -- its key is at most those of pos and of each child
    pub least-below : (key_at rows (least rows len pos) ≤ key_at rows pos)
        × ((i : ℕ) → 0 < i → i < len → parent i ≡ pos → key_at rows (least rows len pos) ≤ key_at rows i)
    unfolding first
    least-below = at (dec_lt (2 * pos + 2) len)
      where
        one : (key_at rows first ≤ key_at rows pos) × (key_at rows first ≤ key_at rows (2 * pos + 1))
        one = lesser-both pos (2 * pos + 1)

        two : (key_at rows (lesser rows first (2 * pos + 2)) ≤ key_at rows first)
            × (key_at rows (lesser rows first (2 * pos + 2)) ≤ key_at rows (2 * pos + 2))
        two = lesser-both first (2 * pos + 2)

        side : (i : ℕ) → 0 < i → parent i ≡ pos → Dec (i ≡ 2 * pos + 1) → (i ≡ 2 * pos + 1) ⊎ (i ≡ 2 * pos + 2)
        side i l e (yes x) = inl x
        side i l e (no x) = inr (omega arith)

        child : (i k : ℕ) → 0 < i → parent i ≡ pos → k ≤ key_at rows (2 * pos + 1)
            → (i ≡ 2 * pos + 2 → k ≤ key_at rows i) → k ≤ key_at rows i
        child i k l e x y = elim (side i l e (ℕ_discrete i (2 * pos + 1))) [ inl z ↦ rw z x | inr z ↦ y z ]

        at : Dec (2 * pos + 2 < len)
            → (key_at rows (least rows len pos) ≤ key_at rows pos)
            × ((i : ℕ) → 0 < i → i < len → parent i ≡ pos → key_at rows (least rows len pos) ≤ key_at rows i)
        at (yes l) = rw (least-two rows len pos l) (
          omega (arith, one, two),
          λ i p u e. child i (key_at rows (lesser rows first (2 * pos + 2))) p e (omega (arith, one, two))
              (λ z. rw z two.1),
        )
        at (no l) = rw (least-one rows len pos (omega arith))
            (one.0, λ i p u e. child i (key_at rows first) p e one.1 (λ z. absurd (omega arith)))

    -- another place than pos is a child of pos with a smaller key
    pub least_child : least rows len pos ≢ pos
        → (parent (least rows len pos) ≡ pos) × (0 < least rows len pos) × (least rows len pos < len)
        × (key_at rows (least rows len pos) < key_at rows pos)
    unfolding first
    least_child ne = at (dec_lt (2 * pos + 2) len)
      where
        Child : ℕ → Type 0
        Child x = (parent x ≡ pos) × (0 < x) × (x < len) × (key_at rows x < key_at rows pos)

        one : (first ≡ pos) ⊎ Child first
        one = elim (lesser-either pos (2 * pos + 1)) [
          | inl e ↦ inl e
          | inr z ↦ inr
              (rw z.0 (omega arith, omega arith, room, z.1))
        ]

        two : 2 * pos + 2 < len → (lesser rows first (2 * pos + 2) ≡ pos) ⊎ Child (lesser rows first (2 * pos + 2))
        two l = elim (lesser-either first (2 * pos + 2)) [
          | inl e ↦ rw e one
          | inr z ↦ inr
              (rw z.0 (omega arith, omega arith, l, omega (arith, z.1, (lesser-both pos (2 * pos + 1)).0)))
        ]

        at : Dec (2 * pos + 2 < len) → Child (least rows len pos)
        at (yes l) =
            let e = least-two rows len pos l in
            elim (two l) [ inl x ↦ absurd (ne (e ∙ x)) | inr g ↦ rw e g ]
        at (no l) =
            let e = least-one rows len pos (omega arith) in
            elim one [ inl x ↦ absurd (ne (e ∙ x)) | inr g ↦ rw e g ]

module _ (P : List (List ℕ) → ℕ → Type 0) (len : ℕ)
    (step : (rows : List (List ℕ)) (pos : ℕ) → 2 * pos + 1 < len → least rows len pos ≢ pos → P rows pos
    → P (swap rows pos (least rows len pos)) (least rows len pos)) where
  -- the place at which the loop ends, and why
  pub sink_keeps : (n : ℕ) (rows : List (List ℕ)) (pos : ℕ) → len - pos ≤ n → P rows pos
      → (at : ℕ) × (P (sink n rows len pos) at) × (2 * at + 1 < len → least (sink n rows len pos) len at ≡ at)
  unfolding sink
  sink_keeps zero rows pos b r = (pos, r, λ l. absurd (omega arith))
  sink_keeps (suc n) rows pos b r = at (dec_lt (2 * pos + 1) len) (ℕ_discrete (least rows len pos) pos)
      (sink_keeps n (swap rows pos (least rows len pos)) (least rows len pos))
    where
      Kept : List (List ℕ) → Type 0
      Kept v = (at : ℕ) × (P v at) × (2 * at + 1 < len → least v len at ≡ at)

      rests : (2 * pos + 1 < len → least rows len pos ≡ pos) → Kept (sink (suc n) rows len pos)
      rests stop = rw (sink_stop (suc n) rows len pos stop) (pos, r, stop)

      at : Dec (2 * pos + 1 < len) → Dec (least rows len pos ≡ pos)
          → (len - least rows len pos ≤ n → P (swap rows pos (least rows len pos)) (least rows len pos)
          → Kept (sink n (swap rows pos (least rows len pos)) len (least rows len pos)))
          → Kept (sink (suc n) rows len pos)
      at (yes l) (yes e) ih = rests (λ z. e)
      at (yes l) (no e) ih =
          let g = least_range rows len pos l in
          rw (sink_more n rows len pos l e) (ih (omega arith) (step rows pos l e r))
      at (no l) d ih = rests (λ z. absurd (l z))

-- The heap's loops change nothing but the order of the first len rows, whatever the keys.
--   Mixed len rows₀ rows          the same rows in another order, no card twice
--   mixed-none, mixed-swap        rows with no card twice are so of themselves, and one more exchange leaves them so
--   bubble_mixes, heapify_mixes   each loop leaves them so
--   mixed_distinct                a queue of such rows has no card twice
use mathlib.Core.Path.{◌≡◌, refl, sym, ◌∙◌}
use mathlib.Core.List.{List, []}
use mathlib.Core.Logic.{◌≢◌}
use Prim.Native.Nat.{ℕ, ◌+◌, ◌*◌, ◌≤◌, ◌<◌}
use native.Mathlib.Decide.{ℕ_discrete}
use native.Mathlib.Omega.{arith}
use lib.ListN.{get_or, length, length-set}
use Rattle.queue.specs.Queue.{queue, key_at, card_index_at, parent, swap, bubble_up, least, heapify}
use Rattle.queue.specs.Sound.{Distinct}
use Rattle.queue.proofs.Steps.{swap-first, swap-second, swap_other, rise_keeps, least_child, sink_keeps}

-- the first len of rows are those of rows₀ in another order, no card twice; the rest is the same
pub record Mixed (len : ℕ) (rows₀ rows : List (List ℕ)) : Type 0 where
  pub room : len ≤ length rows
  pub long : length rows ≡ length rows₀
  pub once : (i j : ℕ) → i < len → j < len → card_index_at rows i ≡ card_index_at rows j → i ≡ j
  pub from : (i : ℕ) → i < len → (j : ℕ) × (j < len) × (get_or rows₀ j [] ≡ get_or rows i [])
  pub to : (i : ℕ) → i < len → (j : ℕ) × (j < len) × (get_or rows j [] ≡ get_or rows₀ i [])
  pub beyond : (i : ℕ) → len ≤ i → get_or rows i [] ≡ get_or rows₀ i []

pub mixed-none : (len : ℕ) (rows : List (List ℕ)) → len ≤ length rows
    → ((i j : ℕ) → i < len → j < len → card_index_at rows i ≡ card_index_at rows j → i ≡ j) → Mixed len rows rows
mixed-none len rows room once = record {
  room = room;
  long = refl;
  once = once;
  from = λ i l. (i, l, refl);
  to = λ i l. (i, l, refl);
  beyond = λ i l. refl;
}

module _ (len : ℕ) (rows₀ rows : List (List ℕ)) (a b : ℕ) (la : a < len) (lb : b < len) (ne : a ≢ b)
    (m : Mixed len rows₀ rows) where
  -- the place whose row stands at i after the exchange
  abbrev Back : ℕ → Type 0
  Back i = (j : ℕ) × (j < len) × (get_or (swap rows a b) i [] ≡ get_or rows j []) × (i ≡ a → j ≡ b) × (i ≡ b → j ≡ a)
      × (i ≢ a → i ≢ b → j ≡ i)

  back : (i : ℕ) → i < len → Back i
  back i l = at (ℕ_discrete i a) (ℕ_discrete i b)
    where
      at : Dec (i ≡ a) → Dec (i ≡ b) → Back i
      at (yes e) d = (
        b,
        lb,
        rw e (swap-first rows a b (omega (arith, m.room)) ne),
        λ x. refl,
        λ x. absurd (ne (sym e ∙ x)),
        λ x y. absurd (x e),
      )
      at (no e) (yes f) = (
        a,
        la,
        rw f (swap-second rows a b (omega (arith, m.room))),
        λ x. absurd (e x),
        λ x. refl,
        λ x y. absurd (y f),
      )
      at (no e) (no f) = (i, l, swap_other rows a b i e f, λ x. absurd (e x), λ x. absurd (f x), λ x y. refl)

  same_back : (i j : ℕ) (u : Back i) (w : Back j) → u.0 ≡ w.0 → i ≡ j
  same_back i j u w e = at (ℕ_discrete i a) (ℕ_discrete i b) (ℕ_discrete j a) (ℕ_discrete j b)
    where
      at : Dec (i ≡ a) → Dec (i ≡ b) → Dec (j ≡ a) → Dec (j ≡ b) → i ≡ j
      at (yes x) y (yes z) v = omega arith
      at (yes x) y (no z) (yes v) = absurd (ne (sym (w.4 v) ∙ sym e ∙ u.3 x))
      at (yes x) y (no z) (no v) = absurd (v (sym (w.5 z v) ∙ sym e ∙ u.3 x))
      at (no x) (yes y) (yes z) v = absurd (ne (sym (u.4 y) ∙ e ∙ w.3 z))
      at (no x) (yes y) (no z) (yes v) = omega arith
      at (no x) (yes y) (no z) (no v) = absurd (z (sym (w.5 z v) ∙ sym e ∙ u.4 y))
      at (no x) (no y) (yes z) v = absurd (y (sym (u.5 x y) ∙ e ∙ w.3 z))
      at (no x) (no y) (no z) (yes v) = absurd (x (sym (u.5 x y) ∙ e ∙ w.4 v))
      at (no x) (no y) (no z) (no v) = sym (u.5 x y) ∙ e ∙ w.5 z v

  swap_to : (i : ℕ) → i < len → (j : ℕ) × (j < len) × (get_or (swap rows a b) j [] ≡ get_or rows i [])
  swap_to i l = at (ℕ_discrete i a) (ℕ_discrete i b)
    where
      at : Dec (i ≡ a) → Dec (i ≡ b) → (j : ℕ) × (j < len) × (get_or (swap rows a b) j [] ≡ get_or rows i [])
      at (yes e) d = (b, lb, rw e (swap-second rows a b (omega (arith, m.room))))
      at (no e) (yes f) = (a, la, rw f (swap-first rows a b (omega (arith, m.room)) ne))
      at (no e) (no f) = (i, l, swap_other rows a b i e f)

  mixed-swap : Mixed len rows₀ (swap rows a b)
  mixed-swap = record {
    room = simp length-set m.room;
    long = simp length-set m.long;
    once = λ i j li lj e. let u = back i li in let w = back j lj in same_back i j u w
        (m.once u.0 w.0 u.1 w.1 (sym (card i u.0 u.2) ∙ e ∙ card j w.0 w.2));
    from = λ i l. let u = back i l in let t = m.from u.0 u.1 in (t.0, t.1, t.2 ∙ sym u.2);
    to = λ i l. let t = m.to i l in let u = swap_to t.0 t.1 in (u.0, u.1, u.2 ∙ t.2);
    beyond = λ i l. swap_other rows a b i (omega arith) (omega arith) ∙ m.beyond i l;
  }
    where
      card : (i j : ℕ) → get_or (swap rows a b) i [] ≡ get_or rows j [] → card_index_at (swap rows a b) i ≡ card_index_at rows j
      card i j e = rw e

pub mixed_distinct : (len : ℕ) (rows₀ rows : List (List ℕ)) → Mixed len rows₀ rows → Distinct (queue rows len)
mixed_distinct len rows₀ rows m = record { room = m.room; once = m.once }

pub bubble_mixes : (len : ℕ) (rows₀ rows : List (List ℕ)) (pos : ℕ) → pos < len → Mixed len rows₀ rows
    → Mixed len rows₀ (bubble_up rows pos)
bubble_mixes len rows₀ rows pos below m = (rise_keeps Kept step pos rows pos (omega arith) (below, m)).1.1
  where
    Kept : List (List ℕ) → ℕ → Type 0
    Kept v at = (at < len) × Mixed len rows₀ v

    step : (v : List (List ℕ)) (at : ℕ) → 0 < at → key_at v at < key_at v (parent at) → Kept v at
        → Kept (swap v at (parent at)) (parent at)
    step v at z less k =
        let l = k.0 in (omega arith, mixed-swap len rows₀ v at (parent at) l (omega arith) (omega arith) k.1)

pub heapify_mixes : (len : ℕ) (rows₀ rows : List (List ℕ)) → Mixed len rows₀ rows → Mixed len rows₀ (heapify rows len)
heapify_mixes len rows₀ rows m = (sink_keeps Kept len step len rows 0 (omega arith) m).1
  where
    Kept : List (List ℕ) → ℕ → Type 0
    Kept v at = Mixed len rows₀ v

    step : (v : List (List ℕ)) (at : ℕ) → 2 * at + 1 < len → least v len at ≢ at → Kept v at
        → Kept (swap v at (least v len at)) (least v len at)
    step v at l ne k =
        let ch = least_child v len at l ne in
        mixed-swap len rows₀ v at (least v len at) (omega arith) ch.2 (λ e. ne (sym e)) k

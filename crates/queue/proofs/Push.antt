-- A card joins: it is queued with those before, none twice, whatever their order; and heap order is kept.
--   Pushed, push_law                a card joins as the last row, and what that leaves
--   push_ordered                    heap order is kept
--   last-card, last-key, same_row   the last row's card and key, and the rows before it
--   push-queued                     the card is queued then, and so are those before
use mathlib.Core.Path.{◌≡◌, refl, sym, ap, ◌∙◌}
use mathlib.Core.List.{List, [], ◌∷◌}
use mathlib.Core.Bool.{Bool, true, false, ◌||◌, false≢true}
use mathlib.Core.Logic.{◌≢◌}
use Prim.Native.Nat.{ℕ, ◌+◌, ◌-◌, ◌^◌, ◌≤◌, ◌<◌}
use native.Mathlib.Decide.{ℕ_discrete}
use native.Mathlib.Omega.{arith}
use borrow.Author.Tests.{eq-eqb, eqb-true}
use lib.Dec.{eqb}
use lib.ListN.{get_or, set, length, length-set}
use lib.Seq.{get_or-set_same, get_or-set_other}
use Rattle.queue.specs.Queue.{Queue, key_at, card_index_at, parent, bubble_up, pushed}
use Rattle.queue.specs.Sound.{Distinct, HeapOrder, queued}
use Rattle.queue.proofs.Loops.{push_is}
use Rattle.queue.proofs.Order.{Rising}
use Rattle.queue.proofs.Mixed.{mixed-none, mixed_distinct, bubble_mixes}
use Rattle.queue.proofs.Settled.{bubble_settles}
use Rattle.queue.proofs.Queued.{stands_here, stands_where, bool_eq, card-same, key-same}

pub record Pushed (q : Queue) (card key : ℕ) (q' : Queue) : Type 0 where
  pub distinct : Distinct q'
  pub more : q'.len ≡ q.len + 1
  pub long : length q'.rows ≡ length q.rows
  pub from : (i : ℕ) → i < q.len + 1
      → (j : ℕ) × (j < q.len + 1) × (get_or (set q.rows q.len (key ∷ card ∷ [])) j [] ≡ get_or q'.rows i [])
  pub to : (i : ℕ) → i < q.len + 1
      → (j : ℕ) × (j < q.len + 1) × (get_or q'.rows j [] ≡ get_or (set q.rows q.len (key ∷ card ∷ [])) i [])
  pub beyond : (i : ℕ) → q.len < i → get_or q'.rows i [] ≡ get_or q.rows i []

module _ (q : Queue) (card key : ℕ) (fits : card < 2 ^ 32) (space : q.len < length q.rows)
    (few : q.len < 2 ^ 32 - 1) (s : Distinct q) (new : queued q card ≡ false) where
  abbrev joined : List (List ℕ)
  joined = set q.rows q.len (key ∷ card ∷ [])

  last_row : get_or joined q.len [] ≡ key ∷ card ∷ []
  last_row = get_or-set_same q.rows q.len (key ∷ card ∷ []) [] space

  pub last-card : card_index_at joined q.len ≡ card
  last-card = rw last_row (omega arith)

  pub last-key : key_at joined q.len ≡ key
  last-key = rw last_row

  pub same_row : (i : ℕ) → i ≢ q.len → get_or joined i [] ≡ get_or q.rows i []
  same_row i ne = get_or-set_other q.rows q.len i (key ∷ card ∷ []) [] ne

  not-card : (i : ℕ) → i < q.len → card_index_at q.rows i ≢ card
  not-card i l e = false≢true (sym new ∙ stands_here q.rows q.len card i l e)

  once_joined : (i j : ℕ) → i < q.len + 1 → j < q.len + 1 → card_index_at joined i ≡ card_index_at joined j → i ≡ j
  once_joined i j li lj e = at (ℕ_discrete i q.len) (ℕ_discrete j q.len)
    where
      at : Dec (i ≡ q.len) → Dec (j ≡ q.len) → i ≡ j
      at (yes x) (yes y) = omega arith
      at (yes x) (no y) = absurd
          (not-card j (omega arith)
          (sym (card-same joined q.rows j j (same_row j y)) ∙ sym e ∙ ap (λ (z : ℕ). card_index_at joined z) x
          ∙ last-card))
      at (no x) (yes y) = absurd
          (not-card i (omega arith)
          (sym (card-same joined q.rows i i (same_row i x)) ∙ e ∙ ap (λ (z : ℕ). card_index_at joined z) y
          ∙ last-card))
      at (no x) (no y) = s.once i j (omega arith) (omega arith)
          (sym (card-same joined q.rows i i (same_row i x)) ∙ e ∙ card-same joined q.rows j j (same_row j y))

  joined_rising : HeapOrder q → Rising (key_at joined) (q.len + 1) q.len
  joined_rising order = record { rest = λ i l u ne. far i l u ne; over = λ i l u e p. absurd (omega arith) }
    where
      far : (i : ℕ) → 0 < i → i < q.len + 1 → i ≢ q.len → key_at joined (parent i) ≤ key_at joined i
      far i l u ne =
          omega (
            arith,
            key-same joined q.rows i i (same_row i ne),
            key-same joined q.rows (parent i) (parent i) (same_row (parent i) (omega arith)),
            order i l (omega arith),
          )

  pub push_law : Pushed q card key (pushed q card key)
  push_law =
      let d = bubble_mixes (q.len + 1) joined joined q.len (omega arith)
      (mixed-none (q.len + 1) joined (simp length-set (omega arith)) once_joined) in
      rw (← push_is q.rows q.len card key space few (bubble_up joined q.len) refl)
      (record {
        distinct = mixed_distinct (q.len + 1) joined (bubble_up joined q.len) d;
        more = refl;
        long = d.long ∙ simp length-set;
        from = d.from;
        to = d.to;
        beyond = λ i l. d.beyond i (omega arith) ∙ same_row i (omega arith);
      })

  pub push_ordered : HeapOrder q → HeapOrder (pushed q card key)
  push_ordered order =
      rw (← push_is q.rows q.len card key space few (bubble_up joined q.len) refl)
      (bubble_settles (q.len + 1) joined q.len (simp length-set (omega arith)) (omega arith) (joined_rising order))

  pub push-queued : (c : ℕ) → queued (pushed q card key) c ≡ (eqb card c || queued q c)
  push-queued c = go (pushed q card key) push_law
    where
      or_right : (a b : Bool) → b ≡ true → (a || b) ≡ true
      or_right true b e = refl
      or_right false b e = e

      go : (q' : Queue) → Pushed q card key q' → queued q' c ≡ (eqb card c || queued q c)
      go q' w = bool_eq (queued q' c) (eqb card c || queued q c) there (back (eqb card c) refl)
        where
          there : queued q' c ≡ true → (eqb card c || queued q c) ≡ true
          there e =
              let t = stands_where q'.rows q'.len c e in
              let u = w.from t.0 (omega (arith, t.1, w.more)) in
              at u.0 u.1 (card-same joined q'.rows u.0 t.0 u.2 ∙ t.2) (ℕ_discrete u.0 q.len)
            where
              at : (j : ℕ) → j < q.len + 1 → card_index_at joined j ≡ c → Dec (j ≡ q.len)
                  → (eqb card c || queued q c) ≡ true
              at j l x (yes y) = rw (eq-eqb card c (sym last-card ∙ ap (λ (z : ℕ). card_index_at joined z) (sym y) ∙ x))
              at j l x (no y) = or_right (eqb card c) (queued q c)
                  (stands_here q.rows q.len c j (omega arith)
                  (sym (card-same joined q.rows j j (same_row j y)) ∙ x))

          back : (a : Bool) → eqb card c ≡ a → (a || queued q c) ≡ true → queued q' c ≡ true
          back true x e =
              let u = w.to q.len (omega arith) in
              stands_here q'.rows q'.len c u.0 (omega (arith, u.1, w.more))
              (card-same q'.rows joined u.0 q.len u.2 ∙ last-card ∙ eqb-true card c x)
          back false x e =
              let t = stands_where q.rows q.len c e in
              let u = w.to t.0 (omega (arith, t.1)) in
              stands_here q'.rows q'.len c u.0 (omega (arith, u.1, w.more))
              (card-same q'.rows joined u.0 t.0 u.2
              ∙ card-same joined q.rows t.0 t.0 (same_row t.0 (omega (arith, t.1))) ∙ t.2)

-- Each card stands with its key, after each operation too.
--   keyed_same                  keys that agree on the cards will do
--   queued-named, keyed_least   a queued card is one of the cards, and the first has the least key
--   requeue, unqueue, enqueue   each operation leaves each card with its key
use mathlib.Core.Path.{◌≡◌, sym, ap, ◌∙◌, subst}
use mathlib.Core.List.{List, [], ◌∷◌}
use mathlib.Core.Bool.{true, false}
use mathlib.Core.Logic.{◌≢◌}
use Prim.Native.Nat.{ℕ, ◌+◌, ◌-◌, ◌^◌, ◌≤◌, ◌<◌}
use native.Mathlib.Decide.{ℕ_discrete}
use native.Mathlib.Omega.{arith}
use lib.ListN.{get_or, set, length}
use Rattle.queue.specs.Queue.{Queue, key_at, card_index_at, front, rekeyed, pushed, popped, front_changed}
use Rattle.queue.specs.Sound.{HeapOrder, queued, Keyed}
use Rattle.queue.proofs.Queued.{stands_where, card-same, key-same, front-least}
use Rattle.queue.proofs.Change.{Changed, rekeyed-first, rekeyed_other, rekeyed-card, change_law, change_ordered}
use Rattle.queue.proofs.Pop.{Popped, pop_law, pop_ordered}
use Rattle.queue.proofs.Push.{Pushed, last-card, last-key, same_row, push_law, push_ordered}

pub keyed_same : (cards : ℕ) (k k' : ℕ → ℕ) (q : Queue) → ((c : ℕ) → c < cards → k c ≡ k' c) → Keyed cards k q
    → Keyed cards k' q
keyed_same cards k k' q same w = record {
  sound = w.sound;
  named = w.named;
  key = λ i l. w.key i l
      ∙ same (card_index_at q.rows i) (w.named i l);
}

module _ (cards : ℕ) (k : ℕ → ℕ) (q : Queue) (w : Keyed cards k q) where
  pub queued-named : (c : ℕ) → queued q c ≡ true → c < cards
  queued-named c e = let t = stands_where q.rows q.len c e in subst (λ (z : ℕ). z < cards) t.2
      (w.named t.0 t.1)

  pub keyed_least : 0 < q.len → (c : ℕ) → queued q c ≡ true → k (front q) ≤ k c
  keyed_least some c e =
      let t = stands_where q.rows q.len c e in
      let x : key_at q.rows t.0 ≡ k c = w.key t.0 t.1 ∙ ap k t.2 in
      omega (arith, front-least q w.sound.order t.0 t.1, w.key 0 some, x)

  -- the first card's key changes with its card, and no other card's
  pub requeue : (k' : ℕ → ℕ) (key : ℕ) → 0 < q.len → ((c : ℕ) → c ≢ front q → k' c ≡ k c) → key ≡ k' (front q)
      → Keyed cards k' (front_changed q key)
  requeue k' key some others own =
      go (front_changed q key) (change_law q key w.sound.distinct) (change_ordered q key w.sound.distinct w.sound.order)
    where
      v : List (List ℕ)
      v = rekeyed q.rows key

      go : (q' : Queue) → Changed q key q' → HeapOrder q' → Keyed cards k' q'
      go q' u order = record {
        sound = record { distinct = u.distinct; order = order };
        named = λ i l. let t = u.from i (omega (arith, u.same)) in subst (λ (z : ℕ). z < cards)
            (card i t.0 t.2) (w.named t.0 t.1);
        key = λ i l. let t = u.from i (omega (arith, u.same)) in sym (key-same v q'.rows t.0 i t.2)
            ∙ at t.0 t.1 (ℕ_discrete t.0 0) ∙ ap k' (card i t.0 t.2);
      }
        where
          room : 0 < length q.rows
          room = omega (arith, w.sound.distinct.room)

          card : (i j : ℕ) → get_or v j [] ≡ get_or q'.rows i [] → card_index_at q.rows j ≡ card_index_at q'.rows i
          card i j e = sym (rekeyed-card q key room j) ∙ card-same v q'.rows j i e

          at : (j : ℕ) → j < q.len → Dec (j ≡ 0) → key_at v j ≡ k' (card_index_at q.rows j)
          at j l (yes e) = rw e (rw (rekeyed-first q key room) own)
          at j l (no e) =
              key-same v q.rows j j (rekeyed_other q key j e) ∙ w.key j l
              ∙ sym (others (card_index_at q.rows j) (λ z. e (w.sound.distinct.once j 0 l some z)))

  pub unqueue : Keyed cards k (popped q)
  unqueue = go (popped q) (pop_law q w.sound.distinct) (pop_ordered q w.sound.distinct w.sound.order)
    where
      go : (q' : Queue) → Popped q q' → HeapOrder q' → Keyed cards k q'
      go q' u order = record {
        sound = record { distinct = u.distinct; order = order };
        named = λ i l. let t = u.from i (omega (arith, u.less)) in subst (λ (z : ℕ). z < cards)
            (card-same q.rows q'.rows t.0 i t.3) (w.named t.0 t.2);
        key = λ i l. let t = u.from i (omega (arith, u.less)) in sym (key-same q.rows q'.rows t.0 i t.3)
            ∙ w.key t.0 t.2 ∙ ap k (card-same q.rows q'.rows t.0 i t.3);
      }

  pub enqueue : (card cards' : ℕ) → cards ≤ cards' → card < cards' → card < 2 ^ 32 → q.len < length q.rows
      → q.len < 2 ^ 32 - 1 → queued q card ≡ false
      → Keyed cards' k (pushed q card (k card))
  enqueue card cards' more small fits space few new = go (pushed q card (k card))
      (push_law q card (k card) fits space few w.sound.distinct new)
      (push_ordered q card (k card) fits space few w.sound.distinct new w.sound.order)
    where
      v : List (List ℕ)
      v = set q.rows q.len (k card ∷ card ∷ [])

      at : (j : ℕ) → j < q.len + 1 → Dec (j ≡ q.len) → (card_index_at v j < cards') × (key_at v j ≡ k (card_index_at v j))
      at j l (yes e) = rw e (
        subst (λ (z : ℕ). z < cards') (sym (last-card q card (k card) fits space few w.sound.distinct new)) small,
        last-key q card (k card) fits space few w.sound.distinct new
            ∙ ap k (sym (last-card q card (k card) fits space few w.sound.distinct new)),
      )
      at j l (no e) =
          let r = same_row q card (k card) fits space few w.sound.distinct new j e in
          let x : j < q.len = omega arith in (
            omega (arith, card-same v q.rows j j r, w.named j x),
            key-same v q.rows j j r ∙ w.key j x ∙ ap k (sym (card-same v q.rows j j r)),
          )

      go : (q' : Queue) → Pushed q card (k card) q' → HeapOrder q' → Keyed cards' k q'
      go q' u order = record {
        sound = record { distinct = u.distinct; order = order };
        named = λ i l. let t = u.from i (omega (arith, u.more)) in subst (λ (z : ℕ). z < cards')
            (card-same v q'.rows t.0 i t.2) (at t.0 t.1 (ℕ_discrete t.0 q.len)).0;
        key = λ i l. let t = u.from i (omega (arith, u.more)) in
            sym (key-same v q'.rows t.0 i t.2) ∙ (at t.0 t.1 (ℕ_discrete t.0 q.len)).1
            ∙ ap k (card-same v q'.rows t.0 i t.2);
      }

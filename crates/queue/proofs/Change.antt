-- The first card's key changes: the same cards are queued, none twice, whatever their order; and heap order is kept.
--   Changed, change_law                          what a change of the first card's key leaves
--   change_ordered                               heap order is kept
--   rekeyed-first, rekeyed_other, rekeyed-card   the rows with the new key: the first, the others, and each row's card
--   change-queued                                a change of key leaves the same cards queued
use mathlib.Core.Path.{◌≡◌, refl, sym, ◌∙◌}
use mathlib.Core.List.{List, [], ◌∷◌}
use mathlib.Core.Bool.{true}
use mathlib.Core.Logic.{◌≢◌}
use Prim.Native.Nat.{ℕ, ◌≤◌, ◌<◌}
use native.Mathlib.Decide.{ℕ_discrete}
use native.Mathlib.Omega.{arith}
use lib.ListN.{get_or, length, length-set}
use lib.Seq.{get_or-set_same, get_or-set_other}
use Rattle.queue.specs.Queue.{Queue, key_at, card_index_at, heapify, rekeyed, front_changed}
use Rattle.queue.specs.Sound.{Distinct, HeapOrder, queued}
use Rattle.queue.proofs.Loops.{change-empty, change_is}
use Rattle.queue.proofs.Order.{ordered_root}
use Rattle.queue.proofs.Mixed.{mixed-none, mixed_distinct, heapify_mixes}
use Rattle.queue.proofs.Settled.{heapify_settles}
use Rattle.queue.proofs.Queued.{stands_here, stands_where, bool_eq, card-same}

pub record Changed (q : Queue) (key : ℕ) (q' : Queue) : Type 0 where
  pub distinct : Distinct q'
  pub same : q'.len ≡ q.len
  pub long : length q'.rows ≡ length q.rows
  pub from : (i : ℕ) → i < q.len → (j : ℕ) × (j < q.len) × (get_or (rekeyed q.rows key) j [] ≡ get_or q'.rows i [])
  pub to : (i : ℕ) → i < q.len → (j : ℕ) × (j < q.len) × (get_or q'.rows j [] ≡ get_or (rekeyed q.rows key) i [])
  pub beyond : (i : ℕ) → q.len ≤ i → get_or q'.rows i [] ≡ get_or q.rows i []

module _ (q : Queue) (key : ℕ) where
  pub rekeyed-first : 0 < length q.rows
      → get_or (rekeyed q.rows key) 0 [] ≡ key ∷ get_or (get_or q.rows 0 []) 1 0 ∷ []
  rekeyed-first l = get_or-set_same q.rows 0 (key ∷ get_or (get_or q.rows 0 []) 1 0 ∷ []) [] l

  pub rekeyed_other : (i : ℕ) → i ≢ 0 → get_or (rekeyed q.rows key) i [] ≡ get_or q.rows i []
  rekeyed_other i ne = get_or-set_other q.rows 0 i (key ∷ get_or (get_or q.rows 0 []) 1 0 ∷ []) [] ne

  pub rekeyed-card : 0 < length q.rows → (i : ℕ) → card_index_at (rekeyed q.rows key) i ≡ card_index_at q.rows i
  rekeyed-card l i = at (ℕ_discrete i 0)
    where
      at : Dec (i ≡ 0) → card_index_at (rekeyed q.rows key) i ≡ card_index_at q.rows i
      at (yes e) = rw e (rw (rekeyed-first l))
      at (no e) = rw (rekeyed_other i e)

  module _ (s : Distinct q) where
    change_some : 0 < q.len → Changed q key (front_changed q key)
    change_some some =
        let v = rekeyed q.rows key in
        let room = s.room in
        let card = rekeyed-card (omega arith) in
        let d = heapify_mixes q.len v v (mixed-none q.len v (simp length-set room)
        (λ i j li lj e. s.once i j li lj (sym (card i) ∙ e ∙ card j))) in
        rw (← change_is q.rows q.len key some room (heapify v q.len) refl)
        (record {
          distinct = mixed_distinct q.len v (heapify v q.len) d;
          same = refl;
          long = d.long ∙ simp length-set;
          from = d.from;
          to = d.to;
          beyond = λ i l. d.beyond i l ∙ rekeyed_other i (omega arith);
        })

    pub change_law : Changed q key (front_changed q key)
    change_law = at (ℕ_discrete q.len 0)
      where
        at : Dec (q.len ≡ 0) → Changed q key (front_changed q key)
        at (yes e) = rw (← change-empty q.rows q.len key e)
            (record {
              distinct = s;
              same = refl;
              long = refl;
              from = λ i l. absurd (omega arith);
              to = λ i l. absurd (omega arith);
              beyond = λ i l. refl;
            })
        at (no e) = change_some (omega arith)

    pub change_ordered : HeapOrder q → HeapOrder (front_changed q key)
    change_ordered order = at (ℕ_discrete q.len 0)
      where
        at : Dec (q.len ≡ 0) → HeapOrder (front_changed q key)
        at (yes e) = rw (← change-empty q.rows q.len key e) order
        at (no e) =
            let v = rekeyed q.rows key in
            rw (← change_is q.rows q.len key (omega arith) s.room (heapify v q.len) refl)
            (heapify_settles q.len v (simp length-set s.room)
            (ordered_root (key_at q.rows) (key_at v) q.len (λ x p u. rw (rekeyed_other x (omega arith))) order))

pub change-queued : (q : Queue) (key : ℕ) → Distinct q → (c : ℕ) → queued (front_changed q key) c ≡ queued q c
change-queued q key s c = go (front_changed q key) (change_law q key s)
  where
    go : (q' : Queue) → Changed q key q' → queued q' c ≡ queued q c
    go q' w = bool_eq (queued q' c) (queued q c) there back
      where
        v : List (List ℕ)
        v = rekeyed q.rows key

        card : (i : ℕ) → i < q.len → card_index_at v i ≡ card_index_at q.rows i
        card i l = let room = s.room in rekeyed-card q key (omega arith) i

        there : queued q' c ≡ true → queued q c ≡ true
        there e =
            let t = stands_where q'.rows q'.len c e in
            let u = w.from t.0 (omega (arith, t.1, w.same)) in
            stands_here q.rows q.len c u.0 u.1
            (sym (card u.0 u.1) ∙ card-same v q'.rows u.0 t.0 u.2 ∙ t.2)

        back : queued q c ≡ true → queued q' c ≡ true
        back e =
            let t = stands_where q.rows q.len c e in
            let u = w.to t.0 t.1 in
            stands_here q'.rows q'.len c u.0 (omega (arith, u.1, w.same))
            (card-same q'.rows v u.0 t.0 u.2 ∙ card t.0 t.1 ∙ t.2)

-- The first card leaves, and no other, whatever their order; and heap order is kept.
--   Popped, pop_law        what is left without the first card
--   pop_ordered            heap order is kept
--   pop_other, pop-front   the first card leaves, and no other
use mathlib.Core.Path.{◌≡◌, refl, sym, ap, ◌∙◌}
use mathlib.Core.List.{List, []}
use mathlib.Core.Bool.{Bool, true, false}
use mathlib.Core.Logic.{◌≢◌}
use Prim.Native.Nat.{ℕ, ◌-◌, ◌≤◌, ◌<◌}
use native.Mathlib.Decide.{ℕ_discrete}
use native.Mathlib.Omega.{arith}
use lib.ListN.{get_or, set, length, length-set}
use lib.Seq.{get_or-set_same, get_or-set_other}
use Rattle.queue.specs.Queue.{Queue, key_at, card_index_at, heapify, front, popped}
use Rattle.queue.specs.Sound.{Distinct, HeapOrder, queued}
use Rattle.queue.proofs.Loops.{pop-empty, pop_is}
use Rattle.queue.proofs.Order.{ordered_root}
use Rattle.queue.proofs.Mixed.{Mixed, mixed-none, mixed_distinct, heapify_mixes}
use Rattle.queue.proofs.Settled.{heapify_settles}
use Rattle.queue.proofs.Queued.{stands_here, stands_where, bool_eq, card-same}

pub record Popped (q q' : Queue) : Type 0 where
  pub distinct : Distinct q'
  pub less : q'.len ≡ q.len - 1
  pub long : length q'.rows ≡ length q.rows
  pub from : (i : ℕ) → i < q.len - 1 → (j : ℕ) × (0 < j) × (j < q.len) × (get_or q.rows j [] ≡ get_or q'.rows i [])
  pub to : (i : ℕ) → 0 < i → i < q.len → (j : ℕ) × (j < q.len - 1) × (get_or q'.rows j [] ≡ get_or q.rows i [])
  pub beyond : (i : ℕ) → q.len ≤ i → get_or q'.rows i [] ≡ get_or q.rows i []

module _ (q : Queue) (s : Distinct q) (some : 0 < q.len) where
  abbrev n : ℕ
  n = q.len - 1

  abbrev v : List (List ℕ)
  v = set q.rows 0 (get_or q.rows n [])

  first_row : get_or v 0 [] ≡ get_or q.rows n []
  first_row = let room = s.room in get_or-set_same q.rows 0 (get_or q.rows n []) [] (omega arith)

  other_row : (i : ℕ) → i ≢ 0 → get_or v i [] ≡ get_or q.rows i []
  other_row i ne = get_or-set_other q.rows 0 i (get_or q.rows n []) [] ne

  -- the place of q whose row stands at i
  abbrev Was : ℕ → Type 0
  Was i = (j : ℕ) × (0 < j) × (j < q.len) × (get_or v i [] ≡ get_or q.rows j []) × (i ≡ 0 → j ≡ n) × (0 < i → j ≡ i)

  was : (i : ℕ) → i < n → Was i
  was i l = at (ℕ_discrete i 0)
    where
      at : Dec (i ≡ 0) → Was i
      at (yes e) = (n, omega arith, omega arith, rw e first_row, λ x. refl, λ x. absurd (omega arith))
      at (no e) = (i, omega arith, omega arith, other_row i e, λ x. absurd (e x), λ x. refl)

  once_left : (i j : ℕ) → i < n → j < n → card_index_at v i ≡ card_index_at v j → i ≡ j
  once_left i j li lj e =
      let a = was i li in
      let b = was j lj in
      let x : card_index_at v i ≡ card_index_at q.rows a.0 = rw a.3 in
      let y : card_index_at v j ≡ card_index_at q.rows b.0 = rw b.3 in
      at (ℕ_discrete i 0) (ℕ_discrete j 0) (s.once a.0 b.0 a.2 b.2 (sym x ∙ e ∙ y))
    where
      at : Dec (i ≡ 0) → Dec (j ≡ 0) → (was i li).0 ≡ (was j lj).0 → i ≡ j
      at (yes p) (yes r) x = omega arith
      at (yes p) (no r) x = absurd (omega (arith, sym ((was j lj).5 (omega arith)) ∙ sym x ∙ (was i li).4 p))
      at (no p) (yes r) x = absurd (omega (arith, sym ((was i li).5 (omega arith)) ∙ x ∙ (was j lj).4 r))
      at (no p) (no r) x = sym ((was i li).5 (omega arith)) ∙ x ∙ (was j lj).5 (omega arith)

  pop_mixed : Mixed n v (heapify v n)
  pop_mixed = let room = s.room in heapify_mixes n v v (mixed-none n v (simp length-set (omega arith)) once_left)

  pop_some : Popped q (popped q)
  pop_some =
      let room = s.room in
      let d = pop_mixed in
      rw (← pop_is q.rows q.len some room (heapify v n) refl)
      (record {
        distinct = mixed_distinct n v (heapify v n) d;
        less = refl;
        long = d.long ∙ simp length-set;
        from = λ i l. let t = d.from i l in let u = was t.0 t.1 in (u.0, u.1, u.2, sym u.3 ∙ t.2);
        to = λ i p l. go i p l (ℕ_discrete i n);
        beyond = λ i l. d.beyond i (omega arith) ∙ other_row i (omega arith);
      })
    where
      go : (i : ℕ) → 0 < i → i < q.len → Dec (i ≡ n)
          → (j : ℕ) × (j < n) × (get_or (heapify v n) j [] ≡ get_or q.rows i [])
      go i p l (yes e) = let t = pop_mixed.to 0 (omega arith) in
          (t.0, t.1, t.2 ∙ first_row ∙ ap (λ (x : ℕ). get_or q.rows x []) (sym e))
      go i p l (no e) = let t = pop_mixed.to i (omega arith) in (t.0, t.1, t.2 ∙ other_row i (omega arith))

  some_ordered : HeapOrder q → HeapOrder (popped q)
  some_ordered order =
      let room = s.room in
      rw (← pop_is q.rows q.len some room (heapify v n) refl)
      (heapify_settles n v (simp length-set (omega arith))
      (ordered_root (key_at q.rows) (key_at v) n (λ x p u. rw (other_row x (omega arith)))
      (λ i p u. order i p (omega arith))))

pub pop_law : (q : Queue) → Distinct q → Popped q (popped q)
pop_law q s = at (ℕ_discrete q.len 0)
  where
    at : Dec (q.len ≡ 0) → Popped q (popped q)
    at (yes e) = rw (← pop-empty q.rows q.len e)
        (record {
          distinct = s;
          less = omega arith;
          long = refl;
          from = λ i l. absurd (omega arith);
          to = λ i p l. absurd (omega arith);
          beyond = λ i l. refl;
        })
    at (no e) = pop_some q s (omega arith)

pub pop_ordered : (q : Queue) → Distinct q → HeapOrder q → HeapOrder (popped q)
pop_ordered q s order = at (ℕ_discrete q.len 0)
  where
    at : Dec (q.len ≡ 0) → HeapOrder (popped q)
    at (yes e) = rw (← pop-empty q.rows q.len e) order
    at (no e) = some_ordered q s (omega arith) order

module _ (q : Queue) (s : Distinct q) where
  pub pop_other : (c : ℕ) → c ≢ front q → queued (popped q) c ≡ queued q c
  pop_other c ne = go (popped q) (pop_law q s)
    where
      go : (q' : Queue) → Popped q q' → queued q' c ≡ queued q c
      go q' w = bool_eq (queued q' c) (queued q c) there back
        where
          later : (i : ℕ) → card_index_at q.rows i ≡ c → Dec (i ≡ 0) → 0 < i
          later i e (yes x) = absurd (ne (sym e ∙ ap (λ (z : ℕ). card_index_at q.rows z) x))
          later i e (no x) = omega arith

          there : queued q' c ≡ true → queued q c ≡ true
          there e =
              let t = stands_where q'.rows q'.len c e in
              let u = w.from t.0 (omega (arith, t.1, w.less)) in
              stands_here q.rows q.len c u.0 u.2
              (card-same q.rows q'.rows u.0 t.0 u.3 ∙ t.2)

          back : queued q c ≡ true → queued q' c ≡ true
          back e =
              let t = stands_where q.rows q.len c e in
              let u = w.to t.0 (later t.0 t.2 (ℕ_discrete t.0 0)) t.1 in
              stands_here q'.rows q'.len c u.0 (omega (arith, u.1, w.less))
              (card-same q'.rows q.rows u.0 t.0 u.2 ∙ t.2)

  pub pop-front : queued (popped q) (front q) ≡ false
  pop-front = go (popped q) (pop_law q s)
    where
      go : (q' : Queue) → Popped q q' → queued q' (front q) ≡ false
      go q' w = by (queued q' (front q)) refl
        where
          by : (b : Bool) → queued q' (front q) ≡ b → b ≡ false
          by false e = refl
          by true e =
              let t = stands_where q'.rows q'.len (front q) e in
              let u = w.from t.0 (omega (arith, t.1, w.less)) in
              absurd (omega (
                arith,
                u.1,
                s.once u.0 0 u.2 (omega (arith, u.1, u.2))
                    (card-same q.rows q'.rows u.0 t.0 u.3 ∙ t.2),
              ))

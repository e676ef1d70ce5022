-- What the writes of due counts leave on each day that is counted: one more where a card is counted, one less where a
-- dated card is put off.
--   Below                  no count is at the top of a u32
--   add-long, move_long    the list is as long as it was
--   added                  `add_due`: one more on its day
--   moved                  `move_due`: a dated card goes from its day to the next, another moves nothing
use mathlib.Core.Path.{◌≡◌, refl, ◌∙◌}
use mathlib.Core.Bool.{Bool, true, false, not, ◌&&◌, cond}
use mathlib.Core.List.{List}
use Prim.Native.Nat.{ℕ, ◌+◌, ◌-◌, ◌≤◌, ◌<◌}
use native.Mathlib.Decide.{ℕ_discrete, dec_lt}
use native.Mathlib.Omega.{arith}
use borrow.Author.Tests.{lt-ltb, le-ltb}
use lib.Dec.{ltb, eqb}
use lib.ListN.{get_or, set, length, length-set}
use lib.Seq.{get_or-set_same, get_or-set_other}
use Rattle.turns.specs.Sums.{bit}
use Rattle.turns.proofs.Sums.{at-eq, at_ne}
use Rattle.days.specs.Counts.{saturating_suc}
use Rattle.days.specs.Due.{due_days, add_one_at, add_due, move_due}
use Rattle.days.proofs.Laws.{saturating_is}

abbrev pub Below : ℕ → List ℕ → Type 0
Below span due = (i : ℕ) → i < due_days span → get_or due i 0 < 4294967295

module _ (span : ℕ) (due : List ℕ) (d : ℕ) where
  pub add-long : length (add_due span due d) ≡ length due
  unfolding add_due
  add-long = go (ltb d (due_days span))
    where
      go : (b : Bool) → length (cond b (add_one_at due d) due) ≡ length due
      go true = length-set due d _
      go false = refl

  pub added : due_days span ≤ length due → Below span due
      → (i : ℕ) → i < due_days span → get_or (add_due span due d) i 0 ≡ get_or due i 0 + bit (eqb d i)
  unfolding add_due
  added long small i h = go (dec_lt d (due_days span)) (ℕ_discrete i d)
    where
      x : ℕ
      x = saturating_suc (get_or due d 0)

      go : Dec (d < due_days span) → Dec (i ≡ d)
          → get_or (cond (ltb d (due_days span)) (add_one_at due d) due) i 0 ≡ get_or due i 0 + bit (eqb d i)
      go (yes l) (yes e) =
          rw (lt-ltb d (due_days span) l, e)
          (get_or-set_same due d x 0 (omega arith) ∙ saturating_is (get_or due d 0) (small d l)
          ∙ omega (arith, at-eq d d refl))
      go (yes l) (no e) =
          rw (lt-ltb d (due_days span) l) (get_or-set_other due d i x 0 e ∙ omega (arith, at_ne d i (omega (arith, e))))
      go (no l) e = rw (le-ltb d (due_days span) (omega (arith, l))) (omega (arith, at_ne d i (omega (arith, l))))

module _ (span : ℕ) (due : List ℕ) (new : Bool) (d : ℕ) where
  pub move_long : length (move_due span due new d) ≡ length due
  unfolding move_due
  move_long = go new
    where
      less : List ℕ
      less = set due d (get_or due d 0 - 1)

      go : (b : Bool) → length (cond b due (add_due span less (d + 1))) ≡ length due
      go true = refl
      go false = add-long span less (d + 1) ∙ length-set due d _

  -- where the day that the card leaves counts it
  pub moved : due_days span ≤ length due → Below span due → d < due_days span → bit (not new) ≤ get_or due d 0
      → (i : ℕ) → i < due_days span
      → get_or (move_due span due new d) i 0 + bit (not new && eqb d i) ≡ get_or due i 0 + bit (not new && eqb (d + 1) i)
  unfolding move_due
  moved long small l one i h = go new one
    where
      less : List ℕ
      less = set due d (get_or due d 0 - 1)

      taken : 1 ≤ get_or due d 0 → (j : ℕ) → get_or less j 0 + bit (eqb d j) ≡ get_or due j 0
      taken n j = at (ℕ_discrete j d)
        where
          at : Dec (j ≡ d) → get_or less j 0 + bit (eqb d j) ≡ get_or due j 0
          at (yes e) = rw e (omega (arith, get_or-set_same due d (get_or due d 0 - 1) 0 (omega arith), at-eq d d refl))
          at (no e) = omega (arith, get_or-set_other due d j (get_or due d 0 - 1) 0 e, at_ne d j (omega (arith, e)))

      go : (b : Bool) → bit (not b) ≤ get_or due d 0
          → get_or (cond b due (add_due span less (d + 1))) i 0 + bit (not b && eqb d i)
          ≡ get_or due i 0 + bit (not b && eqb (d + 1) i)
      go true n = refl
      go false n =
          let long' : due_days span ≤ length less = omega (arith, length-set due d (get_or due d 0 - 1)) in
          omega (arith, taken n i, added span less (d + 1) long' (λ j u. omega (arith, taken n j, small j u)) i h)

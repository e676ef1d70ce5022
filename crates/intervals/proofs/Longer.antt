-- A table is a finite map, and a longer one is the same map.
--   same_answer          two tables that hold the same under a key answer the same interval, or nothing
--   SameEntries          two tables, the second at least as long, that hold the same
--   same-clear           emptied tables are
--   Match, same-lookup   lookups in both match unless the first is full
--   same-enter           the same entry in both keeps it
use mathlib.Core.Path.{◌≡◌, refl, sym, ◌∙◌, ap}
use mathlib.Core.Bool.{Bool, true, false}
use Prim.Native.Nat.{ℕ, suc, ◌≤◌}
use native.Mathlib.Omega.{arith}
use lib.Ieee.{Float}
use Rattle.intervals.specs.declared.Entry.{Entry}
use Rattle.intervals.specs.declared.Entry.TheVariants.{Found, Free, Full}
use Rattle.intervals.specs.Table.{Table, places, is_free, same_key, lookup_in, enter_in, clear_in, held_in, count_in}
use Rattle.intervals.specs.Table.{found_interval, Sound}
use Rattle.intervals.proofs.Probe.{true_false}
use Rattle.intervals.proofs.Change.{same_is, same_self, enter-places}
use Rattle.intervals.proofs.Held.{some_none, Answer, at, room, full, answer, found_held, free_none, full-none}
use Rattle.intervals.proofs.Held.{lookup_held}
use Rattle.intervals.proofs.Used.{full-count, free_count}
use Rattle.intervals.proofs.Emptied.{clear-places, clear_sound, clear_held, clear-count}
use Rattle.intervals.proofs.Entered.{Takes, new, again, enter_sound, enter_held, enter_other, count-new}
use Rattle.intervals.proofs.Entered.{count_again}

-- two tables that hold the same, the second at least as long
pub record SameEntries (t t' : Table) : Type 0 where
  pub sound : Sound t
  pub sound' : Sound t'
  pub longer : places t ≤ places t'
  pub held : (s r : ℕ) → held_in t s r ≡ held_in t' s r
  pub count : count_in t ≡ count_in t'

-- what is held decides what a lookup gives, whatever the tables' lengths
pub same_answer : (t t' : Table) → Sound t → Sound t' → (s r : ℕ) → held_in t s r ≡ held_in t' s r
    → found_interval (lookup_in t s r) ≡ found_interval (lookup_in t' s r)
same_answer t t' ok ok' s r e = lookup_held t ok s r ∙ (e ∙ sym (lookup_held t' ok' s r))

-- two answers: the same interval, or a free place each; a full first table says nothing of the second
pub data Match : Entry → Entry → Type 0 where
  both_at : {p p' : ℕ} {v : Float} → Match (Found p v) (Found p' v)
  both_free : {p p' : ℕ} → Match (Free p) (Free p')
  first_full : {f : Entry} → Match Full f

pub same-clear : (t t' : Table) → places t ≤ places t' → SameEntries (clear_in t) (clear_in t')
same-clear t t' l =
    record {
      sound = clear_sound t;
      sound' = clear_sound t';
      longer = omega (arith, clear-places t, clear-places t');
      held = λ s r. clear_held t s r ∙ sym (clear_held t' s r);
      count = clear-count t ∙ sym (clear-count t');
    }

module _ (t t' : Table) (w : SameEntries t t') (s r : ℕ) where
  match : Answer t s r → Answer t' s r → Match (lookup_in t s r) (lookup_in t' s r)
  match (at p v e) (at p' v' e') =
      let a = found_held t w.sound s r p v e in
      let b = found_held t' w.sound' s r p' v' e' in
      let h = w.held s r in
      let z : v' ≡ v = cc in
      rw (e, e', z) both_at
  match (at p v e) (room p' e') =
      absurd (some_none (found_held t w.sound s r p v e) (w.held s r ∙ free_none t' w.sound' s r p' e'))
  match (at p v e) (full e') = absurd (some_none (found_held t w.sound s r p v e)
      (w.held s r ∙ full-none t' s r e'))
  match (room p e) (at p' v' e') =
      absurd (some_none (found_held t' w.sound' s r p' v' e') (sym (w.held s r) ∙ free_none t w.sound s r p e))
  match (room p e) (room p' e') = rw (e, e') both_free
  match (room p e) (full e') = absurd (let l = free_count t s r p e in let l' = full-count t' s r e' in omega arith)
  match (full e) a = rw e first_full

  pub same-lookup : Match (lookup_in t s r) (lookup_in t' s r)
  same-lookup = match (answer t s r) (answer t' s r)

  module _ (p p' : ℕ) (v : Float) (u : is_free v ≡ false) where
    same_count : Takes t s r p → Takes t' s r p' → count_in (enter_in t p s r v) ≡ count_in (enter_in t' p' s r v)
    same_count (new e) (new e') =
        count-new t w.sound s r p v u e ∙ (ap suc w.count ∙ sym (count-new t' w.sound' s r p' v u e'))
    same_count (new e) (again {w = x} e') =
        absurd (some_none (found_held t' w.sound' s r p' x e') (sym (w.held s r) ∙ free_none t w.sound s r p e))
    same_count (again {w = x} e) (new e') =
        absurd (some_none (found_held t w.sound s r p x e) (w.held s r ∙ free_none t' w.sound' s r p' e'))
    same_count (again {w = x} e) (again {w = x'} e') =
        count_again t w.sound s r p v u x e ∙ (w.count ∙ sym (count_again t' w.sound' s r p' v u x' e'))

    same_held_by : Takes t s r p → Takes t' s r p' → (s' r' : ℕ) → (b : Bool) → same_key s r s' r' ≡ b
        → held_in (enter_in t p s r v) s' r' ≡ held_in (enter_in t' p' s r v) s' r'
    same_held_by a a' s' r' true e =
        let k = same_is s r s' r' e in
        rw (← k.0, ← k.1) (enter_held t w.sound s r p v u a ∙ sym (enter_held t' w.sound' s r p' v u a'))
    same_held_by a a' s' r' false e =
        let n : (s ≡ s' → r ≡ r' → ⊥) = λ x y. true_false (ap (λ (z : ℕ). same_key s r z r') (sym x)
        ∙ (ap (λ (z : ℕ). same_key s r s z) (sym y) ∙ same_self s r)) e in
        enter_other t w.sound s r p v u a s' r' n
        ∙ (w.held s' r' ∙ sym (enter_other t' w.sound' s r p' v u a' s' r' n))

    pub same-enter : Takes t s r p → Takes t' s r p' → SameEntries (enter_in t p s r v) (enter_in t' p' s r v)
    same-enter a a' =
        record {
          sound = enter_sound t w.sound s r p v u a;
          sound' = enter_sound t' w.sound' s r p' v u a';
          longer = omega (arith, enter-places t p s r v, enter-places t' p' s r v, w.longer);
          held = λ s' r'. same_held_by a a' s' r' (same_key s r s' r') refl;
          count = same_count a a';
        }

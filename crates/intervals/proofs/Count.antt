-- How many keys are held goes by what is held alone.
--     same_count t t'                     two tables that hold the same hold as many, whatever their lengths
--     twin_of t t'    so they are same-entries, if the second is no shorter
use mathlib.Core.Path.{◌≡◌, refl, sym, ◌∙◌, ap}
use mathlib.Core.Bool.{Bool, true, false, cond}
use mathlib.Core.Option.{none}
use Prim.Native.Nat.{ℕ, zero, suc, ◌<◌, ◌≤◌}
use native.Mathlib.Nat.{le_antisymm}
use native.Mathlib.Decide.{ℕ_discrete}
use native.Mathlib.Omega.{arith}
use borrow.Author.Tests.{ltb-true, lt-ltb, le-ltb}
use lib.Dec.{ltb}
use mathlib.Core.List.{[]}
use lib.ListN.{get_or}
use Rattle.intervals.specs.declared.Entry.{Entry}
use Rattle.intervals.specs.declared.Entry.TheVariants.{Found, Free, Full}
use Rattle.intervals.specs.Table.{Table, places, free_at, value_at, lookup_in, count_to, held_in, count_in}
use Rattle.intervals.specs.Table.{Stands}
use Rattle.intervals.proofs.Probe.{true_false, lookup_at_is}
use Rattle.intervals.proofs.Change.{same_is, same_self}
use Rattle.intervals.proofs.Held.{Answer, at, room, full, answer, free_none, full-none, stands_held, some_none}
use Rattle.intervals.proofs.Used.{count_free, count_used, count_zero}
use Rattle.intervals.proofs.Longer.{SameEntries}
use Rattle.intervals.specs.Table.{Sound}

-- how many numbers below n pass a test
count_if : (ℕ → Bool) → ℕ → ℕ
count_if b zero = 0
count_if b (suc n) = cond (b n) (suc (count_if b n)) (count_if b n)

data Is (b : Bool) : Type 0 where
  is_true : b ≡ true → Is b
  is_false : b ≡ false → Is b

is : (b : Bool) → Is b
is true = is_true refl
is false = is_false refl

module _ (b : ℕ → Bool) where
  pass : (n : ℕ) → b n ≡ true → count_if b (suc n) ≡ suc (count_if b n)
  unfolding count_if
  pass n e = rw e

  fail : (n : ℕ) → b n ≡ false → count_if b (suc n) ≡ count_if b n
  unfolding count_if
  fail n e = rw e

  none_yet : count_if b zero ≡ 0
  unfolding count_if
  none_yet = refl

module _ (b d : ℕ → Bool) (more : (q : ℕ) → b q ≡ true → d q ≡ true) where
  mono : (n : ℕ) → count_if b n ≤ count_if d n
  mono zero = omega (arith, none_yet b)
  mono (suc n) =
      elim (is (b n)) [
        | is_true e ↦ omega (arith, pass b n e, pass d n (more n e), mono n)
        | is_false e ↦
            elim (is (d n)) [
              | is_true f ↦ omega (arith, fail b n e, pass d n f, mono n)
              | is_false f ↦ omega (arith, fail b n e, fail d n f, mono n)
            ]
      ]

  strict : (n q : ℕ) → q < n → b q ≡ false → d q ≡ true → count_if b n < count_if d n
  strict zero q h e f = absurd (omega arith)
  strict (suc n) q h e f =
      elim (ℕ_discrete q n) [
        | yes qn ↦ omega (arith, fail b n (rw qn at e), pass d n (rw qn at f), mono n)
        | no ne ↦
            let i = strict n q (omega arith) e f in
            elim (is (b n)) [
              | is_true y ↦ omega (arith, pass b n y, pass d n (more n y))
              | is_false y ↦
                  elim (is (d n)) [
                    | is_true z ↦ omega (arith, fail b n y, pass d n z)
                    | is_false z ↦ omega (arith, fail b n y, fail d n z)
                  ]
            ]
      ]

-- a place of the first m
in_first : ℕ → Entry → Bool
in_first m (Found p v) = ltb p m
in_first m (Free p) = false
in_first m Full = false

in_first_more : (m : ℕ) (f : Entry) → in_first m f ≡ true → in_first (suc m) f ≡ true
unfolding in_first
in_first_more m (Found p v) e = lt-ltb p (suc m) (omega (arith, ltb-true p m e))
in_first_more m (Free p) e = e
in_first_more m Full e = e

abbrev s-at : Table → ℕ → ℕ
s-at t q = get_or (get_or t.keys q []) 0 0

abbrev r-at : Table → ℕ → ℕ
r-at t q = get_or (get_or t.keys q []) 1 0

-- place q of t' is used, by a key that stands in the first m places of t
marked : Table → Table → ℕ → ℕ → Bool
marked t t' m q = cond (free_at t' q) false (in_first m (lookup_in t (s-at t' q) (r-at t' q)))

module _ (t t' : Table) where
  marked_used : (m q : ℕ) → marked t t' m q ≡ true → free_at t' q ≡ false
  unfolding marked
  marked_used m q e =
      elim (is (free_at t' q)) [
        | is_true f ↦ absurd (true_false (rw f at e) refl)
        | is_false f ↦ f
      ]

  marked_is : (m q : ℕ) → free_at t' q ≡ false → marked t t' m q ≡ in_first m (lookup_in t (s-at t' q) (r-at t' q))
  unfolding marked
  marked_is m q f = rw f

  marked_more : (m q : ℕ) → marked t t' m q ≡ true → marked t t' (suc m) q ≡ true
  marked_more m q e =
      let f = marked_used m q e in
      marked_is (suc m) q f ∙ in_first_more m (lookup_in t (s-at t' q) (r-at t' q)) (sym (marked_is m q f) ∙ e)

  marked_count : (m n : ℕ) → count_if (marked t t' m) n ≤ count_to t' n
  marked_count m zero = omega (arith, none_yet (marked t t' m))
  marked_count m (suc n) =
      elim (is (marked t t' m n)) [
        | is_true e ↦ omega (arith, pass (marked t t' m) n e, count_used t' n (marked_used m n e), marked_count m n)
        | is_false e ↦
            elim (is (free_at t' n)) [
              | is_true f ↦ omega (arith, fail (marked t t' m) n e, count_free t' n f, marked_count m n)
              | is_false f ↦ omega (arith, fail (marked t t' m) n e, count_used t' n f, marked_count m n)
            ]
      ]

-- the place of a key that is held
place-by : (t : Table) → Sound t → (s r : ℕ) → (held_in t s r ≡ none → ⊥) → Answer t s r → (p : ℕ) × Stands t s r p
place-by t ok s r h (at p v e) = (p, (lookup_at_is t s r e).0)
place-by t ok s r h (room p e) = absurd (h (free_none t ok s r p e))
place-by t ok s r h (full e) = absurd (h (full-none t s r e))

module _ (t t' : Table) (ok : Sound t) (ok' : Sound t') (held : (s r : ℕ) → held_in t s r ≡ held_in t' s r) where
  -- a used place of t has a place of t' that is marked from then on
  marks : (m : ℕ) → m < places t → free_at t m ≡ false
      → count_if (marked t t' m) (places t') < count_if (marked t t' (suc m)) (places t')
  unfolding in_first
  marks m h f =
      let s = s-at t m in
      let r = r-at t m in
      let st : Stands t s r m = record { within = h; used = f; key = same_self s r } in
      let l = ok.found s r m st in
      let w = place-by t' ok' s r (λ n. some_none (stands_held t ok s r m st) (held s r ∙ n)) (answer t' s r) in
      let q = w.0 in
      let k = same_is (s-at t' q) (r-at t' q) s r w.1.key in
      let e : lookup_in t (s-at t' q) (r-at t' q) ≡ Found m (value_at t m) = rw (k.0, k.1) l in
      strict (marked t t' m) (marked t t' (suc m)) (marked_more t t' m) (places t') q w.1.within
      (marked_is t t' m q w.1.used ∙ (ap (in_first m) e ∙ le-ltb m m (omega arith)))
      (marked_is t t' (suc m) q w.1.used ∙ (ap (in_first (suc m)) e ∙ lt-ltb m (suc m) (omega arith)))

  grows : (m : ℕ) → m ≤ places t → count_to t m ≤ count_if (marked t t' m) (places t')
  grows zero h = omega (arith, count_zero t)
  grows (suc m) h =
      let i = grows m (omega arith) in
      elim (is (free_at t m)) [
        | is_true f ↦
            omega (arith, count_free t m f, mono (marked t t' m) (marked t t' (suc m)) (marked_more t t' m) (places t'))
        | is_false f ↦ omega (arith, count_used t m f, marks m (omega arith) f)
      ]

  count-at_most : count_in t ≤ count_in t'
  count-at_most = omega (arith, grows (places t) (omega arith), marked_count t t' (places t) (places t'))

pub same_count : (t t' : Table) → Sound t → Sound t' → ((s r : ℕ) → held_in t s r ≡ held_in t' s r)
    → count_in t ≡ count_in t'
same_count t t' ok ok' held =
    le_antisymm (count-at_most t t' ok ok' held) (count-at_most t' t ok' ok (λ s r. sym (held s r)))

-- two sound tables that hold the same, the second at least as long
pub twin_of : (t t' : Table) → Sound t → Sound t' → places t ≤ places t' → ((s r : ℕ) → held_in t s r ≡ held_in t' s r)
    → SameEntries t t'
twin_of t t' ok ok' l held = record {
  sound = ok;
  sound' = ok';
  longer = l;
  held = held;
  count = same_count t t' ok ok'
      held;
}

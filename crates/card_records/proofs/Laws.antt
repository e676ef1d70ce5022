-- The laws of a run over card records.
--   fill_none      a list of which no place is filled
--   fill_past      a place past a list's end is filled with nothing
--   fill_least, fill_most   a list filled up to its end, or so far if that is less
--   first_next     the first number that passes a test, among one more
--   first_alike    the first number that passes, by two tests that agree
--   bad_in, record_refused, records_pass   what a search of the records themselves says to refusal 5
use mathlib.Core.Path.{◌≡◌, refl, sym, ap, ◌∙◌}
use mathlib.Core.List.{List}
use mathlib.Core.Bool.{Bool, true, false, cond}
use Prim.Native.Nat.{ℕ, zero, suc, ◌+◌, ◌≤◌, ◌<◌, min}
use native.Mathlib.Decide.{dec_lt}
use native.Mathlib.Omega.{arith}
use borrow.Author.Tests.{lt-ltb, le-ltb, leb-false}
use lib.Dec.{ltb, leb}
use lib.ListN.{length, set}
use lib.Seq.{set_out}
use Rattle.std.specs.Prelude.{Err, Option, Some, None, MatchOption}
use Rattle.std.specs.List.{AllWithin, HoldsAt}
use Rattle.elementary.specs.Filled.{filled}
use Rattle.elementary.proofs.Filled.{fill_length}
use Rattle.cards.specs.declared.card.Card.{Card}
use Rattle.entry.specs.declared.Refusal.TheVariants as refusal
use Rattle.entry.specs.Entry.{passed, first_where, is_bad, fail_if}
use Rattle.entry.proofs.FirstWhere.{first_found, first_none, Found}
use Rattle.card_records.specs.Records.{blank, record_bad}

pub fill_none : {A : Type 0} (F : ℕ → A) (l : List A) → filled F 0 l ≡ l
unfolding filled
fill_none F l = refl

-- a place past a list's end is filled with nothing
pub fill_past : {A : Type 0} (F : ℕ → A) (l l₀ : List A) (i : ℕ) → l ≡ filled F i l₀ → length l ≤ i
    → l ≡ filled F (i + 1) l₀
unfolding filled
fill_past F l l₀ i e h =
    let n : i + 1 ≡ suc i = omega arith in
    e ∙ sym (ap (λ (m : ℕ). filled F m l₀) n ∙ set_out (filled F i l₀) i (F i) (rw e at h))

-- nor is any number of them
fill_beyond : {A : Type 0} (F : ℕ → A) (n : ℕ) (l : List A) → length l ≤ n → filled F n l ≡ filled F (length l) l
unfolding filled
fill_beyond F zero l h = let e : length l ≡ 0 = omega arith in sym (ap (λ (k : ℕ). filled F k l) e)
fill_beyond F (suc n) l h = go (dec_lt n (length l)) (fill_beyond F n l)
  where
    go : Dec (n < length l) → (length l ≤ n → filled F n l ≡ filled F (length l) l)
        → set (filled F n l) n (F n) ≡ filled F (length l) l
    go (yes x) ih = let e : suc n ≡ length l = omega arith in ap (λ (k : ℕ). filled F k l) e
    go (no x) ih = set_out (filled F n l) n (F n) (omega (arith, fill_length F n l)) ∙ ih (omega arith)

pub fill_least : {A : Type 0} (F : ℕ → A) (n : ℕ) (l : List A)
    → filled F (cond (leb n (length l)) n (length l)) l ≡ filled F n l
fill_least F n l = go (leb n (length l)) refl
  where
    go : (b : Bool) → leb n (length l) ≡ b → filled F (cond b n (length l)) l ≡ filled F n l
    go true e = refl
    go false e = let h = leb-false n (length l) e in sym (fill_beyond F n l (omega (arith, h)))

-- the same by the least as Rust has it
pub fill_most : {A : Type 0} (F : ℕ → A) (n m : ℕ) (l : List A) → m ≡ min n (length l) → filled F m l ≡ filled F n l
fill_most F n m l e = go (dec_lt n (length l))
  where
    go : Dec (n < length l) → filled F m l ≡ filled F n l
    go (yes x) = let k : m ≡ n = omega arith in ap (λ (j : ℕ). filled F j l) k
    go (no x) = let k : m ≡ length l = omega arith in
        ap (λ (j : ℕ). filled F j l) k ∙ sym (fill_beyond F n l (omega arith))

-- ---- the first number that passes a test, among one more
module _ (p : ℕ → Bool) where
  abbrev Next : ℕ → ℕ → ℕ → Type 0
  Next f n j = f ≡ cond (ltb (first_where p n j) (j + n)) (first_where p n j) (cond (p (j + n)) (j + n) (j + n + 1))

  next-from : (n j : ℕ) → Next (first_where p (suc n) j) n j
  unfolding first_where
  next-from zero j = let e : j + 0 ≡ j = omega arith in rw (e, le-ltb j j (omega arith))
  next-from (suc n) j = go (p j) refl (next-from n (j + 1))
    where
      go : (b : Bool) → p j ≡ b → Next (first_where p (suc n) (j + 1)) n (j + 1)
          → cond b j (first_where p (suc n) (j + 1)) ≡ cond (ltb (cond b j (first_where p n (j + 1))) (j + suc n))
          (cond b j (first_where p n (j + 1))) (cond (p (j + suc n)) (j + suc n) (j + suc n + 1))
      go true e h = rw (lt-ltb j (j + suc n) (omega arith))
      go false e h = let k : j + suc n ≡ j + 1 + n = omega arith in rw k h

  pub first_next : (i : ℕ) → first_where p (i + 1) 0
      ≡ cond (ltb (first_where p i 0) i) (first_where p i 0) (cond (p i) i (i + 1))
  first_next i =
      let e : i + 1 ≡ suc i = omega arith in
      let z : 0 + i ≡ i = omega arith in
      ap (λ (k : ℕ). first_where p k 0) e ∙ next-from i 0
      ∙ ap (λ (k : ℕ). cond (ltb (first_where p i 0) k) (first_where p i 0) (cond (p k) k (k + 1))) z

pub first_alike : (p q : ℕ → Bool) → ((j : ℕ) → p j ≡ q j) → (n j : ℕ) → first_where p n j ≡ first_where q n j
unfolding first_where
first_alike p q h zero j = refl
first_alike p q h (suc n) j = rw (h j, first_alike p q h n (j + 1))

-- ---- a search of the records themselves
module _ (cs : List Card) where
  pub bad_in : (r : Option ℕ)
      → MatchOption r (AllWithin (λ k. is_bad k ≡ false) cs 0 (length cs))
      (λ i. (i < length cs) × HoldsAt (λ k. is_bad k ≡ true) cs i × AllWithin (λ k. is_bad k ≡ false) cs 0 i)
      → Found (record_bad cs) (length cs) r
  bad_in None h = λ k l u. h k blank l u
  bad_in (Some i) h = (omega arith, h.0, h.1 blank, λ k l u. h.2 k blank l u)

  pub record_refused : (i : ℕ) → Found (record_bad cs) (length cs) (Some i)
      → (let good = first_where (record_bad cs) (length cs) 0 in
      fail_if (ltb good (length cs)) (refusal.ExistingCard good) passed) ≡ Err (refusal.ExistingCard i)
  record_refused i f =
      let e = first_found (record_bad cs) (length cs) i f.1 f.2 (λ k h. f.3 k (omega arith) h) in
      rw (e, lt-ltb i (length cs) f.1)

  pub records_pass : Found (record_bad cs) (length cs) None
      → (let good = first_where (record_bad cs) (length cs) 0 in
      fail_if (ltb good (length cs)) (refusal.ExistingCard good) passed) ≡ passed
  records_pass f =
      let e = first_none (record_bad cs) (length cs) (λ k h. f k (omega arith) h) in
      rw (e, le-ltb (length cs) (length cs) (omega arith))

-- What the writes of an event leave in each row: one more where it counts, and nothing else changed.
--   saturated                    std's sum that stops at the top of a u32 is that of the counts
--   saturating_is                below the top, one more is one more
--   same_column, raised_column   a row written anew: a number of it stays, or is one more
--   learn_long, learn_learned, learn_reviewed, learn_correct, learn_introduced   the counts after a learning
--   from-long, from_learned, from_reviewed, from_correct, from_introduced   with one introduced more from a day on
--   review-long, review_learned, review_reviewed, review_introduced, review_correct   the counts after a review
--   cost_long, cost_added        the costs after an event
use mathlib.Core.Path.{◌≡◌, refl, sym, ap, ◌∙◌}
use mathlib.Core.Bool.{Bool, true, false, cond, ◌&&◌}
use mathlib.Core.List.{List, [], ◌∷◌}
use Prim.Native.Nat.{ℕ, zero, suc, ◌+◌, ◌≤◌, ◌<◌, min}
use native.Mathlib.Decide.{ℕ_discrete, dec_lt}
use native.Mathlib.Omega.{arith}
use borrow.Author.Tests.{lt-ltb, le-ltb, eq-eqb, ne_eqb}
use lib.Dec.{ltb, eqb}
use lib.ListN.{get_or, set, length, length-set}
use lib.Seq.{get_or-set_same, get_or-set_other, set_out}
use Rattle.std.proofs.lemmas.List.{set-set}
use Rattle.turns.specs.Sums.{bit}
use Rattle.days.specs.Counts.{saturating_suc, day_row, learned_at, reviewed_at, correct_at, introduced_at, add_learn, add_review, add_one}
use Rattle.days.specs.Counts.{add_introduced, add_introduced_from}
use Rattle.days.specs.Sums.{cost_at, add_cost}

pub saturating_is : (n : ℕ) → n < 4294967295 → saturating_suc n ≡ n + 1
unfolding saturating_suc
saturating_is n h = rw (lt-ltb n 4294967295 h)

-- std's sum that stops at the top of a u32 is that of the counts
pub saturated : (n : ℕ) → n < 4294967296 → min (n + 1) 4294967295 ≡ saturating_suc n
unfolding saturating_suc
saturated n h = go (dec_lt n 4294967295)
  where
    go : Dec (n < 4294967295) → min (n + 1) 4294967295 ≡ cond (ltb n 4294967295) (n + 1) n
    go (yes k) = rw (lt-ltb n 4294967295 k) (omega arith)
    go (no k) = rw (le-ltb n 4294967295 (omega (arith, k))) (omega (arith, k))

-- ---- a row written anew: of its numbers one stays, or is one more
module _ {A : Type 0} (rows : List (List A)) (d i j : ℕ) (row : List A) (x : A) where
  -- a number that is as it was
  pub same_column : get_or row j x ≡ get_or (get_or rows d []) j x
      → get_or (get_or (set rows d row) i []) j x ≡ get_or (get_or rows i []) j x
  same_column e = go (ℕ_discrete i d) (dec_lt d (length rows))
    where
      go : Dec (i ≡ d) → Dec (d < length rows) → get_or (get_or (set rows d row) i []) j x ≡ get_or (get_or rows i []) j x
      go (no q) r = ap (λ (l : List A). get_or l j x) (get_or-set_other rows d i row [] q)
      go (yes q) (yes r) = rw q (ap (λ (l : List A). get_or l j x) (get_or-set_same rows d row [] r) ∙ e)
      go (yes q) (no r) = rw (set_out rows d row (omega (arith, r)))

pub raised_column : (rows : List (List ℕ)) (d i j : ℕ) (row : List ℕ) → d < length rows
    → get_or (get_or rows d []) j 0 < 4294967295 → get_or row j 0 ≡ saturating_suc (get_or (get_or rows d []) j 0)
    → get_or (get_or (set rows d row) i []) j 0 ≡ get_or (get_or rows i []) j 0 + bit (eqb d i)
raised_column rows d i j row h u e = go (ℕ_discrete i d)
  where
    go : Dec (i ≡ d) → get_or (get_or (set rows d row) i []) j 0 ≡ get_or (get_or rows i []) j 0 + bit (eqb d i)
    go (yes q) =
        let own : get_or (get_or (set rows d row) d []) j 0
        ≡ get_or (get_or rows d []) j 0 + 1 = ap (λ (l : List ℕ). get_or l j 0) (get_or-set_same rows d row [] h) ∙ e
        ∙ saturating_is (get_or (get_or rows d []) j 0) u in
        rw q (omega (arith, own, ap bit (eq-eqb d d refl)))
    go (no q) =
        let other : get_or (get_or (set rows d row) i []) j 0
        ≡ get_or (get_or rows i []) j 0 = ap (λ (l : List ℕ). get_or l j 0) (get_or-set_other rows d i row [] q) in
        omega (arith, other, ap bit (ne_eqb d i (omega (arith, q))))

-- ---- a learning
module _ (rows : List (List ℕ)) (d : ℕ) where
  pub learn_long : length (add_learn rows d) ≡ length rows
  unfolding add_learn
  learn_long = length-set rows d _

  pub learn_learned : (i : ℕ) → d < length rows → learned_at rows d < 4294967295
      → learned_at (add_learn rows d) i ≡ learned_at rows i + bit (eqb d i)
  unfolding add_learn
  learn_learned i h u = raised_column rows d i 0 _ h u refl

  pub learn_reviewed : (i : ℕ) → reviewed_at (add_learn rows d) i ≡ reviewed_at rows i
  unfolding add_learn
  learn_reviewed i = same_column rows d i 1 _ 0 refl

  pub learn_correct : (i : ℕ) → correct_at (add_learn rows d) i ≡ correct_at rows i
  unfolding add_learn
  learn_correct i = same_column rows d i 2 _ 0 refl

  pub learn_introduced : (i : ℕ) → introduced_at (add_learn rows d) i ≡ introduced_at rows i
  unfolding add_learn
  learn_introduced i = same_column rows d i 3 _ 0 refl

  intro_long : length (add_introduced rows d) ≡ length rows
  unfolding add_introduced
  intro_long = length-set rows d _

  intro_learned : (i : ℕ) → learned_at (add_introduced rows d) i ≡ learned_at rows i
  unfolding add_introduced
  intro_learned i = same_column rows d i 0 _ 0 refl

  intro_reviewed : (i : ℕ) → reviewed_at (add_introduced rows d) i ≡ reviewed_at rows i
  unfolding add_introduced
  intro_reviewed i = same_column rows d i 1 _ 0 refl

  intro_correct : (i : ℕ) → correct_at (add_introduced rows d) i ≡ correct_at rows i
  unfolding add_introduced
  intro_correct i = same_column rows d i 2 _ 0 refl

  intro_introduced : (i : ℕ) → d < length rows → introduced_at rows d < 4294967295
      → introduced_at (add_introduced rows d) i ≡ introduced_at rows i + bit (eqb d i)
  unfolding add_introduced
  intro_introduced i h u = raised_column rows d i 3 _ h u refl

pub from-long : (rows : List (List ℕ)) (m d : ℕ) → length (add_introduced_from rows m d) ≡ length rows
unfolding add_introduced_from
from-long rows zero d = refl
from-long rows (suc m) d = from-long (add_introduced rows d) m (d + 1) ∙ intro_long rows d

pub from_learned : (rows : List (List ℕ)) (m d i : ℕ) → learned_at (add_introduced_from rows m d) i ≡ learned_at rows i
unfolding add_introduced_from
from_learned rows zero d i = refl
from_learned rows (suc m) d i = from_learned (add_introduced rows d) m (d + 1) i ∙ intro_learned rows d i

pub from_reviewed : (rows : List (List ℕ)) (m d i : ℕ) → reviewed_at (add_introduced_from rows m d) i ≡ reviewed_at rows i
unfolding add_introduced_from
from_reviewed rows zero d i = refl
from_reviewed rows (suc m) d i = from_reviewed (add_introduced rows d) m (d + 1) i ∙ intro_reviewed rows d i

pub from_correct : (rows : List (List ℕ)) (m d i : ℕ) → correct_at (add_introduced_from rows m d) i ≡ correct_at rows i
unfolding add_introduced_from
from_correct rows zero d i = refl
from_correct rows (suc m) d i = from_correct (add_introduced rows d) m (d + 1) i ∙ intro_correct rows d i

-- one more on day d and every later one
pub from_introduced : (m d : ℕ) (rows : List (List ℕ))
    → ((i : ℕ) → d ≤ i → i < d + m → introduced_at rows i < 4294967295) → d + m ≤ length rows
    → (i : ℕ) → i < d + m → introduced_at (add_introduced_from rows m d) i ≡ introduced_at rows i + bit (ltb d (suc i))
unfolding add_introduced_from
from_introduced zero d rows small long i h = omega (arith, ap bit (le-ltb d (suc i) (omega arith)))
from_introduced (suc m) d rows small long i h =
    go (ℕ_discrete i d) (from_introduced m (d + 1) (add_introduced rows d) less (omega (arith, intro_long rows d)) i
    (omega arith))
  where
    at : (x : ℕ) → introduced_at (add_introduced rows d) x ≡ introduced_at rows x + bit (eqb d x)
    at x = intro_introduced rows d x (omega arith) (small d (omega arith) (omega arith))

    less : (x : ℕ) → d + 1 ≤ x → x < d + 1 + m → introduced_at (add_introduced rows d) x < 4294967295
    less x u v = omega (arith, at x, ap bit (ne_eqb d x (omega arith)), small x (omega arith) (omega arith))

    go : Dec (i ≡ d) → introduced_at (add_introduced_from (add_introduced rows d) m (d + 1)) i
        ≡ introduced_at (add_introduced rows d) i + bit (ltb (d + 1) (suc i))
        → introduced_at (add_introduced_from (add_introduced rows d) m (d + 1)) i
        ≡ introduced_at rows i + bit (ltb d (suc i))
    go (yes e) ih = omega (
      arith,
      ih,
      at i,
      ap bit (eq-eqb d i (sym e)),
      ap bit (le-ltb (d + 1) (suc i) (omega arith)),
      ap bit (lt-ltb d (suc i) (omega arith)),
    )
    go (no e) ih = by (dec_lt d i)
      where
        same : introduced_at (add_introduced rows d) i ≡ introduced_at rows i
        same = omega (arith, at i, ap bit (ne_eqb d i (omega (arith, e))))

        by : Dec (d < i) → introduced_at (add_introduced_from (add_introduced rows d) m (d + 1)) i
            ≡ introduced_at rows i + bit (ltb d (suc i))
        by (yes u) = omega (
          arith,
          ih,
          same,
          ap bit (lt-ltb (d + 1) (suc i) (omega arith)),
          ap bit (lt-ltb d (suc i) (omega arith)),
        )
        by (no u) = omega (
          arith,
          ih,
          same,
          ap bit (le-ltb (d + 1) (suc i) (omega (arith, u))),
          ap bit (le-ltb d (suc i) (omega (arith, u, e))),
        )

-- ---- a review
module _ (rows : List (List ℕ)) (d : ℕ) (recalled : Bool) where
  pub review-long : length (add_review rows d recalled) ≡ length rows
  unfolding add_review
  review-long = length-set rows d _

  pub review_learned : (i : ℕ) → learned_at (add_review rows d recalled) i ≡ learned_at rows i
  unfolding add_review
  review_learned i = same_column rows d i 0 _ 0 refl

  pub review_reviewed : (i : ℕ) → d < length rows → reviewed_at rows d < 4294967295
      → reviewed_at (add_review rows d recalled) i ≡ reviewed_at rows i + bit (eqb d i)
  unfolding add_review
  review_reviewed i h u = raised_column rows d i 1 _ h u refl

  pub review_introduced : (i : ℕ) → introduced_at (add_review rows d recalled) i ≡ introduced_at rows i
  unfolding add_review
  review_introduced i = same_column rows d i 3 _ 0 refl

pub review_correct : (rows : List (List ℕ)) (d : ℕ) (recalled : Bool) (i : ℕ) → d < length rows
    → correct_at rows d < 4294967295
    → correct_at (add_review rows d recalled) i ≡ correct_at rows i + bit (recalled && eqb d i)
unfolding add_review
review_correct rows d true i h u = raised_column rows d i 2 _ h u refl
review_correct rows d false i h u = let e = same_column rows d i 2
    (learned_at rows d ∷ saturating_suc
    (reviewed_at rows d) ∷ correct_at rows d ∷ introduced_at rows d ∷ []) 0 refl in omega (arith, e)

-- ---- sums

module _ {C : Type 0} (none : C) (plus : C → C → C) (costs : List C) (d : ℕ) (x : C) where
  pub cost_long : length (add_cost none plus costs d x) ≡ length costs
  unfolding add_cost
  cost_long = length-set costs d _

  pub cost_added : (i : ℕ) → d < length costs
      → cost_at none (add_cost none plus costs d x) i
      ≡ cond (eqb d i) (plus (cost_at none costs i) x) (cost_at none costs i)
  unfolding add_cost
  cost_added i h = go (ℕ_discrete i d)
    where
      more : C
      more = plus (cost_at none costs d) x

      go : Dec (i ≡ d) → cost_at none (set costs d more) i
          ≡ cond (eqb d i) (plus (cost_at none costs i) x) (cost_at none costs i)
      go (yes e) = rw (e, eq-eqb d d refl) (get_or-set_same costs d more none h)
      go (no e) = rw (ne_eqb d i (omega (arith, e))) (get_or-set_other costs d i more none e)

-- ---- one more in a column of a row of four
of_four : {A : Type 0} (P : List A → Type 0) → ((a b c e : A) → P (a ∷ b ∷ c ∷ e ∷ [])) → (row : List A)
    → length row ≡ 4 → P row
of_four P own (a ∷ b ∷ c ∷ e ∷ []) h = own a b c e
of_four P own [] h = absurd (omega arith)
of_four P own (a ∷ []) h = absurd (omega arith)
of_four P own (a ∷ b ∷ []) h = absurd (omega arith)
of_four P own (a ∷ b ∷ c ∷ []) h = absurd (omega arith)
of_four P own (a ∷ b ∷ c ∷ e ∷ x ∷ row) h = absurd (omega arith)

module _ (rows : List (List ℕ)) (d : ℕ) (four : d < length rows → length (get_or rows d []) ≡ 4) where
  -- f is what becomes of the row
  more_in : (column : ℕ) (f : List ℕ → List ℕ) → ((a b c e : ℕ) → set (a ∷ b ∷ c ∷ e ∷ []) column
      (saturating_suc (get_or (a ∷ b ∷ c ∷ e ∷ []) column 0)) ≡ f (a ∷ b ∷ c ∷ e ∷ []))
      → add_one rows column d ≡ set rows d (f (get_or rows d []))
  unfolding add_one
  more_in column f own = go (dec_lt d (length rows))
    where
      go : Dec (d < length rows) → set rows d (set (get_or rows d []) column
          (saturating_suc (get_or (get_or rows d []) column 0))) ≡ set rows d (f (get_or rows d []))
      go (yes k) = ap (λ (l : List ℕ). set rows d l)
          (of_four (λ r. set r column (saturating_suc (get_or r column 0)) ≡ f r) own (get_or rows d []) (four k))
      go (no k) = set_out rows d _ (omega (arith, k)) ∙ sym (set_out rows d _ (omega (arith, k)))

  pub learn_is : add_one rows 0 d ≡ add_learn rows d
  unfolding add_learn
  learn_is = more_in 0
      (λ r. day_row (saturating_suc (get_or r 0 0)) (get_or r 1 0) (get_or r 2 0) (get_or r 3 0)) (λ a b c e. refl)

  pub introduced_is : add_one rows 3 d ≡ add_introduced rows d
  unfolding add_introduced
  introduced_is = more_in 3
      (λ r. day_row (get_or r 0 0) (get_or r 1 0) (get_or r 2 0) (saturating_suc (get_or r 3 0))) (λ a b c e. refl)

  pub wrong_is : add_one rows 1 d ≡ add_review rows d false
  unfolding add_review
  wrong_is = more_in 1
      (λ r. day_row (get_or r 0 0) (saturating_suc (get_or r 1 0)) (get_or r 2 0) (get_or r 3 0)) (λ a b c e. refl)

  pub correct_is : add_one (add_one rows 1 d) 2 d ≡ add_review rows d true
  unfolding add_review add_one
  correct_is = go (dec_lt d (length rows))
    where
      once : List ℕ → List ℕ
      once r = set r 1 (saturating_suc (get_or r 1 0))

      twice : List ℕ → List ℕ
      twice r = set r 2 (saturating_suc (get_or r 2 0))

      both : List ℕ → List ℕ
      both r = day_row (get_or r 0 0) (saturating_suc (get_or r 1 0)) (saturating_suc (get_or r 2 0)) (get_or r 3 0)

      own : (a b c e : ℕ) → twice (once (a ∷ b ∷ c ∷ e ∷ [])) ≡ both (a ∷ b ∷ c ∷ e ∷ [])
      own a b c e = refl

      go : Dec (d < length rows)
          → set (set rows d (once (get_or rows d []))) d (twice (get_or (set rows d (once (get_or rows d []))) d []))
          ≡ set rows d (both (get_or rows d []))
      go (yes k) =
          rw (get_or-set_same rows d (once (get_or rows d [])) [] k, set-set)
          (ap (λ (l : List ℕ). set rows d l) (of_four (λ r. twice (once r) ≡ both r) own (get_or rows d []) (four k)))
      go (no k) =
          let out : length rows ≤ d = omega (arith, k) in
          rw (set_out rows d (once (get_or rows d [])) out)
          (set_out rows d _ out ∙ sym (set_out rows d _ out))

-- and every row stays one of four
pub four_kept : (rows : List (List ℕ)) (column d : ℕ) → ((i : ℕ) → i < length rows → length (get_or rows i []) ≡ 4)
    → (i : ℕ) → i < length (add_one rows column d) → length (get_or (add_one rows column d) i []) ≡ 4
unfolding add_one
four_kept rows column d four i h = go (ℕ_discrete i d)
  where
    row : List ℕ
    row = set (get_or rows d []) column (saturating_suc (get_or (get_or rows d []) column 0))

    within : i < length rows
    within = omega (arith, h, length-set rows d row)

    go : Dec (i ≡ d) → length (get_or (set rows d row) i []) ≡ 4
    go (yes q) =
        let own : d < length rows = omega (arith, q, within) in
        rw (q, get_or-set_same rows d row [] own) (length-set (get_or rows d []) column _ ∙ four d own)
    go (no q) = rw (get_or-set_other rows d i row [] q) (four i within)

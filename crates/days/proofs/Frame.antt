-- The rows of days in longer lists: the places behind the days that a run has play no part, and stay as they are.
--   event_own, cost_own, range_own, add_due-own, move_due-own    what each writes into a ++ b it writes into a
--   event_long, range_long                                       and lists keep their lengths
use mathlib.Core.Path.{◌≡◌, refl, ◌∙◌}
use mathlib.Core.Bool.{Bool, true, false, cond}
use mathlib.Core.List.{List, [], ◌++◌}
use Prim.Native.Nat.{ℕ, zero, suc, ◌+◌, ◌-◌, ◌≤◌, ◌<◌}
use native.Mathlib.Omega.{arith}
use borrow.Author.Tests.{ltb-true}
use lib.Dec.{ltb}
use lib.IntN.{pos}
use lib.Ieee.{Float, nan, binary32, add, sub, of_int}
use lib.ListN.{get_or, set, length, length-set, get_or-append}
use lib.Seq.{set-append_left}
use Rattle.days.specs.Counts.{saturating_suc, day_row, add_learn, add_review, add_introduced, add_introduced_from}
use Rattle.days.specs.Counts.{add_event}
use Rattle.days.specs.Sums.{add_cost, add_memorized, add_forgetting_curve_range}
use Rattle.days.specs.Due.{due_days, add_due, move_due}
use Rattle.days.proofs.Laws.{learn_long, review-long, from-long}

-- a place that is read and written anew
module _ {A : Type 0} (a b : List A) (i : ℕ) (h : i < length a) where
  get_own : (x : A) → get_or (a ++ b) i x ≡ get_or a i x
  get_own x = get_or-append a b x i h

  set_own : (x : A) (f : A → A) → set (a ++ b) i (f (get_or (a ++ b) i x)) ≡ set a i (f (get_or a i x)) ++ b
  set_own x f = rw (get_own x) (set-append_left a b i (f (get_or a i x)) h)

-- ---- counts
module _ (a b : List (List ℕ)) (d : ℕ) (h : d < length a) where
  learn_own : add_learn (a ++ b) d ≡ add_learn a d ++ b
  unfolding add_learn
  learn_own = set_own a b d h [] (λ r. day_row (saturating_suc (get_or r 0 0)) (get_or r 1 0) (get_or r 2 0) (get_or r 3 0))

  review-own : (recalled : Bool) → add_review (a ++ b) d recalled ≡ add_review a d recalled ++ b
  unfolding add_review
  review-own recalled = set_own a b d h []
      (λ r. day_row (get_or r 0 0) (saturating_suc (get_or r 1 0)) (cond recalled (saturating_suc (get_or r 2 0)) (get_or r 2 0))
      (get_or r 3 0))

  introduced_own : add_introduced (a ++ b) d ≡ add_introduced a d ++ b
  unfolding add_introduced
  introduced_own = set_own a b d h [] (λ r. day_row (get_or r 0 0) (get_or r 1 0) (get_or r 2 0) (saturating_suc (get_or r 3 0)))

introduced_long : (a : List (List ℕ)) (d : ℕ) → length (add_introduced a d) ≡ length a
unfolding add_introduced
introduced_long a d = length-set a d _

from-own : (a b : List (List ℕ)) (m d : ℕ) → d + m ≤ length a
    → add_introduced_from (a ++ b) m d ≡ add_introduced_from a m d ++ b
unfolding add_introduced_from
from-own a b zero d h = refl
from-own a b (suc m) d h = rw (introduced_own a b d (omega (arith, h)))
    (from-own (add_introduced a d) b m (d + 1) (omega (arith, h, introduced_long a d)))

module _ (a b : List (List ℕ)) (span d : ℕ) (h : d < span) (l : span ≤ length a) (recalled : Bool) where
  pub event_own : (new : Bool) → add_event span (a ++ b) new d recalled ≡ add_event span a new d recalled ++ b
  unfolding add_event
  event_own true = rw (learn_own a b d (omega (arith, h, l)))
      (from-own (add_learn a d) b (span - d) d (omega (arith, h, l, learn_long a d)))
  event_own false = review-own a b d (omega (arith, h, l)) recalled

pub event_long : (a : List (List ℕ)) (span d : ℕ) (recalled new : Bool)
    → length (add_event span a new d recalled) ≡ length a
unfolding add_event
event_long a span d recalled true = from-long (add_learn a d) (span - d) d ∙ learn_long a d
event_long a span d recalled false = review-long a d recalled

-- ---- costs, and what is memorized
pub cost_own : {C : Type 0} (none : C) (plus : C → C → C) (a b : List C) (d : ℕ) (x : C) → d < length a
    → add_cost none plus (a ++ b) d x ≡ add_cost none plus a d x ++ b
unfolding add_cost
cost_own none plus a b d x h = set_own a b d h none (λ y. plus y x)

memorized_long : (a : List Float) (d : ℕ) (x : Float) → length (add_memorized a d x) ≡ length a
unfolding add_memorized
memorized_long a d x = length-set a d _

module _ (r : Float → Float) (last : Float) where
  pub range_long : (a : List Float) (m d : ℕ) → length (add_forgetting_curve_range r a m d last) ≡ length a
  unfolding add_forgetting_curve_range
  range_long a zero d = refl
  range_long a (suc m) d = range_long (add_memorized a d (r (sub binary32 (of_int binary32 (pos d)) last))) m (d + 1)
      ∙ memorized_long a d _

  -- of no days, or of days within the list
  pub range_own : (a b : List Float) (m d : ℕ) → (0 < m → d + m ≤ length a)
      → add_forgetting_curve_range r (a ++ b) m d last ≡ add_forgetting_curve_range r a m d last ++ b
  unfolding add_forgetting_curve_range add_memorized
  range_own a b zero d h = refl
  range_own a b (suc m) d h =
      let l : d + suc m ≤ length a = h (omega arith) in
      let x : Float = r (sub binary32 (of_int binary32 (pos d)) last) in
      rw (set_own a b d (omega (arith, l)) nan (λ y. add binary32 y x))
      (range_own (add_memorized a d x) b m (d + 1) (λ z. omega (arith, l, memorized_long a d x)))

-- ---- due counts
pub add_due-own : (span : ℕ) (a b : List ℕ) (d : ℕ) → due_days span ≤ length a
    → add_due span (a ++ b) d ≡ add_due span a d ++ b
unfolding add_due
add_due-own span a b d l = go (ltb d (due_days span)) refl
  where
    go : (t : Bool) → ltb d (due_days span) ≡ t
        → cond t (set (a ++ b) d (saturating_suc (get_or (a ++ b) d 0))) (a ++ b)
        ≡ cond t (set a d (saturating_suc (get_or a d 0))) a ++ b
    go true e = let h = ltb-true d (due_days span) e in set_own a b d (omega (arith, h, l)) 0 saturating_suc
    go false e = refl

pub move_due-own : (span : ℕ) (a b : List ℕ) (new : Bool) (d : ℕ) → due_days span ≤ length a → d < length a
    → move_due span (a ++ b) new d ≡ move_due span a new d ++ b
unfolding move_due
move_due-own span a b true d l h = refl
move_due-own span a b false d l h =
    rw (set_own a b d h 0 (λ n. n - 1))
    (add_due-own span (set a d (get_or a d 0 - 1)) b (d + 1) (omega (arith, l, length-set a d (get_or a d 0 - 1))))

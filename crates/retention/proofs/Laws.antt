-- THE LAWS OF A SEARCH: the record `SearchLaws` of specs, filled in from those of the method (brent/proofs) and of its
-- entry.
use Prim.Native.Nat.{ℕ, ◌≤◌, ◌<◌}
use native.Mathlib.Omega.{arith}
use mathlib.Core.Logic.{inl, inr}
use mathlib.Core.Path.{◌≡◌, refl, sym, ap, ◌∙◌}
use mathlib.Core.Bool.{false}
use lib.Dec.{T}
use lib.ListN.{length}
use lib.Ieee.{Float, is_nan}
use Rattle.entry.specs.declared.Refusal.{Refusal}
use Rattle.std.specs.Prelude.{Ok, Err}
use Rattle.runs.specs.State.{Lent}
use Rattle.entry.specs.Entry.{Check, passed, Inputs}
use Rattle.runs.specs.Frame.{SameLengths}
use Rattle.brent.specs.Search.{Answer, found, not_found, refused, Searched, ended, search, Each, NotBelow}
use Rattle.brent.specs.Search.{WasTried, FoundWithin, OneMore, OnlySpent, NeverTen, RefusedBy}
use Rattle.brent.specs.Step.{within}
use Rattle.brent.proofs.Driven.{driven_is}
use Rattle.brent.proofs.Laws as Method
use Rattle.brent.proofs.Trials as Trials
use Rattle.brent.proofs.Asked.{left_as}
use Rattle.retention.specs.Trials.{sample}
use Rattle.retention.specs.Retention.{checked_search, optimal_retention, optimum_of, number_of, IsSearched}
use Rattle.retention.specs.Retention.{SearchAnswer, SearchContract}
use Rattle.retention.specs.Laws.{SearchLaws}
use Rattle.retention.proofs.Entry.{SevenOrEight, Keeps, trials_lawful}
use Rattle.retention.proofs.Apart.{run_apart}

all_alike : (l : Lent Float) → SameLengths l l
all_alike l = record {
  cards = refl;
  counts = refl;
  queue_rows = refl;
  days = refl;
  costs = refl;
  memorized = refl;
  due = refl;
  keys = refl;
  intervals = refl;
}

-- 7 and 8 are not among 1 to 6
run-number : (a : Answer Refusal) → RefusedBy SevenOrEight a → 0 < number_of (optimum_of a) → number_of (optimum_of a) ≤ 6 → ⊥
run-number (found x mean done) h p q = omega arith
run-number (not_found done) h p q = omega arith
run-number (refused r) (inl e) p q = omega (arith, e)
run-number (refused r) (inr e) p q = omega (arith, e)

module _ (i : Inputs) (rounds : ℕ) (l : Lent Float) where
  abbrev result : Searched (Lent Float) Refusal
  result = optimal_retention i rounds l

  refused_is : (r : Refusal) → checked_search rounds i l ≡ Err r → result ≡ ended l (refused r)
  unfolding optimal_retention
  refused_is r e = rw e

  passed_is : checked_search rounds i l ≡ passed → result ≡ search (sample i) rounds l
  unfolding optimal_retention
  passed_is e = rw e

  -- what holds of an entry refusal and of a search by its trials holds of a call
  by-entry : (P : Searched (Lent Float) Refusal → Type 0) → ((r : Refusal) → P (ended l (refused r)))
      → P (search (sample i) rounds l) → P result
  by-entry P f p = go (checked_search rounds i l) refl
    where
      go : (c : Check) → checked_search rounds i l ≡ c → P result
      go (Err r) e = rw (refused_is r e) (f r)
      go (Ok u) e = rw (passed_is e) p

  -- of an accepted search: what its trials keep holds in the end, and it is refused only as they are
  passed_so : checked_search rounds i l ≡ passed
      → Keeps i l result.left × RefusedBy SevenOrEight result.answer
  passed_so e =
      rw (passed_is e)
      (left_as (sample i) (Keeps i l) SevenOrEight (λ w u h t. trials_lawful rounds i l e w u h t) rounds l
      (record { lengths = all_alike l; behind = refl }))

  untouched : 0 < number_of (optimum_of result.answer) → number_of (optimum_of result.answer) ≤ 6 → result.left ≡ l
  unfolding ended
  untouched p q = go (checked_search rounds i l) refl
    where
      go : (c : Check) → checked_search rounds i l ≡ c → result.left ≡ l
      go (Err r) e = ap (λ (x : Searched (Lent Float) Refusal). x.left) (refused_is r e)
      go (Ok u) e = absurd (run-number result.answer (passed_so e).1 p q)

  -- ALL OF THEM
  pub search_laws : SearchLaws i rounds l
  unfolding ended
  search_laws = record {
    entry_refusal = refused_is;
    run_refusal = λ e. (passed_so e).1;
    untouched = untouched;
    lengths_same = λ e. (passed_so e).0.lengths;
    beyond_same = λ e. (passed_so e).0.behind;
    trials_within = by-entry (λ x. Each (λ t. T (within t.retention)) x.trials)
        (λ r. tt) (Trials.trials_within (sample i) rounds l);
    found_within = by-entry (λ x. FoundWithin x.answer)
        (λ r. tt) (Method.found_within (sample i) rounds l);
    cheapest = by-entry (λ x. (Each (λ t. is_nan t.mean ≡ false) x.trials → Each
        (λ t. NotBelow x.answer t.mean) x.trials))
        (λ r h. tt) (Method.cheapest (sample i) rounds l);
    was_tried = by-entry (λ x. WasTried x.answer x.trials)
        (λ r. tt) (Method.was_tried (sample i) rounds l);
    one_more = by-entry (λ x. OneMore x.answer (length x.trials))
        (λ r. tt) (Method.one_more (sample i) rounds l);
    only_spent = by-entry (λ x. OnlySpent x.answer rounds)
        (λ r. tt) (Trials.only_spent (sample i) rounds l);
    never_ten = λ h. by-entry (λ x. NeverTen x.answer)
        (λ r. tt) (Trials.never_ten (sample i) rounds l h);
    apart = λ e l' h u w n. run_apart rounds i l l' u n e h (all_alike l) w;
    stepper = λ e fuel h. driven_is (sample i) rounds fuel l h ∙ sym (passed_is e);
  }

  -- THE CONTRACT OF A CALL
  pub search_contract : {r : SearchAnswer} {after : Lent Float} → IsSearched result r after
      → SearchContract i rounds l r after
  search_contract c = record {
    result = c;
    untouched = λ p q. c.lists ∙ untouched (rw c.answer at p) (rw c.answer at q);
  }

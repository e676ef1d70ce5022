-- What a call leaves in the lists that it was lent one by one: what it left in them as one value; and what it tells.
--   lent_left         the lists one by one
--   call_is           a run's numbers and lists, from its contract
--   search_call_is    a search's
use mathlib.Core.Path.{◌≡◌, refl, sym, ap, ◌∙◌}
use mathlib.Core.List.{List}
use mathlib.Core.Option.{some}
use Prim.Native.Nat.{ℕ}
use lib.Ieee.{Float}
use Rattle.std.specs.Prelude.{Ok, Err}
use Rattle.turns.proofs.Logic.{not-one}
use Rattle.entry.specs.declared.Refusal.{Refusal}
use Rattle.entry.specs.declared.Refusal.TheVariants as refusal
use Rattle.entry.specs.declared.RunRefusal.TheVariants as run_refused
use Rattle.entry.specs.declared.lists.Lists.{Lists}
use Rattle.entry.specs.Entry.{Inputs}
use Rattle.entry.specs.Refusals.{number_of}
use Rattle.runs.specs.State.{State, Lent, lent, lent_of, state}
use Rattle.runs.specs.declared.Progress.{Progress}
use Rattle.runs.specs.Simulate.{Answer, Told, told, finished, rules_for}
use Rattle.runs.specs.Demands.{RunContract, DemandThree}
use Rattle.retention.specs.Retention as Retention
use Rattle.retention.specs.Retention.{SearchAnswer, SearchContract}
use Rattle.capi.specs.declared.run.RunNumbers.{RunNumbers}
use Rattle.capi.specs.declared.search.SearchNumbers.{SearchNumbers}
use Rattle.capi.specs.Answer as Run
use Rattle.capi.specs.Answer.{list_of, numbers_if, progress_in, CallContract}
use Rattle.capi.specs.Search as Search
use Rattle.capi.specs.Search.{SearchCall}

-- no refusal is told as 0
told_above : (r : Refusal) → number_of r ≡ 0 → ⊥
told_above (refusal.Parameters i) e = not-one cc
told_above refusal.DeckSize e = not-one cc
told_above refusal.LearnSpan e = not-one cc
told_above refusal.Config e = not-one cc
told_above refusal.Lists e = not-one cc
told_above refusal.TooManyCards e = not-one cc
told_above (refusal.ExistingCard i) e = not-one cc
told_above (refusal.Run (run_refused.ChanceOutOfRange c)) e = not-one cc
told_above (refusal.Run (run_refused.TableFull c)) e = not-one cc
told_above (refusal.Run (run_refused.DueCount c)) e = not-one cc
told_above (refusal.NotFound done) e = not-one cc

module _ {i : Inputs} {s : State Float} {l : Lent Float} where
  -- an answer that is told as 0 is Ok
  demand : (r : Answer) → RunContract i s r l → (told r).number ≡ 0 → DemandThree (rules_for i) i s (told r).progress l
  demand (Ok p) h e = h.demand_three p refl
  demand (Err x) h e = absurd (told_above x.refusal e)

  call_is : {r : Answer} {x : RunNumbers} → x ≡ Run.numbers_of (told r) (list_of i s) → RunContract i s r l
      → CallContract i s x l
  call_is {r = r} e h = rw e (record {
    numbers_are = sym (ap (λ z. numbers_if z (list_of i s)) h.result.numbers);
    lists = h.result.lists;
    demand_three = demand r h;
  })

number_is : (r : SearchAnswer) (list : ℕ) → (Search.numbers_of r list).refusal ≡ Retention.number_of r
number_is (Ok x) list = refl
number_is (Err x) list = refl

module _ {i : Inputs} {rounds : ℕ} {l after : Lent Float} where
  search_call_is : {r : SearchAnswer} {n : SearchNumbers} → n ≡ Search.numbers_of r (list_of i (state l 0 0))
      → SearchContract i rounds l r after → SearchCall i rounds l n after
  search_call_is {r = r} e h = rw e (record {
    numbers_are = ap (λ z. Search.numbers_of z (list_of i (state l 0 0))) h.result.answer;
    lists = h.result.lists;
    untouched = λ p q. let z = number_is r (list_of i (state l 0 0)) in h.untouched (rw (← z) p) (rw (← z) q);
  })

module _ (x : Lists) {cards : List (List Float)} {counts rows days : List (List ℕ)} {costs memorized : List Float}
    {due : List ℕ} {keys : List (List ℕ)} {intervals : List Float} (a : cards ≡ x.cards.now) (b : counts ≡ x.counts.now)
    (c : rows ≡ x.queue_rows.now) (d : days ≡ x.days.now) (e : costs ≡ x.costs.now) (f : memorized ≡ x.memorized.now)
    (g : due ≡ x.due.now) (h : keys ≡ x.keys.now) (j : intervals ≡ x.intervals.now) where
  pub run_left : {i : Inputs} {s : State Float} {r : Answer} {n : RunNumbers} → n ≡ Run.numbers_of (told r) (list_of i s)
      → RunContract i s r (lent_of x)
      → CallContract i s n (lent cards counts rows days costs memorized due keys intervals)
  run_left q p = rw (a, b, c, d, e, f, g, h, j) (call_is q p)

  pub search_left : {i : Inputs} {rounds : ℕ} {l : Lent Float} {r : SearchAnswer} {n : SearchNumbers}
      → n ≡ Search.numbers_of r (list_of i (state l 0 0)) → SearchContract i rounds l r (lent_of x)
      → SearchCall i rounds l n (lent cards counts rows days costs memorized due keys intervals)
  search_left q p = rw (a, b, c, d, e, f, g, h, j) (search_call_is q p)

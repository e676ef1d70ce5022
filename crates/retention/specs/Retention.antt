-- THE SEARCH for the cheapest retention, from its inputs and the lent lists to its answer and the lists that it leaves
-- (docs/RULES.md, O5 to O7). Definitions only.
--   rounds_ok rounds               refusal 4 asks for 1 to 64
--   checked_search rounds i l      the entry's tests
--   optimal_retention i rounds l   a call: its trials, the lists that it leaves, its answer
--   optimum_of, number_of, second_of  the answer as a call says it, and its numbers
--   IsSearched x r l              what a call says and leaves is the search x
--   SearchContract                what `optimal_retention` promises
use Rattle.std.specs.Prelude.{ℕ, ◌≤◌, ◌<◌, Bool, ◌&&◌, ◌≡◌, leb, Float, Result, Ok, Err}
use Rattle.entry.specs.declared.Refusal.{Refusal}
use Rattle.entry.specs.declared.Refusal.TheVariants as refusal
use Rattle.runs.specs.State.{Lent, state}
use Rattle.entry.specs.Entry.{Inputs, Check}
use Rattle.runs.specs.Checked.{checked_with}
use Rattle.entry.specs.Refusals as Refusals
use Rattle.brent.specs.Search.{Answer, found, not_found, refused, Searched, ended, search}
use Rattle.retention.specs.declared.Optimum.{Optimum}
use Rattle.retention.specs.Trials.{sample}

abbrev pub most_rounds : ℕ
most_rounds = 64

unfoldable pub rounds_ok : ℕ → Bool
rounds_ok rounds = leb 1 rounds && leb rounds most_rounds

-- as a run's, in the same order, with the rounds in the retention's place
abbrev pub checked_search : ℕ → Inputs → Lent Float → Check
checked_search rounds i l = checked_with (rounds_ok rounds) i (state l 0 i.settings.seed)

-- an entry refusal makes no trial and leaves the lists as they are
abbrev pub searched_after : Check → Lent Float → Searched (Lent Float) Refusal → Searched (Lent Float) Refusal
searched_after (Ok t) l x = x
searched_after (Err r) l x = ended l (refused r)

unfoldable pub optimal_retention : Inputs → ℕ → Lent Float → Searched (Lent Float) Refusal
optimal_retention i rounds l = searched_after (checked_search rounds i l) l (search (sample i) rounds l)

-- ---- as a call says it: a retention that is not found is refusal 10 with the rounds done
abbrev pub SearchAnswer : Type 0
SearchAnswer = Result Optimum Refusal

abbrev pub optimum_of : Answer Refusal → SearchAnswer
optimum_of (found x mean done) = Ok (record { retention = x; mean = mean; rounds = done })
optimum_of (not_found done) = Err (refusal.NotFound done)
optimum_of (refused r) = Err r

abbrev pub number_of : SearchAnswer → ℕ
number_of (Ok x) = 0
number_of (Err r) = Refusals.number_of r

abbrev pub second_of : SearchAnswer → ℕ
second_of (Ok x) = 0
second_of (Err r) = Refusals.second_of r

-- an answer and lists are those of a search
pub record IsSearched (x : Searched (Lent Float) Refusal) (r : SearchAnswer) (l : Lent Float) : Type 0 where
  pub answer : r ≡ optimum_of x.answer
  pub lists : l ≡ x.left

-- WHAT A CALL OF THE SEARCH PROMISES: the answer and the lists are those of the definition; and a call that answers 1
-- to 6 left every list as it was
pub record SearchContract (i : Inputs) (rounds : ℕ) (l : Lent Float) (r : SearchAnswer)
    (after : Lent Float) : Type 0 where
  pub result : IsSearched (optimal_retention i rounds l) r after
  pub untouched : 0 < number_of r → number_of r ≤ 6 → after ≡ l

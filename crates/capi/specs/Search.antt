-- A search's answer as numbers. Definitions only.
--   numbers_of    the refusal's number and second number, 0 and 0 where there is none, its list; the rounds done, the
--                retention and its mean, 0 where nothing was found
--   SearchCall   what `drill_optimal_retention` promises
--   asked, verdict_number   the retention to try, and the verdict, as numbers
use Rattle.std.specs.Prelude.{ℕ, ◌≤◌, ◌<◌, ◌≡◌, Float, Option, Some, None, Ok, Err}
use Rattle.std.specs.Float.{nan}
use Rattle.float32.specs.Numbers.{0ᶠ}
use Rattle.brent.specs.declared.Verdict.{Verdict}
use Rattle.brent.specs.declared.Verdict.TheVariants as verdict
use Rattle.runs.specs.State.{Lent, state}
use Rattle.entry.specs.Entry.{Inputs}
use Rattle.entry.specs.Refusals.{number_of, second_of}
use Rattle.retention.specs.Retention.{SearchAnswer, optimum_of, optimal_retention}
use Rattle.capi.specs.declared.search.SearchNumbers.{SearchNumbers}
use Rattle.capi.specs.Answer.{list_of, list_in}

abbrev pub numbers_from : ℕ → ℕ → ℕ → ℕ → Float → Float → SearchNumbers
numbers_from number second list rounds retention mean = record {
  refusal = number;
  second = second;
  list = list_in number list;
  rounds = rounds;
  retention = retention;
  mean = mean;
}

abbrev pub numbers_of : SearchAnswer → ℕ → SearchNumbers
numbers_of (Ok x) list = numbers_from 0 0 list x.rounds x.retention x.mean
numbers_of (Err r) list = numbers_from (number_of r) (second_of r) list 0 0ᶠ 0ᶠ

-- the numbers are those of the definition's answer, and the lists its lists; 1 to 6 left every list as it was
pub record SearchCall (i : Inputs) (rounds : ℕ) (l : Lent Float) (numbers : SearchNumbers)
    (after : Lent Float) : Type 0 where
  pub numbers_are : numbers
      ≡ numbers_of (optimum_of (optimal_retention i rounds l).answer) (list_of i (state l 0 0))
  pub lists : after ≡ (optimal_retention i rounds l).left
  pub untouched : 0 < numbers.refusal → numbers.refusal ≤ 6 → after ≡ l

-- the retention to try, or a NaN: there is none
unfoldable pub asked : Option Float → Float
asked (Some u) = u
asked None = nan

-- 0: found; 10: not found; 2^32 - 1: a retention is still to be tried
unfoldable pub verdict_number : Verdict → ℕ
verdict_number verdict.Open = 4294967295
verdict_number (verdict.Found x) = 0
verdict_number verdict.NotFound = 10

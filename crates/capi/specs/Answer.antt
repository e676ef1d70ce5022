-- A run's answer as numbers. Definitions only.
--   list_in         the list that refusal 6 is about, 0 for any other refusal
--   numbers_of      the numbers of an answer, and the list of refusal 6
--   progress_in     how far the run came, of its numbers
--   CallContract    what `drill_simulate` promises
use Rattle.std.specs.Prelude.{ℕ, cond, ◌≡◌, eqb, length, Float}
use Rattle.std.proofs.Math.Option.{Option, none, some}
use Rattle.runs.specs.declared.Progress.{Progress}
use Rattle.runs.specs.State.{State, Lent, lists_of}
use Rattle.entry.specs.Entry.{Inputs, short_list}
use Rattle.runs.specs.Checked.{lengths_of}
use Rattle.runs.specs.Simulate.{Told, told_if, progress, rules_for, simulated}
use Rattle.runs.specs.Demands.{DemandThree}
use Rattle.capi.specs.declared.run.RunNumbers.{RunNumbers}

-- the first list that fails the test of refusal 6
abbrev pub list_of : {C : Type 0} → Inputs → State C → ℕ
list_of i s = short_list i.settings.config (length i.existing) (length i.existing_counts) (lengths_of s)

-- it is told with that refusal alone, by number
abbrev pub list_in : ℕ → ℕ → ℕ
list_in number list = cond (eqb number 6) list 0

abbrev pub numbers_of : Told → ℕ → RunNumbers
numbers_of x list = record {
  refusal = x.number;
  second = x.second;
  list = list_in x.number list;
  turns = x.progress.turns;
  cards = x.progress.cards;
  queued = x.progress.queued;
  draws = x.progress.draws;
}

abbrev pub numbers_if : Option Told → ℕ → Option RunNumbers
numbers_if none list = none
numbers_if (some x) list = some (numbers_of x list)

abbrev pub progress_in : RunNumbers → Progress
progress_in x = progress x.turns x.cards x.queued x.draws

-- the numbers are those of the definition's answer, and the lists its lists; and where the run ends Ok, demand 3 holds
pub record CallContract (i : Inputs) (s : State Float) (numbers : RunNumbers) (l : Lent Float) : Type 0 where
  pub numbers_are : some numbers ≡ numbers_if (told_if (simulated i s).answer) (list_of i s)
  pub lists : l ≡ lists_of (simulated i s).state
  pub demand_three : numbers.refusal ≡ 0 → DemandThree (rules_for i) i s (progress_in numbers) l

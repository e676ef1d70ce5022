-- The numbers of the refusals (docs/RULES.md, E8). Definitions only.
use Rattle.std.specs.Prelude.{ℕ}
use Rattle.entry.specs.declared.Refusal.{Refusal}
use Rattle.entry.specs.declared.Refusal.TheVariants as refusal
use Rattle.entry.specs.declared.RunRefusal.TheVariants as run

abbrev pub number_of : Refusal → ℕ
number_of (refusal.Parameters i) = 1
number_of refusal.DeckSize = 2
number_of refusal.LearnSpan = 3
number_of refusal.Config = 4
number_of refusal.Lists = 6
number_of refusal.TooManyCards = 2
number_of (refusal.ExistingCard i) = 5
number_of (refusal.Run (run.ChanceOutOfRange c)) = 7
number_of (refusal.Run (run.TableFull c)) = 8
number_of (refusal.Run (run.DueCount c)) = 9
number_of (refusal.NotFound done) = 10

abbrev pub second_of : Refusal → ℕ
second_of (refusal.Parameters i) = i
second_of refusal.DeckSize = 0
second_of refusal.LearnSpan = 0
second_of refusal.Config = 0
second_of refusal.Lists = 0
second_of refusal.TooManyCards = 1
second_of (refusal.ExistingCard i) = i
second_of (refusal.Run (run.ChanceOutOfRange c)) = c
second_of (refusal.Run (run.TableFull c)) = c
second_of (refusal.Run (run.DueCount c)) = c
second_of (refusal.NotFound done) = done

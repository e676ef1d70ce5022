-- That the tables of src/ are those of the definition, each by one computed test over all entries.
use mathlib.Core.Path.{◌≡◌}
use Prim.Native.Nat.{ℕ, ◌<◌}
use lib.Dec.{T, eqb, eqb→eq}
use lib.ListN.{get_or}
use Rattle.series.proofs.Table.{at}
use Rattle.power_tables.specs.Tables.{heights, powers, height, power, slope, line_word, curvature, power_word}
use Rattle.power_tables.specs.declared.TheConstants.{LINES, CURVATURES, POWERS}

pub lines_are : (i : ℕ) → i < 512 → get_or LINES i 0 ≡ line_word i
lines_are i h = eqb→eq (get_or LINES i 0) (line_word i) (unfold line_word height heights slope in at (λ i a. eqb a (line_word i)) LINES tt i h)

pub curvatures_are : (i : ℕ) → i < 512 → get_or CURVATURES i 0 ≡ curvature i
curvatures_are i h = eqb→eq (get_or CURVATURES i 0) (curvature i) (unfold curvature in at (λ i a. eqb a (curvature i)) CURVATURES tt i h)

pub powers_are : (i : ℕ) → i < 128 → get_or POWERS i 0 ≡ power_word i
powers_are i h = eqb→eq (get_or POWERS i 0) (power_word i) (unfold power_word power powers in at (λ i a. eqb a (power_word i)) POWERS tt i h)

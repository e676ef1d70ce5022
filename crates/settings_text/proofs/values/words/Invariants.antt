-- The invariant: what is to be read is what the words passed and the parts from `at` on say.
use Rattle.std.proofs.Common.{◌≡◌, ◌-◌, length, drop, take}
use Rattle.settings_text.specs.Text.{parts}
use Rattle.settings_text.specs.Forms.{several}
use Rattle.settings_text.proofs.SeveralLaws.{before_all}
use Rattle.settings_text.proofs.values.words.Given as goal

abbrev pub invariant-loop-value : goal.invariant-loop-value
invariant-loop-value g l = record {
  room : length l.value-items ≡ g.row.K;
  read : several g.row.K (parts (drop l.i l.s))
      ≡ before_all (take l.value-index l.value-items) (several (g.row.K - l.value-index) (parts (drop l.at l.s)));
}

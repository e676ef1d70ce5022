-- The invariant: what the lines that are left say, in the settings so far, is what the text says.
use Rattle.std.proofs.Common.{◌≡◌, ◌+◌, length, drop}
use Rattle.settings_text.specs.Text.{lines}
use Rattle.settings_text.specs.Forms.{read_lines}
use Rattle.settings_text.proofs.reader.read_lines.Given as goal

abbrev pub invariant-loop-i : goal.invariant-loop-i
invariant-loop-i l = record {
  can : (goal.iterator-loop-i).can_next l.i-iterator;
  finite : (goal.iterator-loop-i).is_finite l.i-iterator;
  read : read_lines 1 (lines l.text) l.initial.settings
      ≡ read_lines (length l.yielded + 1) (drop (length l.yielded) (lines l.text)) l.settings;
}

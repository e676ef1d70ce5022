-- The fields of a bit pattern b of the format f: where the pattern is a finite float's, its size is significand f b * 2
-- ^ exponent f b, in units of the format's smallest value. Definitions only.
--   field f b, significand f b, exponent f b   the exponent's field, and the two of the size
use Rattle.std.specs.Prelude.{ℕ, suc, ◌+◌, ◌-◌, ◌/◌, ◌%◌, cond, ◌==◌}
use Rattle.std.specs.Float.{Format}
use Rattle.std.specs.Float.Ieee.{hid, ones}

abbrev pub field : Format → ℕ → ℕ
field f b = b / hid f % suc (ones f)

unfoldable pub significand : Format → ℕ → ℕ
significand f b = cond (field f b == 0) (b % hid f) (hid f + b % hid f)

unfoldable pub exponent : Format → ℕ → ℕ
exponent f b = field f b - 1

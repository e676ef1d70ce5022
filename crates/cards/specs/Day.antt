-- A card's dates. Definitions only.
--   day_of due          its day: its due date in whole days, 0 where that is past
--   next_due d          its due date when it is put off on day d
--   is_new last_date     whether it is new
--   longest_interval, IntervalInRange v   the range of its intervals
use Rattle.std.specs.Prelude.{ℕ, Bool, true, T, pos, Float}
use Rattle.std.specs.Float.{inf, binary32}
use Rattle.std.specs.Float.Ieee.{add, of_int, to_unsigned, le, eq}
use Rattle.float32.specs.Numbers.{0ᶠ, 1ᶠ}
use Rattle.float32.specs.Float32.{max}

unfoldable pub day_of : Float → ℕ
day_of due = to_unsigned 32 (max due 0ᶠ)

-- when a card that is put off on day d falls due: the next day
abbrev pub next_due : ℕ → Float
next_due d = add binary32 (of_int binary32 (pos d)) 1ᶠ

-- a card is new while its last date is minus infinity
unfoldable pub is_new : Float → Bool
is_new last_date = eq last_date (inf true)

abbrev pub longest_interval : Float
longest_interval = of_int binary32 (pos 36500)

-- an interval is 1 to 36,500
pub record IntervalInRange (v : Float) : Type 0 where
  pub least : T (le (of_int binary32 (pos 1)) v)
  pub most : T (le v longest_interval)

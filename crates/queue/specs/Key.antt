-- A card's order key: one number whose order is that of (day, reviews before new cards, priority).
--   shifted z                         an i32 counted from the least
--   priority_of difficulty             the priority of a difficulty
--   packed day new priority           the three in one number
--   card_priority day new difficulty   the order key of a card
--   NoLater d n p d' n' p'            the order that a key stands for, by its parts
use Rattle.std.specs.Prelude.{◌≡◌, Bool, false, ◌⊎◌, ℕ, suc, ◌+◌, ◌-◌, ◌*◌, ◌^◌, ◌<◌, min, ℤ, pos, negsuc, T, Float}
use Rattle.std.specs.Int.Signed.{le_z}
use Rattle.std.specs.Float.{binary32}
use Rattle.std.specs.Float.Ieee.{round, to_signed}
use Rattle.float32.specs.Ops.{◌*ᶠ◌}
use Rattle.turns.specs.Sums.{bit}

-- a number from −2 ^ 31 up, counted from there
unfoldable pub shifted : ℤ → ℕ
shifted (pos n) = n + 2 ^ 31
shifted (negsuc n) = 2 ^ 31 - suc n

-- `ReviewPriorityFn::default`: the difficulty times 100 as an i32
unfoldable pub priority_of : Float → ℤ
priority_of difficulty = to_signed 31 (difficulty *ᶠ round binary32 false 100 1)

unfoldable pub packed : ℕ → Bool → ℤ → ℕ
packed day new priority = day * 2 ^ 33 + bit new * 2 ^ 32 + shifted priority

-- `card_priority`, where a day is an i32 and ends at its largest
unfoldable pub card_priority : ℕ → Bool → Float → ℕ
card_priority day new difficulty = packed (min day (2 ^ 31 - 1)) new (priority_of difficulty)

-- the order of `CardPriority`: day, then reviews before new cards, then priority
abbrev pub NoLater : ℕ → Bool → ℤ → ℕ → Bool → ℤ → Type 0
NoLater d n p d' n' p' = (d < d') ⊎ ((d ≡ d') × ((bit n < bit n') ⊎ ((n ≡ n') × T (le_z p p'))))

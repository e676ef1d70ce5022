-- What the arms of powf's code ask and promise, by the bit patterns b of x and c of y.
--   Near b c               x finite and above 0, |y| up to 128
--   Quick b c              x from 1 to 2^32, y from -2 to -2^-31
--   Special b c            neither is a NaN, and x^y is a special case
--   IsBase x, IsDecay c    the x and the y of a block of powers, in the range of Quick
--   quick_arg b c           y log2 x + 126 in units of 2^-39, for these
use Rattle.std.specs.Prelude.{ℕ, ◌+◌, ◌-◌, ◌*◌, ◌/◌, ◌%◌, ◌^◌, ◌<◌, ◌≤◌, not, T, ◌≢◌, is_nan, to_bits, Float}
use Rattle.std.specs.Float.{binary32}
use Rattle.std.specs.Float.Ieee.{fits}
use Rattle.elementary.specs.Power.{log2_of}

-- x finite and above 0, |y| up to 128, by their bit patterns
pub record Near (b c : ℕ) : Type 0 where
  pub positive : 0 < b
  pub finite : b < 0x7F800000
  pub small : c % 2 ^ 31 ≤ 0x43000000

-- x from 1 to 2^32 and y from -2 to -2^-31
pub record Quick (b c : ℕ) : Type 0 where
  pub x_low : 0x3F800000 ≤ b
  pub x_high : b < 0x4F800000
  pub y_low : 0xB0000000 ≤ c
  pub y_high : c < 0xC0000000

-- two numbers, of which y is an infinity where x is finite, above 0 and not 1, and y is not 0
pub record Special (b c : ℕ) : Type 0 where
  pub x_number : b % 2 ^ 31 ≤ 0x7F800000
  pub y_number : c % 2 ^ 31 ≤ 0x7F800000
  pub infinite : 0 < b → b < 0x7F800000 → (b ≢ 0x3F800000) → (c % 2 ^ 31 ≢ 0) → 0x7F800000 ≤ c % 2 ^ 31

-- ---- a block of powers
-- an f32 from 1 to 2^32
pub record IsBase (x : Float) : Type 0 where
  pub single : T (fits binary32 x)
  pub number : T (not (is_nan x))
  pub low : 0x3F800000 ≤ to_bits binary32 x
  pub high : to_bits binary32 x < 0x4F800000

-- y from -2 to -2^-31, by its bit pattern
pub record IsDecay (c : ℕ) : Type 0 where
  pub low : 0xB0000000 ≤ c
  pub high : c < 0xC0000000

-- y log2 x + 126 in units of 2^-39, for such x and y
unfoldable pub quick_arg : ℕ → ℕ → ℕ
unfolding log2_of
quick_arg b c = 126 * 2 ^ 39 - (c % 2 ^ 23 + 2 ^ 23) * log2_of (b - 0x3F800000) / 2 ^ (399 - c / 2 ^ 23)

-- powf: the value at each pair of f32. For a finite x above 0 and a finite y it is pow_bits (specs/Power); here are the
-- special cases. b and c are the bit patterns of x and y, 0x3F800000 is that of 1, 0x7F800000 that of +infinity, and
-- the sign's bit is 2^31.
--   is_odd a                    the pattern a of |y| is that of an odd whole number
--   zero_size c, zero_bits b c   a zero to the y: the size, and with the sign
--   inf_bits c, to_inf_bits b c   +infinity to the y, and x to an infinity
--   num_bits b c                x from 0 up, where y is not 0 and x is not 1
--   pow_at b c                  x^y where neither is a NaN
--   pow_of x y                  x^y as an f32
use Rattle.std.specs.Prelude.{ℕ, ◌+◌, ◌-◌, ◌*◌, ◌/◌, ◌%◌, ◌^◌, Bool, false, cond, ◌==◌, from_bits, is_nan, nat_lt, to_bits, Float}
use Rattle.std.specs.Float.{nan, binary32}
use Rattle.elementary.specs.Power.{pow_bits}

-- |y| = m 2^(f - 150) is an odd whole number
unfoldable pub is_odd : ℕ → Bool
is_odd a =
    cond (nat_lt a 0x3F800000) false
    (cond (nat_lt a 0x4B800000) ((a % 2 ^ 23 + 2 ^ 23) % (2 ^ (150 - a / 2 ^ 23) * 2) == 2 ^ (150 - a / 2 ^ 23))
    false)

-- a zero to the y: 0 for y above 0, else an infinity, with the sign of the zero where y is odd
unfoldable pub zero_size : ℕ → ℕ
zero_size c = cond (nat_lt c (2 ^ 31)) 0 0x7F800000

unfoldable pub zero_bits : ℕ → ℕ → ℕ
unfolding is_odd zero_size
zero_bits b c = zero_size c + cond (is_odd (c % 2 ^ 31)) b 0

-- +infinity to the y, and x to an infinity
unfoldable pub inf_bits : ℕ → ℕ
inf_bits c = cond (nat_lt c (2 ^ 31)) 0x7F800000 0

unfoldable pub to_inf_bits : ℕ → ℕ → ℕ
unfolding zero_size inf_bits
to_inf_bits b c = cond (nat_lt b 0x3F800000) (zero_size c) (inf_bits c)

-- x from 0 up (also -0), with y not 0 and x not 1
unfoldable pub num_bits : ℕ → ℕ → ℕ
unfolding zero_bits inf_bits to_inf_bits pow_bits
num_bits b c =
    cond (b % 2 ^ 31 == 0) (zero_bits b c)
    (cond (b == 0x7F800000) (inf_bits c)
    (cond (c % 2 ^ 31 == 0x7F800000) (to_inf_bits b c)
    (pow_bits b c)))

-- no NaN: x^0 = 1^y = 1, and NaN for x below 0
unfoldable pub pow_at : ℕ → ℕ → Float
unfolding num_bits
pow_at b c =
    cond (c % 2 ^ 31 == 0) (from_bits binary32 0x3F800000)
    (cond (b == 0x3F800000) (from_bits binary32 0x3F800000)
    (cond (nat_lt (2 ^ 31) b) nan
    (from_bits binary32 (num_bits b c))))

-- NaN^0 = 1^NaN = 1
unfoldable pub pow_of : Float → Float → Float
unfolding pow_at
pow_of x y =
    cond (is_nan y) (cond (to_bits binary32 x == 0x3F800000) (from_bits binary32 0x3F800000) nan)
    (cond (is_nan x) (cond (to_bits binary32 y % 2 ^ 31 == 0) (from_bits binary32 0x3F800000) nan)
    (pow_at (to_bits binary32 x) (to_bits binary32 y)))

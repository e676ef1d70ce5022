-- x^y for a finite x above 0 and a finite y, by whole numbers: x^y = 2^(y log2 x). `/` cuts down.
--   normalized b                        the bit pattern of x, leading zeros shifted out: p
--   log2_at i t, log2_of p                log2 of a significand less i / 512, and log2 x + 159, in units of 2^-32
--   abs_diff l n                         |l - n|
--   signed_arg n l c u                   the exponent of 2, y log2 x + 2^16 + 126 in units of 2^-39, from |y log2 x|: z
--   product g a, arg_of l c              |y log2 x| in units of 2^-39, and the exponent of 2 from log2 x
--   exp2m1 r, exp2_of f, exp2_bits z      2^(r / 2^39) - 1 for a small r, 2^(f / 2^39), and the bit pattern of x^y
--   near_bits b c                        x^y for |y| up to 128
--   fine_log2_at i t                      for |y| above 128: as log2_at, in units of 2^-35
--   squares k x                         x squared k times, as long as it is from 1/4 to 4
--   fine_log2 x, fine_arg l c             log2 x + 159 of such a square, and the exponent of 2 from it
--   squared p c, large_arg x c           x^(2^k), where |y| / 2^k is from 64 to 128, and the exponent of 2 from it
--   large_bits b c                       x^y for |y| above 128
--   pow_bits b c                         x^y for any finite y
use Rattle.std.specs.Prelude.{ℕ, zero, suc, ◌+◌, ◌-◌, ◌*◌, ◌/◌, ◌%◌, ◌^◌, cond, not, ◌==◌, nat_lt}
use Rattle.std.specs.Int.Count.{count_leading_zeros}
use Rattle.std.specs.Float.Ieee.{unlike}
use Rattle.power_tables.specs.Tables.{height, slope, curvature, power}
use Rattle.elementary.specs.Ln.{exponent, significand}

-- ---- log2 x
-- the bit pattern of x, where one with leading zeros has them shifted out: 2^23 for each power of two, and 159 * 2^23
-- for 1
unfoldable pub normalized : ℕ → ℕ
unfolding exponent significand
normalized b = (exponent b - 1) * 2 ^ 23 + significand b

-- log2 ((512 + i + t / 2^14) / 512) - i / 512 in units of 2^-32, for t below 2^14
unfoldable pub log2_at : ℕ → ℕ → ℕ
unfolding height slope curvature
log2_at i t = (height i * 2 ^ 32 + slope i + slope i * t * 2 ^ 18 - curvature i * (t * t)) / 2 ^ 35

-- log2 x + 159 in units of 2^-32, from the normalized pattern
unfoldable pub log2_of : ℕ → ℕ
unfolding log2_at
log2_of p = p / 2 ^ 14 * 2 ^ 23 + log2_at (p / 2 ^ 14 % 512) (p % 2 ^ 14)

-- ---- the exponent of 2
unfoldable pub abs_diff : ℕ → ℕ → ℕ
abs_diff l n = cond (nat_lt l n) (n - l) (l - n)

-- y log2 x + 2^16 + 126 in units of 2^-39, where u is |y log2 x|, l is log2 x + 159 and n is 159, both in the same
-- units, and c is the bit pattern of y: the sign's bit is 2^31
unfoldable pub signed_arg : ℕ → ℕ → ℕ → ℕ → ℕ
signed_arg n l c u =
    cond (unlike (nat_lt l n) (not (nat_lt c (2 ^ 31)))) ((2 ^ 16 + 126) * 2 ^ 39 - u) ((2 ^ 16 + 126) * 2 ^ 39 + u)

-- |y log2 x| in units of 2^-39, where g is |log2 x| in units of 2^-32 and a the bit pattern of |y|; the leading digit
-- of a subnormal y makes no difference
unfoldable pub product : ℕ → ℕ → ℕ
product g a = (a % 2 ^ 23 + 2 ^ 23) * g * 2 ^ (a / 2 ^ 23) / 2 ^ 143

unfoldable pub arg_of : ℕ → ℕ → ℕ
unfolding abs_diff signed_arg product
arg_of l c = signed_arg (159 * 2 ^ 32) l c (product (abs_diff l (159 * 2 ^ 32)) (c % 2 ^ 31))

-- ---- 2^(z / 2^39 - 2^16 - 126)
-- 2^(r / 2^39) - 1 in units of 2^-32, for r below 2^32: 1488518144 is ln 2 (1 - 3 ln2^2 / 2^19) = 0.6931453 in units
-- of 2^-31, 1034558604 is ln2^2 / 2 (1 + ln2 / 256) = 0.2408769 in units of 2^-32
unfoldable pub exp2m1 : ℕ → ℕ
exp2m1 r = r * (1488518144 + r * 1034558604 / 2 ^ 40) / 2 ^ 38

-- 2^(f / 2^39) in units of 2^-63, for f below 2^39
unfoldable pub exp2_of : ℕ → ℕ
unfolding power exp2m1
exp2_of f = power (f / 2 ^ 32) * (2 ^ 32 + 1 + exp2m1 (f % 2 ^ 32))

-- the bit pattern: 0 below 2^-126.5, the subnormals from there, the normal numbers, and +infinity from 2^128
unfoldable pub exp2_bits : ℕ → ℕ
unfolding exp2_of
exp2_bits z =
    cond (nat_lt z (2 ^ 55 - 2 ^ 38)) 0
    (cond (nat_lt z (2 ^ 55)) ((exp2_of (z % 2 ^ 39) + 2 ^ 40) / 2 ^ 41)
    (cond (nat_lt z (2 ^ 55 + 254 * 2 ^ 39)) ((z / 2 ^ 39 - 2 ^ 16) * 2 ^ 23 + (exp2_of (z % 2 ^ 39) + 2 ^ 39) / 2 ^ 40)
    0x7F800000))

-- x^y from the bit patterns b of x and c of y, for |y| up to 128
unfoldable pub near_bits : ℕ → ℕ → ℕ
unfolding normalized log2_of arg_of exp2_bits
near_bits b c = exp2_bits (arg_of (log2_of (normalized b)) c)

-- ---- |y| above 128: x is squared until the exponent is below 128, and then goes the usual way with a finer logarithm
-- log2 ((512 + i + t / 2^26) / 512) - i / 512 in units of 2^-35, for t below 2^26
unfoldable pub fine_log2_at : ℕ → ℕ → ℕ
unfolding height slope curvature
fine_log2_at i t = (height i * 2 ^ 32 + slope i + slope i * t * 2 ^ 6 - curvature i * (t * t / 2 ^ 24)) / 2 ^ 32

-- x in units of 2^-60, squared k times, as long as it is from 1/4 to 4
unfoldable pub squares : ℕ → ℕ → ℕ
squares zero x = x
squares (suc k) x = cond (nat_lt x (2 ^ 58)) x (cond (nat_lt x (2 ^ 62)) (squares k (x * x / 2 ^ 60)) x)

-- log2 x + 159 in units of 2^-35, for x in units of 2^-60
unfoldable pub fine_log2 : ℕ → ℕ
unfolding fine_log2_at
fine_log2 x =
    let z = count_leading_zeros 64 x in
    let y = x * 2 ^ z / 2 ^ 28 in
    (162 - z) * 2 ^ 35 + (fine_log2_at (y / 2 ^ 26 - 512) (y % 2 ^ 26) + (y / 2 ^ 26 - 512) * 2 ^ 26)

-- y log2 x + 2^16 + 126 in units of 2^-39, where y has the digits and the sign of the bit pattern c and is from 64 to
-- 128 in size
unfoldable pub fine_arg : ℕ → ℕ → ℕ
unfolding abs_diff signed_arg
fine_arg l c = signed_arg (159 * 2 ^ 35) l c ((c % 2 ^ 23 + 2 ^ 23) * abs_diff l (159 * 2 ^ 35) / 2 ^ 13)

-- x^(2^k) in units of 2^-60, from the normalized pattern p of x, where |y| / 2^k is from 64 to 128; 0 where it is below
-- 1/4, 2^62 where it is 4 or more. (From |y| = 2^31 on it is one or the other for every x but 1.)
unfoldable pub squared : ℕ → ℕ → ℕ
unfolding squares
squared p c =
    let k = c % 2 ^ 31 / 2 ^ 23 - 133 in
    cond (nat_lt p (157 * 2 ^ 23)) 0
    (cond (nat_lt p (161 * 2 ^ 23))
    (cond (nat_lt 24 k) (cond (nat_lt p (159 * 2 ^ 23)) 0 (2 ^ 62))
    (squares k ((2 ^ 23 + p % 2 ^ 23) * 2 ^ (p / 2 ^ 23 - 122))))
    (2 ^ 62))

unfoldable pub large_arg : ℕ → ℕ → ℕ
unfolding fine_log2 fine_arg
large_arg x c =
    cond (nat_lt x (2 ^ 58)) (cond (nat_lt c (2 ^ 31)) 0 (2 ^ 56))
    (cond (nat_lt x (2 ^ 62)) (fine_arg (fine_log2 x) c) (cond (nat_lt c (2 ^ 31)) (2 ^ 56) 0))

-- x^y for |y| above 128 and x other than 1
unfoldable pub large_bits : ℕ → ℕ → ℕ
unfolding normalized squared large_arg exp2_bits
large_bits b c = exp2_bits (large_arg (squared (normalized b) c) c)

-- ---- any finite y; 0x43000000 is the bit pattern of 128, 0x3F800000 that of 1
unfoldable pub pow_bits : ℕ → ℕ → ℕ
unfolding near_bits large_bits
pow_bits b c = cond (nat_lt (c % 2 ^ 31) 0x43000001) (near_bits b c) (cond (b == 0x3F800000) 0x3F800000 (large_bits b c))

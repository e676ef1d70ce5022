-- exp: the value at each f32, by whole numbers. x + 127 ln 2 is divided by ln 2 into n and a rest r, and e^x = 2^(n -
-- 127) e^r. "Cut down" is the largest whole number that is not above.
--   coarse, fine               the tables of e^(i / 16) and e^(i / 512)
--   power i, small p, mant r   e^(i / 512), e^(p / 2^48) for p below 2^39, and e^(r / 2^48), in units of 2^-31
--   fixed a                    |x| in units of 2^-48, from the bit pattern a of |x|
--   packed e r                 the bit pattern of 2^(e - 127) e^(r / 2^48), rounded
--   shifted s X                x + 127 ln 2 in units of 2^-48, less 128; s says that x is not negative
--   limit s                    the pattern of |x| from which on e^x is +infinity, or 0
--   exp_abs s a, exp_bits b      the bit pattern of e^x from that of |x|, and from that of x
--   exp_of x                    e^x as an f32
use Rattle.std.specs.Prelude.{ℕ, ◌+◌, ◌-◌, ◌*◌, ◌/◌, ◌%◌, ◌^◌, Bool, cond, List, [], ◌∷◌, ◌==◌, from_bits, is_nan, nat_lt, slice_index, to_bits, Float}
use Rattle.series.specs.Exp.{ln2}
use Rattle.std.specs.Float.{nan, binary32}

-- entry i is e^(i / 16), of `fine` e^(i / 512), in units of 2^-31, cut down
unfoldable pub coarse : List ℕ
coarse =
    2147483648 ∷ 2285984443 ∷ 2433417773 ∷ 2590359736 ∷ 2757423585 ∷ 2935262128 ∷ 3124570270 ∷ 3326087739 ∷
    3540601968 ∷ 3768951177 ∷ 4012027644 ∷ 4270781196 ∷ 4546222918 ∷ 4839429105 ∷ 5151545467 ∷ 5483791604 ∷ []

unfoldable pub fine : List ℕ
fine =
    2147483648 ∷ 2151682050 ∷ 2155888661 ∷ 2160103496 ∷ 2164326571 ∷ 2168557902 ∷ 2172797505 ∷ 2177045397 ∷
    2181301594 ∷ 2185566112 ∷ 2189838967 ∷ 2194120176 ∷ 2198409755 ∷ 2202707720 ∷ 2207014087 ∷ 2211328874 ∷
    2215652096 ∷ 2219983770 ∷ 2224323913 ∷ 2228672541 ∷ 2233029671 ∷ 2237395319 ∷ 2241769502 ∷ 2246152237 ∷
    2250543540 ∷ 2254943428 ∷ 2259351918 ∷ 2263769027 ∷ 2268194771 ∷ 2272629168 ∷ 2277072235 ∷ 2281523987 ∷ []

-- e^(i / 512) in units of 2^-31
unfoldable pub power : ℕ → ℕ
unfolding coarse fine
power i = slice_index coarse (i / 32 % 16) * slice_index fine (i % 32) / 2 ^ 31

-- e^(p / 2^48) for p below 2^39, by 1 + s (1 + s / 2), in units of 2^-31
unfoldable pub small : ℕ → ℕ
small p =
    let s = p / 256 in
    2 ^ 31 + s * (2 ^ 31 + s / 1024) / 2 ^ 40

-- e^(r / 2^48) in units of 2^-31, for r below 2^48 ln 2
unfoldable pub mant : ℕ → ℕ
unfolding power small
mant r = power (r / 2 ^ 39) * small (r % 2 ^ 39) / 2 ^ 31

-- |x| * 2^48 for the bit pattern a of |x|, from 2^-25 up
unfoldable pub fixed : ℕ → ℕ
fixed a = (a % 2 ^ 23 + 2 ^ 23) * 2 ^ (a / 2 ^ 23 - 102)

-- the bit pattern of 2^(e - 127) e^(r / 2^48), rounded to the nearest f32, for e below 255; at e = 0 it is subnormal or
-- 2^-126
unfoldable pub packed : ℕ → ℕ → ℕ
unfolding mant
packed e r = cond (e == 0) ((mant r + 256) / 512) ((e - 1) * 2 ^ 23 + (mant r + 128) / 256)

-- x + 127 ln 2 in units of 2^-48, less 128 units, for |x| = X / 2^48; the Bool says that x is not negative.
-- ln2 and the next number lie on the two sides of 2^48 ln 2
unfoldable pub shifted : Bool → ℕ → ℕ
shifted s X = cond s (127 * (ln2 + 1) - 128 + X) (127 * (ln2 + 1) - 128 - X)

-- the pattern of |x| from which on e^x is +infinity, or 0
unfoldable pub limit : Bool → ℕ
limit s = cond s 0x42B17218 0x42AEAC50

-- the bit pattern of e^x from that of |x|: 1 for |x| below 2^-25
unfoldable pub exp_abs : Bool → ℕ → ℕ
unfolding fixed packed shifted limit
exp_abs s a =
    cond (nat_lt a 0x33000000) 0x3F800000
    (cond (nat_lt a (limit s))
    (packed (shifted s (fixed a) / (ln2 + 1)) (shifted s (fixed a) % (ln2 + 1)))
    (cond s 0x7F800000 0))

unfoldable pub exp_bits : ℕ → ℕ
unfolding exp_abs
exp_bits b = exp_abs (nat_lt b (2 ^ 31)) (b % 2 ^ 31)

unfoldable pub exp_of : Float → Float
unfolding exp_bits
exp_of x = cond (is_nan x) nan (from_bits binary32 (exp_bits (to_bits binary32 x)))

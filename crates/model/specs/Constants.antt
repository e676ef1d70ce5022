-- The model's limits and the numbers of its formulas: each is the f32 nearest to the decimal beside it. Definitions
-- only.
--     s_min, s_max, d_min, d_max, dr_min, dr_max      the ends of a stability in days, a difficulty, a desired retention
--     min_t                                      the shortest time
--     init_share, current_share, again_shift       difficulty: mean reversion, and the change at rating 1
--     growth_shift                               stability
--     decay_min, decay_max, power_shift, factor_most, inner, edge, weight_min        the curve
--     slope_most, step_most, tolerance            the solver
--     half, two, three, five, nine, ten, eleven
use Rattle.std.specs.Prelude.{false, Float}
use Rattle.std.specs.Float.{binary32}
use Rattle.std.specs.Float.Ieee.{round, neg}
use Rattle.float32.specs.Ops.{◌-ᶠ◌}
use Rattle.float32.specs.Numbers.{1ᶠ}

-- ---- limits

-- 0.0001
abbrev pub s_min : Float
s_min = round binary32 false 1 10000

-- 36500
abbrev pub s_max : Float
s_max = round binary32 false 36500 1

-- 1 and 10
abbrev pub d_min : Float
d_min = 1ᶠ

abbrev pub d_max : Float
d_max = round binary32 false 10 1

-- 0.0001 and 0.9999
abbrev pub dr_min : Float
dr_min = round binary32 false 1 10000

abbrev pub dr_max : Float
dr_max = round binary32 false 9999 10000

-- one second, in days
abbrev pub min_t : Float
min_t = round binary32 false 1 86400

-- ---- difficulty

-- 0.01 and 0.99
abbrev pub init_share : Float
init_share = round binary32 false 1 100

abbrev pub current_share : Float
current_share = round binary32 false 99 100

-- 0.1
abbrev pub again_shift : Float
again_shift = round binary32 false 1 10

-- ---- stability

-- 1.5
abbrev pub growth_shift : Float
growth_shift = round binary32 false 15 10

-- ---- the curve

-- 0.01 and 0.95
abbrev pub decay_min : Float
decay_min = round binary32 false 1 100

abbrev pub decay_max : Float
decay_max = round binary32 false 95 100

-- 0.3, off w33 in the first decay and off w32 in the timescale
abbrev pub power_shift : Float
power_shift = round binary32 false 3 10

-- 60
abbrev pub factor_most : Float
factor_most = round binary32 false 60 1

-- 1 - 2e-5 and 1e-5
abbrev pub inner : Float
inner = 1ᶠ -ᶠ round binary32 false 2 100000

abbrev pub edge : Float
edge = round binary32 false 1 100000

-- 1e-9
abbrev pub weight_min : Float
weight_min = round binary32 false 1 1000000000

-- ---- the solver

-- -1e-12
abbrev pub slope_most : Float
slope_most = neg (round binary32 false 1 1000000000000)

-- 4
abbrev pub step_most : Float
step_most = round binary32 false 4 1

-- 1e-3
abbrev pub tolerance : Float
tolerance = round binary32 false 1 1000

-- ---- whole numbers, and a half

abbrev pub half : Float
half = round binary32 false 1 2

abbrev pub two : Float
two = round binary32 false 2 1

abbrev pub three : Float
three = round binary32 false 3 1

abbrev pub five : Float
five = round binary32 false 5 1

abbrev pub nine : Float
nine = round binary32 false 9 1

abbrev pub ten : Float
ten = round binary32 false 10 1

abbrev pub eleven : Float
eleven = round binary32 false 11 1

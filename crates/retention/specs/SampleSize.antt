-- HOW MANY RUNS A TRIAL HAS, by the days of the span (docs/RULES.md, O2). Definitions only.
--   factor_of n         8.2e-7 n² + (2.41e-3 n + 1.3e-2), each number the f32 nearest to its decimal
--   sampled_by n        16 over that, rounded
--   sample_size span    180 to 30 days, by the formula to 364, 16 from there on
use Rattle.std.specs.Prelude.{ℕ, false, cond, leb, ltb, pos, Float}
use Rattle.std.specs.Float.{binary32}
use Rattle.std.specs.Float.Ieee.{round, of_int, to_unsigned}
use Rattle.float32.specs.Float32 as Float32
use Rattle.float32.specs.Ops.{◌+ᶠ◌, ◌*ᶠ◌, ◌/ᶠ◌}
use Rattle.elementary.specs.Pow.{pow_of}

unfoldable pub factor_of : Float → Float
factor_of n =
    Float32.mul_add (pow_of n (round binary32 false 2 1)) (round binary32 false 82 100000000)
    (n *ᶠ round binary32 false 241 100000 +ᶠ round binary32 false 13 1000)

unfoldable pub sampled_by : Float → ℕ
sampled_by n = to_unsigned 32 (Float32.round (round binary32 false 16 1 /ᶠ factor_of n))

unfoldable pub sample_size : ℕ → ℕ
sample_size span = cond (leb span 30) 180 (cond (ltb span 365) (sampled_by (of_int binary32 (pos span))) 16)

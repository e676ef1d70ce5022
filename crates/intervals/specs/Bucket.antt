-- The two buckets of a key, as the bit patterns of `bucket_index`.
--     pattern z       the bit pattern of an i32
--     bucket_index value step              how often the step goes into the value
--     stability_bucket stability, retention_bucket retention      the buckets
use Rattle.std.specs.Prelude.{ℕ, suc, ◌-◌, ◌^◌, ℤ, pos, negsuc, false, Float}
use Rattle.std.specs.Float.Ieee as Ieee
use Rattle.std.specs.Float.{binary32}
use Rattle.std.specs.Float.Ieee.{neg, to_signed}
use Rattle.float32.specs.Float32.{round, clamp, max}
use Rattle.elementary.specs.Ln.{ln_of}
use Rattle.float32.specs.Ops.{◌/ᶠ◌}
use Rattle.model.specs.Constants.{s_min}

-- the bit pattern of an i32
unfoldable pub pattern : ℤ → ℕ
pattern (pos n) = n
pattern (negsuc n) = 2 ^ 32 - suc n

-- the ends of an i32 as floats: 2 ^ 31, as 2 ^ 31 − 1 is rounded, and −2 ^ 31
abbrev pub highest : Float
highest = Ieee.round binary32 false (2 ^ 31) 1

abbrev pub lowest : Float
lowest = neg highest

-- how often the step goes into the value, rounded half away from zero and kept within an i32; 0 for a NaN
unfoldable pub bucket_index : Float → Float → ℤ
bucket_index value step = to_signed 31 (clamp (round (value /ᶠ step)) lowest highest)

-- the steps: 0.001 of the logarithm of a stability, 0.0005 of a desired retention
abbrev pub log_step : Float
log_step = Ieee.round binary32 false 1 1000

abbrev pub retention_step : Float
retention_step = Ieee.round binary32 false 5 10000

-- the two buckets of a key; a stability is taken as at least S_MIN
unfoldable pub stability_bucket : Float → ℕ
stability_bucket stability = pattern (bucket_index (ln_of (max stability s_min)) log_step)

unfoldable pub retention_bucket : Float → ℕ
retention_bucket retention = pattern (bucket_index retention retention_step)

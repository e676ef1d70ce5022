-- The bit pattern of an i32.
--     cast_is                 it is what `cast_unsigned` gives, of an i32 that stands as its own pattern
--     bucket_in value step    a bucket is an i32
use mathlib.Core.Path.{◌≡◌, refl, ◌∙◌, ap}
use Prim.Native.Nat.{◌^◌, ◌<◌}
use lib.IntN.{ℤ, pos, negsuc}
use lib.Signed.{mag}
use lib.Ieee.{Float}
use lib.Ieee.Casts.{to_signed_in}
use mir.Syntax.{w32}
use mir.Val.{to_z, of_z}
use mir.ValLaws.{to_z-of_z}
use Rattle.intervals.specs.Bucket.{pattern, bucket_index}

bits_are : (z : ℤ) → of_z w32 z ≡ pattern z
unfolding pattern
bits_are (pos n) = refl
bits_are (negsuc n) = refl

pub cast_is : (z : ℤ) → mag z < 2 ^ 31 → of_z w32 (to_z w32 (of_z w32 z)) ≡ pattern z
cast_is z h = ap (of_z w32) (to_z-of_z w32 z (record { sfits = h })) ∙ bits_are z

pub bucket_in : (value step : Float) → mag (bucket_index value step) < 2 ^ 31
unfolding bucket_index
bucket_in value step = to_signed_in 31 _

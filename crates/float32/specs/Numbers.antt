-- 0 and 1, by their bit patterns, as a literal of the code stands in a goal; `zero_is` and `one_is` (proofs/Numbers)
-- say that they are 0 / 1 and 1 / 1, rounded. Definitions only.
use Rattle.std.specs.Prelude.{from_bits, Float}
use Rattle.std.specs.Float.{binary32}

abbrev pub 0ᶠ : Float
0ᶠ = from_bits binary32 0

abbrev pub 1ᶠ : Float
1ᶠ = from_bits binary32 0x3F800000

-- The two patterns of specs/Numbers are the numbers that they are named for.
use Rattle.std.proofs.Common.{◌≡◌, false, refl}
use lib.Ieee.{binary32, of_bits, of_fields, round}
use Rattle.float32.specs.Numbers.{0ᶠ, 1ᶠ}

pub zero_is : 0ᶠ ≡ round binary32 false 0 1
unfolding of_bits of_fields round
zero_is = refl

pub one_is : 1ᶠ ≡ round binary32 false 1 1
unfolding of_bits of_fields round
one_is = refl

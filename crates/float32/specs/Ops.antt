-- Rust's operators on `f32`, as infix signs. Definitions only.
use Rattle.std.specs.Float.Ieee as Ieee
use Rattle.std.specs.Prelude.{Float}
use Rattle.std.specs.Float.{binary32}

infixl 6 ◌+ᶠ◌ ◌-ᶠ◌
infixl 7 ◌*ᶠ◌ ◌/ᶠ◌
abbrev pub ◌+ᶠ◌ : Float → Float → Float
x +ᶠ y = Ieee.add binary32 x y

abbrev pub ◌-ᶠ◌ : Float → Float → Float
x -ᶠ y = Ieee.sub binary32 x y

abbrev pub ◌*ᶠ◌ : Float → Float → Float
x *ᶠ y = Ieee.mul binary32 x y

abbrev pub ◌/ᶠ◌ : Float → Float → Float
x /ᶠ y = Ieee.div binary32 x y

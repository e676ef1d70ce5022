-- That the definitions of specs/Float32 are those of the library's methods, by cases.
use Rattle.std.proofs.Common.{◌≡◌, true, false, refl}
use mathlib.Core.Bool.{false≢true}
use Rattle.std.specs.Float as Float
use lib.Ieee.{Float, nan, inf, fin, binary32}
use Rattle.std.specs.Float.Ieee as Ieee
use Rattle.float32.specs.Float32 as Float32

pub is_finite_is : (x : Float) → Float.float_is_finite x ≡ Float32.is_finite x
unfolding Float.float_is_finite Float32.is_finite
is_finite_is nan = refl
is_finite_is (inf s) = refl
is_finite_is (fin s m e) = refl

pub abs_is : (x : Float) → Float.float_with_sign false x ≡ Float32.abs x
unfolding Float.float_with_sign Float32.abs
abs_is nan = refl
abs_is (inf s) = refl
abs_is (fin s m e) = refl

pub round_is : (x : Float) → Float.float_round binary32 x ≡ Float32.round x
unfolding Float.round_with Float32.round
round_is nan = refl
round_is (inf s) = refl
round_is (fin true m e) = refl
round_is (fin false m e) = refl

pub mul_add_is : (x y z : Float) → Float.float_mul_add binary32 x y z ≡ Float32.mul_add x y z
unfolding Float.float_mul_add Float32.mul_add
mul_add_is nan y z = refl
mul_add_is (inf s) y z = refl
mul_add_is (fin s m e) nan z = refl
mul_add_is (fin s m e) (inf t) z = refl
mul_add_is (fin s m e) (fin t n d) nan = refl
mul_add_is (fin s m e) (fin t n d) (inf u) = refl
mul_add_is (fin s m e) (fin t n d) (fin u k g) = refl

pub nan_bits : (x : Float) → Ieee.is_nan x ≡ true → 2143289344 ≡ Ieee.to_bits binary32 x
unfolding Ieee.is_nan Ieee.to_bits
nan_bits nan e = refl
nan_bits (inf s) e = absurd (false≢true e)
nan_bits (fin s m k) e = absurd (false≢true e)

-- What Rust's functions on `f32` return, for every value. A float is `lib.Ieee`'s: `nan`, `inf s`, or `fin s m e`,
-- which is m * 2 ^ e, negative where s is true. Definitions only.
--   is_finite x, abs x     neither a NaN nor an infinity; x with a clear sign
--   max x y, min x y      the larger and the smaller; a NaN loses against a number
--   clamp x lo hi         x, or the end that it lies beyond
--   round x               the nearest whole number, a half away from zero
--   mul_add x y z          x * y + z, rounded once
use Rattle.std.specs.Prelude.{◌+◌, ◌*◌, ◌/◌, Bool, true, false, cond, Float}
use Rattle.std.specs.Float.Ieee as Ieee
use Rattle.std.specs.Float.{nan, inf, fin, binary32}
use Rattle.std.specs.Float.Ieee.{up, down, unlike}

unfoldable pub is_finite : Float → Bool
is_finite nan = false
is_finite (inf s) = false
is_finite (fin s m e) = true

unfoldable pub abs : Float → Float
abs nan = nan
abs (inf s) = inf false
abs (fin s m e) = fin false m e

-- A NaN loses against a number. Of two zeros this is x, where Rust leaves the sign open.
unfoldable pub max : Float → Float → Float
max x y = cond (Ieee.is_nan x) y (cond (Ieee.lt x y) y x)

unfoldable pub min : Float → Float → Float
min x y = cond (Ieee.is_nan x) y (cond (Ieee.lt y x) y x)

-- A NaN stays a NaN.
unfoldable pub clamp : Float → Float → Float → Float
clamp x lo hi = cond (Ieee.lt x lo) lo (cond (Ieee.lt hi x) hi x)

-- The whole number nearest to x, a half away from zero, with x's sign, also where it is 0. Where |x| is n / d, the
-- whole part of |x| + 1 / 2 is (2 * n + d) / (2 * d).
unfoldable pub round : Float → Float
round nan = nan
round (inf s) = inf s
round (fin s m e) = Ieee.round binary32 s ((2 * (m * up e) + down e) / (2 * down e)) 1

-- x * y + z, rounded once: of finite floats the exact value is a fraction, and a zero's sign is that of `Ieee.sum`.
unfoldable pub mul_add : Float → Float → Float → Float
mul_add nan y z = nan
mul_add (inf s) y z = Ieee.add binary32 (Ieee.mul binary32 (inf s) y) z
mul_add (fin s m e) nan z = nan
mul_add (fin s m e) (inf t) z = Ieee.add binary32 (Ieee.mul binary32 (fin s m e) (inf t)) z
mul_add (fin s m e) (fin t n d) nan = nan
mul_add (fin s m e) (fin t n d) (inf u) = inf u
mul_add (fin s m e) (fin t n d) (fin u k g) =
    Ieee.sum binary32 (unlike s t) (m * up e * (n * up d) * down g) u (k * up g * (down e * down d))
    (down e * down d * down g)

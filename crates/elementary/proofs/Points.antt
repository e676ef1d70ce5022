-- Results at single arguments, as theorems on the definitions; and what IsPow alone says of powf where x^y is an end of
-- its range.
--   exp_first_infinity, exp_first_zero   the first arguments from which e^x is +infinity, and 0
--   nan_to_zero, nan_to_minus_zero       NaN^0 and NaN^-0 are 1
--   exp_zero, exp_minus_zero, ln-one     e^0 and e^-0 are 1, and ln 1 is 0
--   lower-end, smallest-normal           2^-126, and (2^-126)^1, are within two steps
--   upper-end, infinite_end              (2^127)^1 is within two steps, 8^43 is +infinity
--   zero_end, minus_zero                 2^-128 is 0, and (-0)^-3 is -infinity
--   lower_is                             by the definition 2^-126 is itself
use Rattle.std.proofs.Common.{◌≡◌, ℕ, ◌*◌, ◌^◌, ◌≤◌, true, false, pos, refl, ◌∙◌, not-le_of_lt, lit<, lit≤}
use lib.Ieee.{Float, nan, inf, fin, binary32, is_nan, of_bits, to_bits}
use Rattle.series.specs.Exp.{Within}
use Rattle.elementary.specs.Exp.{exp_bits, exp_of}
use Rattle.elementary.specs.Ln.{ln_of}
use Rattle.elementary.specs.Pow.{pow_of}
use Rattle.elementary.specs.Accuracy.{PowGe, PowLe, IsPow}

-- the first argument from which e^x is +infinity, and the first below 0 from which it is 0
pub exp_first_infinity : exp_of (of_bits binary32 0x42B17218) ≡ inf false
unfolding exp_of exp_bits is_nan of_bits to_bits
exp_first_infinity = refl

pub exp_first_zero : exp_of (of_bits binary32 0xC2AEAC50) ≡ fin false 0 (pos 0)
unfolding exp_of exp_bits is_nan of_bits to_bits
exp_first_zero = refl

-- NaN^0 = 1, for both zeros
pub nan_to_zero : pow_of nan (of_bits binary32 0) ≡ of_bits binary32 0x3F800000
unfolding pow_of is_nan of_bits to_bits
nan_to_zero = refl

pub nan_to_minus_zero : pow_of nan (of_bits binary32 0x80000000) ≡ of_bits binary32 0x3F800000
unfolding pow_of is_nan of_bits to_bits
nan_to_minus_zero = refl

-- e^±0 = 1 and ln 1 = 0
pub exp_zero : exp_of (of_bits binary32 0) ≡ of_bits binary32 0x3F800000
unfolding exp_of is_nan of_bits to_bits
exp_zero = refl

pub exp_minus_zero : exp_of (of_bits binary32 0x80000000) ≡ of_bits binary32 0x3F800000
unfolding exp_of is_nan of_bits to_bits
exp_minus_zero = refl

pub ln-one : ln_of (of_bits binary32 0x3F800000) ≡ fin false 0 (pos 0)
unfolding ln_of is_nan of_bits to_bits
ln-one = refl

-- ---- the ends of powf, from IsPow: 2^-126 and (2^127)^1 are within two steps, 8^43 = 2^129 is +infinity
abbrev Right : ℕ → ℕ → Float → Type 0
Right b c = IsPow (of_bits binary32 b) (of_bits binary32 c)

abbrev TwoSteps : ℕ → ℕ → Float → Type 0
TwoSteps b c = Within (PowGe (of_bits binary32 b) (of_bits binary32 c)) (PowLe (of_bits binary32 b) (of_bits binary32 c)) 2

pub lower-end : (r : Float) → Right 0x40000000 0xC2FC0000 r → TwoSteps 0x40000000 0xC2FC0000 r
lower-end r h =
    h.near (unfold of_bits to_bits in record { positive = lit< tt; finite = lit< tt; number = lit< tt })
    (unfold of_bits PowGe in lit≤ tt) (unfold of_bits PowLe in lit≤ tt)

pub smallest-normal : (r : Float) → Right 0x00800000 0x3F800000 r → TwoSteps 0x00800000 0x3F800000 r
smallest-normal r h =
    h.near (unfold of_bits to_bits in record { positive = lit< tt; finite = lit< tt; number = lit< tt })
    (unfold of_bits PowGe in lit≤ tt) (unfold of_bits PowLe in lit≤ tt)

pub upper-end : (r : Float) → Right 0x7F000000 0x3F800000 r → TwoSteps 0x7F000000 0x3F800000 r
upper-end r h =
    h.near (unfold of_bits to_bits in record { positive = lit< tt; finite = lit< tt; number = lit< tt })
    (unfold of_bits PowGe in lit≤ tt) (unfold of_bits PowLe in lit≤ tt)

pub infinite_end : (r : Float) → Right 0x41000000 0x422C0000 r → r ≡ inf false
infinite_end r h =
    h.over (unfold of_bits to_bits in record { positive = lit< tt; finite = lit< tt; number = lit< tt })
    (unfold of_bits PowGe in lit≤ tt)

-- 2^-128 is 0, and (-0)^-3 is -infinity
pub zero_end : (r : Float) → Right 0x40000000 0xC3000000 r → r ≡ fin false 0 (pos 0)
zero_end r h =
    h.under (unfold of_bits to_bits in record { positive = lit< tt; finite = lit< tt; number = lit< tt })
    (unfold of_bits PowGe in below)
  where
    below : 1 ^ 1 * 2 ^ 128 ≤ 1 ^ 128 * (2 ^ 127) ^ 1 → ⊥
    below = not-le_of_lt (lit< tt)

pub minus_zero : (r : Float) → Right 0x80000000 0xC0400000 r → r ≡ inf true
minus_zero r h =
    h.zero_to_minus_odd (unfold of_bits to_bits in refl) (unfold of_bits to_bits in lit< tt)
    (unfold of_bits in (1, (refl, refl))) ∙ unfold of_bits in refl

-- and from the definition 2^-126 is itself
pub lower_is : pow_of (of_bits binary32 0x40000000) (of_bits binary32 0xC2FC0000) ≡ of_bits binary32 0x00800000
unfolding pow_of is_nan of_bits to_bits
lower_is = refl

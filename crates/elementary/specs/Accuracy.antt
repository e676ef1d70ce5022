-- How near exp, ln and powf are to the exact values, and their results at the ends of their ranges. The exact values of
-- exp and ln are those of the series (Rattle.series.specs.Exp), that of x^y is by whole-number powers; a finite float
-- is num / den, with a sign.
--   sign_of x                         the sign of a float; a NaN's is clear
--   ExpAtLeast, ExpAtMost x a b      a / b ≤ e^x, and e^x ≤ a / b
--   IsExp x r                        r is right for e^x: within a step, and exact at 0 and past both ends
--   LnGe, LnLe s x a b               a / b ≤ ln x, and ln x ≤ a / b; with s set, of - ln x
--   WithinLn x r                     r is within a step of ln x or within 2^-40, whichever is more
--   IsLn x r                         r is right for ln x
--   RatioGe, RatioLe s a b n m c d   c / d ≤ (a / b)^(n / m), and the other way round; with s set, of - n / m
--   PowGe, PowLe x y c d             c / d ≤ x^y, and x^y ≤ c / d
--   Finite x y                       x is finite and above 0, and y is finite
--   IsZero, IsOne, IsPlus, IsMinus, IsOdd   kinds of arguments
--   IsPow x y r                      r is right for x^y: within two steps, and the special cases
use Rattle.std.specs.Prelude.{◌≡◌, ℕ, ◌+◌, ◌*◌, ◌%◌, ◌^◌, ◌<◌, ◌≤◌, Bool, true, false, not, T, ◌⊎◌, pos, from_bits, is_nan, to_bits, Float}
use Rattle.std.specs.Float.{nan, inf, fin, binary32}
use Rattle.std.specs.Float.Ieee.Exact.{HasValue}
use Rattle.std.specs.Float.Ieee.Positive.{num, den}
use Rattle.series.specs.Exp.{ExpGe, ExpLe, SignedGe, SignedLe, Step, Near, Within}

abbrev pub sign_of : Float → Bool
sign_of nan = false
sign_of (inf s) = s
sign_of (fin s m e) = s

-- ---- exp
-- a / b ≤ e^x, and e^x ≤ a / b, for a finite x
abbrev pub ExpAtLeast : Float → ℕ → ℕ → Type 0
ExpAtLeast x a b = SignedGe (sign_of x) (num x) (den x) a b

abbrev pub ExpAtMost : Float → ℕ → ℕ → Type 0
ExpAtMost x a b = SignedLe (sign_of x) (num x) (den x) a b

-- r is right for e^x
pub record IsExp (x r : Float) : Type 0 where
  pub of_nan : T (is_nan x) → r ≡ nan
  pub at_zero : to_bits binary32 x % 2 ^ 31 ≡ 0 → r ≡ from_bits binary32 0x3F800000
  pub over : T (not (is_nan x)) → 0x42B17218 ≤ to_bits binary32 x → to_bits binary32 x < 2 ^ 31 → r ≡ inf false
  pub under : T (not (is_nan x)) → 0xC2AEAC50 ≤ to_bits binary32 x → r ≡ fin false 0 (pos 0)
  pub near : T (not (is_nan x))
      → (to_bits binary32 x < 0x42B17218) ⊎ (2 ^ 31 ≤ to_bits binary32 x) × (to_bits binary32 x < 0xC2AEAC50)
      → Within (ExpAtLeast x) (ExpAtMost x) 1 r

-- ---- ln
-- a / b ≤ ln x, or with the sign set a / b ≤ - ln x, for a finite x above 0: e^(a / b) is at most x, or 1 / x
abbrev pub LnGe : Bool → Float → ℕ → ℕ → Type 0
LnGe false x a b = ExpLe a b (num x) (den x)
LnGe true x a b = ExpLe a b (den x) (num x)

-- ln x ≤ a / b, or - ln x ≤ a / b
abbrev pub LnLe : Bool → Float → ℕ → ℕ → Type 0
LnLe false x a b = ExpGe a b (num x) (den x)
LnLe true x a b = ExpGe a b (den x) (num x)

-- r is within a step of ln x or within 2^-40 of it, whichever is more: 2^-40 is 2^109 units
pub record WithinLn (x r : Float) : Type 0 where
  pub sign : Bool
  pub tolerance : ℕ
  pub allowed : (tolerance ≡ 2 ^ 109) ⊎ (j : ℕ) × (tolerance ≡ 2 ^ j) × Step (LnGe sign x) j
  pub near : Near (LnGe sign x) (LnLe sign x) sign tolerance r

-- r is right for ln x
pub record IsLn (x r : Float) : Type 0 where
  pub of_nan : T (is_nan x) → r ≡ nan
  pub at_zero : T (not (is_nan x)) → to_bits binary32 x % 2 ^ 31 ≡ 0 → r ≡ inf true
  pub below : T (not (is_nan x)) → 2 ^ 31 < to_bits binary32 x → r ≡ nan
  pub at_one : to_bits binary32 x ≡ 0x3F800000 → r ≡ fin false 0 (pos 0)
  pub at_infinity : to_bits binary32 x ≡ 0x7F800000 → r ≡ inf false
  pub near : 0 < to_bits binary32 x → to_bits binary32 x < 0x7F800000 → WithinLn x r

-- ---- powf
-- What x^y is needs no series: x is a fraction a / b and |y| a fraction n / m, and c / d is at most (a / b)^(n / m)
-- just where (c / d)^m is at most (a / b)^n. So at each c / d one of the two bounds holds, also where x^y is c / d
-- itself.

-- c / d ≤ (a / b)^(n / m), or with the sign set c / d ≤ (a / b)^(- n / m) = (b / a)^(n / m)
abbrev pub RatioGe : Bool → ℕ → ℕ → ℕ → ℕ → ℕ → ℕ → Type 0
RatioGe false a b n m c d = c ^ m * b ^ n ≤ a ^ n * d ^ m
RatioGe true a b n m c d = c ^ m * a ^ n ≤ b ^ n * d ^ m

-- (a / b)^(± n / m) ≤ c / d
abbrev pub RatioLe : Bool → ℕ → ℕ → ℕ → ℕ → ℕ → ℕ → Type 0
RatioLe false a b n m c d = a ^ n * d ^ m ≤ c ^ m * b ^ n
RatioLe true a b n m c d = b ^ n * d ^ m ≤ c ^ m * a ^ n

-- c / d ≤ x^y, and x^y ≤ c / d, for a finite x above 0, a finite y, and d above 0
unfoldable pub PowGe : Float → Float → ℕ → ℕ → Type 0
PowGe x y c d = RatioGe (sign_of y) (num x) (den x) (num y) (den y) c d

unfoldable pub PowLe : Float → Float → ℕ → ℕ → Type 0
PowLe x y c d = RatioLe (sign_of y) (num x) (den x) (num y) (den y) c d

-- a finite x above 0, and a finite y
pub record Finite (x y : Float) : Type 0 where
  pub positive : 0 < to_bits binary32 x
  pub finite : to_bits binary32 x < 0x7F800000
  pub number : to_bits binary32 y % 2 ^ 31 < 0x7F800000

-- kinds of arguments, by their bit patterns: NaN's is 0x7FC00000, the infinity's 0x7F800000, that of 1 is 0x3F800000
abbrev pub IsZero : Float → Type 0
IsZero x = to_bits binary32 x % 2 ^ 31 ≡ 0

abbrev pub IsOne : Float → Type 0
IsOne x = to_bits binary32 x ≡ 0x3F800000

-- above 0, +infinity too, and below 0, -infinity too
pub record IsPlus (x : Float) : Type 0 where
  pub above : 0 < to_bits binary32 x
  pub number : to_bits binary32 x ≤ 0x7F800000

abbrev pub IsMinus : Float → Type 0
IsMinus x = 2 ^ 31 < to_bits binary32 x

-- y is ± (2 k + 1)
abbrev pub IsOdd : Float → Type 0
IsOdd y = (k : ℕ) × HasValue y (sign_of y) (2 * k + 1) 1

-- r is right for x^y
pub record IsPow (x y r : Float) : Type 0 where
  -- a finite x above 0 and a finite y: within two steps from 2^-126 to 2^127, both included; 0 below 2^-127; +infinity
  -- from 2^129
  pub near : Finite x y → PowGe x y 1 (2 ^ 126) → PowLe x y (2 ^ 127) 1 → Within (PowGe x y) (PowLe x y) 2 r
  pub under : Finite x y → (PowGe x y 1 (2 ^ 127) → ⊥) → r ≡ fin false 0 (pos 0)
  pub over : Finite x y → PowGe x y (2 ^ 129) 1 → r ≡ inf false
  -- C's Annex F, in its order. pow(±0, y): ±infinity for an odd y below 0, +infinity for any other y below 0
  pub zero_to_minus_odd : IsZero x → IsMinus y → IsOdd y → r ≡ inf (sign_of x)
  pub zero_to_minus : IsZero x → IsMinus y → (IsOdd y → ⊥) → r ≡ inf false
  -- ±0 for an odd y above 0, +0 for any other y above 0
  pub zero_to_odd : IsZero x → IsPlus y → IsOdd y → r ≡ x
  pub zero_to_plus : IsZero x → IsPlus y → (IsOdd y → ⊥) → r ≡ fin false 0 (pos 0)
  -- pow(1, y) and pow(x, ±0) are 1, even with a NaN
  pub of_one : IsOne x → r ≡ from_bits binary32 0x3F800000
  pub to_zero : IsZero y → r ≡ from_bits binary32 0x3F800000
  -- pow(x, ±infinity) for x above 0 and below 1, and above 1
  pub small_to_minus_infinity : IsPlus x → to_bits binary32 x < 0x3F800000 → to_bits binary32 y ≡ 0xFF800000
      → r ≡ inf false
  pub large_to_minus_infinity : IsPlus x → 0x3F800000 < to_bits binary32 x → to_bits binary32 y ≡ 0xFF800000
      → r ≡ fin false 0 (pos 0)
  pub small_to_infinity : IsPlus x → to_bits binary32 x < 0x3F800000 → to_bits binary32 y ≡ 0x7F800000
      → r ≡ fin false 0 (pos 0)
  pub large_to_infinity : IsPlus x → 0x3F800000 < to_bits binary32 x → to_bits binary32 y ≡ 0x7F800000 → r ≡ inf false
  -- pow(+infinity, y): +0 below 0, +infinity above 0
  pub infinity_to_minus : to_bits binary32 x ≡ 0x7F800000 → IsMinus y → r ≡ fin false 0 (pos 0)
  pub infinity_to_plus : to_bits binary32 x ≡ 0x7F800000 → IsPlus y → r ≡ inf false
  -- any other NaN
  pub of_nan : T (is_nan x) → (IsZero y → ⊥) → r ≡ nan
  pub to_nan : T (is_nan y) → (IsOne x → ⊥) → r ≡ nan
  -- not C's: a base below 0, -infinity too, gives NaN with every exponent but ±0, whole ones too
  pub below : IsMinus x → (IsZero y → ⊥) → r ≡ nan

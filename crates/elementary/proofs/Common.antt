-- What the proofs of more than one function use: NaN and its patterns, and the fraction of a float.
--   nan_is, number_is                         by the library's test: a NaN is NaN, and the rest are numbers
--   number_of-bits, bits_of_number            numbers are the patterns up to the infinity's, but for the sign
--   no_nan_bits, below_nan                    such a pattern is no NaN's
--   infinity_is, minus_infinity_is, zero_is   the patterns of the infinities and of 0
--   sign_is, fraction_is                      the sign and the fraction of a float that is ± u / c
use mathlib.Core.Path.{◌≡◌, refl, sym, ap, subst, ◌∙◌}
use mathlib.Core.Bool.{Bool, true, false, not, true≢false}
use Prim.Native.Nat.{ℕ, ◌*◌, ◌%◌, ◌^◌, ◌≤◌, ◌<◌}
use native.Mathlib.Omega.{arith}
use lib.Dec.{T, ltb, ltb→lt, nltb→le, not_T}
use lib.IntN.{pos}
use lib.Ieee.{Float, nan, inf, fin, binary32, is_nan, nan_bits, of_bits, to_bits, fits}
use lib.Ieee.Bits.{nan_bits_above, nan_bits_is, of_bits-to_bits}
use lib.Ieee.Exact.{HasValue}
use lib.Ieee.Positive.{num, den}
use Rattle.elementary.specs.Accuracy.{sign_of}

pub nan_is : (x : Float) (b : Bool) → b ≡ is_nan x → b ≡ true → x ≡ nan
unfolding is_nan
nan_is nan b e h = refl
nan_is (inf s) b e h = absurd (true≢false (sym h ∙ e))
nan_is (fin s m k) b e h = absurd (true≢false (sym h ∙ e))

pub number_is : (x : Float) (b : Bool) → b ≡ is_nan x → b ≡ false → T (not (is_nan x))
number_is x b e h = rw (sym e ∙ h) tt

-- NaN's own pattern is above the infinity's
pub number_of-bits : (x : Float) → to_bits binary32 x % 2 ^ 31 ≤ 0x7F800000 → T (not (is_nan x))
unfolding is_nan to_bits
number_of-bits nan h = absurd (no h)
  where
    no : 2143289344 ≤ 0x7F800000 → ⊥
    no h = omega arith
number_of-bits (inf s) h = tt
number_of-bits (fin s m e) h = tt

-- the pattern of a number
pub bits_of_number : (x : Float) → T (fits binary32 x) → T (not (is_nan x)) → to_bits binary32 x % 2 ^ 31 ≤ 0x7F800000
bits_of_number x f h =
    let b = to_bits binary32 x in
    let e : is_nan x ≡ ltb 0x7F800000 (b % 2 ^ 31) = ap is_nan (sym (of_bits-to_bits binary32 x f))
    ∙ sym (nan_bits_is binary32 b) ∙ nan_bits_above binary32 b in
    nltb→le 0x7F800000 (b % 2 ^ 31) (subst (λ (t : Bool). T (not t)) e h)

pub no_nan_bits : (n : ℕ) → n % 2 ^ 31 ≤ 0x7F800000 → T (not (nan_bits binary32 n))
no_nan_bits n h =
    subst (λ (t : Bool). T (not t)) (sym (nan_bits_above binary32 n))
    (not_T (ltb 0x7F800000 (n % 2 ^ 31)) (λ (u : T (ltb 0x7F800000 (n % 2 ^ 31))). no
    (ltb→lt 0x7F800000 (n % 2 ^ 31) u)))
  where
    no : 0x7F800000 < n % 2 ^ 31 → ⊥
    no u = omega arith

pub below_nan : (n : ℕ) → n ≤ 0x7F800000 → T (not (nan_bits binary32 n))
below_nan n h = no_nan_bits n (omega arith)

pub infinity_is : of_bits binary32 0x7F800000 ≡ inf false
unfolding of_bits
infinity_is = refl

pub minus_infinity_is : of_bits binary32 4286578688 ≡ inf true
unfolding of_bits
minus_infinity_is = refl

pub zero_is : of_bits binary32 0 ≡ fin false 0 (pos 0)
unfolding of_bits
zero_is = refl

-- a float that is ± u / c
pub sign_is : (x : Float) (s : Bool) (u c : ℕ) → HasValue x s u c → sign_of x ≡ s
sign_is nan s u c h = absurd h
sign_is (inf t) s u c h = absurd h
sign_is (fin t m e) s u c h = h.0

pub fraction_is : (x : Float) (s : Bool) (u c : ℕ) → HasValue x s u c → num x * c ≡ u * den x
fraction_is nan s u c h = absurd h
fraction_is (inf t) s u c h = absurd h
fraction_is (fin t m e) s u c h = h.1

-- Digits read from the left.
--   digits-on, digits_off, value_on           digits: one more, a byte that is none, and the value with one more
--   digits-end, value-end                     past the last digit
--   value-ge                                  digits that follow make no number smaller
--   number_digits, number-over                no number: a byte that is no digit, a value past the most
--   number_is                                 a number
--   goes_over, stays                          the code's test: whether one digit more goes past the most
use mathlib.Core.Path.{◌≡◌, refl}
use Prim.Native.Nat.{ℕ, ◌+◌, ◌-◌, ◌*◌, ◌/◌, ◌≤◌, ◌<◌}
use native.Mathlib.Omega.{arith}
use native.Mathlib.Nat.{mul-le-mul_left, div-lt_iff_lt-mul, le-div_iff_mul-le, mul-one}
use native.Mathlib.Numerals.{add-one}
use mathlib.Core.Bool.{Bool, true, false, cond, not, ◌&&◌}
use mathlib.Core.List.{List, [], ◌∷◌}
use lib.ListN.{length, drop, get_or, drop_of_length-le}
use lib.Seq.{drop-cons}
use lib.Dec.{leb}
use borrow.Author.Tests.{lt-ltb, le-ltb, le-leb, lt-leb}
use Rattle.std.specs.Prelude.{Some, None}
use Rattle.settings_text.specs.Numbers.{digit, digits, value, number, empty}

-- ---- digits

pub digits-on : (base : ℕ) (w : List ℕ) (i : ℕ) → i < length w → digit (get_or w i 0) < base → digits base (drop i w)
    ≡ digits base (drop (i + 1) w)
unfolding digits
digits-on base w i h d = rw (drop-cons w i 0 h, lt-ltb (digit (get_or w i 0)) base d, add-one i)

pub digits_off : (base : ℕ) (w : List ℕ) (i : ℕ) → i < length w → base ≤ digit (get_or w i 0) → digits base (drop i w)
    ≡ false
unfolding digits
digits_off base w i h d = rw (drop-cons w i 0 h, le-ltb (digit (get_or w i 0)) base d)

pub value_on : (base v : ℕ) (w : List ℕ) (i : ℕ) → i < length w → value base v (drop i w)
    ≡ value base (v * base + digit (get_or w i 0)) (drop (i + 1) w)
unfolding value
value_on base v w i h = rw (drop-cons w i 0 h, add-one i)

-- past the last digit
pub digits-end : (base : ℕ) (w : List ℕ) (i : ℕ) → length w ≤ i → digits base (drop i w) ≡ true
unfolding digits
digits-end base w i h = rw (drop_of_length-le w h)

pub value-end : (base v : ℕ) (w : List ℕ) (i : ℕ) → length w ≤ i → value base v (drop i w) ≡ v
unfolding value
value-end base v w i h = rw (drop_of_length-le w h)

-- digits that follow make no number smaller
pub value-ge : (base v : ℕ) (w : List ℕ) → 0 < base → v ≤ value base v w
unfolding value
value-ge base v [] h = omega arith
value-ge base v (b ∷ w) h = omega (arith, value-ge base (v * base + digit b) w h, rw mul-one at (mul-le-mul_left v h))

-- ---- the number

pub number_digits : (base most : ℕ) (w : List ℕ) → digits base w ≡ false → number base most w ≡ None
unfolding number
number_digits base most w h = rw h (go (empty w))
  where
    go : (t : Bool) → cond (not t && (false && leb (value base 0 w) most)) (Some (value base 0 w)) None ≡ None
    go true = refl
    go false = refl

pub number-over : (base most : ℕ) (w : List ℕ) → most < value base 0 w → number base most w ≡ None
unfolding number
number-over base most w h = rw (lt-leb (value base 0 w) most h) (go (empty w) (digits base w))
  where
    go : (t u : Bool) → cond (not t && (u && false)) (Some (value base 0 w)) None ≡ None
    go true u = refl
    go false true = refl
    go false false = refl

filled : (w : List ℕ) → 0 < length w → empty w ≡ false
unfolding empty
filled [] h = absurd (omega arith)
filled (b ∷ w) h = refl

pub number_is : (base most : ℕ) (w : List ℕ) (v : ℕ) → 0 < length w → digits base w ≡ true → value base 0 w ≡ v
    → v ≤ most → number base most w ≡ Some v
unfolding number
number_is base most w v f d e h = rw (filled w f, d, e, le-leb v most h)

-- the code's test: whether one digit more goes past the most
pub goes_over : (base most v d : ℕ) → 0 < base → d ≤ most → (most - d) / base < v → most < v * base + d
goes_over base most v d h k t = omega (arith, (div-lt_iff_lt-mul h).0 t)

pub stays : (base most v d : ℕ) → 0 < base → d ≤ most → v ≤ (most - d) / base → v * base + d ≤ most
stays base most v d h k t = omega (arith, (le-div_iff_mul-le h).0 t)

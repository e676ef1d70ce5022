-- For every finite y: within two steps from 2^-126 to 2^127, 0 below 2^-127, +infinity from 2^129.
--   is_near, is_large   pow_bits for |y| up to 128, and above
--   finite_law          the law
--   from_one, to_zero   1^y and x^0
--   bits-le             no pattern is a NaN's
use Rattle.std.proofs.Common.{◌≡◌, ℕ, ◌+◌, ◌-◌, ◌*◌, ◌%◌, ◌^◌, ◌<◌, ◌≤◌, Bool, true, false, T, ◌⊎◌, sym, refl, ap, ◌∙◌, subst, inl, inr, le_trans, le_of_eq, not-le_of_lt, arith, lit<, lit≤, le-ltb, lt-ltb, eq-eqb, ne_eqb}
use native.Mathlib.Nat.{pow-le-pow_left}
use native.Mathlib.Decide.{ℕ_discrete}
use lib.Ieee.{Float, binary32, of_bits, to_bits, fits}
use lib.Ieee.Bits.{of_bits-to_bits, to_bits-lt}
use lib.Ieee.Exact.{HasValue}
use lib.Ieee.Positive.{num, den, den_pos}
use Rattle.series.proofs.Cuts.{lt_or_ge}
use Rattle.series.proofs.Value.{value_pos}
use Rattle.series.proofs.Two.{root, one-pow}
use Rattle.elementary.specs.Power.{normalized, log2_of, arg_of, exp2_bits, near_bits, squared, large_arg, large_bits}
use Rattle.elementary.specs.Power.{pow_bits}
use Rattle.elementary.specs.Accuracy.{sign_of, RatioGe, RatioLe, PowGe, PowLe, Finite}
use Rattle.elementary.proofs.power.Shown.{Shown}
use Rattle.elementary.proofs.exp2.Words.{exp2_le}
use Rattle.elementary.proofs.power.Law.{near_law}
use Rattle.elementary.proofs.power.Steps.{near_is, near_one, near_to_zero}
use Rattle.elementary.proofs.large.Law.{large_law}

-- ---- 1^y
one-num : num (of_bits binary32 0x3F800000) ≡ 1
unfolding of_bits
one-num = refl

one_den : den (of_bits binary32 0x3F800000) ≡ 1
unfolding of_bits
one_den = refl

ratio-ge : (t : Bool) (n m c d : ℕ) → c ≤ d → RatioGe t 1 1 n m c d
ratio-ge false n m c d h = rw (one-pow n) (go (c ^ m) (d ^ m) (pow-le-pow_left h m))
  where
    go : (x y : ℕ) → x ≤ y → x * 1 ≤ 1 * y
    go x y h = omega arith
ratio-ge true n m c d h = rw (one-pow n) (go (c ^ m) (d ^ m) (pow-le-pow_left h m))
  where
    go : (x y : ℕ) → x ≤ y → x * 1 ≤ 1 * y
    go x y h = omega arith

ratio-le : (t : Bool) (n m c d : ℕ) → d ≤ c → RatioLe t 1 1 n m c d
ratio-le false n m c d h = rw (one-pow n) (go (c ^ m) (d ^ m) (pow-le-pow_left h m))
  where
    go : (x y : ℕ) → y ≤ x → 1 * y ≤ x * 1
    go x y h = omega arith
ratio-le true n m c d h = rw (one-pow n) (go (c ^ m) (d ^ m) (pow-le-pow_left h m))
  where
    go : (x y : ℕ) → y ≤ x → 1 * y ≤ x * 1
    go x y h = omega arith

back : (t : Bool) (n m c d : ℕ) → 0 < m → RatioGe t 1 1 n m c d → c ≤ d
back t n m c d M h = root c d m M (go t h)
  where
    last : (x y : ℕ) → x * 1 ≤ 1 * y → x ≤ y
    last x y h = omega arith

    go : (t : Bool) → RatioGe t 1 1 n m c d → c ^ m ≤ d ^ m
    go false h = last (c ^ m) (d ^ m) (rw (one-pow n) at h)
    go true h = last (c ^ m) (d ^ m) (rw (one-pow n) at h)

module _ (y : Float) where
  one-ge : (c d : ℕ) → c ≤ d → PowGe (of_bits binary32 0x3F800000) y c d
  unfolding PowGe
  one-ge c d h = rw (one-num, one_den) (ratio-ge (sign_of y) (num y) (den y) c d h)

  one-le : (c d : ℕ) → d ≤ c → PowLe (of_bits binary32 0x3F800000) y c d
  unfolding PowLe
  one-le c d h = rw (one-num, one_den) (ratio-le (sign_of y) (num y) (den y) c d h)

  one_back : (c d : ℕ) → PowGe (of_bits binary32 0x3F800000) y c d → c ≤ d
  unfolding PowGe
  one_back c d h = back (sign_of y) (num y) (den y) c d (den_pos y) (rw (one-num, one_den) at h)

  one_value : HasValue (of_bits binary32 0x3F800000) false (2 ^ 149) (2 ^ 149)
  one_value = value_pos 0x3F800000 (lit< tt)

  one_law : Shown (of_bits binary32 0x3F800000) y (of_bits binary32 0x3F800000)
  one_law = record {
    near = λ _ _. record {
      j = 0;
      step = inl refl;
      near =
          record {
            units = 2 ^ 149;
            value = one_value;
            low = one-ge (2 ^ 149 - 2) (2 ^ 149) (lit≤ tt);
            high = one-le
                (2 ^ 149 + 2) (2 ^ 149) (lit≤ tt);
          };
    };
    under = λ none. absurd (none (one-ge 1 (2 ^ 127) (lit≤ tt)));
    over = λ g. absurd (not-le_of_lt (lit< tt) (one_back (2 ^ 129) 1 g));
  }

-- ---- all
pub is_near : (b c : ℕ) → c % 2 ^ 31 < 0x43000001 → pow_bits b c ≡ near_bits b c
unfolding pow_bits
is_near b c h = simp (lt-ltb (c % 2 ^ 31) 0x43000001 h)

is_one : (b c : ℕ) → 0x43000001 ≤ c % 2 ^ 31 → b ≡ 0x3F800000 → pow_bits b c ≡ 0x3F800000
unfolding pow_bits
is_one b c h e = simp (le-ltb (c % 2 ^ 31) 0x43000001 h, eq-eqb b 0x3F800000 e)

pub is_large : (b c : ℕ) → 0x43000001 ≤ c % 2 ^ 31 → (b ≡ 0x3F800000 → ⊥) → pow_bits b c ≡ large_bits b c
unfolding pow_bits
is_large b c h n = simp (le-ltb (c % 2 ^ 31) 0x43000001 h, ne_eqb b 0x3F800000 n)

pub finite_law : (x y : Float) → T (fits binary32 x) → T (fits binary32 y) → Finite x y
    → Shown x y (of_bits binary32 (pow_bits (to_bits binary32 x) (to_bits binary32 y)))
finite_law x y fx fy f =
    go (to_bits binary32 x) (to_bits binary32 y) (sym (of_bits-to_bits binary32 x fx)) (sym (of_bits-to_bits binary32 y fy))
    f.positive f.finite (to_bits-lt binary32 y fy) f.number
    (lt_or_ge (to_bits binary32 y % 2 ^ 31) 0x43000001) (ℕ_discrete (to_bits binary32 x) 0x3F800000)
  where
    go : (b c : ℕ) → x ≡ of_bits binary32 b → y ≡ of_bits binary32 c → 0 < b → b < 0x7F800000 → c < 2 ^ 32
        → c % 2 ^ 31 < 0x7F800000
        → (c % 2 ^ 31 < 0x43000001) ⊎ (0x43000001 ≤ c % 2 ^ 31) → Dec (b ≡ 0x3F800000)
        → Shown x y (of_bits binary32 (pow_bits b c))
    go b c ex ey B h l k (inl i) _ = rw (is_near b c i) (near_law x y b c ex ey B h l (omega arith))
    go b c ex ey B h l k (inr i) (yes e) =
        rw (is_one b c i e) (subst (λ (z : Float). Shown z y (of_bits binary32 0x3F800000))
        (sym (ex ∙ ap (of_bits binary32) e)) (one_law y))
    go b c ex ey B h l k (inr i) (no n) = rw (is_large b c i n) (large_law x y b c ex ey B h l (omega arith) k n)

-- ---- for the code: 1^y and x^±0, and no pattern is a NaN's
pub from_one : (b c : ℕ) → b ≡ 0x3F800000 → pow_bits b c ≡ 0x3F800000
from_one b c e = go (lt_or_ge (c % 2 ^ 31) 0x43000001)
  where
    go : (c % 2 ^ 31 < 0x43000001) ⊎ (0x43000001 ≤ c % 2 ^ 31) → pow_bits b c ≡ 0x3F800000
    go (inl i) = is_near b c i ∙ ap (λ (n : ℕ). near_bits n c) e ∙ near_one c
    go (inr i) = is_one b c i e

pub to_zero : (b c : ℕ) → 0 < b → b < 0x7F800000 → c % 2 ^ 31 ≡ 0 → pow_bits b c ≡ 0x3F800000
to_zero b c B h e = is_near b c (omega arith) ∙ near_to_zero b c B h e

large_is : (b c : ℕ) → large_bits b c ≡ exp2_bits (large_arg (squared (normalized b) c) c)
unfolding large_bits
large_is b c = refl

pub bits-le : (b c : ℕ) → pow_bits b c ≤ 0x7F800000
bits-le b c = go (lt_or_ge (c % 2 ^ 31) 0x43000001) (ℕ_discrete b 0x3F800000)
  where
    go : (c % 2 ^ 31 < 0x43000001) ⊎ (0x43000001 ≤ c % 2 ^ 31) → Dec (b ≡ 0x3F800000) → pow_bits b c ≤ 0x7F800000
    go (inl i) _ = le_trans (le_of_eq (is_near b c i ∙ near_is b c)) (exp2_le (arg_of (log2_of (normalized b)) c))
    go (inr i) (yes e) = le_trans (le_of_eq (is_one b c i e)) (lit≤ tt)
    go (inr i) (no n) =
        le_trans (le_of_eq (is_large b c i n ∙ large_is b c)) (exp2_le (large_arg (squared (normalized b) c) c))

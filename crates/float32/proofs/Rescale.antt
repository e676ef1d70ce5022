-- A machine word times a power of two, rounded to an `f32`: how many digits go, and what is kept.
--   pow_split                  2 ^ i * 2 ^ j is 2 ^ (i + j)
--   shift-room                 a shift up that keeps 24 digits is by less than 64
--   shifted_up, shifted_down   m * 2 ^ e / 2 ^ g to the nearest whole number, by a shift up or down
--   x_under, q-le, q-ge        k digits go from the number x, and q, from 2 ^ 23 to 2 ^ 24, is kept (less where k is 0)
--   packed, packed_zero        q and k are the `f32`; that of 0
use Rattle.std.proofs.Common.{◌≡◌, ℕ, ◌+◌, ◌-◌, ◌*◌, ◌/◌, ◌%◌, ◌^◌, ◌<◌, ◌≤◌, Bool, sym, refl, ap, ◌∙◌, le_trans, le_of_eq, lt_of_lt_of_le, lt_of_le_of_lt, lt_irrefl, mul-le-mul_right, mod-eq_of_lt, mul_assoc, div-lt_iff_lt-mul, lt_of_mul-lt-mul_right, mul-lt-mul_of_pos_right, mul-pos, one-mul, lt_of_not-le, le-div_iff_mul-le, zero-mul, mul-one, arith, lit<, lit≤, pow_pos, pow_mono, pow-add, shl_lt}
use Prim.Native.Nat.{compare}
use lib.Ieee.{binary32, size, units, round}
use lib.Ieee.Digits.{size-lt, size_reaches}
use lib.Ieee.Fits.{nearest-le}
use lib.Ieee.Nearest.{closest, closest_same, nearest-ge}
use lib.Ieee.Scale.{round_same}
use Rattle.float32.proofs.Sticky.{round-at}
use Rattle.float32.proofs.Shift.{shift_none}

pow_lt_back : (i j : ℕ) → 2 ^ i < 2 ^ j → i < j
pow_lt_back i j h = lt_of_not-le (λ (g : j ≤ i). lt_irrefl (2 ^ i) (lt_of_lt_of_le h (pow_mono g)))

pub pow_split : (i j k : ℕ) → i + j ≡ k → 2 ^ i * 2 ^ j ≡ 2 ^ k
pow_split i j k e = sym (pow-add 2 i j) ∙ ap (λ (z : ℕ). 2 ^ z) e

-- ---- m * 2 ^ e / 2 ^ g, rounded
module _ (m e g : ℕ) where
  up_is : g ≤ e → m * 2 ^ (e - g) * 2 ^ g ≡ m * 2 ^ e
  up_is h = mul_assoc m (2 ^ (e - g)) (2 ^ g) ∙ ap (λ (z : ℕ). m * z) (pow_split (e - g) g e (omega arith))

  pub shift-room : 0 < m → g ≤ e → m * 2 ^ e < 2 ^ (24 + g) → e - g < 64
  shift-room P h l = go
      (pow_lt_back e (24 + g) (lt_of_le_of_lt (le_trans (le_of_eq (sym (one-mul (2 ^ e)))) (mul-le-mul_right (2 ^ e) P))
      l))
    where
      go : e < 24 + g → e - g < 64
      go k = omega arith

  pub shifted_up : g ≤ e → m * 2 ^ e < 2 ^ (24 + g) → m * 2 ^ (e - g) % 2 ^ 64 ≡ closest (m * 2 ^ e) (2 ^ g)
  shifted_up h l =
      mod-eq_of_lt (lt_of_lt_of_le
      (lt_of_mul-lt-mul_right (2 ^ g)
      (lt_of_le_of_lt (le_of_eq (up_is h)) (lt_of_lt_of_le l (le_of_eq (pow-add 2 24 g))))) (lit≤ tt))
      ∙ shift_none (m * 2 ^ (e - g))
      ∙ closest_same (m * 2 ^ (e - g)) 1 (m * 2 ^ e) (2 ^ g) (lit< tt) (pow_pos g) (up_is h ∙ sym (mul-one (m * 2 ^ e)))

  pub shifted_down : e ≤ g → closest m (2 ^ (g - e)) ≡ closest (m * 2 ^ e) (2 ^ g)
  shifted_down h =
      closest_same m (2 ^ (g - e)) (m * 2 ^ e) (2 ^ g) (pow_pos (g - e)) (pow_pos g)
      (ap (λ (z : ℕ). m * z) (sym (pow_split e (g - e) g (omega arith))) ∙ sym (mul_assoc m (2 ^ e) (2 ^ (g - e))))

-- ---- an `f32`: 2 ^ 925 is the smallest value's weight in units of 2 ^ -1074, and k digits go
module _ (m e : ℕ) (P : 0 < m) where
  abbrev k : ℕ
  k = size m + e - 949

  abbrev x : ℕ
  x = m * 2 ^ e

  pub x_under : x < 2 ^ (949 + k)
  x_under = lt_of_lt_of_le (shl_lt (size m) e (size-lt m)) (pow_mono {i = size m + e} {j = 949 + k} (go (size m)))
    where
      go : (z : ℕ) → z + e ≤ 949 + (z + e - 949)
      go z = omega arith

  x-over : 0 < k → 2 ^ (948 + k) ≤ x
  x-over h =
      le_trans (le_of_eq (sym (pow_split (size m - 1) e (948 + k) (go (size m) some h))))
      (mul-le-mul_right (2 ^ e) (size_reaches m (size m - 1) (less (size m) some)))
    where
      some : 0 < size m
      some = pow_lt_back 0 (size m) (lt_of_le_of_lt P (size-lt m))

      less : (z : ℕ) → 0 < z → z - 1 < z
      less z p = omega arith

      go : (z : ℕ) → 0 < z → 0 < z + e - 949 → z - 1 + e ≡ 948 + (z + e - 949)
      go z p q = omega arith

  abbrev q : ℕ
  q = closest x (2 ^ (925 + k))

  abbrev whole : ℕ
  whole = x / 2 ^ (925 + k)

  pub q-le : q ≤ 2 ^ 24
  q-le =
      le_trans (nearest-le whole (compare (x % 2 ^ (925 + k) * 2) (2 ^ (925 + k))))
      ((div-lt_iff_lt-mul (pow_pos (925 + k))).1
      (lt_of_lt_of_le x_under (le_of_eq (sym (pow_split 24 (925 + k) (949 + k) (omega arith))))))

  pub q-ge : 0 < k → 2 ^ 23 ≤ q
  q-ge h =
      le_trans ((le-div_iff_mul-le (pow_pos (925 + k))).1
      (le_trans (le_of_eq (pow_split 23 (925 + k) (948 + k) (omega arith))) (x-over h)))
      (nearest-ge whole (compare (x % 2 ^ (925 + k) * 2) (2 ^ (925 + k))))

  pub packed : (s : Bool) → units binary32 s q k ≡ round binary32 s x (2 ^ 1074)
  packed s = sym (round-at binary32 s x (2 ^ 1074) k (pow_pos 1074) under over ∙ ap (λ (z : ℕ). units binary32 s z k)
      same)
    where
      under : x * 2 ^ 149 < 2 ^ (24 + k) * 2 ^ 1074
      under = lt_of_lt_of_le (mul-lt-mul_of_pos_right x_under (pow_pos 149))
          (le_of_eq (pow_split (949 + k) 149 (1098 + k) (omega arith)
          ∙ sym (pow_split (24 + k) 1074 (1098 + k) (omega arith))))

      over : 0 < k → 2 ^ (24 + k - 1) * 2 ^ 1074 ≤ x * 2 ^ 149
      over h =
          le_trans (le_of_eq (pow_split (24 + k - 1) 1074 (1097 + k) (omega arith)
          ∙ sym (pow_split (948 + k) 149 (1097 + k) (omega arith))))
          (mul-le-mul_right (2 ^ 149) (x-over h))

      same : closest (x * 2 ^ 149) (2 ^ 1074 * 2 ^ k) ≡ q
      same =
          closest_same (x * 2 ^ 149) (2 ^ 1074 * 2 ^ k) x (2 ^ (925 + k)) (mul-pos (pow_pos 1074) (pow_pos k))
          (pow_pos (925 + k))
          (mul_assoc x (2 ^ 149) (2 ^ (925 + k)) ∙ ap (λ (z : ℕ). x * z)
          (pow_split 149 (925 + k) (1074 + k) (omega arith) ∙ sym (pow_split 1074 k (1074 + k) refl)))

-- ---- zero
pub packed_zero : (s : Bool) (m e : ℕ) → m ≡ 0 → units binary32 s 0 0 ≡ round binary32 s (m * 2 ^ e) (2 ^ 1074)
unfolding round
packed_zero s m e h =
    round_same binary32 s 0 1 (m * 2 ^ e) (2 ^ 1074) (lit< tt) (pow_pos 1074)
    (sym (mul-one (m * 2 ^ e) ∙ ap (λ (z : ℕ). z * 2 ^ e) h ∙ zero-mul (2 ^ e)))

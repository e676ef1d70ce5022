-- A move from x with room for the least step, lengthened to it where it is shorter.
--   Roomy i k j x rat   a move with room for the least step
--   Strides i k j u     a trial at least 117,000 from x, and 73,000 from the end ahead of it
--   sign_yes, sign_no   the test of a move's sign
--   stepped_strides     a move with room, lengthened to the least step where it is shorter, is such a trial
use mathlib.Core.Path.{◌≡◌, refl, sym, ap, ◌∙◌}
use mathlib.Core.Bool.{Bool, true, false, cond, ◌&&◌, ◌||◌, true≢false}
use Prim.Native.Nat.{ℕ, zero, suc, ◌+◌, ◌-◌, ◌*◌, ◌^◌, ◌≤◌, ◌<◌}
use native.Mathlib.Nat.{le_trans, le_of_eq, mul_right_comm, mul-pos, zero-mul, mul-le-mul_right, lt_of_lt_of_le}
use native.Mathlib.Nat.{lt_of_le_of_lt, lt_of_mul-lt-mul_right, mul-lt-mul_of_pos_right}
use native.Mathlib.Omega.{arith}
use borrow.Author.Tests.{leb-true, leb-false, ne_eqb, eq-eqb}
use lib.Dec.{leb, eqb}
use lib.Ieee.{Float, nan, inf, fin, binary32, up, down, of_bits, of_fields, round, neg, lt, le, eq}
use lib.Ieee.Bits.{is_true}
use lib.Ieee.Fits.{down_pos}
use lib.Ieee.Exact.{HasValue}
use lib.Ieee.Order.{le_of_values}
use lib.Ieee.Positive.{num, den, den_pos, first_pos}
use Rattle.float32.specs.Float32 as Float32
use Rattle.float32.specs.Ops.{◌+ᶠ◌, ◌*ᶠ◌}
use Rattle.float32.specs.Numbers.{0ᶠ, 1ᶠ}
use Rattle.brent.specs.Step.{tol1, stepped}
use Rattle.brent.proofs.Values.{below-yes, round_flip, neg_value, abs-value}
use Rattle.brent.proofs.Multiples.{N, At, In, rounded_in, narrow}
use Rattle.brent.proofs.Operations.{mul_at, step_up, step_down}

-- ---- a move from x with room for the least step: it ends 73,000 from the end ahead of it, and x was 233,000 from that
pub data Roomy (i k j : ℕ) (x rat : Float) : Type 0 where
  ahead : (n d hi : ℕ) → 0 < d → HasValue rat false n d → n * N ≤ (j - k) * d → In k hi (x +ᶠ rat) → hi + 73000 ≤ j
      → k + 233000 ≤ j → Roomy i k j x rat
  back : (n d lo : ℕ) → 0 < d → 0 < n → HasValue rat true n d → n * N ≤ (k - i) * d → In lo k (x +ᶠ rat)
      → i + 73000 ≤ lo → i + 233000 ≤ k → Roomy i k j x rat
  none : (d : ℕ) → 0 < d → HasValue rat true 0 d → k + 233000 ≤ j → Roomy i k j x rat

-- a trial: at least 117,000 from x, and 73,000 from the end ahead of it
pub data Strides (i k j : ℕ) (u : Float) : Type 0 where
  right : (hi : ℕ) → In (k + 117000) hi u → hi + 73000 ≤ j → Strides i k j u
  left : (lo : ℕ) → In lo (k - 117000) u → i + 73000 ≤ lo → i + 233000 ≤ k → Strides i k j u

nought_is : HasValue 0ᶠ false 0 1
unfolding of_bits of_fields
nought_is = (refl, refl)

one_is : HasValue 1ᶠ false 1 1
unfolding of_bits of_fields
one_is = (refl, refl)

pub sign_yes : (r : Float) (n d : ℕ) → 0 < d → HasValue r false n d → le 0ᶠ r ≡ true
sign_yes r n d D v =
    is_true (le 0ᶠ r) (le_of_values 0ᶠ r 0 1 n d (omega arith) D nought_is v (omega (arith, zero-mul d)))

pub sign_no : (r : Float) (n d : ℕ) → 0 < d → 0 < n → HasValue r true n d → le 0ᶠ r ≡ false
unfolding of_bits of_fields le lt eq
sign_no nan n d D P v = absurd v
sign_no (inf s) n d D P v = absurd v
sign_no (fin false m e) n d D P v = absurd (true≢false (sym v.0))
sign_no (fin true m e) n d D P v =
    ap (λ (b : Bool). b && (false || eqb (0 * down e) 0))
    (ne_eqb (0 * down e) (m * up e * 1) (λ z. clash (m * up e) (down e)
    (first_pos (m * up e) d (lt_of_lt_of_le (mul-pos P (down_pos e)) (le_of_eq (sym v.1)))) z))
  where
    clash : (x y : ℕ) → 0 < x → 0 * y ≡ x * 1 → ⊥
    clash x y p q = omega (arith, zero-mul y)

sign_zero : (r : Float) (d : ℕ) → 0 < d → HasValue r true 0 d → le 0ᶠ r ≡ true
unfolding of_bits of_fields le lt eq
sign_zero nan d D v = absurd v
sign_zero (inf s) d D v = absurd v
sign_zero (fin false m e) d D v = absurd (true≢false (sym v.0))
sign_zero (fin true m e) d D v =
    rw (eq-eqb (0 * down e) (m * up e * 1) (go (m * up e) (down e) v.1), eq-eqb (0 * down e) 0 (zero-mul (down e)))
  where
    go : (x y : ℕ) → x * d ≡ 0 * y → 0 * y ≡ x * 1
    go zero y h = omega (arith, zero-mul y)
    go (suc x) y h = absurd (clash (suc x * d) (mul-pos (omega arith) D) (h ∙ zero-mul y))
      where
        clash : (a : ℕ) → 0 < a → a ≡ 0 → ⊥
        clash a p q = omega arith

-- ---- lengthened to the least step
module _ (x : Float) (i k j : ℕ) (X : At x k) (ik : i ≤ k) (kj : k ≤ j) (J : j < 2 ^ 24)
    (r : In 117000 160000 (tol1 x)) where
  abbrev n₁ : ℕ
  n₁ = num (tol1 x)

  abbrev d₁ : ℕ
  d₁ = den (tol1 x)

  signed : In 117000 160000 (round binary32 false (n₁ * 1) (d₁ * 1))
  signed = rounded_in 117000 160000 (n₁ * 1) (d₁ * 1) (mul-pos (den_pos (tol1 x)) (omega arith)) (omega arith)
      (go d₁ n₁ r.least) (high d₁ n₁ r.most)
    where
      go : (d n : ℕ) → 117000 * d ≤ n * N → 117000 * (d * 1) ≤ n * 1 * N
      go d n h = omega arith

      high : (d n : ℕ) → n * N ≤ 160000 * d → n * 1 * N ≤ 160000 * (d * 1)
      high d n h = omega arith

  abbrev t₁ : Float
  t₁ = round binary32 false (n₁ * 1) (d₁ * 1)

  plus : tol1 x *ᶠ 1ᶠ ≡ t₁
  plus = mul_at (tol1 x) 1ᶠ false false n₁ d₁ 1 1 (den_pos (tol1 x)) (omega arith) r.value one_is

  minus : tol1 x *ᶠ neg 1ᶠ ≡ neg t₁
  minus = mul_at (tol1 x) (neg 1ᶠ) false true n₁ d₁ 1 1 (den_pos (tol1 x)) (omega arith) r.value
      (neg_value 1ᶠ false 1 1 one_is) ∙ round_flip binary32 false (n₁ * 1) (d₁ * 1)

  up_by : k + 233000 ≤ j → Strides i k j (x +ᶠ t₁)
  up_by h =
      right (k + 160000) (step_up x t₁ k (num t₁) (den t₁) 117000 160000 (den_pos t₁) X signed.value signed.least
      signed.most (omega arith)) (omega arith)

  down_by : i + 233000 ≤ k → Strides i k j (x +ᶠ neg t₁)
  down_by h =
      left (k - 160000) (step_down x (neg t₁) k (num t₁) (den t₁) 117000 160000 (den_pos t₁) X
      (neg_value t₁ false (num t₁) (den t₁) signed.value) signed.least signed.most (omega arith) (omega arith)
      (omega arith)) (omega arith) h

  -- what is not below the least step
  long : (rat : Float) (s : Bool) (n d : ℕ) → 0 < d → HasValue rat s n d → lt (Float32.abs rat) (tol1 x) ≡ false
      → 117000 * d ≤ n * N
  long rat s n d D v h = go (leb (117000 * d) (n * N)) (leb-true (117000 * d) (n * N)) (leb-false (117000 * d) (n * N))
    where
      -- n / d is below 117,000 / N, which is at most n₁ / d₁
      below : n * N < 117000 * d → n * d₁ < n₁ * d
      below l =
          lt_of_mul-lt-mul_right N (lt_of_le_of_lt (le_of_eq (mul_right_comm n d₁ N))
          (lt_of_lt_of_le (mul-lt-mul_of_pos_right l (den_pos (tol1 x)))
          (le_trans (le_of_eq (mul_right_comm 117000 d d₁))
          (le_trans (mul-le-mul_right d r.least) (le_of_eq (mul_right_comm n₁ N d))))))

      go : (b : Bool) → (b ≡ true → 117000 * d ≤ n * N) → (b ≡ false → n * N < 117000 * d) → 117000 * d ≤ n * N
      go true f g = f refl
      go false f g =
          absurd (true≢false (sym (below-yes (Float32.abs rat) (tol1 x) n d n₁ d₁ D (den_pos (tol1 x))
          (abs-value rat s n d v) r.value (below (g refl))) ∙ h))

  either : (rat y : Float) → Strides i k j (x +ᶠ y)
      → (lt (Float32.abs rat) (tol1 x) ≡ false → Strides i k j (x +ᶠ rat))
      → Strides i k j (x +ᶠ cond (lt (Float32.abs rat) (tol1 x)) y rat)
  either rat y p q = go (lt (Float32.abs rat) (tol1 x)) refl
    where
      go : (b : Bool) → lt (Float32.abs rat) (tol1 x) ≡ b → Strides i k j (x +ᶠ cond b y rat)
      go true e = p
      go false e = q e

  pub stepped_strides : (rat : Float) → Roomy i k j x rat → Strides i k j (stepped x rat)
  unfolding stepped
  stepped_strides rat (ahead n d hi D v h w l m) =
      rw (sign_yes rat n d D v)
      (either rat (tol1 x *ᶠ 1ᶠ) (rw plus (up_by m))
      (λ e. right hi (narrow (k + 117000) hi k (k + (j - k)) (x +ᶠ rat)
      (step_up x rat k n d 117000 (j - k) D X v (long rat false n d D v e) h (omega arith)) w) l))
  stepped_strides rat (back n d lo D P v h w l m) =
      rw (sign_no rat n d D P v)
      (either rat (tol1 x *ᶠ neg 1ᶠ) (rw minus (down_by m))
      (λ e. left lo (narrow lo (k - 117000) (k - (k - i)) k (x +ᶠ rat) w
      (step_down x rat k n d 117000 (k - i) D X v (long rat true n d D v e) h (omega arith) (omega arith)
      (omega arith))) l m))
  stepped_strides rat (none d D v m) =
      rw (sign_zero rat d D v)
      (either rat (tol1 x *ᶠ 1ᶠ) (rw plus (up_by m))
      (λ e. absurd (clash (117000 * d) (mul-pos (omega arith) D) (long rat true 0 d D v e))))
    where
      clash : (z : ℕ) → 0 < z → z ≤ 0 * N → ⊥
      clash z p q = omega arith

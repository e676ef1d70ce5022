-- The recipe for |y| above 128 is right for x^y.
use Rattle.std.proofs.Common.{◌≡◌, ℕ, zero, suc, ◌+◌, ◌-◌, ◌*◌, ◌/◌, ◌%◌, ◌^◌, ◌<◌, ◌≤◌, Bool, true, false, cond, not, ltb, ◌⊎◌, pos, sym, refl, ap, ◌∙◌, subst, ap₂, inl, inr, le_trans, le_of_eq, mul-le-mul_right, mul_assoc, mul_comm, mul-le-mul, mul-le-mul_left, pow-suc, zero-add, not-le_of_lt, le_of_mul-le-mul_right, arith, lit<, lit≤, pow_pos, pow_mono, pow-add}
use native.Mathlib.Nat.{eq_of_mul-eq-mul_right, pow-zero}
use lib.Count.{count_leading_zeros}
use lib.Ieee.{Float, inf, fin, binary32, unlike, of_bits}
use lib.Ieee.Positive.{num, den, den_pos}
use Rattle.series.proofs.Cuts.{lt_or_ge}
use Rattle.series.proofs.Value.{units}
use Rattle.series.proofs.Two.{TwoLe, TwoGe}
use Rattle.elementary.specs.Power.{normalized, abs_diff, exp2_bits, squares, fine_log2, fine_arg, squared, large_arg}
use Rattle.elementary.specs.Power.{large_bits}
use Rattle.elementary.specs.Accuracy.{sign_of, RatioGe, RatioLe, PowGe, PowLe}
use Rattle.elementary.proofs.Common.{infinity_is, zero_is, sign_is, fraction_is}
use Rattle.elementary.proofs.ln.Parts.{Sub, sub32}
use Rattle.elementary.proofs.log2.Law.{floor}
use Rattle.elementary.proofs.exp2.Value.{value_zero, value_inf}
use Rattle.elementary.proofs.power.Parts.{scaled, normalized-normal, normalized-sub}
use Rattle.elementary.proofs.power.Order.{Sized, side, diff_le, Around, arg_around, low-at, high-at}
use Rattle.elementary.proofs.power.Shown.{Sign, sign, num_pos, Shown, is_inf, is_zero}
use Rattle.elementary.proofs.power.Shown as S
use Rattle.elementary.proofs.large.Squaring.{State, Result, run}
use Rattle.elementary.proofs.large.Squaring as Q
use Rattle.elementary.proofs.large.Log.{power-low, power-high, fine_range}
use Rattle.elementary.proofs.large.Ends.{ge_of_squares, le_of_squares, above_ge, above_le, below-ge, below-le}
use Rattle.elementary.proofs.large.Ends.{four-times}
use Rattle.elementary.proofs.large.Cases.{squared_1, squared_2, squared_3, squared_4, squared_5, arg_low}
use Rattle.elementary.proofs.large.Cases.{arg_mid, arg_high}

-- the product, for |y| = n / 2^17
sized : (n g : ℕ) → Sized n (2 ^ 17) g (n * g / 2 ^ 13)
sized n g = go (n * g) (n * g / 2 ^ 13) (floor (n * g) (2 ^ 13) (lit< tt)) refl
  where
    go : (x u : ℕ) → (u * 2 ^ 13 ≤ x) × (x < (u + 1) * 2 ^ 13) → x ≡ n * g → Sized n (2 ^ 17) g u
    go x u h e = record { low = omega arith; high = omega arith }

one : (x : ℕ) → x ^ (2 ^ 0) ≡ x
one x = pow-suc x 0 ∙ ap (λ (z : ℕ). z * x) (pow-zero x) ∙ omega arith

-- ---- x as a / b, by its exponent e and its significand m: 2^e m b = a 2^182
quarter : (e m a b : ℕ) → e ≤ 156 → m < 2 ^ 24 → 2 ^ e * m * b ≡ a * 2 ^ 159 * 2 ^ 23 → a * 4 ≤ b
quarter e m a b E M h =
    le_of_mul-le-mul_right {k = 2 ^ 180} (le_trans (le_of_eq (left a (2 ^ 159)))
    (le_trans (le_of_eq (sym h)) (le_trans (mul-le-mul_right b
    (mul-le-mul {n₂ = 2 ^ 156} {m₂ = (2 ^ 24)} (pow_mono {i = e} {j = 156} E) (lt-le m M)))
    (le_of_eq (mul_comm (2 ^ 156 * 2 ^ 24) b))))) (pow_pos 180)
  where
    left : (a t : ℕ) → a * 4 * (t * 2 ^ 21) ≡ a * t * 2 ^ 23
    left a t = omega arith

    lt-le : (m : ℕ) → m < 2 ^ 24 → m ≤ 2 ^ 24
    lt-le m h = omega arith

four : (e m a b : ℕ) → 161 ≤ e → 2 ^ 23 ≤ m → 2 ^ e * m * b ≡ a * 2 ^ 159 * 2 ^ 23 → 4 * b ≤ a
four e m a b E M h =
    le_of_mul-le-mul_right {k = 2 ^ 182} (le_trans (le_of_eq (left b (2 ^ 182)))
    (le_trans (mul-le-mul_right b (mul-le-mul {n₁ = 2 ^ 161} {m₁ = (2 ^ 23)} (pow_mono {i = 161} {j = e} E) M))
    (le_trans (le_of_eq h) (le_of_eq (mul_assoc a (2 ^ 159) (2 ^ 23)))))) (pow_pos 182)
  where
    left : (b t : ℕ) → 4 * b * t ≡ t * 4 * b
    left b t = omega arith

under_one : (e m a b : ℕ) → e ≤ 158 → m < 2 ^ 24 → 2 ^ e * m * b ≡ a * 2 ^ 159 * 2 ^ 23
    → a * (2 ^ 24 + 1) ≤ b * 2 ^ 24
under_one e m a b E M h =
    go (le_of_mul-le-mul_right {k = 2 ^ 158} (le_trans (le_of_eq (left a (2 ^ 158)))
    (le_trans (le_of_eq (sym h)) (le_trans (mul-le-mul_right b
    (mul-le-mul {n₂ = 2 ^ 158} {m₂ = 16777215} (pow_mono {i = e} {j = 158} E) (lt-le m M)))
    (le_of_eq (right b (2 ^ 158)))))) (pow_pos 158))
  where
    left : (a t : ℕ) → a * 2 ^ 24 * t ≡ a * (t * 2) * 2 ^ 23
    left a t = omega arith

    right : (b t : ℕ) → t * 16777215 * b ≡ 16777215 * b * t
    right b t = omega arith

    lt-le : (m : ℕ) → m < 2 ^ 24 → m ≤ 16777215
    lt-le m h = omega arith

    go : a * 2 ^ 24 ≤ 16777215 * b → a * 16777217 ≤ b * 2 ^ 24
    go h = omega arith

over-one : (e m a b : ℕ) → 159 ≤ e → 8388609 ≤ m → 2 ^ e * m * b ≡ a * 2 ^ 159 * 2 ^ 23 → b * (2 ^ 24 + 1) ≤ a * 2 ^ 24
over-one e m a b E M h =
    go (le_of_mul-le-mul_right {k = 2 ^ 159} (le_trans (le_of_eq (left b (2 ^ 159)))
    (le_trans (mul-le-mul_right b (mul-le-mul {n₁ = 2 ^ 159} {m₁ = 8388609} (pow_mono {i = 159} {j = e} E) M))
    (le_trans (le_of_eq h) (le_of_eq (right a (2 ^ 159)))))) (pow_pos 159))
  where
    left : (b t : ℕ) → 8388609 * b * t ≡ t * 8388609 * b
    left b t = omega arith

    right : (a t : ℕ) → a * t * 2 ^ 23 ≡ a * 2 ^ 23 * t
    right a t = omega arith

    go : 8388609 * b ≤ a * 2 ^ 23 → b * 16777217 ≤ a * 2 ^ 24
    go h = omega arith

over-two : (e m a b : ℕ) → 160 ≤ e → 2 ^ 23 ≤ m → 2 ^ e * m * b ≡ a * 2 ^ 159 * 2 ^ 23 → b * (2 ^ 24 + 1) ≤ a * 2 ^ 24
over-two e m a b E M h =
    go (le_of_mul-le-mul_right {k = 2 ^ 182} (le_trans (le_of_eq (left b (2 ^ 182)))
    (le_trans (mul-le-mul_right b (mul-le-mul {n₁ = 2 ^ 160} {m₁ = (2 ^ 23)} (pow_mono {i = 160} {j = e} E) M))
    (le_trans (le_of_eq h) (le_of_eq (mul_assoc a (2 ^ 159) (2 ^ 23)))))) (pow_pos 182))
  where
    left : (b t : ℕ) → 2 * b * t ≡ t * 2 * b
    left b t = omega arith

    go : 2 * b ≤ a → b * 16777217 ≤ a * 2 ^ 24
    go h = omega arith

-- the fixed point number is x itself
start_is : (e m a b : ℕ) → 157 ≤ e → 2 ^ e * m * b ≡ a * 2 ^ 159 * 2 ^ 23
    → m * 2 ^ (e - 122) * b ≡ a * 2 ^ 60
start_is e m a b E h =
    let s : e - 122 + 122 ≡ e = omega arith in
    let p : 2 ^ (e - 122) * 2 ^ 122 ≡ 2 ^ e = sym (pow-add 2 (e - 122) 122) ∙ ap (λ (i : ℕ). 2 ^ i) s in
    eq_of_mul-eq-mul_right (2 ^ 122) (pow_pos 122) (m * 2 ^ (e - 122) * b) (a * 2 ^ 60)
    (left (2 ^ (e - 122)) (2 ^ 122) ∙ ap (λ (z : ℕ). z * m * b) p ∙ h ∙ right a (2 ^ 122))
  where
    left : (x t : ℕ) → m * x * b * t ≡ x * t * m * b
    left x t = omega arith

    right : (a t : ℕ) → a * (t * 2 ^ 37) * 2 ^ 23 ≡ a * 2 ^ 60 * t
    right a t = omega arith

pub start_range : (e m : ℕ) → 157 ≤ e → e ≤ 160 → 2 ^ 23 ≤ m → m < 2 ^ 24
    → (2 ^ 58 ≤ m * 2 ^ (e - 122)) × (m * 2 ^ (e - 122) < 2 ^ 62)
start_range e m E E' M M' =
    let lo : 2 ^ 35 ≤ 2 ^ (e - 122) = pow_mono {i = 35} {j = e - 122} (omega arith) in
    let hi : 2 ^ (e - 122) ≤ 2 ^ 38 = pow_mono {i = e - 122} {j = 38} (omega arith) in
    go (2 ^ (e - 122)) lo hi
  where
    go : (y : ℕ) → 2 ^ 35 ≤ y → y ≤ 2 ^ 38 → (2 ^ 58 ≤ m * y) × (m * y < 2 ^ 62)
    go y l h =
        let m1 : m ≤ 16777215 = omega arith in
        let p : m * y ≤ 16777215 * 2 ^ 38 = mul-le-mul m1 h in
        (mul-le-mul M l, omega arith)

start-state : (a b X : ℕ) → 2 ^ 58 ≤ X → X * b ≡ a * 2 ^ 60 → State a b 0 X
start-state a b X l e = record {
  low = rw (one a, one b) (le_of_eq e);
  high =
      λ _ g eg. rw (one a, one b) (le_trans (le_of_eq (ap (λ (z : ℕ). z * 2 ^ 57) (sym e)))
      (mul-le-mul_left (X * b) (more g)));
  small = λ k. absurd (not-le_of_lt k l);
}
  where
    more : (g : ℕ) → 2 ^ 57 ≤ 2 ^ 57 + g
    more g = omega arith

-- ---- the law
module _ (x y : Float) (b c : ℕ) (ex : x ≡ of_bits binary32 b) (ey : y ≡ of_bits binary32 c) (B : 0 < b)
    (h : b < 0x7F800000) (l : c < 2 ^ 32)
    (k-low : 0x43000000 < c % 2 ^ 31) (k-high : c % 2 ^ 31 < 0x7F800000) where
  y_is : Sign y c
  y_is = sign y c ey l k-high

  abbrev k : ℕ
  k = c % 2 ^ 31 / 2 ^ 23 - 133

  abbrev n : ℕ
  n = c % 2 ^ 23 + 2 ^ 23

  -- |y| = n 2^k / 2^17
  n_is : 2 ^ 17 * num y ≡ den y * (n * 2 ^ k)
  n_is = go (c % 2 ^ 31 / 2 ^ 23) (c % 2 ^ 31 % 2 ^ 23) (omega arith) (omega arith)
      (fraction_is y y_is.t (units (c % 2 ^ 31 / 2 ^ 23) (c % 2 ^ 31 % 2 ^ 23)) (2 ^ 149) y_is.hy)
    where
      digits : c % 2 ^ 31 % 2 ^ 23 ≡ c % 2 ^ 23
      digits = omega arith

      go : (f t : ℕ) → 134 ≤ f → t ≡ c % 2 ^ 23 → num y * 2 ^ 149 ≡ units f t * den y
          → 2 ^ 17 * num y ≡ den y * ((c % 2 ^ 23 + 2 ^ 23) * 2 ^ (f - 133))
      go zero t F e v = absurd (no F)
        where
          no : 134 ≤ 0 → ⊥
          no k = omega arith
      go (suc f) t F e v =
          let s : f ≡ (suc f - 133) + 132 = omega arith in
          let p : 2 ^ f ≡ 2 ^ (suc f - 133) * 2 ^ 132 = ap (λ (i : ℕ). 2 ^ i) s ∙ pow-add 2 (suc f - 133) 132 in
          eq_of_mul-eq-mul_right (2 ^ 132) (pow_pos 132) (2 ^ 17 * num y)
          (den y * ((c % 2 ^ 23 + 2 ^ 23) * 2 ^ (suc f - 133)))
          (left (num y) (2 ^ 132) ∙ v ∙ ap₂ (λ (i j : ℕ). (2 ^ 23 + i) * j * den y) e p
          ∙ right (c % 2 ^ 23) (2 ^ (suc f - 133)) (2 ^ 132) (den y))
        where
          left : (n t : ℕ) → 2 ^ 17 * n * t ≡ n * (t * 2 ^ 17)
          left n t = omega arith

          right : (i u t d : ℕ) → (2 ^ 23 + i) * (u * t) * d ≡ d * ((i + 2 ^ 23) * u) * t
          right i u t d = omega arith

  far : (j : ℕ) → j ≤ k → den y * 64 * 2 ^ j ≤ num y
  far j J = go (den y) (num y) n (2 ^ j) (2 ^ k) (pow_mono {i = j} {j = k} J) (omega arith) n_is
    where
      go : (d m n u w : ℕ) → u ≤ w → 2 ^ 23 ≤ n → 2 ^ 17 * m ≡ d * (n * w) → d * 64 * u ≤ m
      go d m n u w U N e =
          let p : 2 ^ 23 * u ≤ n * w = mul-le-mul N U in
          omega (arith, mul-le-mul_left d p)

  sign_y : sign_of y ≡ y_is.t
  sign_y = sign_is y y_is.t (units (c % 2 ^ 31 / 2 ^ 23) (c % 2 ^ 31 % 2 ^ 23)) (2 ^ 149) y_is.hy

  x_pos : 0 < num x
  x_pos = num_pos x b ex B h

  inf_is : of_bits binary32 (exp2_bits (2 ^ 56)) ≡ inf false
  inf_is = ap (of_bits binary32) (value_inf (2 ^ 56) (lit≤ tt)) ∙ infinity_is

  none_is : of_bits binary32 (exp2_bits 0) ≡ fin false 0 (pos 0)
  none_is = ap (of_bits binary32) (value_zero 0 (lit< tt)) ∙ zero_is

  -- ---- past the ends, by the sign of y
  not-lt : (t : Bool) → not (ltb c (2 ^ 31)) ≡ t → ltb c (2 ^ 31) ≡ not t
  not-lt t e = go (ltb c (2 ^ 31)) t e
    where
      go : (s t : Bool) → not s ≡ t → s ≡ not t
      go true t e = ap not e
      go false t e = ap not e

  above : (j : ℕ) → j ≤ k → 4 * den x ^ (2 ^ j) ≤ num x ^ (2 ^ j)
      → Shown x y (of_bits binary32 (exp2_bits (cond (ltb c (2 ^ 31)) (2 ^ 56) 0)))
  unfolding PowGe PowLe
  above j J f = go y_is.t refl
    where
      go : (t : Bool) → y_is.t ≡ t → Shown x y
          (of_bits binary32 (exp2_bits (cond (ltb c (2 ^ 31)) (2 ^ 56) 0)))
      go false e =
          rw (not-lt false (y_is.is ∙ e)) (is_inf x y x_pos (of_bits binary32 (exp2_bits (2 ^ 56))) inf_is
          (rw (sign_y ∙ e) (above_ge (num x) (den x) j (num y) (den y) f (far j J))))
      go true e =
          rw (not-lt true (y_is.is ∙ e)) (is_zero x y x_pos (of_bits binary32 (exp2_bits 0)) none_is
          (rw (sign_y ∙ e) (above_le (num x) (den x) j (num y) (den y) f (far j J))))

  below : (j : ℕ) → j ≤ k → num x ^ (2 ^ j) * 2 ^ 32 ≤ den x ^ (2 ^ j) * 1073741825
      → Shown x y (of_bits binary32 (exp2_bits (cond (ltb c (2 ^ 31)) 0 (2 ^ 56))))
  unfolding PowGe PowLe
  below j J f = go y_is.t refl
    where
      go : (t : Bool) → y_is.t ≡ t → Shown x y
          (of_bits binary32 (exp2_bits (cond (ltb c (2 ^ 31)) 0 (2 ^ 56))))
      go false e =
          rw (not-lt false (y_is.is ∙ e)) (is_zero x y x_pos (of_bits binary32 (exp2_bits 0)) none_is
          (rw (sign_y ∙ e) (below-le (num x) (den x) j (num y) (den y) f (far j J))))
      go true e =
          rw (not-lt true (y_is.is ∙ e)) (is_inf x y x_pos (of_bits binary32 (exp2_bits (2 ^ 56))) inf_is
          (rw (sign_y ∙ e) (below-ge (num x) (den x) j (num y) (den y) f (far j J))))

  -- ---- within: the squares stayed from 1/4 to 4
  module _ (X : ℕ) (lo : 2 ^ 58 ≤ X) (hi : X < 2 ^ 62) (K : k ≤ 24)
      (s : State (num x) (den x) k X) where
    abbrev L : ℕ
    L = fine_log2 X

    abbrev U : ℕ
    U = n * abs_diff L (159 * 2 ^ 35) / 2 ^ 13

    L-range : (8 ≤ L) × (L ≤ 5600637354000)
    L-range = fine_range X (omega arith) (omega arith)

    g_le : abs_diff L (159 * 2 ^ 35) ≤ 5600637354000
    g_le = diff_le (159 * 2 ^ 35) L 5600637354000 (omega arith) (omega (arith, L-range))

    u-le : U ≤ (2 ^ 16 + 126) * 2 ^ 39
    u-le = go (n * abs_diff L (159 * 2 ^ 35)) (mul-le-mul {n₂ = (2 ^ 24)} {m₂ = 5600637354000} (omega arith) g_le)
      where
        go : (p : ℕ) → p ≤ 2 ^ 24 * 5600637354000 → p / 2 ^ 13 ≤ (2 ^ 16 + 126) * 2 ^ 39
        go p h = omega arith

    around : Around (unlike (ltb L (159 * 2 ^ 35)) y_is.t) (fine_arg L c) U
    unfolding fine_arg
    around =
        subst (λ (w : Bool). Around (unlike (ltb L (159 * 2 ^ 35)) w) (fine_arg L c) U) y_is.is
        (arg_around (159 * 2 ^ 35) L c U u-le)

    n-le : n ≤ 128 * 2 ^ 17
    n-le = omega arith

    low : (v p q : ℕ) → 32769 ≤ v → (2 ^ 16 - 1) * 2 ^ 39 + v ≤ fine_arg L c → TwoGe (v - 32769) (2 ^ 39) (2 ^ 127 * p) q
        → PowGe x y p q
    unfolding PowGe
    low v p q i j e =
        subst (λ (w : Bool). RatioGe w (num x) (den x) (num y) (den y) p q) (sym sign_y)
        (ge_of_squares (num x) (den x) (2 ^ k) n (2 ^ 17) (num y) (den y) p q (lit< tt) n_is y_is.t
        (low-at (num x ^ (2 ^ k)) (den x ^ (2 ^ k)) n (2 ^ 17) L (abs_diff L (159 * 2 ^ 35)) U (fine_arg L c)
        (ltb L (159 * 2 ^ 35)) y_is.t (sized n (abs_diff L (159 * 2 ^ 35))) n-le (side (159 * 2 ^ 35) L) L-range.0
        (power-low (num x) (den x) k X K (den_pos x) lo hi s) (power-high (num x) (den x) k X K (den_pos x) lo hi s)
        around v p q i j e))

    high : (v p q : ℕ) → fine_arg L c ≤ (2 ^ 16 - 1) * 2 ^ 39 + v → TwoLe (v + 32769) (2 ^ 39) (2 ^ 127 * p) q
        → PowLe x y p q
    unfolding PowLe
    high v p q j e =
        subst (λ (w : Bool). RatioLe w (num x) (den x) (num y) (den y) p q) (sym sign_y)
        (le_of_squares (num x) (den x) (2 ^ k) n (2 ^ 17) (num y) (den y) p q (lit< tt) n_is y_is.t
        (high-at (num x ^ (2 ^ k)) (den x ^ (2 ^ k)) n (2 ^ 17) L (abs_diff L (159 * 2 ^ 35)) U (fine_arg L c)
        (ltb L (159 * 2 ^ 35)) y_is.t (sized n (abs_diff L (159 * 2 ^ 35))) n-le (side (159 * 2 ^ 35) L) L-range.0
        (power-low (num x) (den x) k X K (den_pos x) lo hi s) (power-high (num x) (den x) k X K (den_pos x) lo hi s)
        around v p q j e))

    within : Shown x y (of_bits binary32 (exp2_bits (fine_arg L c)))
    within = S.shown x y x_pos (fine_arg L c) low high

  outcome : (X : ℕ) → k ≤ 24 → Result (num x) (den x) k X → Shown x y (of_bits binary32 (exp2_bits (large_arg X c)))
  outcome X K (Q.kept lo hi s) = rw (arg_mid X c lo hi) (within X lo hi K s)
  outcome X K (Q.above i j J f) = rw (arg_high X c i) (above j J f)
  outcome X K (Q.below i j J f) = rw (arg_low X c i) (below j J f)

  small_zero : (j : ℕ) → j ≤ k → num x ^ (2 ^ j) * 2 ^ 32 ≤ den x ^ (2 ^ j) * 1073741825
      → Shown x y (of_bits binary32 (exp2_bits (large_arg 0 c)))
  small_zero j J f = rw (arg_low 0 c (lit< tt)) (below j J f)

  large_four : (j : ℕ) → j ≤ k → 4 * den x ^ (2 ^ j) ≤ num x ^ (2 ^ j)
      → Shown x y (of_bits binary32 (exp2_bits (large_arg (2 ^ 62) c)))
  large_four j J f = rw (arg_high (2 ^ 62) c (lit≤ tt)) (above j J f)

  abbrev p : ℕ
  p = normalized b

  x_is : 2 ^ (p / 2 ^ 23) * (2 ^ 23 + p % 2 ^ 23) * den x ≡ num x * 2 ^ 159 * 2 ^ 23
  x_is = scaled x b ex B h

  pub large_law : (b ≡ 0x3F800000 → ⊥) → Shown x y (of_bits binary32 (large_bits b c))
  unfolding large_bits
  large_law other =
      go (lt_or_ge p (157 * 2 ^ 23)) (lt_or_ge p (161 * 2 ^ 23)) (lt_or_ge 24 k) (lt_or_ge p (159 * 2 ^ 23))
    where
      -- other than 1
      above_one : 159 * 2 ^ 23 ≤ p → 1333788673 ≤ p
      above_one i = go (lt_or_ge b (2 ^ 23)) (lt_or_ge (159 * 2 ^ 23) p)
        where
          go : (b < 2 ^ 23) ⊎ (2 ^ 23 ≤ b) → (159 * 2 ^ 23 < p) ⊎ (p ≤ 159 * 2 ^ 23) → 1333788673 ≤ p
          go _ (inl j) = j
          go (inl m) (inr j) = absurd (no (sub32 b B m))
            where
              no : Sub b (count_leading_zeros 32 b) → ⊥
              no s = omega (arith, normalized-sub b m, s.least, s.high)
          go (inr m) (inr j) = absurd (other (omega (arith, normalized-normal b m)))

      -- four times, after 25 squares
      low_25 : 157 * 2 ^ 23 ≤ p → p < 159 * 2 ^ 23 → num x ^ (2 ^ 25) * 2 ^ 32 ≤ den x ^ (2 ^ 25) * 1073741825
      low_25 i j =
          last (num x ^ (2 ^ 25)) (den x ^ (2 ^ 25))
          (four-times (den x) (num x) 24 (under_one (p / 2 ^ 23) (2 ^ 23 + p % 2 ^ 23) (num x) (den x) (omega arith)
          (omega arith) x_is))
        where
          last : (u w : ℕ) → 4 * u ≤ w → u * 2 ^ 32 ≤ w * 1073741825
          last u w h = omega arith

      high_25 : 1333788673 ≤ p → 4 * den x ^ (2 ^ 25) ≤ num x ^ (2 ^ 25)
      high_25 i = four-times (num x) (den x) 24 (more (lt_or_ge (p / 2 ^ 23) 160))
        where
          more : (p / 2 ^ 23 < 160) ⊎ (160 ≤ p / 2 ^ 23) → den x * (2 ^ 24 + 1) ≤ num x * 2 ^ 24
          more (inl j) = over-one (p / 2 ^ 23) (2 ^ 23 + p % 2 ^ 23) (num x) (den x) (omega arith) (omega arith) x_is
          more (inr j) = over-two (p / 2 ^ 23) (2 ^ 23 + p % 2 ^ 23) (num x) (den x) j (omega arith) x_is

      go : (p < 157 * 2 ^ 23) ⊎ (157 * 2 ^ 23 ≤ p) → (p < 161 * 2 ^ 23) ⊎ (161 * 2 ^ 23 ≤ p) → (24 < k) ⊎ (k ≤ 24)
          → (p < 159 * 2 ^ 23) ⊎ (159 * 2 ^ 23 ≤ p)
          → Shown x y (of_bits binary32 (exp2_bits (large_arg (squared p c) c)))
      go (inl i) _ _ _ =
          rw (squared_1 p c i) (small_zero 0 (omega arith)
          (rw (one (num x), one (den x)) (last (num x) (den x)
          (quarter (p / 2 ^ 23) (2 ^ 23 + p % 2 ^ 23) (num x) (den x) (omega arith) (omega arith) x_is))))
        where
          last : (u w : ℕ) → u * 4 ≤ w → u * 2 ^ 32 ≤ w * 1073741825
          last u w h = omega arith
      go (inr i) (inr j) _ _ =
          rw (squared_5 p c j) (large_four 0 (omega arith)
          (rw (one (num x), one (den x)) (four (p / 2 ^ 23) (2 ^ 23 + p % 2 ^ 23) (num x) (den x) (omega arith)
          (omega arith) x_is)))
      go (inr i) (inl j) (inl m) (inl o) = rw (squared_3 p c i o m) (small_zero 25 m (low_25 i o))
      go (inr i) (inl j) (inl m) (inr o) = rw (squared_4 p c o j m) (large_four 25 m (high_25 (above_one o)))
      go (inr i) (inl j) (inr m) _ =
          let r = start_range (p / 2 ^ 23) (2 ^ 23 + p % 2 ^ 23) (omega arith) (omega arith) (omega arith)
          (omega arith) in
          rw (squared_2 p c i j m)
          (outcome (squares k ((2 ^ 23 + p % 2 ^ 23) * 2 ^ (p / 2 ^ 23 - 122))) m
          (subst (λ (z : ℕ). Result (num x) (den x) z (squares k ((2 ^ 23 + p % 2 ^ 23) * 2 ^ (p / 2 ^ 23 - 122))))
          (zero-add k)
          (run (num x) (den x) k 0 ((2 ^ 23 + p % 2 ^ 23) * 2 ^ (p / 2 ^ 23 - 122)) (omega arith)
          (start-state (num x) (den x) ((2 ^ 23 + p % 2 ^ 23) * 2 ^ (p / 2 ^ 23 - 122)) r.0
          (start_is (p / 2 ^ 23) (2 ^ 23 + p % 2 ^ 23) (num x) (den x) (omega arith) x_is)))))

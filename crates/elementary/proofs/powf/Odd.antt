-- is_odd, which looks at the digits of a bit pattern, tells whether a finite y is ± (2 k + 1).
use Rattle.std.proofs.Common.{◌≡◌, ℕ, zero, suc, ◌+◌, ◌-◌, ◌*◌, ◌/◌, ◌%◌, ◌^◌, ◌<◌, ◌≤◌, Bool, true, false, T, ◌⊎◌, sym, refl, ap, ◌∙◌, subst, inl, inr, true≢false, lt_of_le_of_lt, lt_irrefl, mod-eq_of_lt, mul-le-mul, div-add-mod', arith, lit<, eqb→eq, pow_pos, pow_mono, pow-add, eq-eqb}
use native.Mathlib.Nat.{eq_of_mul-eq-mul_right}
use native.Mathlib.Nat.{mul-add-mod_self_right}
use lib.Ieee.{Float, nan, inf, fin, binary32, of_bits}
use lib.Ieee.Exact.{HasValue}
use lib.Ieee.Positive.{num, den, den_pos}
use Rattle.series.proofs.Cuts.{lt_or_ge}
use Rattle.series.proofs.Value.{units}
use Rattle.elementary.specs.Accuracy.{sign_of, IsOdd}
use Rattle.elementary.specs.Pow.{is_odd}
use Rattle.elementary.proofs.Common.{infinity_is, minus_infinity_is, sign_is, fraction_is}
use Rattle.elementary.proofs.power.Shown.{Sign, sign}
use Rattle.elementary.proofs.powf.Cases.{odd_below, odd_mid, odd_above}

-- ---- m = (2 k + 1) p by its rest
rest_of : (m p k : ℕ) → 0 < p → m ≡ (2 * k + 1) * p → m % (p * 2) ≡ p
rest_of m p k P e = ap (λ (n : ℕ). n % (p * 2)) (e ∙ split k p) ∙ mul-add-mod_self_right k (p * 2) p ∙ mod-eq_of_lt less
  where
    split : (k p : ℕ) → (2 * k + 1) * p ≡ k * (p * 2) + p
    split k p = omega arith

    less : p < p * 2
    less = omega arith

of_rest : (m p : ℕ) → m % (p * 2) ≡ p → m ≡ (2 * (m / (p * 2)) + 1) * p
of_rest m p e = sym (div-add-mod' m (p * 2)) ∙ ap (λ (n : ℕ). m / (p * 2) * (p * 2) + n) e ∙ join (m / (p * 2)) p
  where
    join : (q p : ℕ) → q * (p * 2) + p ≡ (2 * q + 1) * p
    join q p = omega arith

-- ---- the units of y against (2 k + 1) 2^149
module _ (f d k : ℕ) (D : d < 2 ^ 23) (e : units f d ≡ (2 * k + 1) * 2 ^ 149) where
  -- not below 1
  not_low : f < 127 → ⊥
  not_low h = lt_irrefl (2 ^ 149) (lt_of_le_of_lt (least k (2 ^ 149)) (subst (λ (n : ℕ). n < 2 ^ 149) e (small f h)))
    where
      least : (k t : ℕ) → t ≤ (2 * k + 1) * t
      least k t = omega arith

      small : (f : ℕ) → f < 127 → units f d < 2 ^ 149
      small zero h = lt_of_le_of_lt {m = (2 ^ 23)} (omega arith) (lit< tt)
      small (suc x) h =
          lt_of_le_of_lt (mul-le-mul {n₂ = 16777215} {m₂ = 2 ^ 125} (omega arith)
          (pow_mono {i = x} {j = 125} (omega arith))) (lit< tt)

  -- from 2^24 on all are even
  not-high : 151 ≤ f → ⊥
  not-high h = go f h e
    where
      go : (f : ℕ) → 151 ≤ f → units f d ≡ (2 * k + 1) * 2 ^ 149 → ⊥
      go zero h e = omega arith
      go (suc x) h e =
          let s : x ≡ (x - 150) + 150 = omega arith in
          let p : 2 ^ x ≡ 2 ^ (x - 150) * 2 ^ 150 = ap (λ (i : ℕ). 2 ^ i) s ∙ pow-add 2 (x - 150) 150 in
          even ((2 ^ 23 + d) * 2 ^ (x - 150)) k
          (eq_of_mul-eq-mul_right (2 ^ 149) (pow_pos 149) ((2 ^ 23 + d) * 2 ^ (x - 150) * 2) (2 * k + 1)
          (same (2 ^ (x - 150)) (2 ^ 149) ∙ ap (λ (n : ℕ). (2 ^ 23 + d) * n) (sym p) ∙ e))
        where
          same : (y t : ℕ) → (2 ^ 23 + d) * y * 2 * t ≡ (2 ^ 23 + d) * (y * (t * 2))
          same y t = omega arith

          even : (n k : ℕ) → n * 2 ≡ 2 * k + 1 → ⊥
          even n k e = omega arith

-- between: 2^149 = 2^(f - 1) p with p = 2^(150 - f)
shifted : (x d n : ℕ) → x ≤ 149 → n * 2 ^ (150 - suc x) * 2 ^ x ≡ n * 2 ^ 149
shifted x d n h =
    let s : 150 - suc x + x ≡ 149 = omega arith in
    same (2 ^ (150 - suc x)) (2 ^ x) ∙ ap (λ (i : ℕ). n * i) (sym (pow-add 2 (150 - suc x) x) ∙ ap (λ (i : ℕ). 2 ^ i) s)
  where
    same : (p y : ℕ) → n * p * y ≡ n * (p * y)
    same p y = omega arith

digits_of : (f d k : ℕ) → 127 ≤ f → f < 151 → units f d ≡ (2 * k + 1) * 2 ^ 149
    → d + 2 ^ 23 ≡ (2 * k + 1) * 2 ^ (150 - f)
digits_of zero d k h l e = absurd (none h)
  where
    none : 127 ≤ 0 → ⊥
    none h = omega arith
digits_of (suc x) d k h l e =
    eq_of_mul-eq-mul_right (2 ^ x) (pow_pos x) (d + 2 ^ 23) ((2 * k + 1) * 2 ^ (150 - suc x))
    (turn (2 ^ x) ∙ e ∙ sym (shifted x d (2 * k + 1) (omega arith)))
  where
    turn : (y : ℕ) → (d + 2 ^ 23) * y ≡ (2 ^ 23 + d) * y
    turn y = omega arith

of_digits : (f d k : ℕ) → 127 ≤ f → f < 151 → d + 2 ^ 23 ≡ (2 * k + 1) * 2 ^ (150 - f)
    → units f d ≡ (2 * k + 1) * 2 ^ 149
of_digits zero d k h l e = absurd (none h)
  where
    none : 127 ≤ 0 → ⊥
    none h = omega arith
of_digits (suc x) d k h l e = turn (2 ^ x) ∙ ap (λ (n : ℕ). n * 2 ^ x) e ∙ shifted x d (2 * k + 1) (omega arith)
  where
    turn : (y : ℕ) → (2 ^ 23 + d) * y ≡ (d + 2 ^ 23) * y
    turn y = omega arith

-- ---- for a finite y
module _ (y : Float) (c : ℕ) (ey : y ≡ of_bits binary32 c) (l : c < 2 ^ 32) (h : c % 2 ^ 31 < 0x7F800000) where
  abbrev a : ℕ
  a = c % 2 ^ 31

  y_is : Sign y c
  y_is = sign y c ey l h

  sign_y : sign_of y ≡ y_is.t
  sign_y = sign_is y y_is.t (units (a / 2 ^ 23) (a % 2 ^ 23)) (2 ^ 149) y_is.hy

  value : num y * 2 ^ 149 ≡ units (a / 2 ^ 23) (a % 2 ^ 23) * den y
  value = fraction_is y y_is.t (units (a / 2 ^ 23) (a % 2 ^ 23)) (2 ^ 149) y_is.hy

  units_of : (k : ℕ) → HasValue y (sign_of y) (2 * k + 1) 1 → units (a / 2 ^ 23) (a % 2 ^ 23) ≡ (2 * k + 1) * 2 ^ 149
  units_of k v =
      eq_of_mul-eq-mul_right (den y) (den_pos y) (units (a / 2 ^ 23) (a % 2 ^ 23)) ((2 * k + 1) * 2 ^ 149)
      (go (num y) (den y) (units (a / 2 ^ 23) (a % 2 ^ 23)) (2 ^ 149) (fraction_is y (sign_of y) (2 * k + 1) 1 v)
      value)
    where
      go : (n m u t : ℕ) → n * 1 ≡ (2 * k + 1) * m → n * t ≡ u * m → u * m ≡ (2 * k + 1) * t * m
      go n m u t e v = omega (arith, ap (λ (z : ℕ). z * t) e)

  of_units : (k : ℕ) → units (a / 2 ^ 23) (a % 2 ^ 23) ≡ (2 * k + 1) * 2 ^ 149 → HasValue y (sign_of y) (2 * k + 1) 1
  of_units k e = go y y_is.t sign_y y_is.hy
    where
      last : (n m u t : ℕ) → 0 < t → u ≡ (2 * k + 1) * t → n * t ≡ u * m → n * 1 ≡ (2 * k + 1) * m
      last n m u t T e v =
          eq_of_mul-eq-mul_right t T (n * 1) ((2 * k + 1) * m) (omega (arith, v, ap (λ (z : ℕ). z * m) e))

      go : (y : Float) (t : Bool) → sign_of y ≡ t → HasValue y t (units (a / 2 ^ 23) (a % 2 ^ 23)) (2 ^ 149)
          → HasValue y (sign_of y) (2 * k + 1) 1
      go nan t s v = v
      go (inf s) t _ v = v
      go (fin s m x) t _ v = (
        refl,
        last (num (fin s m x)) (den (fin s m x)) (units (a / 2 ^ 23) (a % 2 ^ 23)) (2 ^ 149) (pow_pos 149) e
            v.1,
      )

  odd_of : IsOdd y → is_odd a ≡ true
  odd_of o = go (lt_or_ge a 0x3F800000) (lt_or_ge a 1266679808)
    where
      e : units (a / 2 ^ 23) (a % 2 ^ 23) ≡ (2 * o.0 + 1) * 2 ^ 149
      e = units_of o.0 o.1

      go : (a < 0x3F800000) ⊎ (0x3F800000 ≤ a) → (a < 1266679808) ⊎ (1266679808 ≤ a) → is_odd a ≡ true
      go (inl i) _ = absurd (not_low (a / 2 ^ 23) (a % 2 ^ 23) o.0 (omega arith) e (omega arith))
      go (inr i) (inr j) = absurd (not-high (a / 2 ^ 23) (a % 2 ^ 23) o.0 (omega arith) e (omega arith))
      go (inr i) (inl j) =
          odd_mid a i j ∙ eq-eqb ((a % 2 ^ 23 + 2 ^ 23) % (2 ^ (150 - a / 2 ^ 23) * 2)) (2 ^ (150 - a / 2 ^ 23))
          (rest_of (a % 2 ^ 23 + 2 ^ 23) (2 ^ (150 - a / 2 ^ 23)) o.0 (pow_pos (150 - a / 2 ^ 23))
          (digits_of (a / 2 ^ 23) (a % 2 ^ 23) o.0 (omega arith) (omega arith) e))

  of_odd : is_odd a ≡ true → IsOdd y
  of_odd t = go (lt_or_ge a 0x3F800000) (lt_or_ge a 1266679808)
    where
      p : ℕ
      p = 2 ^ (150 - a / 2 ^ 23)

      go : (a < 0x3F800000) ⊎ (0x3F800000 ≤ a) → (a < 1266679808) ⊎ (1266679808 ≤ a) → IsOdd y
      go (inl i) _ = absurd (true≢false (sym t ∙ odd_below a i))
      go (inr i) (inr j) = absurd (true≢false (sym t ∙ odd_above a j))
      go (inr i) (inl j) =
          let r : (a % 2 ^ 23 + 2 ^ 23) % (2 ^ (150 - a / 2 ^ 23) * 2) ≡ 2 ^ (150 - a / 2 ^ 23) =
          eqb→eq ((a % 2 ^ 23 + 2 ^ 23) % (2 ^ (150 - a / 2 ^ 23) * 2)) (2 ^ (150 - a / 2 ^ 23))
          (subst T (sym t ∙ odd_mid a i j) tt) in
          let k = (a % 2 ^ 23 + 2 ^ 23) / (2 ^ (150 - a / 2 ^ 23) * 2) in (
            k,
            of_units k (of_digits (a / 2 ^ 23) (a % 2 ^ 23) k (omega arith) (omega arith)
                (of_rest (a % 2 ^ 23 + 2 ^ 23) (2 ^ (150 - a / 2 ^ 23)) r)),
          )

-- ---- an infinity is not odd, and its pattern is not
infinite : (y : Float) (c : ℕ) → y ≡ of_bits binary32 c → c < 2 ^ 32 → c % 2 ^ 31 ≡ 0x7F800000 → IsOdd y → ⊥
infinite y c ey l h o = go (lt_or_ge c (2 ^ 31))
  where
    go : (c < 2 ^ 31) ⊎ (2 ^ 31 ≤ c) → ⊥
    go (inl i) =
        let k : c ≡ 0x7F800000 = omega arith in
        (subst IsOdd (ey ∙ ap (of_bits binary32) k ∙ infinity_is) o).1
    go (inr i) =
        let k : c ≡ 4286578688 = omega arith in
        (subst IsOdd (ey ∙ ap (of_bits binary32) k ∙ minus_infinity_is) o).1

module _ (y : Float) (c : ℕ) (ey : y ≡ of_bits binary32 c) (l : c < 2 ^ 32) (h : c % 2 ^ 31 ≤ 0x7F800000) where
  pub is_odd_lem : IsOdd y → is_odd (c % 2 ^ 31) ≡ true
  is_odd_lem o = go (lt_or_ge (c % 2 ^ 31) 0x7F800000)
    where
      go : (c % 2 ^ 31 < 0x7F800000) ⊎ (0x7F800000 ≤ c % 2 ^ 31) → is_odd (c % 2 ^ 31) ≡ true
      go (inl i) = odd_of y c ey l i o
      go (inr i) = absurd (infinite y c ey l (omega arith) o)

  pub not_odd : (IsOdd y → ⊥) → is_odd (c % 2 ^ 31) ≡ false
  not_odd f = go (lt_or_ge (c % 2 ^ 31) 0x7F800000) (is_odd (c % 2 ^ 31)) refl
    where
      go : (c % 2 ^ 31 < 0x7F800000) ⊎ (0x7F800000 ≤ c % 2 ^ 31) → (t : Bool) → is_odd (c % 2 ^ 31) ≡ t
          → is_odd (c % 2 ^ 31) ≡ false
      go (inr i) t e = odd_above (c % 2 ^ 31) (omega arith)
      go (inl i) true e = absurd (f (of_odd y c ey l i e))
      go (inl i) false e = e

-- Where rounding twice, first to an `f64` and then to an `f32`, is rounding once: the `f64` is normal, no power of two,
-- and not half way between two `f32`.
--   away q        q / 2 ^ 29 to the nearest whole number, a half up
--   as_q          a number within a half of q goes there too
--   one_value     a float has one sign and one size
--   sign_is       the `f64` has the sign of the fraction
--   rounds_once   that `f64`, rounded to an `f32`, is the fraction rounded to an `f32`
use Rattle.std.proofs.Common.{◌≡◌, ℕ, suc, ◌+◌, ◌-◌, ◌*◌, ◌/◌, ◌%◌, ◌^◌, ◌<◌, ◌≤◌, Bool, true, false, cond, ltb, sym, refl, ap, ◌∙◌, subst, le_trans, le_of_eq, lt_of_lt_of_le, le_of_suc-le-suc, lt_of_le_of_lt, mul-le-mul_right, mod-lt, mul_assoc, mul_comm, div-lt_iff_lt-mul, add-mul, le_antisymm, lt_of_mul-lt-mul_right, mul-le-mul_left, mul-lt-mul_of_pos_right, mul-pos, one-mul, div-add-mod', le-div_iff_mul-le, mul_right_comm, le_of_mul-le-mul_right, mul_left_comm, arith, lit<, pow_pos, pow_mono, pow-add}
use Prim.Native.Nat.{compare, Ordering}
use native.Mathlib.Nat.{eq_of_mul-eq-mul_right}
use lib.Pow.{mod-mod-pow}
use lib.Ieee.{Float, nan, inf, fin, Format, binary32, binary64, down, prec, emax, low, size, nearest, odd, units, round}
use lib.Ieee.Fits.{down_pos, round_is, nearest-le}
use lib.Ieee.Exact.{HasValue, odd_sign}
use lib.Ieee.Nearest.{closest, closest_same, closest_mono, nearest-ge}
use Rattle.float32.proofs.Sticky.{round-at, drop_under, drop-over, Cmp, cmp}
use Rattle.float32.proofs.Rescale.{pow_split}
use Rattle.float32.proofs.Sums.{Order, less, same, more, order}

-- ---- `closest` is within a half
abbrev Half : ℕ → ℕ → ℕ → Type 0
Half n U q = (2 * (q * U) ≤ 2 * n + U) × (2 * n ≤ 2 * (q * U) + U)

suc-times : (w U : ℕ) → suc w * U ≡ w * U + U
suc-times w U = ap (λ (z : ℕ). z * U) (go w) ∙ add-mul w 1 U ∙ ap (λ (z : ℕ). w * U + z) (one-mul U)
  where
    go : (x : ℕ) → suc x ≡ x + 1
    go x = omega arith

within : (U w r : ℕ) (o : Ordering) → Cmp o (r * 2) U → r < U → Half (w * U + r) U (nearest w o)
within U w r Ordering.lt h l = go (w * U)
  where
    go : (x : ℕ) → (2 * x ≤ 2 * (x + r) + U) × (2 * (x + r) ≤ 2 * x + U)
    go x = omega arith
within U w r Ordering.gt h l = go (w * U) (suc w * U) (suc-times w U)
  where
    go : (x y : ℕ) → y ≡ x + U → (2 * y ≤ 2 * (x + r) + U) × (2 * (x + r) ≤ 2 * y + U)
    go x y e = omega arith
within U w r Ordering.eq h l = go (w % 2) (mod-lt w (lit< tt))
  where
    at : (x y z : ℕ) → y ≡ x + z → z ≤ U → (2 * y ≤ 2 * (x + r) + U) × (2 * (x + r) ≤ 2 * y + U)
    at x y z e g = omega arith

    most : (b : ℕ) → b < 2 → b * U ≤ U
    most b k = le_trans (mul-le-mul_right U (le_of_suc-le-suc k)) (le_of_eq (one-mul U))

    go : (b : ℕ) → b < 2 → Half (w * U + r) U (w + b)
    go b k = at (w * U) ((w + b) * U) (b * U) (add-mul w b U) (most b k)

near : (n U : ℕ) → 0 < U → Half n U (closest n U)
near n U P = subst (λ (z : ℕ). Half z U (closest n U)) (div-add-mod' n U)
    (within U (n / U) (n % U) (compare (n % U * 2) U) (cmp (n % U * 2) U) (mod-lt n P))

-- ---- a number that is within a half of q rounds, to multiples of 2 ^ 29, as q does
unfoldable pub away : ℕ → ℕ
away q = (q + 2 ^ 28) / 2 ^ 29

closest_lit : (x w : ℕ) → x % 2 ≡ 1 → (x % 2 ^ 30 < 2 ^ 29 → x / 2 ^ 30 ≡ w)
    → (2 ^ 29 < x % 2 ^ 30 → suc (x / 2 ^ 30) ≡ w) → closest x (2 ^ 30) ≡ w
closest_lit x w o f g = go (compare (x % 2 ^ 30 * 2) (2 ^ 30)) (cmp (x % 2 ^ 30 * 2) (2 ^ 30))
  where
    even : (y : ℕ) → y * 2 ≡ 2 ^ 30 → y % 2 ≡ 1 → ⊥
    even y e k =
        let a : y ≡ 2 ^ 29 = omega arith in
        let b : y % 2 ≡ 0 = ap (λ (z : ℕ). z % 2) a in
        omega arith

    go : (c : Ordering) → Cmp c (x % 2 ^ 30 * 2) (2 ^ 30) → nearest (x / 2 ^ 30) c ≡ w
    go Ordering.lt h = f (omega arith)
    go Ordering.eq h = absurd (even (x % 2 ^ 30) h (mod-mod-pow x 29 1 ∙ o))
    go Ordering.gt h = g (omega arith)

module _ (q : ℕ) (P : 0 < q) (h : q % 2 ^ 29 ≡ 2 ^ 28 → ⊥) where
  low_half : closest (2 * q - 1) (2 ^ 30) ≡ away q
  unfolding away
  low_half = closest_lit (2 * q - 1) ((q + 2 ^ 28) / 2 ^ 29) (omega arith) (λ (l : (2 * q - 1) % 2 ^ 30 < 2 ^ 29). omega
      (arith, h)) (λ (l : 2 ^ 29 < (2 * q - 1) % 2 ^ 30). omega (arith, h))

  high_half : closest (2 * q + 1) (2 ^ 30) ≡ away q
  unfolding away
  high_half = closest_lit (2 * q + 1) ((q + 2 ^ 28) / 2 ^ 29) (omega arith)
      (λ (l : (2 * q + 1) % 2 ^ 30 < 2 ^ 29). omega (arith, h)) (λ (l : 2 ^ 29 < (2 * q + 1) % 2 ^ 30). omega
      (arith, h))

  module _ (n U : ℕ) (p : 0 < U) (d : Half n U q) where
    twice_low : (2 * q - 1) * U ≤ 2 * n
    twice_low = go ((2 * q - 1) * U) (q * U) (sym (add-mul (2 * q - 1) 1 U) ∙ ap (λ (z : ℕ). z * U) one
        ∙ mul_assoc 2 q U) (one-mul U) d.0
      where
        one : 2 * q - 1 + 1 ≡ 2 * q
        one = omega arith

        go : (x y : ℕ) → x + 1 * U ≡ 2 * y → 1 * U ≡ U → 2 * y ≤ 2 * n + U → x ≤ 2 * n
        go x y e f g = omega arith

    twice_high : 2 * n ≤ (2 * q + 1) * U
    twice_high = le_trans d.1
        (le_of_eq (sym (add-mul (2 * q) 1 U ∙ ap (λ (z : ℕ). z + 1 * U) (mul_assoc 2 q U)
        ∙ ap (λ (z : ℕ). 2 * (q * U) + z) (one-mul U))))

    scale : (x : ℕ) → x * (U * 2 ^ 29) ≡ x * U * 2 ^ 29
    scale x = sym (mul_assoc x U (2 ^ 29))

    double : n * 2 ^ 30 ≡ 2 * n * 2 ^ 29
    double = go n
      where
        go : (x : ℕ) → x * 2 ^ 30 ≡ 2 * x * 2 ^ 29
        go x = omega arith

    pub as_q : closest n (U * 2 ^ 29) ≡ away q
    as_q =
        le_antisymm
        (le_trans (closest_mono n (U * 2 ^ 29) (2 * q + 1) (2 ^ 30) (mul-pos p (lit< tt)) (lit< tt)
        (le_trans (le_of_eq double) (le_trans (mul-le-mul_right (2 ^ 29) twice_high)
        (le_of_eq (sym (scale (2 * q + 1))))))) (le_of_eq high_half))
        (le_trans (le_of_eq (sym low_half)) (closest_mono (2 * q - 1) (2 ^ 30) n (U * 2 ^ 29) (lit< tt)
        (mul-pos p (lit< tt))
        (le_trans (le_of_eq (scale (2 * q - 1))) (le_trans (mul-le-mul_right (2 ^ 29) twice_low)
        (le_of_eq (sym double))))))

-- ---- two ways to write a value with 53 digits
module _ (q k r j : ℕ) (lo : 2 ^ 52 < q) (hi : q < 2 ^ 53) (r-le : r ≤ 2 ^ 53) (r-ge : 0 < j → 2 ^ 52 ≤ r)
    (e : q * 2 ^ k ≡ r * 2 ^ j) where
  lift : (a b c d : ℕ) → b < d → a * 2 ^ b ≡ c * 2 ^ d → a ≡ c * 2 ^ (d - b)
  lift a b c d l g =
      eq_of_mul-eq-mul_right (2 ^ b) (pow_pos b) a (c * 2 ^ (d - b))
      (g ∙ ap (λ (z : ℕ). c * z) (sym (pow_split (d - b) b d (omega arith))) ∙ sym (mul_assoc c (2 ^ (d - b)) (2 ^ b)))

  double_le : (c i : ℕ) → 0 < i → 2 * c ≤ c * 2 ^ i
  double_le c i l = le_trans (le_of_eq (mul_comm 2 c)) (mul-le-mul_left c (pow_mono {i = 1} {j = i} l))

  same_place : k ≡ j
  same_place = go (order k j)
    where
      go : Order k j → k ≡ j
      go (less l) = absurd (omega (arith, lift q k r j l e, double_le r (j - k) (omega arith), r-ge (omega arith)))
      go (same l) = l
      go (more l) = absurd (omega (arith, lift r j q k l (sym e), double_le q (k - j) (omega arith)))

  same_digits : q ≡ r
  same_digits = eq_of_mul-eq-mul_right (2 ^ k) (pow_pos k) q r (e ∙ ap (λ (z : ℕ). r * 2 ^ z) (sym same_place))

-- ---- one float has one value
pub one_value : (x : Float) (s t : Bool) (a b c : ℕ) → HasValue x s a c → HasValue x t b c → (s ≡ t) × (a ≡ b)
one_value nan s t a b c p q = absurd p
one_value (inf u) s t a b c p q = absurd p
one_value (fin u m e) s t a b c p q = (
  sym p.0 ∙ q.0,
  eq_of_mul-eq-mul_right (down e) (down_pos e) a b
      (sym p.1 ∙ q.1),
)

units-value : (f : Format) (s : Bool) (q k : ℕ) (t : Bool) (a : ℕ) → HasValue (units f s q k) t a (2 ^ low f)
    → (s ≡ t) × (q * 2 ^ k ≡ a)
unfolding units
units-value f s q k t a = go (ltb (q * 2 ^ k) (2 ^ (low f + suc (emax f))))
  where
    go : (b : Bool) → HasValue (cond b (odd (suc (prec f)) s q k (low f)) (inf s)) t a (2 ^ low f)
        → (s ≡ t) × (q * 2 ^ k ≡ a)
    go true v = one_value (odd (suc (prec f)) s q k (low f)) s t (q * 2 ^ k) a (2 ^ low f)
        (odd_sign (suc (prec f)) s q k (low f)) v
    go false v = absurd v

-- ---- the fraction num / c, rounded to an `f64` that is q * 2 ^ k / 2 ^ 1074
module _ (s : Bool) (num c : ℕ) (C : 0 < c) (t : Bool) (q k : ℕ) (v : HasValue (round binary64 s num c) t (q * 2 ^ k)
    (2 ^ 1074)) (lo : 2 ^ 52 < q) (hi : q < 2 ^ 53) where
  abbrev n : ℕ
  n = num * 2 ^ 1074

  abbrev j : ℕ
  j = size (n / c) - 53

  abbrev r : ℕ
  r = closest n (c * 2 ^ j)

  is : (s ≡ t) × (r * 2 ^ j ≡ q * 2 ^ k)
  is = units-value binary64 s r j t (q * 2 ^ k) (subst (λ (x : Float). HasValue x t (q * 2 ^ k) (2 ^ 1074))
      (round_is binary64 s num c) v)

  abbrev u : ℕ
  u = c * 2 ^ j

  u_pos : 0 < u
  u_pos = mul-pos C (pow_pos j)

  r-le : r ≤ 2 ^ 53
  r-le =
      le_trans (nearest-le (n / u) (compare (n % u * 2) u))
      ((div-lt_iff_lt-mul u_pos).1 (lt_of_lt_of_le (drop_under 53 n c (lit< tt) C)
      (le_of_eq (ap (λ (z : ℕ). z * c) (pow-add 2 53 j) ∙ mul_assoc (2 ^ 53) (2 ^ j) c ∙ ap (λ (z : ℕ). 2 ^ 53 * z)
      (mul_comm (2 ^ j) c)))))

  r-ge : 0 < j → 2 ^ 52 ≤ r
  r-ge h =
      le_trans
      ((le-div_iff_mul-le u_pos).1
      (le_trans (le_of_eq (ap (λ (z : ℕ). 2 ^ 52 * z) (mul_comm c (2 ^ j)) ∙ sym (mul_assoc (2 ^ 52) (2 ^ j) c)
      ∙ ap (λ (z : ℕ). z * c) (pow_split 52 j (53 + j - 1) (omega arith)))) (drop-over 53 n c (lit< tt) C h)))
      (nearest-ge (n / u) (compare (n % u * 2) u))

  pub sign_is : s ≡ t
  sign_is = is.0

  k_is : k ≡ j
  k_is = same_place q k r j lo hi r-le r-ge (sym is.1)

  q_is : q ≡ r
  q_is = same_digits q k r j lo hi r-le r-ge (sym is.1)

  half : Half n (c * 2 ^ k) q
  half = subst (λ (i : ℕ). Half n (c * 2 ^ i) q) (sym k_is) (subst (λ (z : ℕ). Half n (c * 2 ^ j) z) (sym q_is)
      (near n (c * 2 ^ j) u_pos))

  -- ---- the same fraction rounded to an `f32`
  module _ (K : 896 ≤ k) (h : q % 2 ^ 29 ≡ 2 ^ 28 → ⊥) where
    abbrev U : ℕ
    U = c * 2 ^ k

    U_pos : 0 < U
    U_pos = mul-pos C (pow_pos k)

    q_pos : 0 < q
    q_pos = omega arith

    abbrev i : ℕ
    i = k - 896

    kept : closest n (U * 2 ^ 29) ≡ away q
    kept = as_q q q_pos h n U U_pos half

    n_is : num * 2 ^ 149 * 2 ^ 925 ≡ n
    n_is = mul_assoc num (2 ^ 149) (2 ^ 925)

    small : closest (num * 2 ^ 149) (c * 2 ^ i) ≡ closest n (U * 2 ^ 29)
    small =
        closest_same (num * 2 ^ 149) (c * 2 ^ i) n (U * 2 ^ 29) (mul-pos C (pow_pos i)) (mul-pos U_pos (lit< tt))
        (ap (λ (z : ℕ). num * 2 ^ 149 * z) go ∙ sym (mul_assoc (num * 2 ^ 149) (2 ^ 925) (c * 2 ^ i))
        ∙ ap (λ (z : ℕ). z * (c * 2 ^ i)) n_is)
      where
        go : U * 2 ^ 29 ≡ 2 ^ 925 * (c * 2 ^ i)
        go = mul_assoc c (2 ^ k) (2 ^ 29) ∙ ap (λ (z : ℕ). c * z) (pow_split k 29 (k + 29) refl
            ∙ sym (pow_split 925 i (k + 29) (omega arith))) ∙ mul_left_comm c (2 ^ 925) (2 ^ i)

    power : (a b : ℕ) → a + 925 ≡ b + k → 2 ^ a * c * 2 ^ 925 ≡ 2 ^ b * U
    power a b e = mul_right_comm (2 ^ a) c (2 ^ 925) ∙ ap (λ (z : ℕ). z * c) (pow_split a 925 (b + k) e ∙ pow-add 2 b k)
        ∙ mul_assoc (2 ^ b) (2 ^ k) c ∙ ap (λ (z : ℕ). 2 ^ b * z) (mul_comm (2 ^ k) c)

    under : num * 2 ^ 149 < 2 ^ (24 + i) * c
    under =
        lt_of_mul-lt-mul_right (2 ^ 925)
        (lt_of_le_of_lt (le_of_eq n_is) (lt_of_lt_of_le (go (twice_high q q_pos h n U U_pos half))
        (le_of_eq (sym (power (24 + i) 53 (omega arith))))))
      where
        go : 2 * n ≤ (2 * q + 1) * U → n < 2 ^ 53 * U
        go g = lt_of_mul-lt-mul_right 2 (lt_of_le_of_lt (le_of_eq (mul_comm n 2))
            (lt_of_le_of_lt g (lt_of_lt_of_le (mul-lt-mul_of_pos_right more' U_pos)
            (le_of_eq (mul_right_comm (2 ^ 53) 2 U)))))
          where
            more' : 2 * q + 1 < 2 ^ 53 * 2
            more' = omega arith

    over : 0 < i → 2 ^ (24 + i - 1) * c ≤ num * 2 ^ 149
    over g =
        le_of_mul-le-mul_right (le_trans (le_of_eq (power (24 + i - 1) 52 (omega arith)))
        (le_trans (go (twice_low q q_pos h n U U_pos half)) (le_of_eq (sym n_is)))) (pow_pos 925)
      where
        go : (2 * q - 1) * U ≤ 2 * n → 2 ^ 52 * U ≤ n
        go f = le_of_mul-le-mul_right (le_trans (le_of_eq (mul_right_comm (2 ^ 52) U 2))
            (le_trans (mul-le-mul_right U fewer) (le_trans f (le_of_eq (mul_comm 2 n))))) (lit< tt)
          where
            fewer : 2 ^ 52 * 2 ≤ 2 * q - 1
            fewer = omega arith

    pub rounds_once : units binary32 s (away q) (k - 896) ≡ round binary32 s num c
    rounds_once = sym (round-at binary32 s num c i C under over ∙ ap (λ (z : ℕ). units binary32 s z i) (small ∙ kept))

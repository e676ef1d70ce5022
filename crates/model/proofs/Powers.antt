-- x^y for y from -1 to 0, computed by powf from a base that is itself rounded: within so many roundings of the exact
-- power of the exact base.
--     IsPower k a b n m p     p is within k roundings of (a / b)^(- n / m)
--     power_of_exact x y k z  powf's x^y is, with five roundings more than x is off the exact base z
use Rattle.std.proofs.Common.{◌≡◌, ℕ, ◌+◌, ◌-◌, ◌*◌, ◌^◌, ◌<◌, ◌≤◌, Bool, true, false, T, ◌⊎◌, sym, ap, ◌∙◌, subst, inl, inr, le_trans, mul-le-mul_right, add-sub_of_le, mul-le-mul_left, mul-pos, le_of_mul-le-mul_right, arith, lit<, lit≤, pow_pos, pow_mono, pow-add}
use native.Mathlib.Nat.{one-le-pow}
use native.Mathlib.Nat.{pow-le-pow_left}
use Rattle.series.proofs.Cuts.{mul-pow}
use Rattle.series.proofs.Two.{root, one-pow}
use lib.Ieee.{Float, binary32, fits}
use lib.Ieee.Positive.{num, den, den_pos}
use Rattle.series.specs.Exp.{Within}
use Rattle.elementary.specs.Pow.{pow_of}
use Rattle.elementary.specs.Accuracy.{sign_of, RatioGe, RatioLe, PowGe, PowLe, Finite}
use Rattle.elementary.proofs.Common.{sign_is, fraction_is}
use Rattle.elementary.proofs.Laws.{powf_bound}
use Rattle.model.specs.Accuracy.{Decay}
use Rattle.model.proofs.Patterns.{finite_bits, clear-bits, bits_pos}
use Rattle.model.proofs.Rounding.{Clear, val, own}
use Rattle.model.proofs.Fractions.{Fraction, Toward, toward_trans}

-- ---- p / q ≤ (a / b)^(- n / m), at another fraction and at another base
module _ (n m : ℕ) where
  pub ge_weaken : (a b c d e f : ℕ) → 0 < d → e * d ≤ c * f → RatioGe true a b n m c d → RatioGe true a b n m e f
  ge_weaken a b c d e f D h g =
      go (a ^ n) (b ^ n) (c ^ m) (d ^ m) (e ^ m) (f ^ m) (one-le-pow m d D) g
      (subst (λ (z : ℕ). z ≤ c ^ m * f ^ m) (mul-pow e d m) (rw (mul-pow c f m) at (pow-le-pow_left h m)))
    where
      go : (a b c d e f : ℕ) → 0 < d → c * a ≤ b * d → e * d ≤ c * f → e * a ≤ b * f
      go a b c d e f D g k =
          le_of_mul-le-mul_right {k = d} (omega (arith, mul-le-mul_right a k, mul-le-mul_right f g)) D

  -- a lower bound is at most an upper one
  pub meet : (a b c d e f : ℕ) → 0 < m → 0 < a → RatioGe true a b n m c d → RatioLe true a b n m e f → c * f ≤ e * d
  meet a b c d e f M A g h =
      root (c * f) (e * d) m M
      (rw (mul-pow c f m, mul-pow e d m) (go (a ^ n) (b ^ n) (c ^ m) (d ^ m) (e ^ m) (f ^ m) (one-le-pow n a A) g h))
    where
      go : (a b c d e f : ℕ) → 0 < a → c * a ≤ b * d → b * f ≤ e * a → c * f ≤ e * d
      go a b c d e f A g k =
          le_of_mul-le-mul_right {k = a} (omega (arith, mul-le-mul_right f g, mul-le-mul_right d k)) A

  module _ (small : n ≤ m) (x y : ℕ) (Y : 0 < y) (le : y ≤ x) where
    -- (y / x)^m ≤ (y / x)^n
    share : y ^ m * x ^ n ≤ x ^ m * y ^ n
    share =
        subst (λ (z : ℕ). y ^ z * x ^ n ≤ x ^ z * y ^ n) (add-sub_of_le small)
        (rw (pow-add y n (m - n), pow-add x n (m - n))
        (go (y ^ n) (x ^ n) (y ^ (m - n)) (x ^ (m - n)) (pow-le-pow_left le (m - n))))
      where
        go : (a b c d : ℕ) → c ≤ d → a * c * b ≤ b * d * a
        go a b c d h = omega (arith, mul-le-mul_left (a * b) h)

    -- another base: at most x / y times the first, or at least y / x times it
    module _ (a b c d e f : ℕ) (C : 0 < d) where
      step : (i j k l o p : ℕ) → i * j * k ≤ l * o * p → (i ^ n) * (j ^ n) * (k ^ n) ≤ (l ^ n) * (o ^ n) * (p ^ n)
      step i j k l o p h =
          subst (λ (z : ℕ). z ≤ l ^ n * o ^ n * p ^ n) (mul-pow (i * j) k n ∙ ap (λ (z : ℕ). z * k ^ n) (mul-pow i j n))
          (subst (λ (z : ℕ). (i * j * k) ^ n ≤ z) (mul-pow (l * o) p n ∙ ap (λ (z : ℕ). z * p ^ n) (mul-pow l o n))
          (pow-le-pow_left h n))

      pub ge-base : a * d * y ≤ c * b * x → RatioGe true c d n m e f → RatioGe true a b n m (e * y) (f * x)
      ge-base h g =
          rw (mul-pow e y m, mul-pow f x m)
          (go (a ^ n) (b ^ n) (c ^ n) (d ^ n) (e ^ m) (f ^ m) (x ^ n) (x ^ m) (y ^ n) (y ^ m) (one-le-pow n d C)
          (one-le-pow n y Y) (step a d y c b x h) g share)
        where
          go : (a b c d e f xn xm yn ym : ℕ) → 0 < d → 0 < yn → a * d * yn ≤ c * b * xn → e * c ≤ d * f
              → ym * xn ≤ xm * yn → e * ym * a ≤ b * (f * xm)
          go a b c d e f xn xm yn ym D Z h g s =
              le_of_mul-le-mul_right {k = d * yn}
              (omega (
                arith,
                mul-le-mul_left (e * ym) h,
                mul-le-mul_left (b * ym * xn) g,
                mul-le-mul_left (d * f * b) s,
              ))
              (mul-pos D Z)

      pub le-base : c * b * y ≤ a * d * x → RatioLe true c d n m e f → RatioLe true a b n m (e * x) (f * y)
      le-base h g =
          rw (mul-pow e x m, mul-pow f y m)
          (go (a ^ n) (b ^ n) (c ^ n) (d ^ n) (e ^ m) (f ^ m) (x ^ n) (x ^ m) (y ^ n) (y ^ m) (one-le-pow n d C)
          (one-le-pow n y Y) (step c b y a d x h) g share)
        where
          go : (a b c d e f xn xm yn ym : ℕ) → 0 < d → 0 < yn → c * b * yn ≤ a * d * xn → d * f ≤ e * c
              → ym * xn ≤ xm * yn → b * (f * ym) ≤ e * xm * a
          go a b c d e f xn xm yn ym D Z h g s =
              le_of_mul-le-mul_right {k = d * yn}
              (omega (
                arith,
                mul-le-mul_left (b * yn * ym) g,
                mul-le-mul_left (e * ym) h,
                mul-le-mul_left (e * a * d) s,
              ))
              (mul-pos D Z)

-- ---- what powf gives
-- a bound of (a / b)^(- n / m) from below, or from above
abbrev pub Bound : Bool → ℕ → ℕ → ℕ → ℕ → Fraction → Type 0
Bound false a b n m x = RatioGe true a b n m x.top x.bottom
Bound true a b n m x = RatioLe true a b n m x.top x.bottom

-- p is within k roundings of it, and at most 3
pub record IsPower (k a b n m : ℕ) (p : Float) : Type 0 where
  pub clear : Clear p
  pub most : num p ≤ 3 * den p
  pub bracket : Bool → Fraction
  pub bound : (s : Bool) → Bound s a b n m (bracket s)
  pub near : (s : Bool) → Toward s k (val p) (bracket s)

-- u units within two steps of 2^j, where the exact power is at least 2^23 of them: a factor of at most (1 + 2^-24)^5
five : (x y A B : ℕ) → x * 2 ^ 24 ≤ y * (2 ^ 24 + 5) → (2 ^ 24 + 5) * A ≤ B → x * (2 ^ 24 * A) ≤ y * B
five x y A B h g = omega (arith, mul-le-mul_right A h, mul-le-mul_left y g)

low-five : (u J e m h A B : ℕ) → m * h ≡ u * e → 2 ^ 23 * J ≤ u + 2 * J → (2 ^ 24 + 5) * A ≤ B
    → m * h * (2 ^ 24 * A) ≤ (u - 2 * J) * e * B
low-five u J e m h A B i g k =
    five (m * h) ((u - 2 * J) * e) A B (go (u - 2 * J) (omega arith)) k
  where
    go : (w : ℕ) → w + 2 * J ≡ u → m * h * 2 ^ 24 ≤ w * e * (2 ^ 24 + 5)
    go w j = omega (arith, i, ap (λ (z : ℕ). z * e) j, mul-le-mul_right e g)

high-five : (u J e m h A B : ℕ) → m * h ≡ u * e → 2 ^ 23 * J ≤ u + 2 * J → (2 ^ 24 + 5) * A ≤ B
    → (u + 2 * J) * e * (2 ^ 24 * A) ≤ m * h * B
high-five u J e m h A B i g k =
    five ((u + 2 * J) * e) (m * h) A B (omega (arith, i, mul-le-mul_right e g)) k

same_down : (w h p q : ℕ) → w * (h * q) * p ≤ w * p * h * q
same_down w h p q = omega arith

same_up : (w h p q : ℕ) → w * q * h * p ≤ w * (h * p) * q
same_up w h p q = omega arith

at_most-three : (u J m e h : ℕ) → m * h ≡ u * e → 2 ^ 23 * J ≤ u + 2 * J → (u - 2 * J) * 1 ≤ 2 * h → m * h ≤ 3 * e * h
at_most-three u J m e h i g k = go (omega arith)
  where
    go : u ≤ 3 * h → m * h ≤ 3 * e * h
    go l = omega (arith, i, mul-le-mul_left e l)

-- the range of powf's bound, with h = 2^126 and g = 2^127
reaches : (a b n m h : ℕ) → n ≤ m → 0 < h → a ≤ h * b → RatioGe true a b n m 1 h
reaches a b n m h small H l =
    rw (one-pow m)
    (go (a ^ n) (b ^ n) (h ^ n) (h ^ m) (rw (mul-pow h b n) at (pow-le-pow_left l n))
    (subst (λ (z : ℕ). h ^ n ≤ h ^ z) (add-sub_of_le small) (rw (pow-add h n (m - n)) (more (h ^ n) (h ^ (m - n))
    (one-le-pow (m - n) h H)))))
  where
    more : (x y : ℕ) → 1 ≤ y → x ≤ x * y
    more x y Y = omega (arith, mul-le-mul_left x Y)

    go : (x y z w : ℕ) → x ≤ z * y → z ≤ w → 1 * x ≤ y * w
    go x y z w i j = omega (arith, i, mul-le-mul_right y j)

passes : (a b n m g : ℕ) → n ≤ m → 2 ≤ g → b ≤ 2 * a → RatioLe true a b n m g 1
passes a b n m g small G l =
    rw (one-pow m)
    (go (a ^ n) (b ^ n) (2 ^ n) (g ^ m) (rw (mul-pow 2 a n) at (pow-le-pow_left l n))
    (le_trans (pow_mono {i = n} {j = m} small) (pow-le-pow_left G m)))
  where
    go : (x y z w : ℕ) → y ≤ z * x → z ≤ w → y * 1 ≤ w * x
    go x y z w i j = omega (arith, i, mul-le-mul_right x j)

module _ (x y : Float) (fx : T (fits binary32 x)) (fy : T (fits binary32 y)) (cx : Clear x) (ge : den x ≤ 2 * num x)
    (le : num x ≤ 2 ^ 126 * den x) (d : Decay y) where
  abbrev a : ℕ
  a = num x

  abbrev b : ℕ
  b = den x

  abbrev n : ℕ
  n = num y

  abbrev m : ℕ
  m = den y

  sign : sign_of y ≡ true
  sign = sign_is y true n m d.number

  positive : 0 < a
  positive = go a (le_trans (den_pos x) ge)
    where
      go : (z : ℕ) → 0 < 2 * z → 0 < z
      go z h = omega arith

  finite : Finite x y
  finite = record {
    positive = bits_pos x fx positive;
    finite = clear-bits x fx a b cx;
    number = finite_bits y fy true n m d.number;
  }

  pow-ge : (c e : ℕ) → PowGe x y c e → RatioGe true a b n m c e
  unfolding PowGe
  pow-ge c e h = subst (λ (s : Bool). RatioGe s a b n m c e) sign h

  pow-le : (c e : ℕ) → PowLe x y c e → RatioLe true a b n m c e
  unfolding PowLe
  pow-le c e h = subst (λ (s : Bool). RatioLe s a b n m c e) sign h

  ge-pow : (c e : ℕ) → RatioGe true a b n m c e → PowGe x y c e
  unfolding PowGe
  ge-pow c e h = subst (λ (s : Bool). RatioGe s a b n m c e) (sym sign) h

  le-pow : (c e : ℕ) → RatioLe true a b n m c e → PowLe x y c e
  unfolding PowLe
  le-pow c e h = subst (λ (s : Bool). RatioLe s a b n m c e) (sym sign) h

  within : Within (PowGe x y) (PowLe x y) 2 (pow_of x y)
  within =
      (powf_bound x y fx fy).near finite (ge-pow 1 (2 ^ 126) (reaches a b n m (2 ^ 126) d.most (pow_pos 126) le))
      (le-pow (2 ^ 127) 1 (passes a b n m (2 ^ 127) d.most (lit≤ tt) ge))

  abbrev u : ℕ
  u = within.near.units

  abbrev J : ℕ
  J = 2 ^ within.j

  high_is : RatioLe true a b n m (u + 2 * J) (2 ^ 149)
  high_is = pow-le (u + 2 * J) (2 ^ 149) within.near.high

  low-is : RatioGe true a b n m (u - 2 * J) (2 ^ 149)
  low-is = pow-ge (u - 2 * J) (2 ^ 149) within.near.low

  -- 2^23 steps are at most the power
  steps : RatioGe true a b n m (2 ^ 23 * J) (2 ^ 149)
  steps = go within.j within.step
    where
      go : (j : ℕ) → (j ≡ 0) ⊎ PowGe x y (2 ^ (23 + j)) (2 ^ 149) → RatioGe true a b n m (2 ^ 23 * 2 ^ j) (2 ^ 149)
      go j (inl i) =
          subst (λ (z : ℕ). RatioGe true a b n m (2 ^ 23 * 2 ^ z) (2 ^ 149)) (sym i)
          (ge_weaken n m a b 1 (2 ^ 126) (2 ^ 23) (2 ^ 149) (pow_pos 126) (lit≤ tt)
          (reaches a b n m (2 ^ 126) d.most (pow_pos 126) le))
      go j (inr i) =
          subst (λ (z : ℕ). RatioGe true a b n m z (2 ^ 149)) (pow-add 2 23 j) (pow-ge (2 ^ (23 + j)) (2 ^ 149) i)

  size : 2 ^ 23 * J ≤ u + 2 * J
  size =
      le_of_mul-le-mul_right {k = 2 ^ 149}
      (meet n m a b (2 ^ 23 * J) (2 ^ 149) (u + 2 * J) (2 ^ 149) (den_pos y) positive steps high_is) (pow_pos 149)

  abbrev p : Float
  p = pow_of x y

  is : num p * 2 ^ 149 ≡ u * den p
  is = fraction_is p false u (2 ^ 149) within.near.value

  -- the power is at most 2
  most_two : (u - 2 * J) * 1 ≤ 2 * 2 ^ 149
  most_two =
      meet n m a b (u - 2 * J) (2 ^ 149) 2 1 (den_pos y) positive low-is (passes a b n m 2 d.most (lit≤ tt) ge)

  three : num p ≤ 3 * den p
  three =
      le_of_mul-le-mul_right {k = 2 ^ 149} (at_most-three u J (num p) (den p) (2 ^ 149) is size most_two) (pow_pos 149)

  abbrev steps-around : Bool → Fraction
  steps-around false = record { top = u - 2 * J; bottom = 2 ^ 149; positive = pow_pos 149 }
  steps-around true = record { top = u + 2 * J; bottom = 2 ^ 149; positive = pow_pos 149 }

  near_steps : (s : Bool) → Toward s 5 (val p) (steps-around s)
  near_steps false = record {
    side = record {
      holds = low-five u J (den p) (num p) (2 ^ 149) ((2 ^ 24) ^ 4) ((2 ^ 24 + 1) ^ 5) is size (lit≤ tt);
    };
  }
  near_steps true = record {
    side = record {
      holds = high-five u J (den p) (num p) (2 ^ 149) ((2 ^ 24) ^ 4) ((2 ^ 24 + 1) ^ 5) is size (lit≤ tt);
    };
  }

  -- ---- of an exact base z that the computed one is within k roundings of
  module _ (k : ℕ) (z : Fraction) (near : (s : Bool) → Toward s k z (val x)) where
    abbrev lower : ℕ
    lower = (2 ^ 24) ^ k

    abbrev upper : ℕ
    upper = (2 ^ 24 + 1) ^ k

    lower_pos : 0 < lower
    lower_pos = one-le-pow k (2 ^ 24) (lit< tt)

    upper_pos : 0 < upper
    upper_pos = one-le-pow k (2 ^ 24 + 1) (lit< tt)

    lower-le : lower ≤ upper
    lower-le = pow-le-pow_left (lit≤ tt) k

    -- the steps, and k roundings more
    abbrev around : Bool → Fraction
    around false =
        record { top = (u - 2 * J) * lower; bottom = 2 ^ 149 * upper; positive = mul-pos (pow_pos 149) upper_pos }
    around true =
        record { top = (u + 2 * J) * upper; bottom = 2 ^ 149 * lower; positive = mul-pos (pow_pos 149) lower_pos }

    pub power_of_exact : IsPower (5 + k) z.top z.bottom n m p
    power_of_exact = record {
      clear = own p u (2 ^ 149) within.near.value;
      most = three;
      bracket = around;
      bound = bounds;
      near = nears;
    }
      where
        bounds : (s : Bool) → Bound s z.top z.bottom n m (around s)
        bounds false =
            ge-base n m d.most upper lower lower_pos lower-le z.top z.bottom a b (u - 2 * J) (2 ^ 149)
            (den_pos x) (near false).side.holds low-is
        bounds true =
            le-base n m d.most upper lower lower_pos lower-le z.top z.bottom a b (u + 2 * J) (2 ^ 149)
            (den_pos x) (near true).side.holds high_is

        down : (s : Bool) → Toward s k (steps-around s) (around s)
        down false = record { side = record { holds = same_down (u - 2 * J) (2 ^ 149) lower upper } }
        down true = record { side = record { holds = same_up (u + 2 * J) (2 ^ 149) lower upper } }

        nears : (s : Bool) → Toward s (5 + k) (val p) (around s)
        nears s = toward_trans (near_steps s) (down s)

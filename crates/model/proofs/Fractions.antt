-- Fractions, and how many roundings apart two of them are: a rounding to an f32 is a factor of at most 1 + 2^-24, up or
-- down, so k of them are one of at most (1 + 2^-24)^k. Sums, products and quotients keep such factors.
--     x ⊕ y, x ⊗ y, quotient x y, x ⊑ y   sum, product, quotient, order
--     AtMost k x y            x ≤ y (1 + 2^-24)^k
--     Toward s k x y          the same, or y ≤ x (1 + 2^-24)^k where s is set
--     toward_same, toward_refl            equal fractions
--     toward_trans, toward_exact          one after the other, and between equal fractions
--     toward_swap             the other way round
--     toward_add, toward_mul, toward_quotient     of sums, products, quotients
--     toward_raise            a larger number added on both sides
--     toward_rooms            two sums with the same number, added
use Rattle.std.proofs.Common.{◌≡◌, ℕ, ◌+◌, ◌-◌, ◌*◌, ◌^◌, ◌<◌, ◌≤◌, Bool, true, false, sym, refl, ap, subst, le_of_eq, add-zero, mul-le-mul_right, mul-le-mul, add_comm, mul-le-mul_left, mul-pos, zero-add, le_of_mul-le-mul_right, arith, lit≤, pow-add}
use native.Mathlib.Nat.{pow-le-pow_left}

pub record Fraction : Type 0 where
  pub top : ℕ
  pub bottom : ℕ
  pub positive : 0 < bottom

infixl 6 ◌⊕◌
infixl 7 ◌⊗◌
infix 4 ◌⊑◌
abbrev pub ◌⊕◌ : Fraction → Fraction → Fraction
x ⊕ y =
    record {
      top = x.top * y.bottom + y.top * x.bottom;
      bottom = x.bottom * y.bottom;
      positive = mul-pos x.positive y.positive;
    }

abbrev pub ◌⊗◌ : Fraction → Fraction → Fraction
x ⊗ y =
    record { top = x.top * y.top; bottom = x.bottom * y.bottom; positive = mul-pos x.positive y.positive }

-- x / y, for a y above 0
abbrev pub quotient : Fraction → (y : Fraction) → 0 < y.top → Fraction
quotient x y h =
    record { top = x.top * y.bottom; bottom = y.top * x.bottom; positive = mul-pos h x.positive }

-- x ≤ y
abbrev pub ◌⊑◌ : Fraction → Fraction → Type 0
x ⊑ y = x.top * y.bottom ≤ y.top * x.bottom

-- x ≤ y (1 + 2^-24)^k
pub record AtMost (k : ℕ) (x y : Fraction) : Type 0 where
  pub holds : x.top * y.bottom * (2 ^ 24) ^ k ≤ y.top * x.bottom * (2 ^ 24 + 1) ^ k

-- ---- none, more, and one after the other
pub at_most-le : {x y : Fraction} → (k : ℕ) → x ⊑ y → AtMost k x y
at_most-le {x} {y} k h = record { holds = mul-le-mul h (pow-le-pow_left (lit≤ tt) k) }

trans : (a b c d e f p q r s : ℕ) → 0 < d → a * d * p ≤ c * b * q → c * f * r ≤ e * d * s
    → a * f * (p * r) ≤ e * b * (q * s)
trans a b c d e f p q r s D h k =
    le_of_mul-le-mul_right {k = d} (omega (arith, mul-le-mul_right (f * r) h, mul-le-mul_right (b * q) k)) D

pub at_most_trans : {j k : ℕ} {x y z : Fraction} → AtMost j x y → AtMost k y z → AtMost (j + k) x z
at_most_trans {j} {k} {x} {y} {z} h g = record {
  holds =
      rw (pow-add (2 ^ 24) j k, pow-add (2 ^ 24 + 1) j k)
      (trans x.top x.bottom y.top y.bottom z.top z.bottom ((2 ^ 24) ^ j) ((2 ^ 24 + 1) ^ j)
      ((2 ^ 24) ^ k) ((2 ^ 24 + 1) ^ k) y.positive h.holds g.holds);
}

-- ---- sums, products, inverses
sums : (a b c d e f g h p q : ℕ) → a * d * p ≤ c * b * q → e * h * p ≤ g * f * q
    → (a * f + e * b) * (d * h) * p ≤ (c * h + g * d) * (b * f) * q
sums a b c d e f g h p q u v = omega (arith, mul-le-mul_right (f * h) u, mul-le-mul_right (b * d) v)

pub at_most-add : {k : ℕ} {x y z w : Fraction} → AtMost k x y → AtMost k z w → AtMost k (x ⊕ z) (y ⊕ w)
at_most-add {k} {x} {y} {z} {w} h g = record {
  holds =
      sums x.top x.bottom y.top y.bottom z.top z.bottom w.top w.bottom ((2 ^ 24) ^ k)
      ((2 ^ 24 + 1) ^ k) h.holds g.holds;
}

products : (a b c d e f g h p q r s : ℕ) → a * d * p ≤ c * b * q → e * h * r ≤ g * f * s
    → a * e * (d * h) * (p * r) ≤ c * g * (b * f) * (q * s)
products a b c d e f g h p q r s u v = omega (arith, mul-le-mul u v)

pub at_most-mul : {j k : ℕ} {x y z w : Fraction} → AtMost j x y → AtMost k z w → AtMost (j + k) (x ⊗ z) (y ⊗ w)
at_most-mul {j} {k} {x} {y} {z} {w} h g = record {
  holds =
      rw (pow-add (2 ^ 24) j k, pow-add (2 ^ 24 + 1) j k)
      (products x.top x.bottom y.top y.bottom z.top z.bottom w.top w.bottom ((2 ^ 24) ^ j)
      ((2 ^ 24 + 1) ^ j) ((2 ^ 24) ^ k) ((2 ^ 24 + 1) ^ k) h.holds g.holds);
}

quotients : (a b c d e f g h p q r s : ℕ) → a * d * p ≤ c * b * q → g * f * r ≤ e * h * s
    → a * f * (g * d) * (p * r) ≤ c * h * (e * b) * (q * s)
quotients a b c d e f g h p q r s u w = omega (arith, mul-le-mul u w)

pub at_most-quotient : {j k : ℕ} {x y z w : Fraction} (Z : 0 < z.top) (W : 0 < w.top) → AtMost j x y → AtMost k w z
    → AtMost (j + k) (quotient x z Z) (quotient y w W)
at_most-quotient {j} {k} {x} {y} {z} {w} Z W h g = record {
  holds =
      rw (pow-add (2 ^ 24) j k, pow-add (2 ^ 24 + 1) j k)
      (quotients x.top x.bottom y.top y.bottom z.top z.bottom w.top w.bottom ((2 ^ 24) ^ j)
      ((2 ^ 24 + 1) ^ j) ((2 ^ 24) ^ k) ((2 ^ 24 + 1) ^ k) h.holds g.holds);
}

-- ---- a number that is added on both sides makes the factor smaller
raised : (x y b d h w p q : ℕ) → p ≤ q → x * d * p ≤ y * b * q
    → (h * x + w * b) * (d * h) * p ≤ (h * y + w * d) * (b * h) * q
raised x y b d h w p q P u = omega (arith, mul-le-mul_left (h * h) u, mul-le-mul_left (w * b * d * h) P)

raise : (a b c d e f g h w p q : ℕ) → 0 < f → p ≤ q → g * f ≡ e * h + w
    → (a * f + e * b) * (d * f) * p ≤ (c * f + e * d) * (b * f) * q
    → (a * h + g * b) * (d * h) * p ≤ (c * h + g * d) * (b * h) * q
raise a b c d e f g h w p q F P W u =
    le_of_mul-le-mul_right {k = f}
    (go (a * h + g * b) (c * h + g * d) (h * (a * f + e * b) + w * b) (h * (c * f + e * d) + w * d) (left a b)
    (left c d)
    (raised (a * f + e * b) (c * f + e * d) b d h w p q P (le_of_mul-le-mul_right {k = f} (omega (arith, u)) F)))
    F
  where
    left : (x y : ℕ) → (x * h + g * y) * f ≡ h * (x * f + e * y) + w * y
    left x y = omega (arith, ap (λ (z : ℕ). z * y) W)

    go : (x y z v : ℕ) → x * f ≡ z → y * f ≡ v → z * (d * h) * p ≤ v * (b * h) * q
        → x * (d * h) * p * f ≤ y * (b * h) * q * f
    go x y z v i j k = omega (arith, ap (λ (n : ℕ). n * (d * h * p)) i, ap (λ (n : ℕ). n * (b * h * q)) j, k)

pub at_most_raise : {k : ℕ} (x y z w : Fraction) → z ⊑ w → AtMost k (x ⊕ z) (y ⊕ z) → AtMost k (x ⊕ w) (y ⊕ w)
at_most_raise {k} x y z w l h = record {
  holds =
      raise x.top x.bottom y.top y.bottom z.top z.bottom w.top w.bottom
      (w.top * z.bottom - z.top * w.bottom) ((2 ^ 24) ^ k) ((2 ^ 24 + 1) ^ k) z.positive
      (pow-le-pow_left (lit≤ tt) k) (go (w.top * z.bottom) (z.top * w.bottom) l) h.holds;
}
  where
    go : (u v : ℕ) → v ≤ u → u ≡ v + (u - v)
    go u v g = omega arith

-- ---- one side or the other: but for k roundings x is at most y, or y is at most x
abbrev pub Side : Bool → ℕ → Fraction → Fraction → Type 0
Side false k x y = AtMost k x y
Side true k x y = AtMost k y x

pub record Toward (s : Bool) (k : ℕ) (x y : Fraction) : Type 0 where
  pub side : Side s k x y

swapped : (j k : ℕ) {x y : Fraction} → AtMost (k + j) x y → AtMost (j + k) x y
swapped j k {x} {y} h = subst (λ (i : ℕ). AtMost i x y) (add_comm k j) h

pub toward_trans : {s : Bool} {j k : ℕ} {x y z : Fraction} → Toward s j x y → Toward s k y z → Toward s (j + k) x z
toward_trans {s = false} h g = record { side = at_most_trans h.side g.side }
toward_trans {s = true} {j} {k} h g = record { side = swapped j k (at_most_trans g.side h.side) }

pub toward_add : {s : Bool} {k : ℕ} {x y z w : Fraction} → Toward s k x y → Toward s k z w
    → Toward s k (x ⊕ z) (y ⊕ w)
toward_add {s = false} h g = record { side = at_most-add h.side g.side }
toward_add {s = true} h g = record { side = at_most-add h.side g.side }

pub toward_mul : {s : Bool} {j k : ℕ} {x y z w : Fraction} → Toward s j x y → Toward s k z w
    → Toward s (j + k) (x ⊗ z) (y ⊗ w)
toward_mul {s = false} h g = record { side = at_most-mul h.side g.side }
toward_mul {s = true} h g = record { side = at_most-mul h.side g.side }

pub toward_quotient : {s : Bool} {j k : ℕ} {x y z w : Fraction} (Z : 0 < z.top) (W : 0 < w.top) → Toward s j x y
    → Toward s k w z → Toward s (j + k) (quotient x z Z) (quotient y w W)
toward_quotient {s = false} Z W h g = record { side = at_most-quotient Z W h.side g.side }
toward_quotient {s = true} Z W h g = record { side = at_most-quotient W Z h.side g.side }

pub toward_raise : {s : Bool} {k : ℕ} (x y z w : Fraction) → z ⊑ w → Toward s k (x ⊕ z) (y ⊕ z)
    → Toward s k (x ⊕ w) (y ⊕ w)
toward_raise {s = false} x y z w l h = record { side = at_most_raise x y z w l h.side }
toward_raise {s = true} x y z w l h = record { side = at_most_raise y x z w l h.side }

pub toward_swap : {s : Bool} {k : ℕ} {x y : Fraction} → ((t : Bool) → Toward t k x y) → Toward s k y x
toward_swap {s = false} f = record { side = (f true).side }
toward_swap {s = true} f = record { side = (f false).side }

-- equal fractions
pub toward_same : (s : Bool) (k : ℕ) (x y : Fraction) → x.top * y.bottom ≡ y.top * x.bottom → Toward s k x y
toward_same false k x y h = record { side = at_most-le k (le_of_eq h) }
toward_same true k x y h = record { side = at_most-le k (le_of_eq (sym h)) }

pub toward_exact : {s : Bool} {k : ℕ} (x y z w : Fraction) → x.top * y.bottom ≡ y.top * x.bottom
    → z.top * w.bottom ≡ w.top * z.bottom → Toward s k y z → Toward s k x w
toward_exact {s} {k} x y z w h g i =
    subst (λ (j : ℕ). Toward s j x w) (add-zero k)
    (toward_trans {j = k} {k = 0}
    (subst (λ (j : ℕ). Toward s j x z) (zero-add k) (toward_trans {j = 0} {k = k} (toward_same s 0 x y h) i))
    (toward_same s 0 z w g))

pub toward_refl : (s : Bool) (k : ℕ) (x : Fraction) → Toward s k x x
toward_refl s k x = toward_same s k x x refl

-- ---- sums with room for what is lost below the normal numbers
-- (x + z) + (y + z) = (x + y) + (z + z)
rearranged : (a b c d e f : ℕ)
    → ((a * d + c * b) * (f * f) + (e * f + e * f) * (b * d)) * (b * f * (d * f))
    ≡ ((a * f + e * b) * (d * f) + (c * f + e * d) * (b * f)) * (b * d * (f * f))
rearranged a b c d e f = omega arith

pub toward_rooms : {s : Bool} {k : ℕ} (x x' y y' z : Fraction) → Toward s k (x ⊕ z) (x' ⊕ z)
    → Toward s k (y ⊕ z) (y' ⊕ z) → Toward s k (x ⊕ y ⊕ (z ⊕ z)) (x' ⊕ y' ⊕ (z ⊕ z))
toward_rooms {s} {k} x x' y y' z h g =
    toward_exact (x ⊕ y ⊕ (z ⊕ z)) ((x ⊕ z) ⊕ (y ⊕ z)) ((x' ⊕ z) ⊕ (y' ⊕ z)) (x' ⊕ y' ⊕ (z ⊕ z))
    (rearranged x.top x.bottom y.top y.bottom z.top z.bottom)
    (sym (rearranged x'.top x'.bottom y'.top y'.bottom z.top z.bottom)) (toward_add h g)

-- 1 + factor t / s, as f32 operations compute it, is within three roundings of its exact value.
--     exact f t s             the exact value
--     base_near f t s         the bound
--     base_fits, base-clear, base-least, base_most        a float from 1/2 to 2^126
use Rattle.std.proofs.Common.{◌≡◌, ℕ, ◌+◌, ◌*◌, ◌^◌, ◌<◌, ◌≤◌, Bool, true, false, T, sym, refl, le_trans, mul-le-mul_right, mul-le-mul, mul-le-mul_left, mul-pos, le_of_mul-le-mul_right, arith, lit<, lit≤, pow_pos}
use lib.Ieee.{Float, binary32, of_bits, of_fields, fits}
use lib.Ieee.Fits.{add-fits}
use lib.Ieee.Positive.{num, den, den_pos}
use Rattle.float32.specs.Ops.{◌+ᶠ◌, ◌*ᶠ◌, ◌/ᶠ◌}
use Rattle.float32.specs.Numbers.{1ᶠ}
use Rattle.model.specs.Model.{base}
use Rattle.model.specs.Accuracy.{Days, Stability, Factor, base_top, base_bottom}
use Rattle.model.proofs.Fractions.{Fraction, Toward, ◌⊕◌, ◌⊗◌, quotient, ◌⊑◌, toward_trans, toward_mul}
use Rattle.model.proofs.Fractions.{toward_raise, toward_same, toward_refl}
use Rattle.model.proofs.Rounding.{Clear, val, Rounded, smallest, sum-rounded, product-rounded, quotient-rounded}
use Rattle.model.proofs.Rounding.{rounded_most}

abbrev one : Fraction
one = record { top = 1; bottom = 1; positive = pow_pos 0 }

one-clear : Clear 1ᶠ
unfolding of_bits of_fields
one-clear = (refl, refl)

-- f (x + z) = f x + f z
spread : (a b c d e f : ℕ)
    → (a * c * (b * f) + a * e * (b * d)) * (b * (d * f)) ≡ a * (c * f + e * d) * (b * d * (b * f))
spread a b c d e f = omega arith

module _ (f t s : Float) (F : Factor f) (D : Days t) (S : Stability s) where
  pub some : 0 < num s
  some = go (num s) (le_trans (den_pos s) S.least)
    where
      go : (n : ℕ) → 0 < n * 10001 → 0 < n
      go n h = omega arith

  -- t / s
  abbrev exact1 : Fraction
  exact1 = quotient (val t) (val s) some

  exact1_most : exact1.top * 1 ≤ 200020000000 * exact1.bottom
  exact1_most = go (num t) (den t) (num s) (den s) D.most S.least
    where
      go : (n d m e : ℕ) → n ≤ 20000000 * d → e ≤ m * 10001 → n * e * 1 ≤ 200020000000 * (m * d)
      go n d m e h k = omega (arith, mul-le-mul h k)

  rounded1 : Rounded exact1 (t /ᶠ s)
  rounded1 =
      quotient-rounded t s D.number S.number some
      (le_trans exact1_most (mul-le-mul_right exact1.bottom (lit≤ tt)))

  abbrev x : Float
  x = t /ᶠ s

  x_most : num x ≤ 400040000000 * den x
  x_most = rounded_most exact1 x 200020000000 rounded1 (lit< tt) exact1_most

  -- f (t / s)
  abbrev exact2 : Fraction
  exact2 = val f ⊗ val x

  exact2_most : exact2.top * 1 ≤ 12 * 10 ^ 25 * 400040000000 * exact2.bottom
  exact2_most = go (num f) (den f) (num x) (den x) (12 * 10 ^ 25) 400040000000 F.most x_most
    where
      go : (n d m e g h : ℕ) → n ≤ g * d → m ≤ h * e → n * m * 1 ≤ g * h * (d * e)
      go n d m e g h i j = omega (arith, mul-le-mul i j)

  rounded2 : Rounded exact2 (f *ᶠ x)
  rounded2 =
      product-rounded f x F.number rounded1.clear
      (le_trans exact2_most (mul-le-mul_right exact2.bottom (lit≤ tt)))

  abbrev y : Float
  y = f *ᶠ x

  y_most : num y ≤ 2 * (12 * 10 ^ 25 * 400040000000) * den y
  y_most = rounded_most exact2 y (12 * 10 ^ 25 * 400040000000) rounded2 (lit< tt) exact2_most

  -- 1 + f (t / s)
  rounded3 : Rounded (val 1ᶠ ⊕ val y) (1ᶠ +ᶠ y)
  unfolding of_bits of_fields
  rounded3 =
      sum-rounded 1ᶠ y one-clear rounded2.clear
      (go (num y) (den y) (2 * (12 * 10 ^ 25 * 400040000000)) (2 ^ 127) (den_pos y) y_most (lit≤ tt))
    where
      go : (n d g h : ℕ) → 0 < d → n ≤ g * d → g + 1 ≤ h → (1 * d + n * 1) * 1 ≤ h * (1 * d)
      go n d g h P i j = omega (arith, i, mul-le-mul_right d j)

  -- what f makes at most 1
  abbrev tiny : Fraction
  tiny = record { top = 1; bottom = 12 * 10 ^ 25; positive = lit< tt }

  tiny_most : (val f ⊗ tiny) ⊑ one
  tiny_most = go (num f) (den f) (12 * 10 ^ 25) F.most
    where
      go : (n d g : ℕ) → n ≤ g * d → n * 1 * 1 ≤ 1 * (d * g)
      go n d g h = omega (arith, h)

  -- f times t / s, rounded or not, and 1
  quotient_near : (b : Bool) → Toward b 1 (val f ⊗ val x ⊕ one) (val f ⊗ exact1 ⊕ one)
  quotient_near b =
      toward_raise (val f ⊗ val x) (val f ⊗ exact1) (val f ⊗ tiny) one tiny_most
      (toward_trans (toward_same b 0 (val f ⊗ val x ⊕ val f ⊗ tiny) (val f ⊗ (val x ⊕ tiny))
      (spread (num f) (den f) (num x) (den x) 1 (12 * 10 ^ 25)))
      (toward_trans
      (toward_mul (toward_refl b 0 (val f)) (toward_raise (val x) exact1 smallest tiny (lit≤ tt) (rounded1.any b)))
      (toward_same b 0 (val f ⊗ (exact1 ⊕ tiny)) (val f ⊗ exact1 ⊕ val f ⊗ tiny)
      (sym (spread (num f) (den f) exact1.top exact1.bottom 1 (12 * 10 ^ 25))))))

  product_near : (b : Bool) → Toward b 1 (val y ⊕ one) (val f ⊗ val x ⊕ one)
  product_near b = toward_raise (val y) exact2 smallest one (lit≤ tt) (rounded2.any b)

  sum_near : (b : Bool) → Toward b 1 (val (1ᶠ +ᶠ y)) (val y ⊕ one)
  unfolding of_bits of_fields
  sum_near b =
      toward_trans (rounded3.normal (go (num y) (den y) (2 ^ 126) (den_pos y) (pow_pos 126)) b)
      (toward_same b 0 (val 1ᶠ ⊕ val y) (val y ⊕ one) (swap (num y) (den y)))
    where
      go : (n d h : ℕ) → 0 < d → 0 < h → 1 * (1 * d) ≤ (1 * d + n * 1) * h
      go n d h P H = omega (arith, mul-le-mul_left d H, mul-le-mul_left n H)

      swap : (n d : ℕ) → (1 * d + n * 1) * (d * 1) ≡ (n * 1 + 1 * d) * (1 * d)
      swap n d = omega arith

  -- the exact base
  abbrev pub exact : Fraction
  exact =
      record {
        top = base_top f t s;
        bottom = base_bottom f t s;
        positive = mul-pos (den_pos f) (mul-pos some (den_pos t));
      }

  exact_is : (b : Bool) → Toward b 0 (val f ⊗ exact1 ⊕ one) exact
  exact_is b = toward_same b 0 (val f ⊗ exact1 ⊕ one) exact (go (num f * (num t * den s)) (den f * (num s * den t)))
    where
      go : (n d : ℕ) → (n * 1 + 1 * d) * d ≡ (d + n) * (d * 1)
      go n d = omega arith

  pub base_near : (b : Bool) → Toward b 3 (val (base f t s)) exact
  unfolding base
  base_near b = toward_trans (sum_near b) (toward_trans (product_near b) (toward_trans (quotient_near b) (exact_is b)))

  pub base_fits : T (fits binary32 (base f t s))
  unfolding base
  base_fits = add-fits binary32 1ᶠ y

  pub base-clear : Clear (base f t s)
  unfolding base
  base-clear = rounded3.clear

  pub base-least : den (base f t s) ≤ 2 * num (base f t s)
  base-least =
      go (num (base f t s)) (den (base f t s)) (base_top f t s) (base_bottom f t s) ((2 ^ 24) ^ 3) ((2 ^ 24 + 1) ^ 3)
      exact.positive (lit< tt) (more (base_bottom f t s) (num f * (num t * den s))) (lit≤ tt)
      (base_near true).side.holds
    where
      more : (d n : ℕ) → d ≤ d + n
      more d n = omega arith

      go : (n d a c p q : ℕ) → 0 < c → 0 < p → c ≤ a → q ≤ 2 * p → a * d * p ≤ n * c * q → d ≤ 2 * n
      go n d a c p q C P l g h =
          le_of_mul-le-mul_right {k = c * p} (omega (arith, h, mul-le-mul_left (n * c) g, mul-le-mul_left (d * p) l))
          (mul-pos C P)

  pub base_most : num (base f t s) ≤ 2 ^ 126 * den (base f t s)
  base_most =
      le_trans
      (go (num (base f t s)) (den (base f t s)) (num f) (den f) exact1.top exact1.bottom (12 * 10 ^ 25)
      200020000000 ((2 ^ 24) ^ 3) ((2 ^ 24 + 1) ^ 3) exact.positive (lit< tt) F.most exact1_most (lit≤ tt)
      (base_near false).side.holds)
      (mul-le-mul_right (den (base f t s)) (lit≤ tt))
    where
      go : (n d a b e g i j p q : ℕ) → 0 < b * g → 0 < p → a ≤ i * b → e * 1 ≤ j * g → q ≤ 2 * p
          → n * (b * g) * p ≤ (b * g + a * e) * d * q → n ≤ 2 * (1 + i * j) * d
      go n d a b e g i j p q C P u v w h =
          le_of_mul-le-mul_right {k = b * g * p}
          (omega (arith, h, mul-le-mul_left ((b * g + a * e) * d) w, mul-le-mul_left (2 * d * p) (mul-le-mul u v)))
          (mul-pos C P)

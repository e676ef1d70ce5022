-- The weighted mean of two powers, squeezed, as f32 operations compute it: within so many roundings of the exact one.
-- What is lost below the normal numbers is lost in the 0.00001 that the squeeze adds: 0.99998 m + 0.00001 is
-- 0.99998 (m + 1 / 99998), and each sum has its part of the 1 / 99998 added on both sides.
--     Terms w1 w2 p1 p2 total     what is asked of the weights, the powers and the sum of the weights
--     sum, sum_pos            the exact sum of the weights
--     ratio, exact_inner       1 / 99998 and 0.99998
--     squeezed-clear, squeezed_near       the result is a number from 0; the bound, from that of the powers
use Rattle.std.proofs.Common.{◌≡◌, ℕ, zero, suc, ◌+◌, ◌*◌, ◌^◌, ◌<◌, ◌≤◌, Bool, true, false, sym, refl, subst, le_trans, le_of_eq, add-zero, mul-le-mul_right, mul-le-mul, mul-le-mul_left, mul-pos, one-mul, zero-add, zero-mul, mul-one, le_of_mul-le-mul_right, arith, lit<, lit≤}
use lib.Ieee.{Float, of_bits, of_fields, round, sub}
use lib.Ieee.Positive.{num, den, den_pos}
use Rattle.float32.specs.Ops.{◌+ᶠ◌, ◌*ᶠ◌, ◌/ᶠ◌}
use Rattle.model.specs.Constants.{inner, edge}
use Rattle.model.specs.Model.{squeezed}
use Rattle.model.proofs.Fractions.{Fraction, Toward, ◌⊕◌, ◌⊗◌, quotient, ◌⊑◌, toward_trans, toward_add}
use Rattle.model.proofs.Fractions.{toward_mul, toward_quotient, toward_raise, toward_rooms, toward_exact}
use Rattle.model.proofs.Fractions.{toward_swap, toward_same, toward_refl}
use Rattle.model.proofs.Rounding.{Clear, val, Rounded, smallest, sum-rounded, product-rounded, quotient-rounded}
use Rattle.model.proofs.Rounding.{fused-rounded, rounded_most}

-- 1 / 99998, and half of it
abbrev pub ratio : Fraction
ratio = record { top = 1; bottom = 99998; positive = lit< tt }

abbrev half : Fraction
half = record { top = 1; bottom = 199996; positive = lit< tt }

-- y / t + 1 / 99998 = (y + t / 99998) / t, the second in two halves
divided : (a b c d : ℕ)
    → (a * d * 99998 + 1 * (c * b)) * (c * (b * (d * 199996 * (d * 199996))))
    ≡ (a * (d * 199996 * (d * 199996)) + (c * 1 * (d * 199996) + c * 1 * (d * 199996)) * b) * d * (c * b * 99998)
divided a b c d = omega arith

pub toward_divided : {s : Bool} {k : ℕ} (x y t : Fraction) (P : 0 < t.top)
    → Toward s k (x ⊕ (t ⊗ half ⊕ t ⊗ half)) (y ⊕ (t ⊗ half ⊕ t ⊗ half))
    → Toward s k (quotient x t P ⊕ ratio) (quotient y t P ⊕ ratio)
toward_divided {s} {k} x y t P h =
    toward_exact (quotient x t P ⊕ ratio) (quotient (x ⊕ (t ⊗ half ⊕ t ⊗ half)) t P)
    (quotient (y ⊕ (t ⊗ half ⊕ t ⊗ half)) t P) (quotient y t P ⊕ ratio)
    (divided x.top x.bottom t.top t.bottom) (sym (divided y.top y.bottom t.top t.bottom))
    (over h)
  where
    over : {z w : Fraction} → Toward s k z w → Toward s k (quotient z t P) (quotient w t P)
    over {z} {w} i =
        subst (λ (j : ℕ). Toward s j (quotient z t P) (quotient w t P)) (add-zero k)
        (toward_quotient P P i (toward_refl s 0 t))

-- w ≤ 2^100 where a sum with it is; three times that, and the sum of two such
part_most : (a b c d g : ℕ) → 0 < d → a * d + c * b ≤ g * (b * d) → a ≤ g * b
part_most a b c d g D h = le_of_mul-le-mul_right {k = d} (omega (arith, h)) D

tripled : (a b c d g : ℕ) → a ≤ g * b → c ≤ 3 * d → a * c * 1 ≤ 3 * g * (b * d)
tripled a b c d g h k = omega (arith, mul-le-mul h k)

both : (a b c d g : ℕ) → a ≤ g * b → c ≤ g * d → (a * d + c * b) * 1 ≤ 2 * g * (b * d)
both a b c d g h k = omega (arith, mul-le-mul_right d h, mul-le-mul_right b k)

-- y / t + 1 / 99998 is at most twice z + 1 / 99998, and z at most 3
seven : (a b c d p q : ℕ) → 0 < d → 0 < p → q ≤ 2 * p → c ≤ 3 * d
    → (a * 99998 + 1 * b) * (d * 99998) * p ≤ (c * 99998 + 1 * d) * (b * 99998) * q → a * 1 ≤ 7 * b
seven a b c d p q D P l h g =
    last (le_of_mul-le-mul_right {k = d * p}
    (omega (arith, g, mul-le-mul_left ((c * 99998 + d) * b) l, mul-le-mul_left (b * p) h)) (mul-pos D P))
  where
    last : a * 99998 + b ≤ 2 * (3 * 99998 + 1) * b → a * 1 ≤ 7 * b
    last i = omega arith

-- two products with a factor of at most 3 are at most three times the sum of the others
products_most : (a b c d e f g h : ℕ) → e ≤ 3 * f → g ≤ 3 * h
    → (a * e * (d * h) + c * g * (b * f)) * (b * d) ≤ 3 * ((a * d + c * b) * (b * f * (d * h)))
products_most a b c d e f g h i j =
    omega (arith, mul-le-mul_left (a * d * h * b * d) i, mul-le-mul_left (c * b * f * b * d) j)

-- ---- the numbers of the squeeze
-- 0.99998 and 0.00001
abbrev pub exact_inner : Fraction
exact_inner = record { top = 99998; bottom = 100000; positive = lit< tt }

abbrev exact_edge : Fraction
exact_edge = record { top = 1; bottom = 100000; positive = lit< tt }

inner-clear : Clear inner
unfolding of_bits of_fields round sub
inner-clear = (refl, refl)

edge-clear : Clear edge
unfolding round
edge-clear = (refl, refl)

inner_most : num inner ≤ den inner
unfolding of_bits of_fields round sub
inner_most = lit≤ tt

edge_most : num edge ≤ den edge
unfolding round
edge_most = lit≤ tt

edge-least : den edge ≤ num edge * 2 ^ 126
unfolding round
edge-least = lit≤ tt

inner_near : (b : Bool) → Toward b 1 (val inner) exact_inner
unfolding of_bits of_fields round sub
inner_near false = record { side = record { holds = lit≤ tt } }
inner_near true = record { side = record { holds = lit≤ tt } }

edge_near : (b : Bool) → Toward b 1 (val edge) exact_edge
unfolding round
edge_near false = record { side = record { holds = lit≤ tt } }
edge_near true = record { side = record { holds = lit≤ tt } }

-- 0.99998 q + 0.00001 = 0.99998 (q + 1 / 99998)
squeezes : (n d : ℕ) → (n * 99998 * 100000 + 1 * (d * 100000)) * (100000 * (d * 99998))
    ≡ 99998 * (n * 99998 + 1 * d) * (d * 100000 * 100000)
squeezes n d = omega arith

fifteen : (a b c d e f : ℕ) → a ≤ 14 * b → c ≤ d → e ≤ f → (a * c * f + e * (b * d)) * 1 ≤ 15 * (b * d * f)
fifteen a b c d e f h i j = omega (arith, mul-le-mul_right f (mul-le-mul h i), mul-le-mul_right (b * d) j)

normal-sum : (a b c d h : ℕ) → d ≤ c * h → 1 * (b * d) ≤ (a * d + c * b) * h
normal-sum a b c d h i = omega (arith, mul-le-mul_left b i)

other : (x y b d g : ℕ) → x + y ≤ g * (b * d) → y + x ≤ g * (d * b)
other x y b d g h = omega (arith, h)

module _ (w p : Float) (W : Clear w) (P : Clear p) (w-most : num w ≤ 2 ^ 100 * den w) (p-most : num p ≤ 3 * den p) where
  term_le : num w * num p * 1 ≤ 3 * 2 ^ 100 * (den w * den p)
  term_le = tripled (num w) (den w) (num p) (den p) (2 ^ 100) w-most p-most

  term_rounded : Rounded (val w ⊗ val p) (w *ᶠ p)
  term_rounded = product-rounded w p W P (le_trans term_le (mul-le-mul_right (den w * den p) (lit≤ tt)))

  term_most : num (w *ᶠ p) ≤ 2 * (3 * 2 ^ 100) * den (w *ᶠ p)
  term_most = rounded_most (val w ⊗ val p) (w *ᶠ p) (3 * 2 ^ 100) term_rounded (lit< tt) term_le

term_near : (b : Bool) (k : ℕ) (w p : Float) (q z : Fraction) → smallest ⊑ z
    → Toward b 1 (val (w *ᶠ p) ⊕ smallest) (val w ⊗ val p ⊕ smallest) → Toward b k (val p) q
    → Toward b (1 + k) (val (w *ᶠ p) ⊕ z) (val w ⊗ q ⊕ z)
term_near b k w p q z l h g =
    toward_trans (toward_raise (val (w *ᶠ p)) (val w ⊗ val p) smallest z l h)
    (toward_add (subst (λ (j : ℕ). Toward b j (val w ⊗ val p) (val w ⊗ q)) (zero-add k)
    (toward_mul (toward_refl b 0 (val w)) g)) (toward_refl b k z))

-- what is asked of the weights, the powers and the sum of the weights
pub record Terms (w1 w2 p1 p2 total : Float) : Type 0 where
  pub weight1 : Clear w1
  pub weight2 : Clear w2
  pub power1 : Clear p1
  pub power2 : Clear p2
  pub power1_most : num p1 ≤ 3 * den p1
  pub power2_most : num p2 ≤ 3 * den p2
  pub sum_least : den w1 * den w2 ≤ (num w1 * den w2 + num w2 * den w1) * 2 ^ 100
  pub sum_most : num w1 * den w2 + num w2 * den w1 ≤ 2 ^ 100 * (den w1 * den w2)
  pub total_is : total ≡ w1 +ᶠ w2

module _ {w1 w2 p1 p2 total : Float} (g : Terms w1 w2 p1 p2 total) where
  -- ---- the sum of the weights
  abbrev pub sum : Fraction
  sum = val w1 ⊕ val w2

  pub sum_pos : 0 < sum.top
  sum_pos = go sum.top sum.bottom (2 ^ 100) sum.positive g.sum_least
    where
      go : (n d g : ℕ) → 0 < d → d ≤ n * g → 0 < n
      go zero d g D h = absurd (none d g D (subst (λ (z : ℕ). d ≤ z) (zero-mul g) h))
        where
          none : (d g : ℕ) → 0 < d → d ≤ 0 → ⊥
          none d g D h = omega arith
      go (suc n) d g D h = omega arith

  total-rounded : Rounded sum total
  total-rounded =
      subst (Rounded sum) (sym g.total_is)
      (sum-rounded w1 w2 g.weight1 g.weight2 (le_trans (le_of_eq (mul-one sum.top))
      (le_trans g.sum_most (mul-le-mul_right sum.bottom (lit≤ tt)))))

  total_near : (b : Bool) → Toward b 1 (val total) sum
  total_near b =
      total-rounded.normal
      (le_trans (le_of_eq (one-mul sum.bottom)) (le_trans g.sum_least (mul-le-mul_left sum.top (lit≤ tt)))) b

  total_pos : 0 < num total
  total_pos = go (num total) (den total) sum.top sum.bottom (den_pos total) sum_pos (total_near true).side.holds
    where
      go : (n d a c : ℕ) → 0 < d → 0 < a → a * d * 2 ^ 24 ≤ n * c * (2 ^ 24 + 1) → 0 < n
      go zero d a c D A h = absurd (none (a * d) c (mul-pos A D) h)
        where
          none : (z c : ℕ) → 0 < z → z * 2 ^ 24 ≤ 0 * c * (2 ^ 24 + 1) → ⊥
          none z c Z h = omega arith
      go (suc n) d a c D A h = omega arith

  -- ---- the weighted powers, with the room of a half ratio of the sum
  abbrev room : Fraction
  room = sum ⊗ half

  room-least : smallest ⊑ room
  room-least = go sum.top sum.bottom (2 ^ 100) (2 ^ 126) g.sum_least (lit≤ tt)
    where
      go : (n d g h : ℕ) → d ≤ n * g → g * 199996 ≤ h → 1 * (d * 199996) ≤ n * 1 * h
      go n d g h i j = omega (arith, i, mul-le-mul_left n j)

  rooms_least : smallest ⊑ room ⊕ room
  rooms_least = go room.top room.bottom (2 ^ 126) room.positive room-least
    where
      go : (n d h : ℕ) → 0 < d → 1 * d ≤ n * h → 1 * (d * d) ≤ (n * d + n * d) * h
      go n d h D i = omega (arith, mul-le-mul_right d i)

  abbrev a1 : Float
  a1 = w1 *ᶠ p1

  abbrev a2 : Float
  a2 = w2 *ᶠ p2

  w1_most : num w1 ≤ 2 ^ 100 * den w1
  w1_most = part_most (num w1) (den w1) (num w2) (den w2) (2 ^ 100) (den_pos w2) g.sum_most

  w2_most : num w2 ≤ 2 ^ 100 * den w2
  w2_most =
      part_most (num w2) (den w2) (num w1) (den w1) (2 ^ 100) (den_pos w1)
      (other (num w1 * den w2) (num w2 * den w1) (den w1) (den w2) (2 ^ 100) g.sum_most)

  term1 : Rounded (val w1 ⊗ val p1) a1
  term1 = term_rounded w1 p1 g.weight1 g.power1 w1_most g.power1_most

  term2 : Rounded (val w2 ⊗ val p2) a2
  term2 = term_rounded w2 p2 g.weight2 g.power2 w2_most g.power2_most

  abbrev y : Float
  y = a1 +ᶠ a2

  y-rounded : Rounded (val a1 ⊕ val a2) y
  y-rounded =
      sum-rounded a1 a2 term1.clear term2.clear
      (le_trans
      (both (num a1) (den a1) (num a2) (den a2) (2 * (3 * 2 ^ 100))
      (term_most w1 p1 g.weight1 g.power1 w1_most g.power1_most)
      (term_most w2 p2 g.weight2 g.power2 w2_most g.power2_most))
      (mul-le-mul_right (den a1 * den a2) (lit≤ tt)))

  -- y is near the sum of weighted fractions q1, q2, if the powers are near these
  module _ (b : Bool) (k : ℕ) (q1 q2 : Fraction) (N1 : Toward b k (val p1) q1) (N2 : Toward b k (val p2) q2) where
    abbrev products : Fraction
    products = val w1 ⊗ q1 ⊕ val w2 ⊗ q2

    near1 : Toward b (1 + k) (val a1 ⊕ room) (val w1 ⊗ q1 ⊕ room)
    near1 = term_near b k w1 p1 q1 room room-least (term1.any b) N1

    near2 : Toward b (1 + k) (val a2 ⊕ room) (val w2 ⊗ q2 ⊕ room)
    near2 = term_near b k w2 p2 q2 room room-least (term2.any b) N2

    y_near : Toward b (1 + (1 + k)) (val y ⊕ (room ⊕ room)) (products ⊕ (room ⊕ room))
    y_near =
        toward_trans (toward_raise (val y) (val a1 ⊕ val a2) smallest (room ⊕ room) rooms_least (y-rounded.any b))
        (toward_rooms (val a1) (val w1 ⊗ q1) (val a2) (val w2 ⊗ q2) room near1 near2)

    -- over the sum as it is rounded
    mean_near : Toward b (1 + (1 + (1 + k))) (quotient (val y) (val total) total_pos ⊕ ratio)
        (quotient products sum sum_pos ⊕ ratio)
    mean_near =
        toward_trans
        (toward_add (toward_quotient total_pos sum_pos (toward_refl b 0 (val y)) (toward_swap total_near))
        (toward_refl b 1 ratio))
        (toward_divided (val y) products sum sum_pos y_near)

  -- ---- the mean
  abbrev mean : Fraction
  mean = quotient (val y) (val total) total_pos

  abbrev products_of : Fraction
  products_of = val w1 ⊗ val p1 ⊕ val w2 ⊗ val p2

  mean_most : mean.top * 1 ≤ 7 * mean.bottom
  mean_most =
      seven mean.top mean.bottom (products_of.top * sum.bottom) (sum.top * products_of.bottom) ((2 ^ 24) ^ 3)
      ((2 ^ 24 + 1) ^ 3) (mul-pos sum_pos products_of.positive) (lit< tt) (lit≤ tt)
      (products_most (num w1) (den w1) (num w2) (den w2) (num p1) (den p1) (num p2) (den p2) g.power1_most
      g.power2_most)
      (mean_near false 0 (val p1) (val p2) (toward_refl false 0 (val p1)) (toward_refl false 0 (val p2))).side.holds

  abbrev q : Float
  q = y /ᶠ total

  q-rounded : Rounded mean q
  q-rounded =
      quotient-rounded y total y-rounded.clear total-rounded.clear total_pos
      (le_trans mean_most (mul-le-mul_right mean.bottom (lit≤ tt)))

  q_most : num q ≤ 14 * den q
  q_most = rounded_most mean q 7 q-rounded (lit< tt) mean_most

  q_near : (b : Bool) (k : ℕ) (q1 q2 : Fraction) → Toward b k (val p1) q1 → Toward b k (val p2) q2
      → Toward b (1 + (1 + (1 + (1 + k)))) (val q ⊕ ratio) (quotient (val w1 ⊗ q1 ⊕ val w2 ⊗ q2) sum sum_pos ⊕ ratio)
  q_near b k q1 q2 N1 N2 =
      toward_trans (toward_raise (val q) mean smallest ratio (lit≤ tt) (q-rounded.any b)) (mean_near b k q1 q2 N1 N2)

  -- ---- squeezed
  r-rounded : Rounded (val q ⊗ val inner ⊕ val edge) (squeezed q)
  unfolding squeezed
  r-rounded =
      fused-rounded q inner edge q-rounded.clear inner-clear edge-clear
      (le_trans (fifteen (num q) (den q) (num inner) (den inner) (num edge) (den edge) q_most inner_most edge_most)
      (mul-le-mul_right (den q * den inner * den edge) (lit≤ tt)))

  pub squeezed-clear : Clear (squeezed q)
  squeezed-clear = r-rounded.clear

  pub squeezed_near : (b : Bool) (k : ℕ) (q1 q2 : Fraction) → Toward b k (val p1) q1 → Toward b k (val p2) q2
      → Toward b (1 + (1 + (0 + (0 + (1 + (1 + (1 + (1 + k)))))))) (val (squeezed q))
      (exact_inner ⊗ (quotient (val w1 ⊗ q1 ⊕ val w2 ⊗ q2) sum sum_pos ⊕ ratio))
  squeezed_near b k q1 q2 N1 N2 =
      toward_trans
      (r-rounded.normal
      (normal-sum (num q * num inner) (den q * den inner) (num edge) (den edge) (2 ^ 126) edge-least) b)
      (toward_trans (toward_add (toward_mul (toward_refl b 0 (val q)) (inner_near b)) (edge_near b))
      (toward_trans
      (toward_same b 0 (val q ⊗ exact_inner ⊕ exact_edge) (exact_inner ⊗ (val q ⊕ ratio)) (squeezes (num q) (den q)))
      (toward_mul (toward_refl b 0 exact_inner) (q_near b k q1 q2 N1 N2))))

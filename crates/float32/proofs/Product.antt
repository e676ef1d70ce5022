-- `mul_add` of three finite floats from the fields of their bit patterns.
--   product_lt            a product of two significands has at most 48 digits
--   left, right           the two terms of the sum, over 2 ^ 1074
--   fma_is                of finite floats: `mul_add` is the sum of these
use Rattle.std.proofs.Common.{◌≡◌, ℕ, ◌+◌, ◌*◌, ◌^◌, ◌<◌, Bool, sym, ap, ◌∙◌, lt_of_le_of_lt, le_of_lt, mul_assoc, mul_comm, mul-le-mul_left, mul-lt-mul_of_pos_right, mul-pos, mul_left_comm, lit<, pow_pos, pow-add}
use lib.Ieee.{Float, nan, inf, fin, binary32, up, down, unlike, sum}
use lib.Ieee.Fits.{down_pos}
use lib.Ieee.Exact.{HasValue}
use Rattle.float32.specs.Float32.{mul_add}
use Rattle.float32.proofs.Sums.{sum_same}

pub product_lt : (a b : ℕ) → a < 2 ^ 24 → b < 2 ^ 24 → a * b < 2 ^ 48
product_lt a b h k = lt_of_le_of_lt (mul-le-mul_left a (le_of_lt k)) (mul-lt-mul_of_pos_right h (lit< tt))

apart : (M N G P Q : ℕ) → M * N * G * (P * P * Q) ≡ M * P * (N * P) * (G * Q)
apart M N G P Q = simp (mul_assoc, mul_comm, mul_left_comm)

together : (a X E b Y D G Q : ℕ) → a * X * E * (b * Y * D) * (G * Q) ≡ a * b * (X * Y * Q) * (E * D * G)
together a X E b Y D G Q = simp (mul_assoc, mul_comm, mul_left_comm)

apart' : (K F P Q : ℕ) → K * F * (P * Q) ≡ K * P * (F * Q)
apart' K F P Q = simp (mul_assoc, mul_comm, mul_left_comm)

together' : (c Z G F Q : ℕ) → c * Z * G * (F * Q) ≡ c * (Z * Q) * (F * G)
together' c Z G F Q = simp (mul_assoc, mul_comm, mul_left_comm)

module _ (M N K E D G a b c i j k : ℕ) (p : M * 2 ^ 149 ≡ a * 2 ^ i * E) (q : N * 2 ^ 149 ≡ b * 2 ^ j * D)
    (r : K * 2 ^ 149 ≡ c * 2 ^ k * G) where
  pub left : a * b * 2 ^ (i + j + 776) * (E * D * G) ≡ M * N * G * 2 ^ 1074
  left =
      sym (apart M N G (2 ^ 149) (2 ^ 776)
      ∙ ap (λ (z : ℕ). z * (N * 2 ^ 149) * (G * 2 ^ 776)) p
      ∙ ap (λ (z : ℕ). a * 2 ^ i * E * z * (G * 2 ^ 776)) q
      ∙ together a (2 ^ i) E b (2 ^ j) D G (2 ^ 776)
      ∙ ap (λ (z : ℕ). a * b * z * (E * D * G)) (ap (λ (z : ℕ). z * 2 ^ 776) (sym (pow-add 2 i j))
      ∙ sym (pow-add 2 (i + j) 776)))

  pub right : c * 2 ^ (k + 925) * (E * D * G) ≡ K * (E * D) * 2 ^ 1074
  right =
      sym (apart' K (E * D) (2 ^ 149) (2 ^ 925)
      ∙ ap (λ (z : ℕ). z * (E * D * 2 ^ 925)) r
      ∙ together' c (2 ^ k) G (E * D) (2 ^ 925)
      ∙ ap (λ (z : ℕ). c * z * (E * D * G)) (sym (pow-add 2 k 925)))

pub fma_is : (x y z : Float) (s t u : Bool) (a b c i j k : ℕ) → HasValue x s (a * 2 ^ i) (2 ^ 149)
    → HasValue y t (b * 2 ^ j) (2 ^ 149) → HasValue z u (c * 2 ^ k) (2 ^ 149)
    → sum binary32 (unlike s t) (a * b * 2 ^ (i + j + 776)) u (c * 2 ^ (k + 925)) (2 ^ 1074) ≡ mul_add x y z
unfolding mul_add
fma_is nan y z s t u a b c i j k p q r = absurd p
fma_is (inf s') y z s t u a b c i j k p q r = absurd p
fma_is (fin s' m e) nan z s t u a b c i j k p q r = absurd q
fma_is (fin s' m e) (inf t') z s t u a b c i j k p q r = absurd q
fma_is (fin s' m e) (fin t' n d) nan s t u a b c i j k p q r = absurd r
fma_is (fin s' m e) (fin t' n d) (inf u') s t u a b c i j k p q r = absurd r
fma_is (fin s' m e) (fin t' n d) (fin u' h g) s t u a b c i j k p q r =
    let A = a * b * 2 ^ (i + j + 776) in
    let B = c * 2 ^ (k + 925) in
    ap (λ (w : Bool). sum binary32 (unlike w t) A u B (2 ^ 1074)) (sym p.0)
    ∙ ap (λ (w : Bool). sum binary32 (unlike s' w) A u B (2 ^ 1074)) (sym q.0)
    ∙ ap (λ (w : Bool). sum binary32 (unlike s' t') A w B (2 ^ 1074)) (sym r.0)
    ∙ sum_same binary32 (unlike s' t') A u' B (2 ^ 1074) (m * up e * (n * up d) * down g) (h * up g * (down e * down d))
    (down e * down d * down g)
    (pow_pos 1074) (mul-pos (mul-pos (down_pos e) (down_pos d)) (down_pos g))
    (left (m * up e) (n * up d) (h * up g) (down e) (down d) (down g) a b c i j k p.1 q.1 r.1)
    (right (m * up e) (n * up d) (h * up g) (down e) (down d) (down g) a b c i j k p.1 q.1 r.1)

-- ---- where one is not finite

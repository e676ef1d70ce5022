-- From bounds of log2 x to bounds of x^y: x = a / b, |y| = n / m. With x 2^h at least 2^(l / r) and a product of
-- exponents in order, what is below 2^(u / q) / 2^g is below x^y; the exponents are only compared, never taken.
use Rattle.std.proofs.Common.{◌≡◌, ℕ, ◌+◌, ◌*◌, ◌^◌, ◌<◌, ◌≤◌, subst, le_trans, le_of_eq, mul-le-mul_right, mul_comm, mul-le-mul, arith, pow_pos, pow_mono, pow-add}
use native.Mathlib.Nat.{le_of_mul-le-mul_left}
use native.Mathlib.Nat.{pow-le-pow_left}
use Rattle.series.proofs.Cuts.{mul-pow}
use Rattle.series.proofs.Two.{TwoLe, TwoGe, pow-pow, root}

module _ (h g r q n m a b c d l u k : ℕ) (Q : 0 < q) (eq : k * r ≡ q * n) where
  -- (x^p y^o)^q
  both : (x y : ℕ) → (x ^ m * y ^ n) ^ q ≡ x ^ (q * m) * y ^ (q * n)
  both x y = rw (mul-pow (x ^ m) (y ^ n) q, pow-pow x m q, pow-pow y n q)

  both' : (x y : ℕ) → (x ^ n * y ^ m) ^ q ≡ x ^ (q * n) * y ^ (q * m)
  both' x y = rw (mul-pow (x ^ n) (y ^ m) q, pow-pow x n q, pow-pow y m q)

  side : (x i j : ℕ) → (x * 2 ^ i) ^ j ≡ x ^ j * 2 ^ (j * i)
  side x i j = rw (mul-pow x (2 ^ i) j, pow-pow 2 i j)

  side' : (x i j : ℕ) → (2 ^ i * x) ^ j ≡ 2 ^ (j * i) * x ^ j
  side' x i j = rw (mul-pow (2 ^ i) x j, pow-pow 2 i j)

  -- the two bounds, to common powers
  log-le : TwoLe l r (a * 2 ^ h) b → 2 ^ (k * l) * b ^ (q * n) ≤ a ^ (q * n) * 2 ^ (q * n * h)
  unfolding TwoLe
  log-le f =
      subst (λ (z : ℕ). 2 ^ (k * l) * b ^ z ≤ a ^ z * 2 ^ (z * h)) eq
      (rw (side a h (k * r)) at (rw (pow-pow (a * 2 ^ h) r k) at
      (rw (pow-pow b r k) at (rw (pow-pow 2 l k) at (rw (mul-pow (2 ^ l) (b ^ r) k) at (pow-le-pow_left f k))))))

  log-ge : TwoGe l r (a * 2 ^ h) b → a ^ (q * n) * 2 ^ (q * n * h) ≤ 2 ^ (k * l) * b ^ (q * n)
  unfolding TwoGe
  log-ge f =
      subst (λ (z : ℕ). a ^ z * 2 ^ (z * h) ≤ 2 ^ (k * l) * b ^ z) eq
      (rw (side a h (k * r)) at (rw (pow-pow (a * 2 ^ h) r k) at
      (rw (pow-pow b r k) at (rw (pow-pow 2 l k) at (rw (mul-pow (2 ^ l) (b ^ r) k) at (pow-le-pow_left f k))))))

  val-ge : TwoGe u q (2 ^ g * c) d → 2 ^ (q * m * g) * c ^ (q * m) ≤ 2 ^ (m * u) * d ^ (q * m)
  unfolding TwoGe
  val-ge f =
      subst (λ (z : ℕ). 2 ^ (z * g) * c ^ z ≤ 2 ^ (m * u) * d ^ z) (mul_comm m q)
      (rw (side' c g (m * q)) at (rw (pow-pow (2 ^ g * c) q m) at
      (rw (pow-pow d q m) at (rw (pow-pow 2 u m) at (rw (mul-pow (2 ^ u) (d ^ q) m) at (pow-le-pow_left f m))))))

  val-le : TwoLe u q (2 ^ g * c) d → 2 ^ (m * u) * d ^ (q * m) ≤ 2 ^ (q * m * g) * c ^ (q * m)
  unfolding TwoLe
  val-le f =
      subst (λ (z : ℕ). 2 ^ (m * u) * d ^ z ≤ 2 ^ (z * g) * c ^ z) (mul_comm m q)
      (rw (side' c g (m * q)) at (rw (pow-pow (2 ^ g * c) q m) at
      (rw (pow-pow d q m) at (rw (pow-pow 2 u m) at (rw (mul-pow (2 ^ u) (d ^ q) m) at (pow-le-pow_left f m))))))

  -- of P a ≤ b R and S c ≤ d T with R T ≤ P S
  cancel : (p s r t : ℕ) → r + t ≤ p + s → (x y z w : ℕ) → 2 ^ p * x ≤ y * 2 ^ r → 2 ^ s * z ≤ 2 ^ t * w → z * x ≤ y * w
  cancel p s r t e x y z w f g =
      le_of_mul-le-mul_left {k = 2 ^ (p + s)} (go (2 ^ p) (2 ^ s) (2 ^ r) (2 ^ t) (2 ^ (p + s)) (2 ^ (r + t))
      (pow-add 2 p s) (pow-add 2 r t) (pow_mono {i = r + t} {j = p + s} e) f g) (pow_pos (p + s))
    where
      go : (P S R T Y W : ℕ) → Y ≡ P * S → W ≡ R * T → W ≤ Y → P * x ≤ y * R → S * z ≤ T * w → Y * (z * x) ≤ Y * (y * w)
      go P S R T Y W ey ew l f g =
          let i : P * x * (S * z) ≤ y * R * (T * w) = mul-le-mul f g in
          let j : W * (y * w) ≤ Y * (y * w) = mul-le-mul_right (y * w) l in
          let m1 : Y * (z * x) ≡ P * x * (S * z) = rw ey (omega arith) in
          let m2 : y * R * (T * w) ≡ W * (y * w) = rw ew (omega arith) in
          le_trans (le_of_eq m1) (le_trans i (le_trans (le_of_eq m2) j))

  -- y from 0 up
  pub ge_pos : TwoLe l r (a * 2 ^ h) b → TwoGe u q (2 ^ g * c) d → q * n * h + m * u ≤ k * l + q * m * g
      → c ^ m * b ^ n ≤ a ^ n * d ^ m
  ge_pos f e o =
      root (c ^ m * b ^ n) (a ^ n * d ^ m) q Q
      (rw (both c b, both' a d) (cancel (k * l) (q * m * g) (q * n * h) (m * u) o (b ^ (q * n)) (a ^ (q * n))
      (c ^ (q * m)) (d ^ (q * m)) (log-le f) (val-ge e)))

  pub le_pos : TwoGe l r (a * 2 ^ h) b → TwoLe u q (2 ^ g * c) d → k * l + q * m * g ≤ q * n * h + m * u
      → a ^ n * d ^ m ≤ c ^ m * b ^ n
  le_pos f e o = root (a ^ n * d ^ m) (c ^ m * b ^ n) q Q (rw (both c b, both' a d)
      (le_trans (le_of_eq (mul_comm (a ^ (q * n)) (d ^ (q * m))))
      (le_trans (cancel (q * n * h) (m * u) (k * l) (q * m * g) o (a ^ (q * n)) (b ^ (q * n)) (d ^ (q * m))
      (c ^ (q * m)) (turn (a ^ (q * n)) (2 ^ (q * n * h)) (2 ^ (k * l)) (b ^ (q * n)) (log-ge f)) (val-le e))
      (le_of_eq (mul_comm (b ^ (q * n)) (c ^ (q * m)))))))
    where
      turn : (x y z w : ℕ) → x * y ≤ z * w → y * x ≤ w * z
      turn x y z w h = omega arith

  -- y below 0
  pub ge-neg : TwoGe l r (a * 2 ^ h) b → TwoGe u q (2 ^ g * c) d → k * l + m * u ≤ q * n * h + q * m * g
      → c ^ m * a ^ n ≤ b ^ n * d ^ m
  ge-neg f e o =
      root (c ^ m * a ^ n) (b ^ n * d ^ m) q Q
      (rw (both c a, both' b d) (cancel (q * n * h) (q * m * g) (k * l) (m * u) o (a ^ (q * n)) (b ^ (q * n))
      (c ^ (q * m)) (d ^ (q * m)) (turn (a ^ (q * n)) (2 ^ (q * n * h)) (2 ^ (k * l)) (b ^ (q * n)) (log-ge f))
      (val-ge e)))
    where
      turn : (x y z w : ℕ) → x * y ≤ z * w → y * x ≤ w * z
      turn x y z w h = omega arith

  pub le-neg : TwoLe l r (a * 2 ^ h) b → TwoLe u q (2 ^ g * c) d → q * n * h + q * m * g ≤ k * l + m * u
      → b ^ n * d ^ m ≤ c ^ m * a ^ n
  le-neg f e o = root (b ^ n * d ^ m) (c ^ m * a ^ n) q Q (rw (both c a, both' b d)
      (le_trans (le_of_eq (mul_comm (b ^ (q * n)) (d ^ (q * m))))
      (le_trans (cancel (k * l) (m * u) (q * n * h) (q * m * g) o (b ^ (q * n)) (a ^ (q * n)) (d ^ (q * m))
      (c ^ (q * m)) (log-le f) (val-le e))
      (le_of_eq (mul_comm (a ^ (q * n)) (c ^ (q * m)))))))

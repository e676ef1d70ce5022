-- |y| above 128: an exponent that is taken from x to its squares, and results that are past both ends.
--   ge_of_squares, le_of_squares   a bound of (x^k)^y is one of x^(k y)
--   past                           where x^k is at least p / r, and y at least 64 k, x^y is at least (p / r)^64
--   above_ge, above_le             a square of 4 or more: the result is past one end or the other, by the sign of y
--   below-ge, below-le             the same of a square of 1/4 or hardly more
--   four-times                     Bernoulli: what is 1 + 2^-j or more, is 4 or more after j + 1 squares
use Rattle.std.proofs.Common.{◌≡◌, ℕ, zero, suc, ◌+◌, ◌-◌, ◌*◌, ◌^◌, ◌<◌, ◌≤◌, Bool, true, false, sym, ap, ◌∙◌, subst, ap₂, le_trans, le_of_eq, mul-le-mul_right, mul_comm, mul-le-mul, mul-le-mul_left, one-mul, pow-suc, le_of_mul-le-mul_right, arith, lit<, lit≤, pow_pos, pow-add}
use native.Mathlib.Nat.{le_of_mul-le-mul_left, pow-zero, pow-le-pow_left, one-le-pow}
use native.Mathlib.Nat.{two-pow-succ}
use Rattle.series.proofs.Cuts.{mul-pow}
use Rattle.series.proofs.Two.{pow-pow, root}
use Rattle.elementary.specs.Accuracy.{RatioGe, RatioLe}

-- ---- (x^k)^(n / m) is x^(o / l), where k n / m = o / l
module _ (a b k n m o l c d : ℕ) (M : 0 < m) (e : m * o ≡ l * (n * k)) where
  power : (x : ℕ) → (((x ^ k) ^ n) ^ l) ≡ (x ^ o) ^ m
  power x =
      ap (λ (z : ℕ). z ^ l) (pow-pow x k n) ∙ pow-pow x (n * k) l ∙ ap (λ (z : ℕ). x ^ z) (sym e) ∙ sym (pow-pow x o m)

  turn : (x : ℕ) → (x ^ m) ^ l ≡ (x ^ l) ^ m
  turn x = pow-pow x m l ∙ ap (λ (z : ℕ). x ^ z) (mul_comm l m) ∙ sym (pow-pow x l m)

  one : (x y : ℕ) → ((x ^ m) * ((y ^ k) ^ n)) ^ l ≡ (x ^ l * y ^ o) ^ m
  one x y =
      mul-pow (x ^ m) ((y ^ k) ^ n) l ∙ ap₂ (λ (p q : ℕ). p * q) (turn x) (power y) ∙ sym (mul-pow (x ^ l) (y ^ o) m)

  two : (x y : ℕ) → (((y ^ k) ^ n) * (x ^ m)) ^ l ≡ (y ^ o * x ^ l) ^ m
  two x y =
      mul-pow ((y ^ k) ^ n) (x ^ m) l ∙ ap₂ (λ (p q : ℕ). p * q) (power y) (turn x) ∙ sym (mul-pow (y ^ o) (x ^ l) m)

  pub ge_of_squares : (t : Bool) → RatioGe t (a ^ k) (b ^ k) n m c d → RatioGe t a b o l c d
  ge_of_squares false h =
      root (c ^ l * b ^ o) (a ^ o * d ^ l) m M
      (le_trans (le_of_eq (sym (one c b))) (le_trans (pow-le-pow_left h l) (le_of_eq (two d a))))
  ge_of_squares true h =
      root (c ^ l * a ^ o) (b ^ o * d ^ l) m M
      (le_trans (le_of_eq (sym (one c a))) (le_trans (pow-le-pow_left h l) (le_of_eq (two d b))))

  pub le_of_squares : (t : Bool) → RatioLe t (a ^ k) (b ^ k) n m c d → RatioLe t a b o l c d
  le_of_squares false h =
      root (a ^ o * d ^ l) (c ^ l * b ^ o) m M
      (le_trans (le_of_eq (sym (two d a))) (le_trans (pow-le-pow_left h l) (le_of_eq (one c b))))
  le_of_squares true h =
      root (b ^ o * d ^ l) (c ^ l * a ^ o) m M
      (le_trans (le_of_eq (sym (two d b))) (le_trans (pow-le-pow_left h l) (le_of_eq (one c a))))

-- ---- (x / y)^k is at least p / r, the exponent o / l at least 64 k, and (p / r)^64 at least c / d
module _ (x y k o l p r c d : ℕ) (R : r ≤ p) (P : 0 < p) (K : 0 < k) (h : p * y ^ k ≤ r * x ^ k) (far : l * 64 * k ≤ o)
    (lit : c * r ^ 64 ≤ d * p ^ 64) where
  base : y ≤ x
  base = root y x k K (le_of_mul-le-mul_left {k = p} (le_trans h (mul-le-mul_right (x ^ k) R)) P)

  many : p ^ (l * 64) * y ^ (l * 64 * k) ≤ r ^ (l * 64) * x ^ (l * 64 * k)
  many =
      rw (mul-pow r (x ^ k) (l * 64), pow-pow x k (l * 64)) at
      (rw (mul-pow p (y ^ k) (l * 64), pow-pow y k (l * 64)) at (pow-le-pow_left h (l * 64)))

  rest : p ^ (l * 64) * y ^ o ≤ r ^ (l * 64) * x ^ o
  rest =
      let s = o - l * 64 * k in
      let e : l * 64 * k + s ≡ o = omega arith in
      subst (λ (z : ℕ). p ^ (l * 64) * y ^ z ≤ r ^ (l * 64) * x ^ z) e
      (rw (pow-add y (l * 64 * k) s, pow-add x (l * 64 * k) s)
      (go (p ^ (l * 64)) (r ^ (l * 64)) (y ^ (l * 64 * k)) (x ^ (l * 64 * k)) (y ^ s) (x ^ s) many
      (pow-le-pow_left base s)))
    where
      go : (p r y x v w : ℕ) → p * y ≤ r * x → v ≤ w → p * (y * v) ≤ r * (x * w)
      go p r y x v w f g = omega (arith, mul-le-mul f g)

  bound : c ^ l * r ^ (l * 64) ≤ d ^ l * p ^ (l * 64)
  bound =
      rw (mul-pow d (p ^ 64) l, pow-pow p 64 l) at
      (rw (mul-pow c (r ^ 64) l, pow-pow r 64 l) at (pow-le-pow_left lit l))

  pub past : c ^ l * y ^ o ≤ x ^ o * d ^ l
  past =
      le_of_mul-le-mul_left {k = p ^ (l * 64)}
      (go (p ^ (l * 64)) (r ^ (l * 64)) (y ^ o) (x ^ o) (c ^ l) (d ^ l) rest bound) (one-le-pow (l * 64) p P)
    where
      go : (p r y x c d : ℕ) → p * y ≤ r * x → c * r ≤ d * p → p * (c * y) ≤ p * (x * d)
      go p r y x c d f g = omega (arith, mul-le-mul_left c f, mul-le-mul_right x g)

-- the two kinds of arguments at both ends: 3 * 2^126 from below, 3 / 2^128 from above
pub above_ge : (a b j o l : ℕ) → 4 * b ^ (2 ^ j) ≤ a ^ (2 ^ j) → l * 64 * 2 ^ j ≤ o
    → (3 * 2 ^ 126) ^ l * b ^ o ≤ a ^ o * 1 ^ l
above_ge a b j o l h f =
    past a b (2 ^ j) o l 4 1 (3 * 2 ^ 126) 1 (lit≤ tt) (lit< tt) (pow_pos j)
    (le_trans h (le_of_eq (sym (one-mul (a ^ (2 ^ j)))))) f (lit≤ tt)

pub above_le : (a b j o l : ℕ) → 4 * b ^ (2 ^ j) ≤ a ^ (2 ^ j) → l * 64 * 2 ^ j ≤ o
    → b ^ o * (2 ^ 128) ^ l ≤ 3 ^ l * a ^ o
above_le a b j o l h f =
    le_trans (le_of_eq (mul_comm (b ^ o) ((2 ^ 128) ^ l)))
    (le_trans (past a b (2 ^ j) o l 4 1 (2 ^ 128) 3 (lit≤ tt) (lit< tt) (pow_pos j)
    (le_trans h (le_of_eq (sym (one-mul (a ^ (2 ^ j)))))) f (lit≤ tt)) (le_of_eq (mul_comm (a ^ o) (3 ^ l))))

pub below-ge : (a b j o l : ℕ) → a ^ (2 ^ j) * 2 ^ 32 ≤ b ^ (2 ^ j) * 1073741825 → l * 64 * 2 ^ j ≤ o
    → (3 * 2 ^ 126) ^ l * a ^ o ≤ b ^ o * 1 ^ l
below-ge a b j o l h f =
    past b a (2 ^ j) o l (2 ^ 32) 1073741825 (3 * 2 ^ 126) 1 (lit≤ tt) (lit< tt) (pow_pos j)
    (flip (a ^ (2 ^ j)) (b ^ (2 ^ j)) h) f (lit≤ tt)
  where
    flip : (x y : ℕ) → x * 2 ^ 32 ≤ y * 1073741825 → 2 ^ 32 * x ≤ 1073741825 * y
    flip x y h = omega arith

pub below-le : (a b j o l : ℕ) → a ^ (2 ^ j) * 2 ^ 32 ≤ b ^ (2 ^ j) * 1073741825 → l * 64 * 2 ^ j ≤ o
    → a ^ o * (2 ^ 128) ^ l ≤ 3 ^ l * b ^ o
below-le a b j o l h f =
    le_trans (le_of_eq (mul_comm (a ^ o) ((2 ^ 128) ^ l)))
    (le_trans (past b a (2 ^ j) o l (2 ^ 32) 1073741825 (2 ^ 128) 3 (lit≤ tt) (lit< tt) (pow_pos j)
    (flip (a ^ (2 ^ j)) (b ^ (2 ^ j)) h) f (lit≤ tt)) (le_of_eq (mul_comm (b ^ o) (3 ^ l))))
  where
    flip : (x y : ℕ) → x * 2 ^ 32 ≤ y * 1073741825 → 2 ^ 32 * x ≤ 1073741825 * y
    flip x y h = omega arith

-- ---- Bernoulli: a neighbour of 1 is 4 or more after 25 squares
bernoulli : (n k : ℕ) → (n + k) * n ^ k ≤ n * (n + 1) ^ k
bernoulli n zero = rw (pow-zero, pow-zero) (omega arith)
bernoulli n (suc k) = rw (pow-suc n k, pow-suc (n + 1) k) (go (n ^ k) ((n + 1) ^ k) (bernoulli n k))
  where
    go : (x y : ℕ) → (n + k) * x ≤ n * y → (n + suc k) * (x * n) ≤ n * (y * (n + 1))
    go x y h = omega (arith, mul-le-mul_right (n + 1) h)

doubles : (n : ℕ) → 0 < n → 2 * n ^ n ≤ (n + 1) ^ n
doubles n N = le_of_mul-le-mul_left {k = n} (go (n ^ n) ((n + 1) ^ n) (bernoulli n n)) N
  where
    go : (x y : ℕ) → (n + n) * x ≤ n * y → n * (2 * x) ≤ n * y
    go x y h = omega arith

grows : (x y n : ℕ) → 0 < n → y * (n + 1) ≤ x * n → 2 * y ^ n ≤ x ^ n
grows x y n N h =
    le_of_mul-le-mul_right {k = n ^ n}
    (go (x ^ n) (y ^ n) (n ^ n) ((n + 1) ^ n) (doubles n N)
    (rw (mul-pow x n n) at (rw (mul-pow y (n + 1) n) at (pow-le-pow_left h n)))) (one-le-pow n n N)
  where
    go : (x y p q : ℕ) → 2 * p ≤ q → y * q ≤ x * p → 2 * y * p ≤ x * p
    go x y p q f g = omega (arith, mul-le-mul_left y f)

pub four-times : (x y j : ℕ) → y * (2 ^ j + 1) ≤ x * 2 ^ j → 4 * y ^ (2 ^ suc j) ≤ x ^ (2 ^ suc j)
four-times x y j h =
    rw (two-pow-succ j, pow-add x (2 ^ j) (2 ^ j), pow-add y (2 ^ j) (2 ^ j))
    (go (x ^ (2 ^ j)) (y ^ (2 ^ j)) (grows x y (2 ^ j) (pow_pos j) h))
  where
    go : (x y : ℕ) → 2 * y ≤ x → 4 * (y * y) ≤ x * x
    go x y h = omega (arith, mul-le-mul h h)

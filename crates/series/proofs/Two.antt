-- 2^(p / q) against fractions, by whole numbers alone: 2^(p / q) ≤ a / b is 2^p b^q ≤ a^q. Shut, so that no power is
-- computed.
--   pow-pow, one-pow, root             powers: of a power, of 1, and the k-th root keeps the order
--   TwoLe, TwoGe p q a b               2^(p / q) ≤ a / b, and a / b ≤ 2^(p / q)
--   two_le_mono, two_ge_mono           2^x grows with x
--   two_le_weaken, two_ge_weaken       a weaker bound
--   two_le_mul, two_ge_mul             2^(x + y) = 2^x 2^y
--   two_ge_quot, two_le_quot           2^x = 2^(x + y) / 2^y
--   two_le_one, two_ge_one             2^0 = 1
--   two_cut                            bounds from below and from above are in order
--   two_le_up, two_ge_up, two_le_down, two_ge_down   p / q = (k p) / (k q)
--   two_le_whole, two_ge_whole         2^k itself
--   ln2-le, ln2-ge                     the two bounds of ln 2
--   two_le_exp, two_ge_exp             from a bound of e^(x ln 2) to one of 2^x
use mathlib.Core.Path.{◌≡◌, subst}
use mathlib.Core.Logic.{◌⊎◌, inl, inr}
use Prim.Native.Nat.{ℕ, zero, suc, ◌+◌, ◌*◌, ◌^◌, ◌≤◌, ◌<◌}
use native.Mathlib.Nat.{zero-mul, suc-mul, pow-zero, pow-suc, le_trans, lt_irrefl, lt_of_lt_of_le, mul-le-mul}
use native.Mathlib.Nat.{mul-le-mul_left, mul-le-mul_right, mul-pos, one-le-pow, pow-le-pow_left, pow-lt-pow_left}
use native.Mathlib.Nat.{le_of_mul-le-mul_right}
use native.Mathlib.Omega.{arith}
use lib.Dec.{lit<, lit≤}
use lib.Pow.{pow_pos, pow-add, pow_mono}
use Rattle.series.specs.Exp.{sum, scale, ExpGe, ExpLe, ln2}
use Rattle.series.proofs.Cuts.{lt_or_ge, le-pow, ge-pow, le_two_pow, ge_two_pow, le_same, ge-same, le-by, cut}
use Rattle.series.proofs.Cuts.{mul-pow}

-- ---- powers
pub pow-pow : (a j k : ℕ) → (a ^ j) ^ k ≡ a ^ (k * j)
pow-pow a j zero = rw (zero-mul, pow-zero, pow-zero)
pow-pow a j (suc k) = rw (pow-suc (a ^ j) k, suc-mul, pow-add, pow-pow a j k)

pub one-pow : (k : ℕ) → 1 ^ k ≡ 1
one-pow zero = pow-zero 1
one-pow (suc k) = rw (pow-suc 1 k, one-pow k)

-- the k-th root
pub root : (a b k : ℕ) → 0 < k → a ^ k ≤ b ^ k → a ≤ b
root a b k K h = go (lt_or_ge b a)
  where
    no : k ≡ 0 → ⊥
    no e = omega arith

    go : (b < a) ⊎ (a ≤ b) → a ≤ b
    go (inl l) = absurd (lt_irrefl (b ^ k) (lt_of_lt_of_le (pow-lt-pow_left {n = k} l no) h))
    go (inr g) = g

-- ---- 2^(p / q) ≤ a / b, and a / b ≤ 2^(p / q)
unfoldable pub TwoLe : ℕ → ℕ → ℕ → ℕ → Type 0
TwoLe p q a b = 2 ^ p * b ^ q ≤ a ^ q

unfoldable pub TwoGe : ℕ → ℕ → ℕ → ℕ → Type 0
TwoGe p q a b = a ^ q ≤ 2 ^ p * b ^ q

-- an exponent that is smaller, or larger
pub two_le_mono : (p r q a b : ℕ) → p ≤ r → TwoLe r q a b → TwoLe p q a b
unfolding TwoLe
two_le_mono p r q a b h f = le_trans (mul-le-mul_right (b ^ q) (pow_mono {i = p} {j = r} h)) f

pub two_ge_mono : (p r q a b : ℕ) → p ≤ r → TwoGe p q a b → TwoGe r q a b
unfolding TwoGe
two_ge_mono p r q a b h f = le_trans f (mul-le-mul_right (b ^ q) (pow_mono {i = p} {j = r} h))

-- a weaker fraction
pub two_le_weaken : (p q a b c d : ℕ) → 0 < b → a * d ≤ c * b → TwoLe p q a b → TwoLe p q c d
unfolding TwoLe
two_le_weaken p q a b c d B h f =
    go (2 ^ p) (a ^ q) (b ^ q) (c ^ q) (d ^ q) (one-le-pow q b B) f
    (subst (λ (z : ℕ). z ≤ c ^ q * b ^ q) (mul-pow a d q) (rw (mul-pow c b q) at (pow-le-pow_left h q)))
  where
    go : (t x y z w : ℕ) → 0 < y → t * y ≤ x → x * w ≤ z * y → t * w ≤ z
    go t x y z w Y g k = le_of_mul-le-mul_right {k = y} (omega (arith, mul-le-mul_right w g)) Y

pub two_ge_weaken : (p q a b c d : ℕ) → 0 < b → c * b ≤ a * d → TwoGe p q a b → TwoGe p q c d
unfolding TwoGe
two_ge_weaken p q a b c d B h f =
    go (2 ^ p) (a ^ q) (b ^ q) (c ^ q) (d ^ q) (one-le-pow q b B) f
    (subst (λ (z : ℕ). z ≤ a ^ q * d ^ q) (mul-pow c b q) (rw (mul-pow a d q) at (pow-le-pow_left h q)))
  where
    go : (t x y z w : ℕ) → 0 < y → x ≤ t * y → z * y ≤ x * w → z ≤ t * w
    go t x y z w Y g k = le_of_mul-le-mul_right {k = y} (omega (arith, mul-le-mul_right w g)) Y

-- 2^(x + y) = 2^x 2^y
pub two_le_mul : (q x y a b c d : ℕ) → TwoLe x q a b → TwoLe y q c d → TwoLe (x + y) q (a * c) (b * d)
unfolding TwoLe
two_le_mul q x y a b c d f g =
    rw (pow-add 2 x y, mul-pow a c q, mul-pow b d q) (go (2 ^ x) (2 ^ y) (a ^ q) (b ^ q) (c ^ q) (d ^ q) f g)
  where
    go : (t u a b c d : ℕ) → t * b ≤ a → u * d ≤ c → t * u * (b * d) ≤ a * c
    go t u a b c d f g = omega (arith, mul-le-mul f g)

pub two_ge_mul : (q x y a b c d : ℕ) → TwoGe x q a b → TwoGe y q c d → TwoGe (x + y) q (a * c) (b * d)
unfolding TwoGe
two_ge_mul q x y a b c d f g =
    rw (pow-add 2 x y, mul-pow a c q, mul-pow b d q) (go (2 ^ x) (2 ^ y) (a ^ q) (b ^ q) (c ^ q) (d ^ q) f g)
  where
    go : (t u a b c d : ℕ) → a ≤ t * b → c ≤ u * d → a * c ≤ t * u * (b * d)
    go t u a b c d f g = omega (arith, mul-le-mul f g)

-- 2^x = 2^(x + y) / 2^y
pub two_ge_quot : (q x y a b c d : ℕ) → TwoGe (x + y) q a b → TwoLe y q c d → TwoGe x q (a * d) (b * c)
unfolding TwoGe TwoLe
two_ge_quot q x y a b c d f g =
    rw (mul-pow a d q, mul-pow b c q) (go (2 ^ x) (2 ^ y) (a ^ q) (b ^ q) (c ^ q) (d ^ q) (pow_pos y)
    (rw (pow-add 2 x y) at f) g)
  where
    go : (t u a b c d : ℕ) → 0 < u → a ≤ t * u * b → u * d ≤ c → a * d ≤ t * (b * c)
    go t u a b c d U f g = omega (arith, mul-le-mul_right d f, mul-le-mul_left (t * b) g)

pub two_le_quot : (q x y a b c d : ℕ) → TwoLe (x + y) q a b → TwoGe y q c d → TwoLe x q (a * d) (b * c)
unfolding TwoGe TwoLe
two_le_quot q x y a b c d f g =
    rw (mul-pow a d q, mul-pow b c q) (go (2 ^ x) (2 ^ y) (a ^ q) (b ^ q) (c ^ q) (d ^ q) (pow_pos y)
    (rw (pow-add 2 x y) at f) g)
  where
    go : (t u a b c d : ℕ) → 0 < u → t * u * b ≤ a → c ≤ u * d → t * (b * c) ≤ a * d
    go t u a b c d U f g = omega (arith, mul-le-mul_right d f, mul-le-mul_left (t * b) g)

-- 2^0
pub two_le_one : (q a b : ℕ) → b ≤ a → TwoLe 0 q a b
unfolding TwoLe
two_le_one q a b h = rw (pow-zero 2) (omega (arith, pow-le-pow_left h q))

pub two_ge_one : (q a b : ℕ) → a ≤ b → TwoGe 0 q a b
unfolding TwoGe
two_ge_one q a b h = rw (pow-zero 2) (omega (arith, pow-le-pow_left h q))

-- bounds from below and from above are in order
pub two_cut : (p q a b c d : ℕ) → 0 < q → TwoGe p q a b → TwoLe p q c d → a * d ≤ c * b
unfolding TwoGe TwoLe
two_cut p q a b c d Q f g =
    root (a * d) (c * b) q Q (rw (mul-pow a d q, mul-pow c b q) (go (2 ^ p) (a ^ q) (b ^ q) (c ^ q) (d ^ q) f g))
  where
    go : (t a b c d : ℕ) → a ≤ t * b → t * d ≤ c → a * d ≤ c * b
    go t a b c d f g = omega (arith, mul-le-mul_right d f, mul-le-mul_right b g)

-- p / q = (k p) / (k q)
pub two_le_up : (k p q a b : ℕ) → TwoLe p q a b → TwoLe (k * p) (k * q) a b
unfolding TwoLe
two_le_up k p q a b f =
    rw (← pow-pow 2 p k, ← pow-pow a q k, ← pow-pow b q k, ← mul-pow (2 ^ p) (b ^ q) k) (pow-le-pow_left f k)

pub two_ge_up : (k p q a b : ℕ) → TwoGe p q a b → TwoGe (k * p) (k * q) a b
unfolding TwoGe
two_ge_up k p q a b f =
    rw (← pow-pow 2 p k, ← pow-pow a q k, ← pow-pow b q k, ← mul-pow (2 ^ p) (b ^ q) k) (pow-le-pow_left f k)

pub two_le_down : (k p q a b : ℕ) → 0 < k → TwoLe (k * p) (k * q) a b → TwoLe p q a b
unfolding TwoLe
two_le_down k p q a b K f =
    root (2 ^ p * b ^ q) (a ^ q) k K (rw (mul-pow (2 ^ p) (b ^ q) k, pow-pow 2 p k, pow-pow a q k, pow-pow b q k) f)

pub two_ge_down : (k p q a b : ℕ) → 0 < k → TwoGe (k * p) (k * q) a b → TwoGe p q a b
unfolding TwoGe
two_ge_down k p q a b K f =
    root (a ^ q) (2 ^ p * b ^ q) k K (rw (mul-pow (2 ^ p) (b ^ q) k, pow-pow 2 p k, pow-pow a q k, pow-pow b q k) f)

-- 2^k itself
pub two_le_whole : (k q : ℕ) → TwoLe (q * k) q (2 ^ k) 1
unfolding TwoLe
two_le_whole k q = rw (one-pow q, pow-pow 2 k q) (omega arith)

pub two_ge_whole : (k q : ℕ) → TwoGe (q * k) q (2 ^ k) 1
unfolding TwoGe
two_ge_whole k q = rw (one-pow q, pow-pow 2 k q) (omega arith)

-- ---- ln 2
pub ln2-le : ExpLe ln2 (2 ^ 48) 2 1
ln2-le = le-by ln2 (2 ^ 48) 2 1 18 (lit< tt) (lit≤ tt) (unfold sum scale in lit≤ tt)

pub ln2-ge : ExpGe (ln2 + 1) (2 ^ 48) 2 1
ln2-ge = (18, unfold sum scale in lit≤ tt)

-- ---- from e: where ln 2 ≤ c / s and e^(p c / (q s)) ≤ a / b
pub two_le_exp : (c s p q a b : ℕ) → 0 < s → 0 < q → ExpGe c s 2 1 → ExpLe (p * c) (q * s) a b → TwoLe p q a b
unfolding TwoLe
two_le_exp c s p q a b S Q f g =
    go (2 ^ p) (b ^ q) (a ^ q)
    (cut (p * c) s (2 ^ p) 1 (a ^ q) (b ^ q) S (ge_two_pow s c S f p)
    (le_same (q * (p * c)) (q * s) (p * c) s (a ^ q) (b ^ q) (mul-pos Q S) (same q (p * c) s)
    (le-pow (q * s) (p * c) a b (mul-pos Q S) g q)))
  where
    same : (q x s : ℕ) → q * x * s ≡ x * (q * s)
    same q x s = omega arith

    go : (x y z : ℕ) → x * y ≤ z * 1 → x * y ≤ z
    go x y z h = omega arith

-- where c / s ≤ ln 2 and a / b ≤ e^(p c / (q s))
pub two_ge_exp : (c s p q a b : ℕ) → 0 < s → 0 < q → ExpLe c s 2 1 → ExpGe (p * c) (q * s) a b → TwoGe p q a b
unfolding TwoGe
two_ge_exp c s p q a b S Q f g =
    go (2 ^ p) (b ^ q) (a ^ q)
    (cut (p * c) s (a ^ q) (b ^ q) (2 ^ p) 1 S
    (ge-same (q * (p * c)) (q * s) (p * c) s (a ^ q) (b ^ q) (mul-pos Q S) (same q (p * c) s)
    (ge-pow (q * s) (p * c) a b (mul-pos Q S) g q))
    (le_two_pow s c S f p))
  where
    same : (q x s : ℕ) → q * x * s ≡ x * (q * s)
    same q x s = omega arith

    go : (x y z : ℕ) → z * 1 ≤ x * y → z ≤ x * y
    go x y z h = omega arith

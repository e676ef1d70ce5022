-- The recipe's bounds: e^(ln_mant m / 2^52) ≤ m / 2^23 ≤ e^((ln_mant m + 1320) / 2^52).
--   c_of, l_of, c2_of, l2_of          the reciprocal and the logarithm of an entry, in the first table and the second
--   log-entry, log2_entry             what an entry's logarithm is
--   square, square_le, square-lt      the square in ln_small, rounded up, and its size
--   small-lt                          the size of ln_small
--   D-of, product, D-le, rest_lt      the second table: what is left after it, the product with its reciprocal, sizes
--   i_of, t_of, j_of                  the first table: its index, the product with its reciprocal, the second's index
--   i_lt, t_range, j-lt, j_lo, j_hi   their ranges
--   ln_mant-le, ln_mant-ge              the two bounds above
use Rattle.std.proofs.Common.{◌≡◌, ℕ, zero, suc, ◌+◌, ◌-◌, ◌*◌, ◌/◌, ◌%◌, ◌^◌, ◌<◌, ◌≤◌, Bool, T, leb, get_or, refl, ap, le_trans, mul-le-mul_right, mul-le-mul, mul-le-mul_left, mul-pos, arith, lit<, lit≤, leb→le}
use Rattle.series.specs.Exp.{sum, scale, ExpGe, ExpLe}
use Rattle.series.proofs.Cuts.{le_weaken, ge_weaken, le-mul, ge-mul, le_same, ge-same, le-by, ge_mono}
use Rattle.series.proofs.Horner.{le-ratio, ge-ratio}
use Rattle.series.proofs.Table.{both, both_left, both_right, at}
use Rattle.elementary.specs.Ln.{first, second, ln_small, ln_rest, ln_mant}

-- ---- a rule of the tables: e^(t / 2^52) ≤ a / c ≤ e^((t + g) / 2^52), and v ≤ x c and y c ≤ w
unfoldable right : ℕ → ℕ → ℕ → ℕ → Bool
unfolding sum scale
right a g c t =
    both (leb t (2 ^ 52))
    (both (leb (c * (sum t (2 ^ 52) 22 + t ^ 22)) (a * scale (2 ^ 52) 22))
    (leb (a * scale (2 ^ 52) 22) (c * sum (t + g) (2 ^ 52) 22)))

from-right : (a g c t : ℕ) → T (right a g c t) → (t ≤ 2 ^ 52) × ExpLe t (2 ^ 52) a c × ExpGe (t + g) (2 ^ 52) a c
unfolding right
from-right a g c t h =
    let x = leb t (2 ^ 52) in
    let y = leb (c * (sum t (2 ^ 52) 22 + t ^ 22)) (a * scale (2 ^ 52) 22) in
    let z = leb (a * scale (2 ^ 52) 22) (c * sum (t + g) (2 ^ 52) 22) in
    let l : t ≤ 2 ^ 52 = leb→le t (2 ^ 52) (both_left x (both y z) h) in (
      l,
      le-by t (2 ^ 52) a c 22 (lit< tt) (omega arith) (leb→le (c * (sum t (2 ^ 52) 22 + t ^ 22)) (a * scale (2 ^ 52) 22)
          (both_left y z (both_right x (both y z) h))),
      (22, leb→le (a * scale (2 ^ 52) 22) (c * sum (t + g) (2 ^ 52) 22) (both_right y z (both_right x (both y z) h))),
    )

between : ℕ → ℕ → ℕ → ℕ → ℕ → Bool
between v w a b c = both (leb v (a * c)) (leb (b * c) w)

from_between : (v w a b c : ℕ) → T (between v w a b c) → (v ≤ a * c) × (b * c ≤ w)
unfolding between
from_between v w a b c h = (
  leb→le v (a * c) (both_left (leb v (a * c)) (leb (b * c) w) h),
  leb→le (b * c) w
      (both_right (leb v (a * c)) (leb (b * c) w) h),
)

-- the parts of an entry
abbrev pub c_of : ℕ → ℕ
c_of i = get_or first i 0 % 2 ^ 16

abbrev pub l_of : ℕ → ℕ
l_of i = get_or first i 0 / 2 ^ 16 * 32

abbrev pub c2_of : ℕ → ℕ
c2_of j = get_or second j 0 % 2 ^ 18

abbrev pub l2_of : ℕ → ℕ
l2_of j = get_or second j 0 / 2 ^ 18

abbrev right1 : ℕ → ℕ → Bool
right1 i e = right 32768 32 (e % 2 ^ 16) (e / 2 ^ 16 * 32)

abbrev right2 : ℕ → ℕ → Bool
right2 j e = right (2 ^ 17) 1 (e % 2 ^ 18) (e / 2 ^ 18)

abbrev fits1 : ℕ → ℕ → Bool
fits1 i e = between (2 ^ 38) 277025390592 ((128 + i) * 2 ^ 16) ((129 + i) * 2 ^ 16) (e % 2 ^ 16)

abbrev fits2 : ℕ → ℕ → Bool
fits2 j e = between (2 ^ 55) 36031270685245440 (2 ^ 38 + j * 2 ^ 24) (2 ^ 38 + (j + 1) * 2 ^ 24) (e % 2 ^ 18)

pub log-entry : (i : ℕ) → i < 128 → (l_of i ≤ 2 ^ 52) × ExpLe (l_of i) (2 ^ 52) 32768 (c_of i) × ExpGe (l_of i + 32)
    (2 ^ 52) 32768 (c_of i)
log-entry i h = from-right 32768 32 (c_of i) (l_of i) (go i h)
  where
    go : (i : ℕ) → i < 128 → T (right1 i (get_or first i 0))
    go i h = unfold right first in at right1 first tt i h

pub log2_entry : (j : ℕ) → j < 128 → (l2_of j ≤ 2 ^ 52) × ExpLe (l2_of j) (2 ^ 52) (2 ^ 17) (c2_of j)
    × ExpGe (l2_of j + 1) (2 ^ 52) (2 ^ 17) (c2_of j)
log2_entry j h = from-right (2 ^ 17) 1 (c2_of j) (l2_of j) (go j h)
  where
    go : (j : ℕ) → j < 128 → T (right2 j (get_or second j 0))
    go j h = unfold right second in at right2 second tt j h

recip_entry : (i : ℕ) → i < 128 → T (fits1 i (get_or first i 0))
unfolding between first
recip_entry i h = at fits1 first tt i h

recip2_entry : (j : ℕ) → j < 128 → T (fits2 j (get_or second j 0))
unfolding between second
recip2_entry j h = at fits2 second tt j h

pos_of : (v a c : ℕ) → 0 < v → v ≤ a * c → 0 < c
pos_of v a zero p h = absurd (no h)
  where
    no : v ≤ a * 0 → ⊥
    no k = omega arith
pos_of v a (suc c) p h = omega arith

-- ---- ln (1 + d / 2^45): the square, rounded up
abbrev pub square : ℕ → ℕ
square d = (d * d + 70368744177663) / 2 ^ 46

pub square_le : (d : ℕ) → d ≤ 2415689728 → square d ≤ d
square_le d h = omega (arith, mul-le-mul_left d h)

pub square-lt : (d : ℕ) → d ≤ 2415689728 → d * d ≤ 5835556863946993984
square-lt d h = le_trans (mul-le-mul h h) (lit≤ tt)

small_is : (d : ℕ) → ln_small d ≡ d - square d
unfolding ln_small
small_is d = refl

module _ (d e p : ℕ) (s : p + e ≡ d) (D : d ≤ 2415689728) (lo : d * d ≤ e * 2 ^ 46)
    (hi : e * 2 ^ 46 ≤ d * d + 70368744177663) where
  by-d : p * d + e * d ≡ d * d
  by-d = omega (arith, ap (λ (z : ℕ). z * d) s)

  less : ExpLe p (2 ^ 45) (2 ^ 45 + d) (2 ^ 45)
  less =
      let f = 2 ^ 46 - p in
      let F : f + p ≡ 2 ^ 46 = omega arith in
      le_weaken p (2 ^ 45) (2 ^ 46 + p) f (2 ^ 45 + d) (2 ^ 45) (omega arith)
      (omega (arith, by-d, ap (λ (z : ℕ). d * z) F))
      (le-ratio p (2 ^ 45) f (lit< tt) F)

  e-small : e ≤ 82930
  e-small = omega (arith, square-lt d D)

  more : ExpGe (p + 6 + 4) (2 ^ 45) (2 ^ 45 + (d + 1)) (2 ^ 45)
  more =
      let P = p + 6 in
      let f = 2 ^ 46 - P in
      let F : f + P ≡ 2 ^ 46 = omega arith in
      let u : P ≤ 2415689734 = omega arith in
      let v : P + 4 ≤ 2415689738 = omega arith in
      ge_weaken (P + 4) (2 ^ 45) (2 ^ 46 + P) f (2 ^ 45 + (d + 1)) (2 ^ 45) (omega arith)
      (cross (2 ^ 45) (d + 1) P f F key)
      (ge-ratio P (2 ^ 45) 4 f F (le_trans (mul-le-mul u (mul-le-mul v v)) (lit≤ tt)))
    where
      bound : e * d ≤ 82930 * d → e * d ≤ 2 ^ 48
      bound k = omega arith

      key : 2 ^ 45 * 2 * (d + 1) ≤ 2 ^ 45 * 2 * (p + 6) + (d + 1) * (p + 6)
      key = last (bound (mul-le-mul_right d e-small)) by-d
        where
          last : e * d ≤ 2 ^ 48 → p * d + e * d ≡ d * d
              → 2 ^ 45 * 2 * (d + 1) ≤ 2 ^ 45 * 2 * (p + 6) + (d + 1) * (p + 6)
          last k b = omega arith

      cross : (q D P f : ℕ) → f + P ≡ q * 2 → q * 2 * D ≤ q * 2 * P + D * P → (q + D) * f ≤ (q * 2 + P) * q
      cross q D P f F k = omega (arith, ap (λ (z : ℕ). q * z) F, ap (λ (z : ℕ). D * z) F)

small-le : (d : ℕ) → d ≤ 2415689728 → ExpLe (ln_small d) (2 ^ 45) (2 ^ 45 + d) (2 ^ 45)
small-le d h = rw (small_is d) (less d (square d) (d - square d) (omega (arith, square_le d h)) h (omega arith)
    (omega arith))

small-ge : (d : ℕ) → d ≤ 2415689728 → ExpGe (ln_small d + 6 + 4) (2 ^ 45) (2 ^ 45 + (d + 1)) (2 ^ 45)
small-ge d h = rw (small_is d) (more d (square d) (d - square d) (omega (arith, square_le d h)) h (omega arith)
    (omega arith))

pub small-lt : (d : ℕ) → d ≤ 2415689728 → ln_small d ≤ 2415689728
small-lt d h = rw (small_is d) (omega arith)

-- ---- the second pair of tables
abbrev pub D-of : ℕ → ℕ → ℕ
D-of t j = (t * c2_of j - 2 ^ 55) / 1024

module _ (t j : ℕ) (J : j < 128) (lo : 2 ^ 38 + j * 2 ^ 24 ≤ t) (hi : t ≤ 2 ^ 38 + (j + 1) * 2 ^ 24) where
  pub product : (2 ^ 55 ≤ t * c2_of j) × (t * c2_of j ≤ 36031270685245440)
  product =
      let c = c2_of j in
      let r = from_between (2 ^ 55) 36031270685245440 (2 ^ 38 + j * 2 ^ 24) (2 ^ 38 + (j + 1) * 2 ^ 24) c
      (recip2_entry j J) in
      (le_trans r.0 (mul-le-mul_right c lo), le_trans (mul-le-mul_right c hi) r.1)

  pub D-le : D-of t j ≤ 2415689728
  D-le = omega (arith, product)

  c_pos : 0 < c2_of j
  c_pos = pos_of (2 ^ 55) t (c2_of j) (lit< tt) product.0

  widen : (p : ℕ) → p * 2 ^ 52 ≡ p * 128 * 2 ^ 45
  widen p = omega arith

  rest_le : ExpLe (ln_rest t j) (2 ^ 52) t (2 ^ 38)
  unfolding ln_rest
  rest_le =
      let c = c2_of j in
      let d = D-of t j in
      let p = ln_small d in
      le_weaken (l2_of j + p * 128) (2 ^ 52) (2 ^ 17 * (2 ^ 45 + d)) (c * 2 ^ 45) t (2 ^ 38) (mul-pos c_pos (lit< tt))
      (omega (arith, product))
      (le-mul (2 ^ 52) (l2_of j) (p * 128) (2 ^ 17) c (2 ^ 45 + d) (2 ^ 45) (lit< tt) (log2_entry j J).1
      (le_same p (2 ^ 45) (p * 128) (2 ^ 52) (2 ^ 45 + d) (2 ^ 45) (lit< tt) (widen p) (small-le d D-le)))

  rest-ge : ExpGe (ln_rest t j + 1281) (2 ^ 52) t (2 ^ 38)
  unfolding ln_rest
  rest-ge =
      let c = c2_of j in
      let d = D-of t j in
      let p = ln_small d in
      ge_mono (l2_of j + 1 + (p + 6 + 4) * 128) (l2_of j + p * 128 + 1281) (2 ^ 52) t (2 ^ 38) (omega arith)
      (ge_weaken (l2_of j + 1 + (p + 6 + 4) * 128) (2 ^ 52) (2 ^ 17 * (2 ^ 45 + (d + 1))) (c * 2 ^ 45) t (2 ^ 38)
      (mul-pos c_pos (lit< tt)) (omega (arith, product))
      (ge-mul (2 ^ 52) (l2_of j + 1) ((p + 6 + 4) * 128) (2 ^ 17) c (2 ^ 45 + (d + 1)) (2 ^ 45) (lit< tt)
      (log2_entry j J).2
      (ge-same (p + 6 + 4) (2 ^ 45) ((p + 6 + 4) * 128) (2 ^ 52) (2 ^ 45 + (d + 1)) (2 ^ 45) (lit< tt)
      (widen (p + 6 + 4)) (small-ge d D-le))))

  pub rest_lt : ln_rest t j ≤ 2 ^ 53
  unfolding ln_rest
  rest_lt = omega (arith, (log2_entry j J).0, small-lt (D-of t j) D-le)

-- ---- the first pair
abbrev pub i_of : ℕ → ℕ
i_of m = m / 2 ^ 16 % 128

abbrev pub t_of : ℕ → ℕ
t_of m = m * c_of (i_of m)

abbrev pub j_of : ℕ → ℕ
j_of m = t_of m / 2 ^ 24 % 128

module _ (m : ℕ) (lo : 2 ^ 23 ≤ m) (hi : m < 2 ^ 24) where
  pub i_lt : i_of m < 128
  i_lt = omega arith

  pub t_range : (2 ^ 38 ≤ t_of m) × (t_of m < 277025390592)
  t_range =
      let i = i_of m in
      let c = c_of i in
      let r = from_between (2 ^ 38) 277025390592 ((128 + i) * 2 ^ 16) ((129 + i) * 2 ^ 16) c (recip_entry i i_lt) in
      let a : (128 + i) * 2 ^ 16 ≤ m = omega arith in
      let b : m + 1 ≤ (129 + i) * 2 ^ 16 = omega arith in
      let p : 0 < c = pos_of (2 ^ 38) ((128 + i) * 2 ^ 16) c (lit< tt) r.0 in
      (le_trans r.0 (mul-le-mul_right c a), go i c p (le_trans (mul-le-mul_right c b) r.1))
    where
      go : (i c : ℕ) → 0 < c → (m + 1) * c ≤ 277025390592 → m * c < 277025390592
      go i c p h = omega arith

  pub j-lt : j_of m < 128
  j-lt = omega (arith, t_range)

  pub j_lo : 2 ^ 38 + j_of m * 2 ^ 24 ≤ t_of m
  j_lo = omega (arith, t_range)

  pub j_hi : t_of m ≤ 2 ^ 38 + (j_of m + 1) * 2 ^ 24
  j_hi = omega (arith, t_range)

  recip_pos : 0 < c_of (i_of m)
  recip_pos = pos_of (2 ^ 38) m (c_of (i_of m)) (lit< tt) t_range.0

  pub ln_mant-le : ExpLe (ln_mant m) (2 ^ 52) m (2 ^ 23)
  unfolding ln_mant
  ln_mant-le =
      let c = c_of (i_of m) in
      let L = l_of (i_of m) in
      let R = ln_rest (t_of m) (j_of m) in
      le_weaken (L + R) (2 ^ 52) (32768 * (m * c)) (c * 2 ^ 38) m (2 ^ 23) (mul-pos recip_pos (lit< tt)) (omega arith)
      (le-mul (2 ^ 52) L R 32768 c (m * c) (2 ^ 38) (lit< tt) (log-entry (i_of m) i_lt).1
      (rest_le (t_of m) (j_of m) j-lt j_lo j_hi))

  pub ln_mant-ge : ExpGe (ln_mant m + 1320) (2 ^ 52) m (2 ^ 23)
  unfolding ln_mant
  ln_mant-ge =
      let c = c_of (i_of m) in
      let L = l_of (i_of m) in
      let R = ln_rest (t_of m) (j_of m) in
      ge_mono (L + 32 + (R + 1281)) (L + R + 1320) (2 ^ 52) m (2 ^ 23) (omega arith)
      (ge_weaken (L + 32 + (R + 1281)) (2 ^ 52) (32768 * (m * c)) (c * 2 ^ 38) m (2 ^ 23) (mul-pos recip_pos (lit< tt))
      (omega arith)
      (ge-mul (2 ^ 52) (L + 32) (R + 1281) 32768 c (m * c) (2 ^ 38) (lit< tt) (log-entry (i_of m) i_lt).2
      (rest-ge (t_of m) (j_of m) j-lt j_lo j_hi)))

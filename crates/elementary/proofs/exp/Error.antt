-- The recipe's bounds: mant r ≤ 2^31 e^(r / 2^48) ≤ mant r + 25.
--   coarse-high, fine-high         the entries of the two tables from above
--   table-low, table-high          the range of power i
--   table-ge, table-le             power i is at most 5 below 2^31 e^(i / 512), and not above
--   small-ge, small-lt, small-le   small p is at most 8 below 2^31 e^(p / 2^48), and not above; its range
--   mant-ge, mant-le, mant-low     the bounds above, and that mant r is at least 2^31
use Rattle.std.proofs.Common.{◌≡◌, ℕ, ◌+◌, ◌*◌, ◌/◌, ◌%◌, ◌^◌, ◌<◌, ◌≤◌, Bool, T, leb, get_or, subst, le_trans, le-add_right, mul-le-mul_right, mul-le-mul, arith, lit<, lit≤, leb→le}
use Rattle.series.specs.Exp.{sum, scale, ExpGe, ExpLe}
use Rattle.elementary.specs.Exp.{coarse, fine, power, small, mant}
use Rattle.series.proofs.Cuts.{le_weaken, ge_weaken, le-mul, ge-mul, le_same, ge-same, le-by, le_mono, cut}
use Rattle.series.proofs.Horner.{tail_ge_one, tail-ge, tail-two, tail-le, ge-tail, le-tail}
use Rattle.series.proofs.Table.{both, both_left, both_right, at}

-- ---- the tables: e^(i / d) * 2^31
right : ℕ → ℕ → ℕ → Bool
unfolding sum scale
right d i t =
    both (leb (2 ^ 31) t)
    (both (leb t 8589934591)
    (both (leb (t * scale d 16) (2 ^ 31 * sum i d 16)) (leb (2 ^ 31 * (sum i d 16 + i ^ 16)) ((t + 1) * scale d 16))))

record Entry (d i t : ℕ) : Type 0 where
  low : 2 ^ 31 ≤ t
  high : t ≤ 8589934591
  ge : ExpGe i d t (2 ^ 31)
  le : ExpLe i d (t + 1) (2 ^ 31)

from-right : (d i t : ℕ) → 0 < d → 2 * i ≤ d * 17 → T (right d i t) → Entry d i t
unfolding right
from-right d i t D I h =
    let x = leb (2 ^ 31) t in
    let y = leb t 8589934591 in
    let z = leb (t * scale d 16) (2 ^ 31 * sum i d 16) in
    let w = leb (2 ^ 31 * (sum i d 16 + i ^ 16)) ((t + 1) * scale d 16) in
    let h1 = both_right x (both y (both z w)) h in
    let h2 = both_right y (both z w) h1 in
    record {
      low = leb→le (2 ^ 31) t (both_left x (both y (both z w)) h);
      high = leb→le t 8589934591 (both_left y (both z w) h1);
      ge = (16, leb→le (t * scale d 16) (2 ^ 31 * sum i d 16) (both_left z w h2));
      le = le-by i d (t + 1) (2 ^ 31) 16 D I (leb→le (2 ^ 31 * (sum i d 16 + i ^ 16)) ((t + 1) * scale d 16)
          (both_right z w h2));
    }

coarse-entry : (i : ℕ) → i < 16 → Entry 16 i (get_or coarse i 0)
coarse-entry i h = from-right 16 i (get_or coarse i 0) (lit< tt) (omega arith) (go i h)
  where
    go : (i : ℕ) → i < 16 → T (right 16 i (get_or coarse i 0))
    go i h = unfold right coarse in at (right 16) coarse tt i h

fine-entry : (i : ℕ) → i < 32 → Entry 512 i (get_or fine i 0)
fine-entry i h = from-right 512 i (get_or fine i 0) (lit< tt) (omega arith) (go i h)
  where
    go : (i : ℕ) → i < 32 → T (right 512 i (get_or fine i 0))
    go i h = unfold right fine in at (right 512) fine tt i h

pub coarse-high : (i : ℕ) → i < 12 → get_or coarse i 0 ≤ 4294967295
coarse-high i h = go (get_or coarse i 0) (coarse-entry i (omega arith)).ge
  where
    go : (t : ℕ) → ExpGe i 16 t (2 ^ 31) → t ≤ 4294967295
    go t g = omega (
      arith,
      cut i 16 t (2 ^ 31) 4294967295 (2 ^ 31) (lit< tt) g
          (le_mono i 11 16 4294967295 (2 ^ 31) (omega arith) (le-by 11 16 4294967295 (2 ^ 31) 12 (lit< tt) (lit≤ tt)
          (unfold sum scale in lit≤ tt))),
    )

-- e^(31 / 512)
pub fine-high : (i : ℕ) → i < 32 → get_or fine i 0 ≤ 2290649225
fine-high i h = go (get_or fine i 0) (fine-entry i h).ge
  where
    go : (t : ℕ) → ExpGe i 512 t (2 ^ 31) → t ≤ 2290649225
    go t g = omega (
      arith,
      cut i 512 t (2 ^ 31) 2290649225 (2 ^ 31) (lit< tt) g
          (le_mono i 31 512 2290649225 (2 ^ 31) (omega arith) (le-by 31 512 2290649225 (2 ^ 31) 8 (lit< tt) (lit≤ tt)
          (unfold sum scale in lit≤ tt))),
    )

pub table-low : (i : ℕ) → i < 355 → 2 ^ 31 ≤ power i
unfolding power
table-low i h = go (get_or coarse (i / 32 % 16) 0) (get_or fine (i % 32) 0) (coarse-entry (i / 32 % 16) (omega arith)).low
    (fine-entry (i % 32) (omega arith)).low
  where
    go : (a b : ℕ) → 2 ^ 31 ≤ a → 2 ^ 31 ≤ b → 2 ^ 31 ≤ a * b / 2 ^ 31
    go a b h k = omega (arith, mul-le-mul h k)

pub table-high : (i : ℕ) → i < 355 → power i ≤ 4581298449
unfolding power
table-high i h = go (get_or coarse (i / 32 % 16) 0) (get_or fine (i % 32) 0) (coarse-high (i / 32 % 16) (omega arith))
    (fine-high (i % 32) (omega arith))
  where
    go : (a b : ℕ) → a ≤ 4294967295 → b ≤ 2290649225 → a * b / 2 ^ 31 ≤ 4581298449
    go a b h k = omega (arith, mul-le-mul h k)

parts_of : (i : ℕ) → i < 355 → i / 32 % 16 * 17592186044416 + i % 32 * 2 ^ 39 ≡ i * 2 ^ 39
parts_of i h = omega arith

wide_16 : (i : ℕ) → i * 2 ^ 48 ≡ i * 17592186044416 * 16
wide_16 i = omega arith

wide_512 : (i : ℕ) → i * 2 ^ 48 ≡ i * 2 ^ 39 * 512
wide_512 i = omega arith

pub table-ge : (i : ℕ) → i < 355 → ExpGe (i * 2 ^ 39) (2 ^ 48) (power i) (2 ^ 31)
unfolding power
table-ge i h =
    let k = i / 32 % 16 in
    let j = i % 32 in
    let a = get_or coarse k 0 in
    let b = get_or fine j 0 in
    subst (λ (z : ℕ). ExpGe z (2 ^ 48) (a * b / 2 ^ 31) (2 ^ 31)) (parts_of i h)
    (ge_weaken (k * 17592186044416 + j * 2 ^ 39) (2 ^ 48) (a * b) (2 ^ 31 * 2 ^ 31) (a * b / 2 ^ 31) (2 ^ 31) (lit< tt)
    (omega arith)
    (ge-mul (2 ^ 48) (k * 17592186044416) (j * 2 ^ 39) a (2 ^ 31) b (2 ^ 31) (lit< tt)
    (ge-same k 16 (k * 17592186044416) (2 ^ 48) a (2 ^ 31) (lit< tt) (wide_16 k) (coarse-entry k (omega arith)).ge)
    (ge-same j 512 (j * 2 ^ 39) (2 ^ 48) b (2 ^ 31) (lit< tt) (wide_512 j) (fine-entry j (omega arith)).ge)))

pub table-le : (i : ℕ) → i < 355 → ExpLe (i * 2 ^ 39) (2 ^ 48) (power i + 5) (2 ^ 31)
unfolding power
table-le i h =
    let k = i / 32 % 16 in
    let j = i % 32 in
    let a = get_or coarse k 0 in
    let b = get_or fine j 0 in
    subst (λ (z : ℕ). ExpLe z (2 ^ 48) (a * b / 2 ^ 31 + 5) (2 ^ 31)) (parts_of i h)
    (le_weaken (k * 17592186044416 + j * 2 ^ 39) (2 ^ 48) ((a + 1) * (b + 1)) (2 ^ 31 * 2 ^ 31) (a * b / 2 ^ 31 + 5)
    (2 ^ 31) (lit< tt)
    (go a b (coarse-high k (omega arith)) (fine-high j (omega arith)))
    (le-mul (2 ^ 48) (k * 17592186044416) (j * 2 ^ 39) (a + 1) (2 ^ 31) (b + 1) (2 ^ 31) (lit< tt)
    (le_same k 16 (k * 17592186044416) (2 ^ 48) (a + 1) (2 ^ 31) (lit< tt) (wide_16 k)
    (coarse-entry k (omega arith)).le)
    (le_same j 512 (j * 2 ^ 39) (2 ^ 48) (b + 1) (2 ^ 31) (lit< tt) (wide_512 j) (fine-entry j (omega arith)).le)))
  where
    go : (a b : ℕ) → a ≤ 4294967295 → b ≤ 2290649225
        → (a + 1) * (b + 1) * 2 ^ 31 ≤ (a * b / 2 ^ 31 + 5) * (2 ^ 31 * 2 ^ 31)
    go a b h k = omega arith

-- ---- the polynomial, a step at a time, with q = 2^48 and f = 2^31
ge_1 : (p : ℕ) → (2 ^ 31 + p / 256 / 1024) * (2 ^ 48 * 2) ≤ 2 ^ 31 * (2 ^ 48 * 2) + p * 2 ^ 31
ge_1 p = omega arith

ge_0 : (p g : ℕ) → (2 ^ 31 + p / 256 * g / 2 ^ 40) * (2 ^ 48 * 1) ≤ 2 ^ 31 * (2 ^ 48 * 1) + p * g
ge_0 p g =
    let h : p / 256 * 256 ≤ p = omega arith in
    omega (arith, mul-le-mul_right g h)

pub small-ge : (p : ℕ) → ExpGe p (2 ^ 48) (small p) (2 ^ 31)
unfolding small
small-ge p =
    let s = p / 256 in
    let b = 2 ^ 31 + s / 1024 in
    let c = 2 ^ 31 + s * b / 2 ^ 40 in
    ge-tail p (2 ^ 48) c (2 ^ 31)
    (tail-ge 0 p (2 ^ 48) (2 ^ 31) b c (ge_0 p b)
    (tail-ge 1 p (2 ^ 48) (2 ^ 31) (2 ^ 31) b (ge_1 p)
    (tail_ge_one 2 p (2 ^ 48) (2 ^ 31))))

le_2 : (p : ℕ) → p < 2 ^ 39 → 2 ^ 31 * (2 ^ 48 * 3) + p * (2 * 2 ^ 31) ≤ (2 ^ 31 + 2796203) * (2 ^ 48 * 3)
le_2 p h = omega arith

le_1 : (p : ℕ) → p < 2 ^ 39
    → 2 ^ 31 * (2 ^ 48 * 2) + p * (2 ^ 31 + 2796203) ≤ (2 ^ 31 + p / 256 / 1024 + 2732) * (2 ^ 48 * 2)
le_1 p h = omega arith

le_0 : (p g : ℕ) → p < 2 ^ 39 → g < 2 ^ 32
    → 2 ^ 31 * (2 ^ 48 * 1) + p * (g + 2732) ≤ (2 ^ 31 + p / 256 * g / 2 ^ 40 + 8) * (2 ^ 48 * 1)
le_0 p g h l =
    let k : p ≤ p / 256 * 256 + 256 = omega arith in
    omega (arith, mul-le-mul_right g k)

low_1 : (p : ℕ) → p < 2 ^ 39 → 2 ^ 31 + p / 256 / 1024 < 2149580801
low_1 p h = omega arith

low_0 : (p g : ℕ) → p < 2 ^ 39 → g < 2149580801 → 2 ^ 31 + p / 256 * g / 2 ^ 40 < 2155872256
low_0 p g h l =
    let k : p / 256 ≤ 2 ^ 31 = omega arith in
    omega (arith, mul-le-mul_right g k)

pub small-lt : (p : ℕ) → p < 2 ^ 39 → small p < 2155872256
unfolding small
small-lt p h = low_0 p (2 ^ 31 + p / 256 / 1024) h (low_1 p h)

pub small-le : (p : ℕ) → p < 2 ^ 39 → ExpLe p (2 ^ 48) (small p + 8) (2 ^ 31)
unfolding small
small-le p h =
    let s = p / 256 in
    let b = 2 ^ 31 + s / 1024 in
    let c = 2 ^ 31 + s * b / 2 ^ 40 in
    let Q : 0 < 2 ^ 48 = lit< tt in
    le-tail p (2 ^ 48) (c + 8) (2 ^ 31)
    (tail-le 0 p (2 ^ 48) (2 ^ 31) (b + 2732) (c + 8) Q (le_0 p b h (le_trans (low_1 p h) (lit≤ tt)))
    (tail-le 1 p (2 ^ 48) (2 ^ 31) (2 ^ 31 + 2796203) (b + 2732) Q (le_1 p h)
    (tail-le 2 p (2 ^ 48) (2 ^ 31) (2 * 2 ^ 31) (2 ^ 31 + 2796203) Q (le_2 p h)
    (tail-two 3 p (2 ^ 48) (2 ^ 31) (omega arith)))))

-- ---- table entry and polynomial
parts : (r : ℕ) → r / 2 ^ 39 * 2 ^ 39 + r % 2 ^ 39 ≡ r
parts r = omega arith

times-ge : (t g : ℕ) → t * g / 2 ^ 31 * (2 ^ 31 * 2 ^ 31) ≤ t * g * 2 ^ 31
times-ge t g = omega arith

times-le : (t g : ℕ) → t ≤ 4581298449 → g < 2155872256
    → (t + 5) * (g + 8) * 2 ^ 31 ≤ (t * g / 2 ^ 31 + 25) * (2 ^ 31 * 2 ^ 31)
times-le t g h l = omega arith

pub mant-ge : (r : ℕ) → r < 195163313930240 → ExpGe r (2 ^ 48) (mant r) (2 ^ 31)
unfolding mant
mant-ge r h =
    let i = r / 2 ^ 39 in
    let p = r % 2 ^ 39 in
    let t = power i in
    subst (λ (z : ℕ). ExpGe z (2 ^ 48) (t * small p / 2 ^ 31) (2 ^ 31)) (parts r)
    (ge_weaken (i * 2 ^ 39 + p) (2 ^ 48) (t * small p) (2 ^ 31 * 2 ^ 31) (t * small p / 2 ^ 31) (2 ^ 31) (lit< tt)
    (times-ge t (small p))
    (ge-mul (2 ^ 48) (i * 2 ^ 39) p t (2 ^ 31) (small p) (2 ^ 31) (lit< tt) (table-ge i (omega arith)) (small-ge p)))

pub mant-le : (r : ℕ) → r < 195163313930240 → ExpLe r (2 ^ 48) (mant r + 25) (2 ^ 31)
unfolding mant
mant-le r h =
    let i = r / 2 ^ 39 in
    let p = r % 2 ^ 39 in
    let t = power i in
    let I : i < 355 = omega arith in
    let P : p < 2 ^ 39 = omega arith in
    subst (λ (z : ℕ). ExpLe z (2 ^ 48) (t * small p / 2 ^ 31 + 25) (2 ^ 31)) (parts r)
    (le_weaken (i * 2 ^ 39 + p) (2 ^ 48) ((t + 5) * (small p + 8)) (2 ^ 31 * 2 ^ 31) (t * small p / 2 ^ 31 + 25)
    (2 ^ 31) (lit< tt)
    (times-le t (small p) (table-high i I) (small-lt p P))
    (le-mul (2 ^ 48) (i * 2 ^ 39) p (t + 5) (2 ^ 31) (small p + 8) (2 ^ 31) (lit< tt) (table-le i I) (small-le p P)))

small_low : (p : ℕ) → 2 ^ 31 ≤ small p
unfolding small
small_low p = le-add_right (2 ^ 31) (p / 256 * (2 ^ 31 + p / 256 / 1024) / 2 ^ 40)

pub mant-low : (r : ℕ) → r < 195163313930240 → 2 ^ 31 ≤ mant r
unfolding mant
mant-low r h = go (power (r / 2 ^ 39)) (small (r % 2 ^ 39)) (table-low (r / 2 ^ 39) (omega arith))
    (small_low (r % 2 ^ 39))
  where
    go : (t g : ℕ) → 2 ^ 31 ≤ t → 2 ^ 31 ≤ g → 2 ^ 31 ≤ t * g / 2 ^ 31
    go t g h k = omega (arith, mul-le-mul h k)

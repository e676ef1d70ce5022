-- e^x for a fixed point x = ± X / 2^48, cut into 2^n and e^r.
--   mant-high                 for a rest r, mant r is at most 2^32
--   pos_ge, pos_ge', pos_le   the bounds of e^x for x from 0 up, near k ln 2 + r / 2^48: at most 90 units off
--   neg-ge, neg_ge', neg-le   the same for x below 0
use Rattle.std.proofs.Common.{ℕ, ◌+◌, ◌-◌, ◌*◌, ◌^◌, ◌<◌, ◌≤◌, le_refl, mul-le-mul_left, arith, lit<, lit≤}
use Rattle.series.specs.Exp.{sum, scale, ExpGe, ExpLe, ln2}
use Rattle.elementary.specs.Exp.{mant}
use Rattle.series.proofs.Cuts.{le_weaken, ge_weaken, le-mul, ge-mul, le_quot, ge_quot, le_two_pow, ge_two_pow, le_mono}
use Rattle.series.proofs.Cuts.{ge_mono, le-by, cut}
use Rattle.series.proofs.Two.{ln2-le, ln2-ge}
use Rattle.elementary.proofs.exp.Error.{mant-ge, mant-le, mant-low}

-- ---- powers of two
two-le : (k : ℕ) → ExpLe (k * ln2) (2 ^ 48) (2 ^ k) 1
two-le = le_two_pow (2 ^ 48) ln2 (lit< tt) ln2-le

two-ge : (k : ℕ) → ExpGe (k * (ln2 + 1)) (2 ^ 48) (2 ^ k) 1
two-ge = ge_two_pow (2 ^ 48) (ln2 + 1) (lit< tt) ln2-ge

-- e^(e / 2^48) ≤ 1 + 4210689 / 2^48
near_one : (e : ℕ) → e ≤ 4210688 → ExpLe e (2 ^ 48) 281474980921345 (2 ^ 48)
near_one e h = le_mono e 4210688 (2 ^ 48) 281474980921345 (2 ^ 48) h (le-by 4210688 (2 ^ 48) 281474980921345 (2 ^ 48) 2
    (lit< tt) (lit≤ tt) (unfold sum scale in lit≤ tt))

pub mant-high : (r : ℕ) → r < ln2 + 1 → mant r ≤ 2 ^ 32
mant-high r h = omega (
  arith,
  cut r (2 ^ 48) (mant r) (2 ^ 31) 2 1 (lit< tt) (mant-ge r (omega arith))
      (le_mono r ln2 (2 ^ 48) 2 1 (omega arith) ln2-le),
)

-- e^((r + e) / 2^48), where e is small
both-le : (e r : ℕ) → e ≤ 4210688 → r < ln2 + 1 → ExpLe (r + e) (2 ^ 48) (mant r + 90) (2 ^ 31)
both-le e r h l =
    le_weaken (r + e) (2 ^ 48) ((mant r + 25) * 281474980921345) (2 ^ 31 * 2 ^ 48) (mant r + 90) (2 ^ 31) (lit< tt)
    (omega (arith, mant-high r l))
    (le-mul (2 ^ 48) r e (mant r + 25) (2 ^ 31) 281474980921345 (2 ^ 48) (lit< tt) (mant-le r (omega arith))
    (near_one e h))

-- M - 90 is below M e^-(e / 2^48)
less : (M : ℕ) → 2 ^ 31 ≤ M → M ≤ 2 ^ 32 → (M - 90) * 281474980921345 ≤ M * 2 ^ 48
less M l h = omega arith

module _ (k r a : ℕ) (R : r < ln2 + 1) where
  -- ---- x = a / 2^48 ≥ 0, near k ln 2 + r / 2^48
  pub pos_ge : k * (ln2 + 1) + r ≤ a → ExpGe a (2 ^ 48) (2 ^ k * mant r) (2 ^ 31)
  pos_ge h =
      ge_mono (k * (ln2 + 1) + r) a (2 ^ 48) (2 ^ k * mant r) (2 ^ 31) h
      (ge_weaken (k * (ln2 + 1) + r) (2 ^ 48) (2 ^ k * mant r) (1 * 2 ^ 31) (2 ^ k * mant r) (2 ^ 31) (lit< tt)
      (le_refl (2 ^ k * mant r * 2 ^ 31))
      (ge-mul (2 ^ 48) (k * (ln2 + 1)) r (2 ^ k) 1 (mant r) (2 ^ 31) (lit< tt) (two-ge k) (mant-ge r (omega arith))))

  pub pos_ge' : (e : ℕ) → e ≤ 4210688 → k * (ln2 + 1) + r ≤ a + e → ExpGe a (2 ^ 48) (2 ^ k * (mant r - 90)) (2 ^ 31)
  pos_ge' e E h =
      ge_weaken a (2 ^ 48) (2 ^ k * mant r * 2 ^ 48) (2 ^ 31 * 281474980921345) (2 ^ k * (mant r - 90)) (2 ^ 31)
      (lit< tt)
      (go (2 ^ k) (mant r) (mant r - 90) (less (mant r) (mant-low r (omega arith)) (mant-high r R)))
      (ge_quot (2 ^ 48) a e (2 ^ k * mant r) (2 ^ 31) 281474980921345 (2 ^ 48) (lit< tt)
      (ge_mono (k * (ln2 + 1) + r) (a + e) (2 ^ 48) (2 ^ k * mant r) (2 ^ 31) h
      (ge_weaken (k * (ln2 + 1) + r) (2 ^ 48) (2 ^ k * mant r) (1 * 2 ^ 31) (2 ^ k * mant r) (2 ^ 31) (lit< tt)
      (le_refl (2 ^ k * mant r * 2 ^ 31))
      (ge-mul (2 ^ 48) (k * (ln2 + 1)) r (2 ^ k) 1 (mant r) (2 ^ 31) (lit< tt) (two-ge k) (mant-ge r (omega arith)))))
      (near_one e E))
    where
      go : (z M L : ℕ) → L * 281474980921345 ≤ M * 2 ^ 48 → z * L * (2 ^ 31 * 281474980921345) ≤ z * M * 2 ^ 48 * 2 ^ 31
      go z M L l = omega (arith, mul-le-mul_left z l)

  pub pos_le : (e : ℕ) → e ≤ 4210688 → a ≤ k * ln2 + (r + e) → ExpLe a (2 ^ 48) (2 ^ k * (mant r + 90)) (2 ^ 31)
  pos_le e E h =
      le_mono a (k * ln2 + (r + e)) (2 ^ 48) (2 ^ k * (mant r + 90)) (2 ^ 31) h
      (le_weaken (k * ln2 + (r + e)) (2 ^ 48) (2 ^ k * (mant r + 90)) (1 * 2 ^ 31) (2 ^ k * (mant r + 90)) (2 ^ 31)
      (lit< tt) (le_refl (2 ^ k * (mant r + 90) * 2 ^ 31))
      (le-mul (2 ^ 48) (k * ln2) (r + e) (2 ^ k) 1 (mant r + 90) (2 ^ 31) (lit< tt) (two-le k) (both-le e r E R)))

  -- ---- x = - a / 2^48, near r / 2^48 - k ln 2. The bounds are those of e^(a / 2^48), upside down
  pub neg-ge : a + r ≤ k * ln2 → ExpLe a (2 ^ 48) (2 ^ k * 2 ^ 31) (mant r)
  neg-ge h =
      le_weaken a (2 ^ 48) (2 ^ k * 2 ^ 31) (1 * mant r) (2 ^ k * 2 ^ 31) (mant r)
      (omega (arith, mant-low r (omega arith))) (omega arith)
      (le_quot (2 ^ 48) a r (2 ^ k) 1 (mant r) (2 ^ 31) (lit< tt) (le_mono (a + r) (k * ln2) (2 ^ 48) (2 ^ k) 1 h
      (two-le k)) (mant-ge r (omega arith)))

  pub neg_ge' : (e : ℕ) → e ≤ 4210688 → a + r ≤ k * ln2 + e → ExpLe a (2 ^ 48) (2 ^ k * 2 ^ 31) (mant r - 90)
  neg_ge' e E h =
      le_weaken a (2 ^ 48) (2 ^ k * 281474980921345 * 2 ^ 31) (1 * 2 ^ 48 * mant r) (2 ^ k * 2 ^ 31) (mant r - 90)
      (omega (arith, mant-low r (omega arith)))
      (go (2 ^ k) (mant r) (mant r - 90) (less (mant r) (mant-low r (omega arith)) (mant-high r R)))
      (le_quot (2 ^ 48) a r (2 ^ k * 281474980921345) (1 * 2 ^ 48) (mant r) (2 ^ 31) (lit< tt)
      (le_mono (a + r) (k * ln2 + e) (2 ^ 48) (2 ^ k * 281474980921345) (1 * 2 ^ 48) h
      (le-mul (2 ^ 48) (k * ln2) e (2 ^ k) 1 281474980921345 (2 ^ 48) (lit< tt) (two-le k) (near_one e E)))
      (mant-ge r (omega arith)))
    where
      go : (z M L : ℕ) → L * 281474980921345 ≤ M * 2 ^ 48
          → z * 281474980921345 * 2 ^ 31 * L ≤ z * 2 ^ 31 * (1 * 2 ^ 48 * M)
      go z M L l = omega (arith, mul-le-mul_left z l)

  pub neg-le : (e : ℕ) → e ≤ 4210688 → k * (ln2 + 1) ≤ a + (r + e) → ExpGe a (2 ^ 48) (2 ^ k * 2 ^ 31) (mant r + 90)
  neg-le e E h =
      ge_weaken a (2 ^ 48) (2 ^ k * 2 ^ 31) (1 * (mant r + 90)) (2 ^ k * 2 ^ 31) (mant r + 90) (omega arith)
      (omega arith)
      (ge_quot (2 ^ 48) a (r + e) (2 ^ k) 1 (mant r + 90) (2 ^ 31) (lit< tt)
      (ge_mono (k * (ln2 + 1)) (a + (r + e)) (2 ^ 48) (2 ^ k) 1 h (two-ge k)) (both-le e r E R))

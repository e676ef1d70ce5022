-- |ln x| in fixed point, from below, within 1500 units of 2^-52.
--   up_le, up-ge       the bounds for x = m / 2^23 * 2^k
--   down_le, down_ge   the bounds for x = m / 2^23 / 2^k, which are those of - ln x
--   ln_mant-lt          ln (m / 2^23) is below ln 2, with room for the error
use Rattle.std.proofs.Common.{◌≡◌, ℕ, ◌+◌, ◌*◌, ◌^◌, ◌<◌, ◌≤◌, ◌⊎◌, sym, subst, inl, inr, arith, lit<, lit≤}
use Rattle.series.specs.Exp.{sum, scale, ExpGe, ExpLe}
use Rattle.series.proofs.Cuts.{le_weaken, ge_weaken, le-mul, ge-mul, le_quot, ge_quot, le_two_pow, ge_two_pow, ge_mono}
use Rattle.series.proofs.Cuts.{le-by, cut}
use Rattle.series.proofs.Cuts.{lt_or_ge}
use Rattle.elementary.specs.Ln.{ln_mant}
use Rattle.elementary.proofs.ln.Error.{ln_mant-le, ln_mant-ge}

ln2-le : ExpLe 3121657384082679 (2 ^ 52) 2 1
ln2-le = le-by 3121657384082679 (2 ^ 52) 2 1 22 (lit< tt) (lit≤ tt) (unfold sum scale in lit≤ tt)

ln2-ge : ExpGe 3121657384082680 (2 ^ 52) 2 1
ln2-ge = (22, unfold sum scale in lit≤ tt)

two-le : (k : ℕ) → ExpLe (k * 3121657384082679) (2 ^ 52) (2 ^ k) 1
two-le = le_two_pow (2 ^ 52) 3121657384082679 (lit< tt) ln2-le

two-ge : (k : ℕ) → ExpGe (k * 3121657384082680) (2 ^ 52) (2 ^ k) 1
two-ge = ge_two_pow (2 ^ 52) 3121657384082680 (lit< tt) ln2-ge

module _ (m : ℕ) (lo : 2 ^ 23 ≤ m) (hi : m < 2 ^ 24) where
  -- x = u / v = m / 2^23 * 2^k
  pub up_le : (k u v : ℕ) → u * 2 ^ 23 ≡ 2 ^ k * m * v → ExpLe (k * 3121657384082679 + ln_mant m) (2 ^ 52) u v
  up_le k u v e =
      le_weaken (k * 3121657384082679 + ln_mant m) (2 ^ 52) (2 ^ k * m) (1 * 2 ^ 23) u v (lit< tt) (omega arith)
      (le-mul (2 ^ 52) (k * 3121657384082679) (ln_mant m) (2 ^ k) 1 m (2 ^ 23) (lit< tt) (two-le k) (ln_mant-le m lo hi))

  pub up-ge : (k u v : ℕ) → k ≤ 160 → u * 2 ^ 23 ≡ 2 ^ k * m * v
      → ExpGe (k * 3121657384082679 + ln_mant m + 1500) (2 ^ 52) u v
  up-ge k u v h e =
      ge_mono (k * 3121657384082680 + (ln_mant m + 1320)) (k * 3121657384082679 + ln_mant m + 1500) (2 ^ 52) u v
      (omega arith)
      (ge_weaken (k * 3121657384082680 + (ln_mant m + 1320)) (2 ^ 52) (2 ^ k * m) (1 * 2 ^ 23) u v (lit< tt)
      (omega arith)
      (ge-mul (2 ^ 52) (k * 3121657384082680) (ln_mant m + 1320) (2 ^ k) 1 m (2 ^ 23) (lit< tt) (two-ge k)
      (ln_mant-ge m lo hi)))

  -- x = u / v = m / 2^23 / 2^k, and the bounds are those of 1 / x
  pub down_le : (k w u v : ℕ) → u * (2 ^ k * 2 ^ 23) ≡ m * v → w + (ln_mant m + 1320) ≡ k * 3121657384082679
      → ExpLe w (2 ^ 52) v u
  down_le k w u v e s =
      le_weaken w (2 ^ 52) (2 ^ k * 2 ^ 23) (1 * m) v u (omega arith) (omega arith)
      (le_quot (2 ^ 52) w (ln_mant m + 1320) (2 ^ k) 1 m (2 ^ 23) (lit< tt)
      (subst (λ (z : ℕ). ExpLe z (2 ^ 52) (2 ^ k) 1) (sym s) (two-le k)) (ln_mant-ge m lo hi))

  pub down_ge : (k w u v : ℕ) → k ≤ 160 → u * (2 ^ k * 2 ^ 23) ≡ m * v → w + (ln_mant m + 1320) ≡ k * 3121657384082679
      → ExpGe (w + 1500) (2 ^ 52) v u
  down_ge k w u v h e s =
      let s' : k * 3121657384082680 ≡ w + 1320 + k + ln_mant m = omega arith in
      ge_mono (w + 1320 + k) (w + 1500) (2 ^ 52) v u (omega arith)
      (ge_weaken (w + 1320 + k) (2 ^ 52) (2 ^ k * 2 ^ 23) (1 * m) v u (omega arith) (omega arith)
      (ge_quot (2 ^ 52) (w + 1320 + k) (ln_mant m) (2 ^ k) 1 m (2 ^ 23) (lit< tt)
      (subst (λ (z : ℕ). ExpGe z (2 ^ 52) (2 ^ k) 1) s' (two-ge k)) (ln_mant-le m lo hi)))

  -- ln (m / 2^23) is below ln 2, with room
  pub ln_mant-lt : ln_mant m + 1320 ≤ 3121657384082679
  ln_mant-lt = go (lt_or_ge (ln_mant m) 3121657383034103)
    where
      go : (ln_mant m < 3121657383034103) ⊎ (3121657383034103 ≤ ln_mant m) → ln_mant m + 1320 ≤ 3121657384082679
      go (inl l) = omega arith
      go (inr l) = absurd (no (cut (ln_mant m) (2 ^ 52) 33554431 (2 ^ 24) m (2 ^ 23) (lit< tt)
          (ge_mono 3121657383034103 (ln_mant m) (2 ^ 52) 33554431 (2 ^ 24) l (22, unfold sum scale in lit≤ tt))
          (ln_mant-le m lo hi)))
        where
          no : 33554431 * 2 ^ 23 ≤ m * 2 ^ 24 → ⊥
          no h = omega arith

-- The finer logarithm of a fixed point number from 1/4 to 4, and of the power 2^k of x that it stands for.
--   Top x z, top            z leading zeros taken off x, and that count_leading_zeros is such a z
--   fine_is                 what fine_log2 is
--   z, y, w                 the leading zeros, the significand of 36 digits, and its logarithm
--   w-lt, fine_range        the ranges of that and of fine_log2
--   fine-low, fine-high     fine_log2 x against log2 x, from below and from above
--   power-low, power-high   the bounds for a / b after n squares
use Rattle.std.proofs.Common.{◌≡◌, ℕ, suc, ◌+◌, ◌-◌, ◌*◌, ◌/◌, ◌%◌, ◌^◌, ◌<◌, ◌≤◌, ◌⊎◌, sym, refl, ap, ◌∙◌, subst, inl, inr, le_trans, le_of_eq, lt_of_lt_of_le, mul-le-mul_right, mul_assoc, mul_comm, mul-le-mul_left, mul-lt-mul_of_pos_right, le_of_mul-le-mul_right, mul_left_comm, arith, lit<, lit≤, pow_pos, pow_mono, pow-add}
use lib.Count.{count_leading_zeros, leading_top}
use Rattle.series.specs.Exp.{sum, scale, ln2}
use Rattle.series.proofs.Cuts.{lt_or_ge}
use Rattle.series.proofs.Two.{TwoLe, TwoGe, two_le_mono, two_ge_mono, two_le_weaken, two_ge_weaken, two_le_mul}
use Rattle.series.proofs.Two.{two_ge_mul, two_le_whole, two_ge_whole, two_ge_exp, two_cut, ln2-le}
use Rattle.elementary.specs.Power.{fine_log2_at, fine_log2}
use Rattle.elementary.proofs.log2.Law.{floor}
use Rattle.elementary.proofs.log2.Fine.{fine-below, fine_above}
use Rattle.elementary.proofs.large.Squaring.{State}

-- 2^(8 / 2^35) ≥ (1 + 2^-35) (1 + 2^-33)
slack : TwoGe 8 (2 ^ 35) (34359738369 * 8589934593) (2 ^ 35 * 2 ^ 33)
slack =
    two_ge_exp ln2 (2 ^ 48) 8 (2 ^ 35) (34359738369 * 8589934593) (2 ^ 35 * 2 ^ 33)
    (lit< tt) (lit< tt) ln2-le (1, unfold sum scale in lit≤ tt)

-- a significand y of 36 digits
sig_below : (y : ℕ) → 2 ^ 35 ≤ y → y < 2 ^ 36
    → TwoLe (fine_log2_at (y / 2 ^ 26 - 512) (y % 2 ^ 26) + (y / 2 ^ 26 - 512) * 2 ^ 26 - 8) (2 ^ 35) y
    (2 ^ 35)
sig_below y lo hi =
    let i = y / 2 ^ 26 - 512 in
    let t = y % 2 ^ 26 in
    let f = floor (t * t) (2 ^ 24) (lit< tt) in
    subst (λ (z : ℕ). TwoLe (fine_log2_at i t + i * 2 ^ 26 - 8) (2 ^ 35) z (2 ^ 35)) whole
    (fine-below i t (512 + i) ((512 + i) * 2 ^ 26) (t * t / 2 ^ 24) (omega arith) (omega arith) refl refl f.0
    f.1)
  where
    whole : (512 + (y / 2 ^ 26 - 512)) * 2 ^ 26 + y % 2 ^ 26 ≡ y
    whole = omega arith

sig_above : (y : ℕ) → 2 ^ 35 ≤ y → y < 2 ^ 36
    → TwoGe (fine_log2_at (y / 2 ^ 26 - 512) (y % 2 ^ 26) + (y / 2 ^ 26 - 512) * 2 ^ 26 + 8) (2 ^ 35) y
    (2 ^ 35)
sig_above y lo hi =
    let i = y / 2 ^ 26 - 512 in
    let t = y % 2 ^ 26 in
    let f = floor (t * t) (2 ^ 24) (lit< tt) in
    subst (λ (z : ℕ). TwoGe (fine_log2_at i t + i * 2 ^ 26 + 8) (2 ^ 35) z (2 ^ 35)) whole
    (fine_above i t (512 + i) ((512 + i) * 2 ^ 26) (t * t / 2 ^ 24) (omega arith) (omega arith) refl refl f.0
    f.1)
  where
    whole : (512 + (y / 2 ^ 26 - 512)) * 2 ^ 26 + y % 2 ^ 26 ≡ y
    whole = omega arith

-- z leading zeros taken off: 2^63 ≤ x 2^z < 2^64
pub record Top (x z : ℕ) : Type 0 where
  pub most : z ≤ 63
  pub low : 2 ^ 63 ≤ x * 2 ^ z
  pub high : x * 2 ^ z < 2 ^ 64

pub top : (x : ℕ) → 0 < x → x < 2 ^ 64 → Top x (count_leading_zeros 64 x)
top x X h =
    let t = leading_top 64 x X h in
    go (count_leading_zeros 64 x) t.0 t.1 t.2 t.3
  where
    go : (z j : ℕ) → z + suc j ≡ 64 → 2 ^ j ≤ x → x < 2 ^ suc j → Top x z
    go z j e lo hi =
        let s : j + z ≡ 63 = omega arith in
        let s' : suc j + z ≡ 64 = omega arith in
        let a : 2 ^ j * 2 ^ z ≡ 2 ^ 63 = sym (pow-add 2 j z) ∙ ap (λ (i : ℕ). 2 ^ i) s in
        let c : 2 ^ suc j * 2 ^ z ≡ 2 ^ 64 = sym (pow-add 2 (suc j) z) ∙ ap (λ (i : ℕ). 2 ^ i) s' in
        record {
          most = omega arith;
          low = le_trans (le_of_eq (sym a)) (mul-le-mul_right (2 ^ z) lo);
          high = lt_of_lt_of_le (mul-lt-mul_of_pos_right hi (pow_pos z)) (le_of_eq c);
        }

pub fine_is : (x : ℕ) → fine_log2 x ≡ (162 - count_leading_zeros 64 x) * 2 ^ 35 + (fine_log2_at
    (x * 2 ^ count_leading_zeros 64 x / 2 ^ 28 / 2 ^ 26 - 512)
    (x * 2 ^ count_leading_zeros 64 x / 2 ^ 28 % 2 ^ 26) + (x * 2 ^ count_leading_zeros 64
    x / 2 ^ 28 / 2 ^ 26 - 512) * 2 ^ 26)
unfolding fine_log2
fine_is x = refl

module _ (x : ℕ) (X : 0 < x) (h : x < 2 ^ 64) where
  abbrev pub z : ℕ
  z = count_leading_zeros 64 x

  abbrev pub y : ℕ
  y = x * 2 ^ z / 2 ^ 28

  abbrev pub w : ℕ
  w = fine_log2_at (y / 2 ^ 26 - 512) (y % 2 ^ 26) + (y / 2 ^ 26 - 512) * 2 ^ 26

  T : Top x z
  T = top x X h

  y_low : 2 ^ 35 ≤ y
  y_low = omega (arith, T.low)

  y_high : y < 2 ^ 36
  y_high = omega (arith, T.high)

  all : 2 ^ (162 - z) * 2 ^ z ≡ 2 ^ 134 * 2 ^ 28
  all = sym (pow-add 2 (162 - z) z) ∙ ap (λ (i : ℕ). 2 ^ i) (sum T.most)
    where
      sum : z ≤ 63 → (162 - z) + z ≡ 162
      sum m = omega arith

  pub w-lt : w < 34359738376
  w-lt = go (lt_or_ge w 34359738376)
    where
      no : 2 * 2 ^ 35 ≤ y * 1 → ⊥
      no k = omega (arith, y_high)

      go : (w < 34359738376) ⊎ (34359738376 ≤ w) → w < 34359738376
      go (inl k) = k
      go (inr k) =
          absurd (no (two_cut (2 ^ 35) (2 ^ 35) 2 1 y (2 ^ 35) (lit< tt) (two_ge_whole 1 (2 ^ 35))
          (two_le_mono (2 ^ 35) (w - 8) (2 ^ 35) y (2 ^ 35) (omega arith) (sig_below y y_low y_high))))

  pub fine_range : (8 ≤ fine_log2 x) × (fine_log2 x ≤ 5600637354000)
  fine_range = (omega (arith, fine_is x, T.most), omega (arith, fine_is x, w-lt))

  pub fine-low : TwoLe (fine_log2 x - 8) (2 ^ 35) (x * 2 ^ 99) 1
  fine-low =
      let e = 162 - z in
      two_le_mono (fine_log2 x - 8) (2 ^ 35 * e + (w - 8)) (2 ^ 35) (x * 2 ^ 99) 1 (omega (arith, fine_is x))
      (two_le_weaken (2 ^ 35 * e + (w - 8)) (2 ^ 35) (2 ^ e * y) (1 * 2 ^ 35) (x * 2 ^ 99) 1 (lit< tt)
      (go (2 ^ e) (2 ^ z) y (2 ^ 99) all (omega arith))
      (two_le_mul (2 ^ 35) (2 ^ 35 * e) (w - 8) (2 ^ e) 1 y (2 ^ 35) (two_le_whole e (2 ^ 35))
      (sig_below y y_low y_high)))
    where
      go : (e z y k : ℕ) → e * z ≡ k * 2 ^ 35 * 2 ^ 28 → y * 2 ^ 28 ≤ x * z
          → e * y * 1 ≤ x * k * (1 * 2 ^ 35)
      go e z y k p l =
          le_of_mul-le-mul_right {k = (2 ^ 28)} (omega (arith, mul-le-mul_left e l, ap (λ (i : ℕ). x * i) p)) (lit< tt)

  pub fine-high : TwoGe (fine_log2 x + 8) (2 ^ 35) (x * 2 ^ 99 * 2 ^ 35) 34359738369
  fine-high =
      let e = 162 - z in
      two_ge_mono (2 ^ 35 * e + (w + 8)) (fine_log2 x + 8) (2 ^ 35) (x * 2 ^ 99 * 2 ^ 35) 34359738369
      (omega (arith, fine_is x))
      (two_ge_weaken (2 ^ 35 * e + (w + 8)) (2 ^ 35) (2 ^ e * y) (1 * 2 ^ 35) (x * 2 ^ 99 * 2 ^ 35)
      34359738369 (lit< tt) (go (2 ^ e) (2 ^ z) y (2 ^ 99) all (omega arith) y_low)
      (two_ge_mul (2 ^ 35) (2 ^ 35 * e) (w + 8) (2 ^ e) 1 y (2 ^ 35) (two_ge_whole e (2 ^ 35))
      (sig_above y y_low y_high)))
    where
      go : (e z y k : ℕ) → e * z ≡ k * 2 ^ 35 * 2 ^ 28 → x * z ≤ (y + 1) * 2 ^ 28 → 2 ^ 35 ≤ y
          → x * k * 2 ^ 35 * (1 * 2 ^ 35) ≤ e * y * 34359738369
      go e z y k p l m =
          le_of_mul-le-mul_right {k = (2 ^ 28)} (omega
          (arith, mul-le-mul_left e l, ap (λ (i : ℕ). x * i) p, mul-le-mul_left e m)) (lit< tt)

-- ---- of a / b after n squares, n ≤ 24
module _ (a b n x : ℕ) (N : n ≤ 24) (B : 0 < b) (lo : 2 ^ 58 ≤ x) (hi : x < 2 ^ 62)
    (s : State a b n x) where
  x_pos : 0 < x
  x_pos = omega arith

  x_lt : x < 2 ^ 64
  x_lt = omega arith

  close : a ^ (2 ^ n) * 2 ^ 60 * 2 ^ 33 ≤ x * b ^ (2 ^ n) * 8589934593
  close =
      let e = 2 ^ n - 1 in
      let ee : e + 1 ≡ 2 ^ n = omega (arith, pow_pos n) in
      let E : 2 ^ n ≤ 2 ^ 24 = pow_mono {i = n} {j = 24} N in
      go (a ^ (2 ^ n)) (x * b ^ (2 ^ n)) e (omega arith) (s.high lo e ee)
    where
      go : (A Y e : ℕ) → e ≤ 2 ^ 24 → A * 2 ^ 60 * 2 ^ 57 ≤ Y * (2 ^ 57 + e)
          → A * 2 ^ 60 * 2 ^ 33 ≤ Y * 8589934593
      go A Y e l h = le_of_mul-le-mul_right {k = (2 ^ 24)} (omega (arith, mul-le-mul_left Y l)) (lit< tt)

  pub power-low : TwoLe (fine_log2 x - 8) (2 ^ 35) (a ^ (2 ^ n) * 2 ^ 159) (b ^ (2 ^ n))
  power-low =
      two_le_weaken (fine_log2 x - 8) (2 ^ 35) (x * 2 ^ 99) 1 (a ^ (2 ^ n) * 2 ^ 159) (b ^ (2 ^ n)) (lit< tt)
      (go (a ^ (2 ^ n)) (b ^ (2 ^ n)) (2 ^ 99) s.low) (fine-low x x_pos x_lt)
    where
      go : (A C k : ℕ) → x * C ≤ A * 2 ^ 60 → x * k * C ≤ A * (k * 2 ^ 60) * 1
      go A C k h = omega (arith, mul-le-mul_left k h)

  pub power-high : TwoGe (fine_log2 x + 16) 34359738368 (a ^ (2 ^ n) * 2 ^ 159) (b ^ (2 ^ n))
  power-high =
      subst (λ (l : ℕ). TwoGe l 34359738368 (a ^ (2 ^ n) * 2 ^ 159) (b ^ (2 ^ n))) (eight (fine_log2 x))
      (two_ge_weaken (fine_log2 x + 8 + 8) 34359738368 (x * 2 ^ 99 * 34359738368 * (34359738369 * 8589934593))
      (34359738369 * (34359738368 * 8589934592)) (a ^ (2 ^ n) * 2 ^ 159) (b ^ (2 ^ n)) (lit< tt)
      (go (a ^ (2 ^ n)) (b ^ (2 ^ n)) (2 ^ 99) close)
      (two_ge_mul 34359738368 (fine_log2 x + 8) 8 (x * 2 ^ 99 * 34359738368) 34359738369 (34359738369 * 8589934593)
      (34359738368 * 8589934592) (fine-high x x_pos x_lt) slack))
    where
      eight : (l : ℕ) → l + 8 + 8 ≡ l + 16
      eight l = omega arith

      go : (A C k : ℕ) → A * 1152921504606846976 * 8589934592 ≤ x * C * 8589934593
          → A * (k * 1152921504606846976) * (34359738369 * (34359738368 * 8589934592)) ≤ x * k * 34359738368
          * (34359738369 * 8589934593) * C
      go A C k h =
          le_trans (le_of_eq (left A k)) (le_trans (mul-le-mul_left (k * (34359738368 * 34359738369)) h)
          (le_of_eq (right (x * C) x C k)))
        where
          left : (A k : ℕ) → A * (k * 1152921504606846976) * (34359738369 * (34359738368 * 8589934592)) ≡ k
              * (34359738368 * 34359738369) * (A * 1152921504606846976 * 8589934592)
          left A k = simp (mul_assoc, mul_comm, mul_left_comm)

          right : (v x C k : ℕ) → k * (34359738368 * 34359738369) * (x * C * 8589934593) ≡ x * k * 34359738368
              * (34359738369 * 8589934593) * C
          right v x C k = simp (mul_assoc, mul_comm, mul_left_comm)

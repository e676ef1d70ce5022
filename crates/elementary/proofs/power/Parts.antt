-- The law of the logarithm for a float: x 2^159 is between 2^((l - 1) / 2^32) and 2^((l + 2) / 2^32), l = log2_of
-- (normalized b).
--   normalized-sub, normalized-normal    of a subnormal pattern, and of a normal one
--   Parts b p, parts                     a normalized pattern holds the exponent and the significand
--   m, w, is                             its digits, their logarithm, and log2_of by it
--   log-low, log-high, w_le, log_range   the bounds and the ranges of log2_of and of w
--   log-exact                            at a power of two
--   scaled                               x from its normalized pattern
--   float-low, float-high, float_range   the law, and the range
use Rattle.std.proofs.Common.{◌≡◌, ℕ, ◌+◌, ◌-◌, ◌*◌, ◌/◌, ◌%◌, ◌^◌, ◌<◌, ◌≤◌, false, ◌⊎◌, sym, refl, ap, ◌∙◌, inl, inr, le_of_eq, arith, lit<, pow_pos, pow-add}
use native.Mathlib.Nat.{eq_of_mul-eq-mul_right}
use lib.Count.{count_leading_zeros}
use lib.Ieee.{Float, binary32, of_bits}
use lib.Ieee.Exact.{HasValue}
use lib.Ieee.Positive.{num, den}
use Rattle.series.proofs.Cuts.{lt_or_ge}
use Rattle.series.proofs.Two.{TwoLe, TwoGe, two_le_mono, two_ge_mono, two_le_weaken, two_ge_weaken, two_le_mul}
use Rattle.series.proofs.Two.{two_ge_mul, two_le_whole, two_ge_whole, two_cut}
use Rattle.elementary.specs.Ln.{exponent, significand}
use Rattle.elementary.specs.Power.{normalized, log2_at, log2_of}
use Rattle.elementary.proofs.Common.{fraction_is}
use Rattle.elementary.proofs.ln.Parts.{exponent-sub, exponent-normal, significand-sub, significand-normal, range}
use Rattle.elementary.proofs.ln.Parts.{at-parts}
use Rattle.elementary.proofs.log2.Law.{significand-below, significand_above, log_zero}

pub normalized-sub : (b : ℕ) → b < 2 ^ 23 → normalized
    b ≡ (41 - count_leading_zeros 32 b - 1) * 2 ^ 23 + b * 2 ^ (count_leading_zeros 32 b - 8)
unfolding normalized
normalized-sub b h = rw (exponent-sub b h, significand-sub b h)

pub normalized-normal : (b : ℕ) → 2 ^ 23 ≤ b → normalized b ≡ b + 2 ^ 28
unfolding normalized
normalized-normal b h = rw (exponent-normal b h, significand-normal b h) (omega arith)

-- the exponent and the significand again
pub record Parts (b p : ℕ) : Type 0 where
  pub least : 10 ≤ p / 2 ^ 23
  pub most : p / 2 ^ 23 ≤ 286
  pub exponent_is : p / 2 ^ 23 ≡ exponent b
  pub significand_is : 2 ^ 23 + p % 2 ^ 23 ≡ significand b

pub parts : (b : ℕ) → 0 < b → b < 0x7F800000 → Parts b (normalized b)
unfolding normalized
parts b B h =
    go (exponent b) (significand b) (range b B h).least (range b B h).most (range b B h).low (range b B h).high refl
    refl
  where
    go : (n m : ℕ) → 10 ≤ n → n ≤ 286 → 2 ^ 23 ≤ m → m < 2 ^ 24 → exponent b ≡ n → significand b ≡ m
        → Parts b ((exponent b - 1) * 2 ^ 23 + significand b)
    go n m lo hi low high en em =
        rw (en, em) record {
          least = omega arith;
          most = omega arith;
          exponent_is = rw en (omega arith);
          significand_is = rw em (omega arith);
        }

-- ---- the logarithm of a normalized pattern
log-parts : (p : ℕ) → log2_of p ≡ 2 ^ 32 * (p / 2 ^ 23) + (log2_at (p % 2 ^ 23 / 2 ^ 14)
    (p % 2 ^ 23 % 2 ^ 14) + p % 2 ^ 23 / 2 ^ 14 * 2 ^ 23)
unfolding log2_of
log-parts p =
    let i : p / 2 ^ 14 % 512 ≡ p % 2 ^ 23 / 2 ^ 14 = omega arith in
    let t : p % 2 ^ 14 ≡ p % 2 ^ 23 % 2 ^ 14 = omega arith in
    rw (i, t) (go (log2_at (p % 2 ^ 23 / 2 ^ 14) (p % 2 ^ 23 % 2 ^ 14)))
  where
    go : (w : ℕ) → p / 2 ^ 14 * 2 ^ 23 + w ≡ 2 ^ 32 * (p / 2 ^ 23) + (w + p % 2 ^ 23 / 2 ^ 14 * 2 ^ 23)
    go w = omega arith

module _ (p : ℕ) where
  abbrev pub m : ℕ
  m = p % 2 ^ 23

  M : m < 2 ^ 23
  M = omega arith

  abbrev pub w : ℕ
  w = log2_at (m / 2 ^ 14) (m % 2 ^ 14) + m / 2 ^ 14 * 2 ^ 23

  pub is : log2_of p ≡ 2 ^ 32 * (p / 2 ^ 23) + w
  is = log-parts p

  pub log-low : TwoLe (log2_of p - 1) (2 ^ 32) (2 ^ (p / 2 ^ 23) * (2 ^ 23 + p % 2 ^ 23)) (2 ^ 23)
  log-low =
      let e = p / 2 ^ 23 in
      two_le_mono (log2_of p - 1) (2 ^ 32 * e + (w - 1)) (2 ^ 32) (2 ^ e * (2 ^ 23 + m)) (1 * 2 ^ 23)
      (omega (arith, is))
      (two_le_mul (2 ^ 32) (2 ^ 32 * e) (w - 1) (2 ^ e) 1 (2 ^ 23 + m) (2 ^ 23) (two_le_whole e (2 ^ 32))
      (significand-below m M))

  pub log-high : TwoGe (log2_of p + 2) (2 ^ 32) (2 ^ (p / 2 ^ 23) * (2 ^ 23 + p % 2 ^ 23)) (2 ^ 23)
  log-high =
      let e = p / 2 ^ 23 in
      two_ge_mono (2 ^ 32 * e + (w + 2)) (log2_of p + 2) (2 ^ 32) (2 ^ e * (2 ^ 23 + m)) (1 * 2 ^ 23)
      (omega (arith, is))
      (two_ge_mul (2 ^ 32) (2 ^ 32 * e) (w + 2) (2 ^ e) 1 (2 ^ 23 + m) (2 ^ 23) (two_ge_whole e (2 ^ 32))
      (significand_above m M))

  pub w_le : w ≤ 2 ^ 32
  w_le = go (lt_or_ge (2 ^ 32) w)
    where
      no : 2 * 2 ^ 23 ≤ (2 ^ 23 + m) * 1 → ⊥
      no h = omega (arith, M)

      go : (2 ^ 32 < w) ⊎ (w ≤ 2 ^ 32) → w ≤ 2 ^ 32
      go (inr h) = h
      go (inl h) =
          absurd (no (two_cut (2 ^ 32) (2 ^ 32) 2 1 (2 ^ 23 + m) (2 ^ 23) (lit< tt) (two_ge_whole 1 (2 ^ 32))
          (two_le_mono (2 ^ 32) (w - 1) (2 ^ 32) (2 ^ 23 + m) (2 ^ 23) (omega arith) (significand-below m M))))

  pub log_range : 10 ≤ p / 2 ^ 23 → p / 2 ^ 23 ≤ 286 → (42949672960 ≤ log2_of p) × (log2_of p ≤ 1232655613952)
  log_range lo hi = (omega (arith, is), omega (arith, is, w_le))

  -- at a power of two
  pub log-exact : p % 2 ^ 23 ≡ 0 → log2_of p ≡ 2 ^ 32 * (p / 2 ^ 23)
  log-exact e = log-parts p ∙ rw e (rw log_zero (omega arith))

-- ---- for a float: x 2^182 = 2^n m, with its exponent n and its significand m
module _ (x : Float) (b : ℕ) (e : x ≡ of_bits binary32 b) (B : 0 < b) (h : b < 0x7F800000) where
  pub scaled : 2 ^ (normalized b / 2 ^ 23) * (2 ^ 23 + normalized b % 2 ^ 23) * den x ≡ num x * 2 ^ 159 * 2 ^ 23
  scaled =
      rw ((parts b B h).exponent_is, (parts b B h).significand_is)
      (at-parts x (λ (n m : ℕ). 2 ^ n * m * den x ≡ num x * 2 ^ 159 * 2 ^ 23) up down b e B h)
    where
      up : (u n m : ℕ) → 0 < u → HasValue x false u (2 ^ 149) → 2 ^ 23 ≤ m → m < 2 ^ 24 → 159 ≤ n → n ≤ 286
          → u * 2 ^ 23 ≡ 2 ^ (n - 159) * m * 2 ^ 149
          → 2 ^ n * m * den x ≡ num x * 2 ^ 159 * 2 ^ 23
      up u n m U v lo hi N N' k =
          let s : n - 159 + 159 ≡ n = omega arith in
          rw (sym (ap (λ (i : ℕ). 2 ^ i) s), pow-add 2 (n - 159) 159)
          (go (2 ^ (n - 159)) (2 ^ 149) (num x) (den x) k (fraction_is x false u (2 ^ 149) v))
        where
          go : (z t n d : ℕ) → u * 2 ^ 23 ≡ z * m * t → n * t ≡ u * d
              → z * (t * 1024) * m * d ≡ n * (t * 1024) * 2 ^ 23
          go z t n d k v = omega (arith, ap (λ (i : ℕ). i * (1024 * d)) k, ap (λ (i : ℕ). i * (2 ^ 23 * 1024)) v)

      down : (u n m : ℕ) → 0 < u → HasValue x false u (2 ^ 149) → 2 ^ 23 ≤ m → m < 2 ^ 24 → n < 159
          → u * (2 ^ (159 - n) * 2 ^ 23) ≡ m * 2 ^ 149
          → 2 ^ n * m * den x ≡ num x * 2 ^ 159 * 2 ^ 23
      down u n m U v lo hi N k =
          let s : n + (159 - n) ≡ 159 = omega arith in
          let p : 2 ^ n * 2 ^ (159 - n) ≡ 2 ^ 149 * 1024 = sym (pow-add 2 n (159 - n)) ∙ ap (λ (i : ℕ). 2 ^ i) s in
          eq_of_mul-eq-mul_right (2 ^ 149) (pow_pos 149) (2 ^ n * m * den x) (num x * 2 ^ 159 * 2 ^ 23)
          (go (2 ^ n) (2 ^ (159 - n)) (2 ^ 149) (num x) (den x) p k (fraction_is x false u (2 ^ 149) v))
        where
          go : (y z t n d : ℕ) → y * z ≡ t * 1024 → u * (z * 2 ^ 23) ≡ m * t → n * t ≡ u * d
              → y * m * d * t ≡ n * (t * 1024) * 2 ^ 23 * t
          go y z t n d p k v =
              ap (λ (i : ℕ). i) (left (y * d) (m * t)) ∙ ap (λ (i : ℕ). y * d * i) (sym k) ∙ middle y z d u
              ∙ ap (λ (i : ℕ). i * (u * d * 2 ^ 23)) p ∙ ap (λ (i : ℕ). t * 1024 * (i * 2 ^ 23)) (sym v)
              ∙ right n t
            where
              left : (a c : ℕ) → y * m * d * t ≡ y * d * (m * t)
              left a c = omega arith

              middle : (y z d u : ℕ) → y * d * (u * (z * 2 ^ 23)) ≡ y * z * (u * d * 2 ^ 23)
              middle y z d u = omega arith

              right : (n t : ℕ) → t * 1024 * (n * t * 2 ^ 23) ≡ n * (t * 1024) * 2 ^ 23 * t
              right n t = omega arith

  pub float-low : TwoLe (log2_of (normalized b) - 1) (2 ^ 32) (num x * 2 ^ 159) (den x)
  float-low =
      two_le_weaken (log2_of (normalized b) - 1) (2 ^ 32)
      (2 ^ (normalized b / 2 ^ 23) * (2 ^ 23 + normalized b % 2 ^ 23)) (2 ^ 23) (num x * 2 ^ 159) (den x) (lit< tt)
      (le_of_eq scaled) (log-low (normalized b))

  pub float-high : TwoGe (log2_of (normalized b) + 2) (2 ^ 32) (num x * 2 ^ 159) (den x)
  float-high =
      two_ge_weaken (log2_of (normalized b) + 2) (2 ^ 32)
      (2 ^ (normalized b / 2 ^ 23) * (2 ^ 23 + normalized b % 2 ^ 23)) (2 ^ 23) (num x * 2 ^ 159) (den x) (lit< tt)
      (le_of_eq (sym scaled)) (log-high (normalized b))

  pub float_range : (42949672960 ≤ log2_of (normalized b)) × (log2_of (normalized b) ≤ 1232655613952)
  float_range = log_range (normalized b) (parts b B h).least (parts b B h).most

-- What the code of log2 asks: that its words hold the numbers of the definition, and that nothing passes 64 bits.
use Rattle.std.proofs.Common.{◌≡◌, ℕ, ◌+◌, ◌-◌, ◌*◌, ◌/◌, ◌%◌, ◌^◌, ◌<◌, ◌≤◌, refl, ap, ◌∙◌, mul-le-mul, arith}
use Rattle.power_tables.specs.Tables.{height, slope, curvature, line_word}
use Rattle.power_tables.proofs.Rules.{height_rule}
use Rattle.elementary.specs.Power.{log2_at, log2_of}
use Rattle.elementary.proofs.log2.Law.{B-lt, C-lt, curvature-le}

pub record LogFits (w e p : ℕ) : Type 0 where
  pub product : w % 2 ^ 32 * (p * 2 ^ 18 % 2 ^ 32) ≤ 2 ^ 60
  pub sum : w + w % 2 ^ 32 * (p * 2 ^ 18 % 2 ^ 32) ≤ 18446744073709551615
  pub square : p % 2 ^ 14 * (p % 2 ^ 14) ≤ 2 ^ 28
  pub bent : e % 2 ^ 32 * (p % 2 ^ 14 * (p % 2 ^ 14)) ≤ 2 ^ 60
  pub less : e % 2 ^ 32 * (p % 2 ^ 14 * (p % 2 ^ 14)) ≤ w + w % 2 ^ 32 * (p * 2 ^ 18 % 2 ^ 32)
  pub is : p / 2 ^ 14 * 2 ^ 23 + (w + w % 2 ^ 32 * (p * 2 ^ 18 % 2 ^ 32) - e % 2 ^ 32
      * (p % 2 ^ 14 * (p % 2 ^ 14))) / 2 ^ 35 ≡ log2_of p

line_is : (i : ℕ) → line_word i ≡ height i * 2 ^ 32 + slope i
unfolding line_word
line_is i = refl

log_is : (p : ℕ) → log2_of p ≡ p / 2 ^ 14 * 2 ^ 23 + (height (p / 2 ^ 14 % 512) * 2 ^ 32 + slope
    (p / 2 ^ 14 % 512) + slope (p / 2 ^ 14 % 512) * (p % 2 ^ 14) * 2 ^ 18 - curvature
    (p / 2 ^ 14 % 512) * (p % 2 ^ 14 * (p % 2 ^ 14))) / 2 ^ 35
unfolding log2_of log2_at
log_is p = refl

pub log_fits : (w e p : ℕ) → w ≡ line_word (p / 2 ^ 14 % 512) → e ≡ curvature (p / 2 ^ 14 % 512) → LogFits w e p
log_fits w e p ew ee =
    let i = p / 2 ^ 14 % 512 in
    let t = p % 2 ^ 14 in
    let I : i < 512 = omega arith in
    let X : t < 2 ^ 14 = omega arith in
    go (height i) (slope i) (curvature i) t refl (omega arith) (ew ∙ line_is i) ee (height_rule i I).high
    (B-lt i t (512 + i) ((512 + i) * 2 ^ 14) I X refl refl) (C-lt i t (512 + i) ((512 + i) * 2 ^ 14) I X refl refl)
    (curvature-le i t (512 + i) ((512 + i) * 2 ^ 14) I X refl refl) X (log_is p)
  where
    go : (A B C t : ℕ) → p % 2 ^ 14 ≡ t → p * 2 ^ 18 % 2 ^ 32 ≡ t * 2 ^ 18 → w ≡ A * 2 ^ 32 + B → e ≡ C
        → A ≤ 3221225471 → B < 2 ^ 27 → C < 2 ^ 21 → (C + 1) * (t * t) ≤ B * t * 2 ^ 18 → t < 2 ^ 14
        → log2_of p ≡ p / 2 ^ 14 * 2 ^ 23 + (A * 2 ^ 32 + B + B * t * 2 ^ 18 - C * (t * t)) / 2 ^ 35
        → LogFits w e p
    go A B C t pt es ew ee a b c h x d =
        let lower : w % 2 ^ 32 ≡ B = omega arith in
        let bend' : e % 2 ^ 32 ≡ C = omega arith in
        let t1 : t ≤ 2 ^ 14 = omega arith in
        let b1 : B ≤ 2 ^ 27 = omega arith in
        let c1 : C ≤ 2 ^ 21 = omega arith in
        let tt : t * t ≤ 2 ^ 28 = mul-le-mul t1 t1 in
        let bt : B * t ≤ 2 ^ 27 * 2 ^ 14 = mul-le-mul b1 t1 in
        let ct : C * (t * t) ≤ 2 ^ 21 * 2 ^ 28 = mul-le-mul c1 tt in
        record {
          product = rw (lower, es) (omega arith);
          sum = rw (lower, es) (omega arith);
          square = rw pt tt;
          bent = rw (bend', pt) (omega arith);
          less = rw (lower, es, bend', pt) (omega arith);
          is = rw (lower, es, bend', pt, d) (ap (λ (z : ℕ). p / 2 ^ 14 * 2 ^ 23 + z / 2 ^ 35) (same A B C t w ew));
        }
      where
        same : (A B C t w : ℕ) → w ≡ A * 2 ^ 32 + B
            → w + B * (t * 2 ^ 18) - C * (t * t) ≡ A * 2 ^ 32 + B + B * t * 2 ^ 18 - C * (t * t)
        same A B C t w e = omega arith

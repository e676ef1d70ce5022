-- `Float32.round` of a finite `f32` from the fields of its bit pattern.
--   cross, half                  a fraction n / d as q * 2 ^ k / 2 ^ 149, and its whole part with a half added
--   w-scaled, n_is, half-none    the same where it is a whole number
--   neg-round                    a negative result
--   round_number                 a number rounds to a number
use Rattle.std.proofs.Common.{◌≡◌, ℕ, zero, suc, ◌+◌, ◌-◌, ◌*◌, ◌/◌, ◌^◌, ◌<◌, ◌≤◌, Bool, true, false, cond, T, ltb, leb, sym, refl, ap, ◌∙◌, true≢false, le_of_lt, mul_assoc, mul_comm, add-mul, mul-pos, mul_right_comm, mul_left_comm, arith, lit<, pow_pos}
use native.Mathlib.Nat.{eq_of_mul-eq-mul_right}
use lib.Arith.{digits_div}
use lib.Ieee.{Float, is_nan, nan, inf, fin, binary32, up, down, fits, to_bits, round, odd, units, neg, prec, emax, low}
use lib.Ieee.{Format}
use lib.Ieee.Fits.{round_is}
use lib.Ieee.Bits.{is_false}
use lib.Ieee.Nearest.{div_same}
use Rattle.float32.specs.Float32 as Float32
use Rattle.float32.proofs.Decode.{Decoded, decode}
use Rattle.float32.proofs.Rescale.{pow_split}
use Rattle.float32.proofs.Widened.{round_no_nan}

-- ---- n / d is q * 2 ^ k / 2 ^ 149
module _ (n d q k : ℕ) (D : 0 < d) (v : n * 2 ^ 149 ≡ q * 2 ^ k * d) where
  pub cross : k ≤ 149 → n * 2 ^ (149 - k) ≡ q * d
  cross K =
      let u = 2 ^ (149 - k) in
      eq_of_mul-eq-mul_right (2 ^ k) (pow_pos k) (n * u) (q * d)
      (mul_assoc n u (2 ^ k) ∙ ap (λ (z : ℕ). n * z) (pow_split (149 - k) k 149 (omega arith)) ∙ v
      ∙ mul_right_comm q (2 ^ k) d)

  -- with a fraction
  module _ (K : k < 149) where
    abbrev u : ℕ
    u = 2 ^ (149 - k)

    pub half : (2 * n + d) / (2 * d) ≡ (2 * q + u) / (2 * u)
    half = div_same (2 * n + d) (2 * d) (2 * q + u) (2 * u) (mul-pos (lit< tt) D)
        (mul-pos (lit< tt) (pow_pos (149 - k))) go
      where
        spread : (a b c : ℕ) → (2 * a + b) * (2 * c) ≡ 4 * (a * c) + 2 * (b * c)
        spread a b c = add-mul (2 * a) b (2 * c) ∙ ap (λ (z : ℕ). z + b * (2 * c)) (mul_assoc 2 a (2 * c)
            ∙ ap (λ (z : ℕ). 2 * z) (mul_left_comm a 2 c) ∙ four (a * c)) ∙ ap (λ (z : ℕ). 4 * (a * c) + z)
            (mul_left_comm b 2 c)
          where
            four : (x : ℕ) → 2 * (2 * x) ≡ 4 * x
            four x = omega arith

        go : (2 * n + d) * (2 * u) ≡ (2 * q + u) * (2 * d)
        go = spread n d u ∙ ap (λ (z : ℕ). 4 * z + 2 * (d * u)) (cross (le_of_lt K))
            ∙ ap (λ (z : ℕ). 4 * (q * d) + 2 * z) (mul_comm d u) ∙ sym (spread q u d)

  -- with none
  module _ (K : 149 ≤ k) where
    abbrev w : ℕ
    w = q * 2 ^ (k - 149)

    pub w-scaled : w * 2 ^ 149 ≡ q * 2 ^ k
    w-scaled = mul_assoc q (2 ^ (k - 149)) (2 ^ 149) ∙ ap (λ (z : ℕ). q * z) (pow_split (k - 149) 149 k (omega arith))

    pub n_is : n ≡ w * d
    n_is = eq_of_mul-eq-mul_right (2 ^ 149) (pow_pos 149) n (w * d) (v ∙ ap (λ (z : ℕ). z * d) (sym w-scaled)
        ∙ mul_right_comm w (2 ^ 149) d)

    pub half-none : (2 * n + d) / (2 * d) ≡ w
    half-none = ap (λ (z : ℕ). (z + d) / (2 * d)) (ap (λ (z : ℕ). 2 * z) n_is ∙ sym (mul_left_comm w 2 d))
        ∙ digits_div w (more d D)
      where
        more : (x : ℕ) → 0 < x → x < 2 * x
        more x h = omega arith

-- ---- the float
module _ (x : Float) (F : T (fits binary32 x)) (p : T (Float32.is_finite x)) where
  abbrev b : ℕ
  b = to_bits binary32 x

  abbrev s : Bool
  s = leb (2 ^ 31) b

  d : Decoded binary32 b x
  d = decode binary32 x F p
  -- ---- with a fraction
  -- ---- with none

-- ---- a negative result
neg-odd : (d q k l : ℕ) → neg (odd d false q k l) ≡ odd d true q k l
unfolding neg odd
neg-odd d zero k l = refl
neg-odd d (suc q) k l = refl

neg-units : (f : Format) (q k : ℕ) → neg (units f false q k) ≡ units f true q k
unfolding units neg
neg-units f q k = go (ltb (q * 2 ^ k) (2 ^ (low f + suc (emax f))))
  where
    go : (b : Bool) → neg (cond b (odd (suc (prec f)) false q k (low f)) (inf false))
        ≡ cond b (odd (suc (prec f)) true q k (low f)) (inf true)
    go true = neg-odd (suc (prec f)) q k (low f)
    go false = refl

pub neg-round : (f : Format) (num den : ℕ) → neg (round f false num den) ≡ round f true num den
neg-round f num den = ap neg (round_is f false num den) ∙ neg-units f _ _ ∙ sym (round_is f true num den)

-- ---- what the two shifts leave

-- ---- a number rounds to a number
pub round_number : (x : Float) → is_nan x ≡ false → is_nan (Float32.round x) ≡ false
unfolding is_nan Float32.round
round_number nan h = absurd (true≢false h)
round_number (inf s) h = refl
round_number (fin s m e) h = is_false (is_nan (round binary32 s ((2 * (m * up e) + down e) / (2 * down e)) 1))
    (round_no_nan binary32 s _ _)

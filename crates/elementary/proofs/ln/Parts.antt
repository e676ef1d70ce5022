-- The exponent and the significand of a finite x above 0, from its bit pattern.
--   exponent-sub, exponent-normal, significand-sub, significand-normal   of a subnormal pattern, and of a normal one
--   Sub b z, sub32     the leading zeros of a subnormal pattern
--   Range n m, range   the ranges of the exponent and of the significand
--   at-parts           what holds wherever x = m / 2^23 * 2^(n - 159), holds of these
use Rattle.std.proofs.Common.{◌≡◌, ℕ, suc, ◌+◌, ◌-◌, ◌*◌, ◌/◌, ◌%◌, ◌^◌, ◌<◌, ◌≤◌, false, ◌⊎◌, sym, ap, ◌∙◌, subst, inl, inr, le_trans, le_of_eq, lt_of_lt_of_le, mul-le-mul_right, mod-eq_of_lt, mul-lt-mul_of_pos_right, mul-pos, arith, lit<, lit≤, pow_pos, pow_mono, pow-add, le-ltb, lt-ltb}
use native.Mathlib.Nat.{div-eq_of_lt}
use lib.Count.{count_leading_zeros, leading_top}
use lib.Ieee.{Float, binary32, of_bits}
use lib.Ieee.Exact.{HasValue}
use Rattle.series.proofs.Cuts.{lt_or_ge}
use Rattle.series.proofs.Value.{units, value_pos}
use Rattle.elementary.specs.Ln.{exponent, significand}

pub exponent-sub : (b : ℕ) → b < 2 ^ 23 → exponent b ≡ 41 - count_leading_zeros 32 b
unfolding exponent
exponent-sub b h = simp (lt-ltb b (2 ^ 23) h)

pub exponent-normal : (b : ℕ) → 2 ^ 23 ≤ b → exponent b ≡ 32 + b / 2 ^ 23
unfolding exponent
exponent-normal b h = simp (le-ltb b (2 ^ 23) h)

pub significand-sub : (b : ℕ) → b < 2 ^ 23 → significand b ≡ b * 2 ^ (count_leading_zeros 32 b - 8)
unfolding significand
significand-sub b h = simp (lt-ltb b (2 ^ 23) h)

pub significand-normal : (b : ℕ) → 2 ^ 23 ≤ b → significand b ≡ b % 2 ^ 23 + 2 ^ 23
unfolding significand
significand-normal b h = simp (le-ltb b (2 ^ 23) h)

-- the leading zeros of a subnormal's pattern
pub record Sub (b z : ℕ) : Type 0 where
  pub least : 9 ≤ z
  pub most : z ≤ 31
  pub low : 2 ^ 23 ≤ b * 2 ^ (z - 8)
  pub high : b * 2 ^ (z - 8) < 2 ^ 24

pub sub32 : (b : ℕ) → 0 < b → b < 2 ^ 23 → Sub b (count_leading_zeros 32 b)
sub32 b p h =
    let t = leading_top 32 b p (lt_of_lt_of_le h (lit≤ tt)) in
    go (count_leading_zeros 32 b) t.0 t.1 t.2 t.3 (lt_or_ge t.0 23)
  where
    go : (z j : ℕ) → z + suc j ≡ 32 → 2 ^ j ≤ b → b < 2 ^ suc j → (j < 23) ⊎ (23 ≤ j) → Sub b z
    go z j e lo hi (inr l) = absurd (no (le_trans (pow_mono {i = 23} {j = j} l) lo))
      where
        no : 2 ^ 23 ≤ b → ⊥
        no k = omega arith
    go z j e lo hi (inl l) =
        let s : j + (z - 8) ≡ 23 = omega arith in
        let s' : suc j + (z - 8) ≡ 24 = omega arith in
        let a : 2 ^ j * 2 ^ (z - 8) ≡ 2 ^ 23 = sym (pow-add 2 j (z - 8)) ∙ ap (λ (i : ℕ). 2 ^ i) s in
        let c : 2 ^ suc j * 2 ^ (z - 8) ≡ 2 ^ 24 = sym (pow-add 2 (suc j) (z - 8)) ∙ ap (λ (i : ℕ). 2 ^ i) s' in
        record {
          least = omega arith;
          most = omega arith;
          low = le_trans (le_of_eq (sym a)) (mul-le-mul_right (2 ^ (z - 8)) lo);
          high = lt_of_lt_of_le (mul-lt-mul_of_pos_right hi (pow_pos (z - 8))) (le_of_eq c);
        }

pub record Range (n m : ℕ) : Type 0 where
  pub least : 10 ≤ n
  pub most : n ≤ 286
  pub low : 2 ^ 23 ≤ m
  pub high : m < 2 ^ 24

pub range : (b : ℕ) → 0 < b → b < 0x7F800000 → Range (exponent b) (significand b)
range b p h = go (lt_or_ge b (2 ^ 23))
  where
    go : (b < 2 ^ 23) ⊎ (2 ^ 23 ≤ b) → Range (exponent b) (significand b)
    go (inl l) =
        let s = sub32 b p l in
        record {
          least = rw (exponent-sub b l) (omega arith);
          most = rw (exponent-sub b l) (omega arith);
          low = rw
              (significand-sub b l) s.low;
          high = rw (significand-sub b l) s.high;
        }
    go (inr l) = record {
      least = rw (exponent-normal b l) (omega arith);
      most = rw (exponent-normal b l) (omega arith);
      low = rw (significand-normal b l) (omega arith);
      high = rw (significand-normal b l) (omega arith);
    }

-- x = m / 2^23 * 2^(n - 159): what holds at every such n and m, from 159 up and below, holds of x's own
module _ (x : Float) (G : ℕ → ℕ → Type 0)
    (up-case : (u n m : ℕ) → 0 < u → HasValue x false u (2 ^ 149) → 2 ^ 23 ≤ m → m < 2 ^ 24 → 159 ≤ n → n ≤ 286
    → u * 2 ^ 23 ≡ 2 ^ (n - 159) * m * 2 ^ 149 → G n m)
    (down-case : (u n m : ℕ) → 0 < u → HasValue x false u (2 ^ 149) → 2 ^ 23 ≤ m → m < 2 ^ 24 → n < 159
    → u * (2 ^ (159 - n) * 2 ^ 23) ≡ m * 2 ^ 149 → G n m) where
  -- a normal x: f + 1 is the field, and t the digits
  normal : (f t : ℕ) → f < 254 → t < 2 ^ 23 → HasValue x false ((2 ^ 23 + t) * 2 ^ f) (2 ^ 149)
      → G (32 + suc f) (t + 2 ^ 23)
  normal f t F D h = go (lt_or_ge (32 + suc f) 159)
    where
      up : 0 < (2 ^ 23 + t) * 2 ^ f
      up = mul-pos {m = 2 ^ 23 + t} (omega arith) (pow_pos f)

      above : (k g : ℕ) → (2 ^ 23 + t) * (k * g) * 2 ^ 23 ≡ k * (t + 2 ^ 23) * (g * 2 ^ 23)
      above k g = omega arith

      under : (k g : ℕ) → (2 ^ 23 + t) * g * (k * 2 ^ 23) ≡ (t + 2 ^ 23) * (k * g * 2 ^ 23)
      under k g = omega arith

      go : (32 + suc f < 159) ⊎ (159 ≤ 32 + suc f) → G (32 + suc f) (t + 2 ^ 23)
      go (inl l) =
          let e : (159 - (32 + suc f)) + f ≡ 126 = omega arith in
          let p : 2 ^ (159 - (32 + suc f)) * 2 ^ f ≡ 2 ^ 126 = sym (pow-add 2 (159 - (32 + suc f)) f)
          ∙ ap (λ (i : ℕ). 2 ^ i) e in
          down-case ((2 ^ 23 + t) * 2 ^ f) (32 + suc f) (t + 2 ^ 23) up h (omega arith) (omega arith) l
          (under (2 ^ (159 - (32 + suc f))) (2 ^ f) ∙ ap (λ (i : ℕ). (t + 2 ^ 23) * (i * 2 ^ 23)) p)
      go (inr l) =
          let e : f ≡ (32 + suc f - 159) + 126 = omega arith in
          let p : 2 ^ f ≡ 2 ^ (32 + suc f - 159) * 2 ^ 126 = ap (λ (i : ℕ). 2 ^ i) e ∙ pow-add 2 (32 + suc f - 159) 126
          in
          up-case ((2 ^ 23 + t) * 2 ^ f) (32 + suc f) (t + 2 ^ 23) up h (omega arith) (omega arith) l (omega arith)
          (ap (λ (i : ℕ). (2 ^ 23 + t) * i * 2 ^ 23) p ∙ above (2 ^ (32 + suc f - 159)) (2 ^ 126))

  -- ---- a subnormal x
  subnormal : (b : ℕ) → 0 < b → b < 2 ^ 23 → HasValue x false (b * 2 ^ 0) (2 ^ 149)
      → G (41 - count_leading_zeros 32 b) (b * 2 ^ (count_leading_zeros 32 b - 8))
  subnormal b B h v =
      let top = leading_top 32 b B (lt_of_lt_of_le h (lit≤ tt)) in
      go (count_leading_zeros 32 b) top.0 top.1 top.2 top.3
    where
      go : (z j : ℕ) → z + suc j ≡ 32 → 2 ^ j ≤ b → b < 2 ^ suc j → G (41 - z) (b * 2 ^ (z - 8))
      go z j e lo hi =
          let J : j ≤ 22 = small (lt_or_ge 23 (suc j)) in
          let s = z - 8 in
          let a : 2 ^ j * 2 ^ s ≡ 2 ^ 23 = sym (pow-add 2 j s) ∙ ap (λ (i : ℕ). 2 ^ i) (sum-j J) in
          let c : 2 ^ suc j * 2 ^ s ≡ 2 ^ 24 = sym (pow-add 2 (suc j) s) ∙ ap (λ (i : ℕ). 2 ^ i) (sum_j' J) in
          let p : 2 ^ (159 - (41 - z)) ≡ 2 ^ s * 2 ^ 126 = ap (λ (i : ℕ). 2 ^ i) (shift J) ∙ pow-add 2 s 126 in
          down-case (b * 2 ^ 0) (41 - z) (b * 2 ^ s) (mul-pos B (lit< tt)) v
          (le_trans (le_of_eq (sym a)) (mul-le-mul_right (2 ^ s) lo))
          (lt_of_lt_of_le (mul-lt-mul_of_pos_right hi (pow_pos s)) (le_of_eq c))
          (omega arith)
          (ap (λ (i : ℕ). b * 2 ^ 0 * (i * 2 ^ 23)) p ∙ regroup (2 ^ s) (2 ^ 126))
        where
          small : (23 < suc j) ⊎ (suc j ≤ 23) → j ≤ 22
          small (inl l) = absurd (no (le_trans (pow_mono {i = 23} {j = j} (down l)) lo))
            where
              down : 23 < suc j → 23 ≤ j
              down l = omega arith

              no : 2 ^ 23 ≤ b → ⊥
              no k = omega arith
          small (inr l) = omega arith

          sum-j : j ≤ 22 → j + (z - 8) ≡ 23
          sum-j J = omega arith

          sum_j' : j ≤ 22 → suc j + (z - 8) ≡ 24
          sum_j' J = omega arith

          shift : j ≤ 22 → 159 - (41 - z) ≡ (z - 8) + 126
          shift J = omega arith

          regroup : (k g : ℕ) → b * 1 * (k * g * 2 ^ 23) ≡ b * k * (g * 2 ^ 23)
          regroup k g = omega arith

  value : (b : ℕ) → x ≡ of_bits binary32 b → b < 0x7F800000 → HasValue x false (units (b / 2 ^ 23) (b % 2 ^ 23))
      (2 ^ 149)
  value b e h = subst (λ (y : Float). HasValue y false (units (b / 2 ^ 23) (b % 2 ^ 23)) (2 ^ 149)) (sym e)
      (value_pos b h)

  pub at-parts : (b : ℕ) → x ≡ of_bits binary32 b → 0 < b → b < 0x7F800000 → G (exponent b) (significand b)
  at-parts b e p h = go (lt_or_ge b (2 ^ 23))
    where
      go : (b < 2 ^ 23) ⊎ (2 ^ 23 ≤ b) → G (exponent b) (significand b)
      go (inl l) = rw (exponent-sub b l, significand-sub b l)
          (subnormal b p l (rw (div-eq_of_lt l, mod-eq_of_lt l) at (value b e h)))
      go (inr l) =
          let f = b / 2 ^ 23 - 1 in
          let F : b / 2 ^ 23 ≡ suc f = omega arith in
          rw (exponent-normal b l, significand-normal b l, F) (normal f (b % 2 ^ 23) (omega arith) (omega arith)
          (rw F at (value b e h)))

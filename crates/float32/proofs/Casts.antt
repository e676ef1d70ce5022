-- A float `as` an integer, by ranges: above the type's largest number, below its smallest, and between, where std's
-- `truncating_` functions go.
--   two_to w, minus_two_to w           2 ^ w and -2 ^ w
--   below                              the whole part of a fraction below P is below P
--   above_zero, not-zero               2 ^ w is not 0
--   top_signed                         from 2 ^ w up it is the largest number
--   Middle x, middle                   from -2 ^ 31, below 2 ^ 31: what the function asks, and that it gives the cast
--   bottom_signed, nan_signed          below -2 ^ 31, and a NaN
use Rattle.std.proofs.Common.{◌≡◌, ℕ, ◌+◌, ◌-◌, ◌*◌, ◌/◌, ◌^◌, ◌<◌, ◌≤◌, min, Bool, true, false, not, ◌&&◌, ◌||◌, T, eqb, ltb, pos, negsuc, neg_ℤ, sym, refl, ap, le_of_lt, mul_comm, div-lt_iff_lt-mul, mul-pos, one-mul, le-div_iff_mul-le, arith, lit<, lit≤, eqb→eq, lt→ltb, T_not, pow_pos}
use native.Mathlib.Nat.{div-le_of_le-mul}
use lib.Ieee.{Float, nan, inf, fin, up, down, lt, eq, le, to_signed}
use lib.Ieee.Fits.{down_pos, and_r}
use Rattle.float32.proofs.Cmp.{le_pos, gt_pos, le-neg, gt-neg}

abbrev pub two_to : ℕ → Float
two_to w = fin false 1 (pos w)

abbrev pub minus_two_to : ℕ → Float
minus_two_to w = fin true 1 (pos w)

-- n / d is at least P, below it, or at most P
module _ (n d P : ℕ) (D : 0 < d) where
  at_least : 1 * P * d ≤ n * 1 → P ≤ n / d
  at_least h = (le-div_iff_mul-le D).1 (go (P * d) (rw one-mul at h))
    where
      go : (x : ℕ) → x ≤ n * 1 → x ≤ n
      go x k = omega arith

  pub below : n * 1 < 1 * P * d → n / d < P
  below h = (div-lt_iff_lt-mul D).1 (go (P * d) (rw one-mul at h))
    where
      go : (x : ℕ) → n * 1 < x → n < x
      go x k = omega arith

  at_most : n * 1 ≤ 1 * P * d → n / d ≤ P
  at_most h = div-le_of_le-mul d (go (P * d) (d * P) (mul_comm P d) (rw one-mul at h))
    where
      go : (x y : ℕ) → x ≡ y → n * 1 ≤ x → n ≤ y
      go x y q k = omega arith

-- 2 ^ w is not 0, so nothing of the other sign is at least 2 ^ w in size
pub above_zero : (w d : ℕ) → 0 < d → 0 < 1 * 2 ^ w * d
above_zero w d h = mul-pos (mul-pos (lit< tt) (pow_pos w)) h

pub not-zero : (a : ℕ) (p : Bool) → 0 < a → T (false || (p && (false || eqb a 0))) → ⊥
not-zero a p h t = let z : a ≡ 0 = eqb→eq a 0 (and_r p (eqb a 0) t) in omega arith

capped : (P q : ℕ) → P ≤ q → P - 1 ≡ min q (P - 1)
capped P q h = omega arith

-- ---- x is at least 2 ^ w
pub top_signed : (w : ℕ) (x : Float) → T (le (two_to w) x) → pos (2 ^ w - 1) ≡ to_signed w x
unfolding le lt eq to_signed
top_signed w nan t = absurd t
top_signed w (inf true) t = absurd t
top_signed w (inf false) t = refl
top_signed w (fin true m e) t = absurd (not-zero (1 * 2 ^ w * down e) (eqb (1 * 2 ^ w * down e) (m * up e * 1))
    (above_zero w (down e) (down_pos e)) t)
top_signed w (fin false m e) t = ap pos
    (capped (2 ^ w) (m * up e / down e) (at_least (m * up e) (down e) (2 ^ w) (down_pos e) (le_pos 1 (pos w) m e t)))

-- ---- at least -2 ^ 31, and below 2 ^ 31
uncapped_le : (q P R : ℕ) → q ≤ P → P ≤ R → min q R ≡ min q P
uncapped_le q P R h k = omega arith

uncapped_lt : (q P R : ℕ) → q < P → P ≤ R → min q (R - 1) ≡ min q (P - 1)
uncapped_lt q P R h k = omega arith

-- what `truncating_f32_to_i64` asks, and that it gives the narrower cast
abbrev pub Middle : Float → Type 0
Middle x = T (le (minus_two_to 63) x) × T (lt x (two_to 63)) × (to_signed 63 x ≡ to_signed 31 x)

nor_l : (a b : Bool) → T (not (a || b)) → T (not a)
nor_l true b t = t
nor_l false b t = tt

or_l : (a b : Bool) → T a → T (a || b)
or_l true b t = tt
or_l false b t = absurd t

wide : (n d : ℕ) → 0 < d → n * 1 ≤ 2147483648 * d → n * 1 < 9223372036854775808 * d
wide n d h k = omega arith

positive_sum : (a b : ℕ) → 0 < a → 0 < a + b
positive_sum a b h = omega arith

sum_positive : (a b : ℕ) → 0 < b → 0 < a + b
sum_positive a b h = omega arith

pub middle : (x : Float) → T (le (minus_two_to 31) x) → T (not (le (two_to 31) x)) → Middle x
unfolding le lt eq to_signed
middle nan a b = absurd a
middle (inf true) a b = absurd a
middle (inf false) a b = absurd b
middle (fin true m e) a b =
    let n = m * up e in
    let d = down e in
    let h : n * 1 ≤ 1 * 2 ^ 31 * d = le-neg 1 (pos 31) m e a in (
      or_l (ltb (n * 1) (1 * 2 ^ 63 * d)) _ (lt→ltb (n * 1) (1 * 2 ^ 63 * d) (wide n d (down_pos e) h)),
      lt→ltb 0 (n * 1 + 1 * 2 ^ 63 * d) (sum_positive _ _ (above_zero 63 d (down_pos e))),
      ap (λ (k : ℕ). neg_ℤ (pos k)) (uncapped_le (n / d) (2 ^ 31) (2 ^ 63) (at_most n d (2 ^ 31) (down_pos e) h)
          (lit≤ tt)),
    )
middle (fin false m e) a b =
    let n = m * up e in
    let d = down e in
    let h : n * 1 < 1 * 2 ^ 31 * d = gt_pos 1 (pos 31) m e b in (
      or_l (ltb 0 (1 * 2 ^ 63 * d + n * 1)) _
          (lt→ltb 0 (1 * 2 ^ 63 * d + n * 1) (positive_sum _ _ (above_zero 63 d (down_pos e)))),
      lt→ltb (n * 1) (1 * 2 ^ 63 * d) (wide n d (down_pos e) (le_of_lt h)),
      ap pos (uncapped_lt (n / d) (2 ^ 31) (2 ^ 63) (below n d (2 ^ 31) (down_pos e) h) (lit≤ tt)),
    )

-- ---- below -2 ^ 31, and a NaN
full : (P q : ℕ) → P ≤ q → min q P ≡ P
full P q h = omega arith

at_least_2 : (n d : ℕ) → 0 < d → 2147483648 * d < n * 1 → 2147483648 ≤ n / d
at_least_2 n d D h = at_least n d 2147483648 D (le_of_lt h)

pub bottom_signed : (x : Float) → T (not (le (minus_two_to 31) x)) → T (lt x (fin false 0 (pos 0)))
    → negsuc 2147483647 ≡ to_signed 31 x
unfolding le lt eq to_signed
bottom_signed nan a b = absurd b
bottom_signed (inf true) a b = refl
bottom_signed (inf false) a b = absurd a
bottom_signed (fin true m e) a b = sym
    (ap (λ (k : ℕ). neg_ℤ (pos k))
    (full (2 ^ 31) (m * up e / down e) (at_least_2 (m * up e) (down e) (down_pos e) (gt-neg 1 (pos 31) m e a))))
bottom_signed (fin false m e) a b = absurd (T_not (ltb 0 (1 * 2 ^ 31 * down e + m * up e * 1))
    (nor_l (ltb 0 (1 * 2 ^ 31 * down e + m * up e * 1)) (eq (minus_two_to 31) (fin false m e)) a)
    (lt→ltb 0 (1 * 2 ^ 31 * down e + m * up e * 1) (positive_sum _ _ (above_zero 31 (down e) (down_pos e)))))

pub nan_signed : (x : Float) → T (not (le (minus_two_to 31) x)) → T (not (lt x (fin false 0 (pos 0))))
    → pos 0 ≡ to_signed 31 x
unfolding le lt eq to_signed
nan_signed nan a b = refl
nan_signed (inf true) a b = absurd b
nan_signed (inf false) a b = absurd a
nan_signed (fin true m e) a b = absurd (T_not (ltb 0 (m * up e * 1 + 0 * 1 * down e)) b
    (lt→ltb 0 (m * up e * 1 + 0 * 1 * down e) (gone (m * up e) (down e) (gt-neg 1 (pos 31) m e a))))
  where
    gone : (n d : ℕ) → 2147483648 * d < n * 1 → 0 < n * 1 + 0 * 1 * d
    gone n d h = omega arith
nan_signed (fin false m e) a b = absurd (T_not (ltb 0 (1 * 2 ^ 31 * down e + m * up e * 1))
    (nor_l (ltb 0 (1 * 2 ^ 31 * down e + m * up e * 1)) (eq (minus_two_to 31) (fin false m e)) a)
    (lt→ltb 0 (1 * 2 ^ 31 * down e + m * up e * 1) (positive_sum _ _ (above_zero 31 (down e) (down_pos e)))))

-- ---- unsigned

-- The rounding of |ln x| to an f32 within the tolerance.
--   Ge, Le s u v a b                a / b ≤ ln (u / v), and ln (u / v) ≤ a / b; with s set, of - ln (u / v)
--   ge-float, le-float              the same of a float that is u / v
--   m_of W                          the 24 digits of W, rounded
--   rounded_zero, rounded_is        rounded at 0, and by these digits
--   m-high                          they are at most 2^24
--   near_up, near_down              the result is right for x from 1 up, and below
--   top64                           the leading zeros of a word, and the word with them shifted out
--   rounded-lt, size-lt, sign_mod   patterns and sizes that the code's words hold
use Rattle.std.proofs.Common.{◌≡◌, ℕ, suc, ◌+◌, ◌-◌, ◌*◌, ◌/◌, ◌%◌, ◌^◌, ◌<◌, ◌≤◌, Bool, true, false, cond, T, ltb, ◌⊎◌, sym, refl, ap, ◌∙◌, subst, inl, inr, zero-le, le_trans, le_of_eq, lt_of_lt_of_le, add-zero, mul-le-mul_right, eq-zero-or-pos, mul-lt-mul_of_pos_right, add-sub_cancel, arith, lit<, lit≤, pow_pos, pow-add, le-ltb, lt-ltb, ne_eqb}
use lib.Count.{count_leading_zeros, leading_top}
use lib.Ieee.{Float, binary32, of_bits}
use lib.Ieee.Exact.{HasValue}
use lib.Ieee.Positive.{num, den, value→cross}
use Rattle.series.specs.Exp.{ExpGe, ExpLe, Step}
use Rattle.series.proofs.Cuts.{le_weaken, ge_weaken, le_below, ge_above}
use Rattle.series.proofs.Value.{units, value_pos, value-neg, packed-units}
use Rattle.series.proofs.Cuts.{lt_or_ge}
use Rattle.elementary.specs.Ln.{ln_mant, ln_size, ln_sign, rounded, ln_rounded}
use Rattle.elementary.specs.Accuracy.{LnGe, LnLe, WithinLn}
use Rattle.elementary.proofs.ln.Fixed.{up_le, up-ge, down_le, down_ge, ln_mant-lt}

-- ---- the bounds at x = u / v
abbrev pub Ge : Bool → ℕ → ℕ → ℕ → ℕ → Type 0
Ge false u v a b = ExpLe a b u v
Ge true u v a b = ExpLe a b v u

abbrev pub Le : Bool → ℕ → ℕ → ℕ → ℕ → Type 0
Le false u v a b = ExpGe a b u v
Le true u v a b = ExpGe a b v u

module _ (x : Float) (u v : ℕ) (up : 0 < u) (vp : 0 < v) (h : HasValue x false u v) where
  cross : num x * v ≡ u * den x
  cross = value→cross x u v h

  pub ge-float : (s : Bool) (a b : ℕ) → Ge s u v a b → LnGe s x a b
  ge-float false a b g = le_weaken a b u v (num x) (den x) vp (omega (arith, cross)) g
  ge-float true a b g = le_weaken a b v u (den x) (num x) up (omega (arith, cross)) g

  pub le-float : (s : Bool) (a b : ℕ) → Le s u v a b → LnLe s x a b
  le-float false a b g = ge_weaken a b u v (num x) (den x) vp (omega (arith, cross)) g
  le-float true a b g = ge_weaken a b v u (den x) (num x) up (omega (arith, cross)) g

-- from units of 2^-52 to others
ge-at : (s : Bool) (u v w a b : ℕ) → 0 < b → a * 2 ^ 52 ≤ w * b → Ge s u v w (2 ^ 52) → Ge s u v a b
ge-at false u v w a b B h g = le_below a b w (2 ^ 52) u v B (lit< tt) h g
ge-at true u v w a b B h g = le_below a b w (2 ^ 52) v u B (lit< tt) h g

le-at : (s : Bool) (u v w a b : ℕ) → 0 < b → w * b ≤ a * 2 ^ 52 → Le s u v w (2 ^ 52) → Le s u v a b
le-at false u v w a b B h g = ge_above a b w (2 ^ 52) u v B (lit< tt) h g
le-at true u v w a b B h g = ge_above a b w (2 ^ 52) v u B (lit< tt) h g

-- ---- the rounding: z = 2^lz, y = 2^(137 - lz), h = 2^97
unfoldable pub m_of : ℕ → ℕ
m_of W = (W / 2 ^ 39 + 1) / 2

round-low : (w z y h t : ℕ) → z * y ≡ h * 2 ^ 40 → y ≤ 2 * t → (m_of (w * z) * y - t) * 2 ^ 52 ≤ w * (h * 2 ^ 52)
unfolding m_of
round-low w z y h t e T =
    let m = (w * z / 2 ^ 39 + 1) / 2 in
    let k : m * 2 ^ 40 ≤ w * z + 2 ^ 39 = omega arith in
    let a : m * 2 ^ 40 * y ≤ (w * z + 2 ^ 39) * y = mul-le-mul_right y k in
    let b : w * (z * y) ≡ w * (h * 2 ^ 40) = ap (λ (i : ℕ). w * i) e in
    omega arith

round-high : (w z y h t : ℕ) → z * y ≡ h * 2 ^ 40 → y + 3000 * h ≤ 2 * t
    → (w + 1500) * (h * 2 ^ 52) ≤ (m_of (w * z) * y + t) * 2 ^ 52
unfolding m_of
round-high w z y h t e T =
    let m = (w * z / 2 ^ 39 + 1) / 2 in
    let k : w * z ≤ m * 2 ^ 40 + 2 ^ 39 = omega arith in
    let a : w * z * y ≤ (m * 2 ^ 40 + 2 ^ 39) * y = mul-le-mul_right y k in
    let b : w * (z * y) ≡ w * (h * 2 ^ 40) = ap (λ (i : ℕ). w * i) e in
    omega arith

round-step : (w z y h : ℕ) → z * y ≡ h * 2 ^ 40 → 2 ^ 63 ≤ w * z → 2 ^ 23 * y * 2 ^ 52 ≤ w * (h * 2 ^ 52)
round-step w z y h e k =
    let a : 2 ^ 63 * y ≤ w * z * y = mul-le-mul_right y k in
    let b : w * (z * y) ≡ w * (h * 2 ^ 40) = ap (λ (i : ℕ). w * i) e in
    omega arith

-- ---- a pattern with its sign
signed : (s : Bool) (r : ℕ) → r < 0x7F800000 → HasValue (of_bits binary32 (r + cond s (2 ^ 31) 0)) s
    (units (r / 2 ^ 23) (r % 2 ^ 23)) (2 ^ 149)
signed false r h = rw (add-zero r) (value_pos r h)
signed true r h =
    subst (λ (z : ℕ). HasValue (of_bits binary32 (r + 2 ^ 31)) true (units (z / 2 ^ 23) (z % 2 ^ 23)) (2 ^ 149))
    (add-sub_cancel r (2 ^ 31))
    (value-neg (r + 2 ^ 31) (omega arith) (omega arith))

pub rounded_zero : rounded 0 ≡ 0
unfolding rounded
rounded_zero = refl

pub rounded_is : (w : ℕ) → 0 < w → rounded w ≡ (137 - count_leading_zeros 64 w) * 2 ^ 23 + m_of (w * 2 ^ count_leading_zeros 64 w)
unfolding rounded m_of
rounded_is w h = simp (ne_eqb w 0 (λ (e : w ≡ 0). no e))
  where
    no : w ≡ 0 → ⊥
    no e = omega arith

m-low : (W : ℕ) → 2 ^ 63 ≤ W → 2 ^ 23 ≤ m_of W
unfolding m_of
m-low W h = omega arith

pub m-high : (W : ℕ) → W < 2 ^ 64 → m_of W ≤ 2 ^ 24
unfolding m_of
m-high W h = omega arith

module _ (x : Float) (s : Bool) (u v w : ℕ) (up : 0 < u) (vp : 0 < v) (h : HasValue x false u v)
    (g : Ge s u v w (2 ^ 52)) (l : Le s u v (w + 1500) (2 ^ 52)) where
  near_zero : w ≡ 0 → WithinLn x (of_bits binary32 (0 + cond s (2 ^ 31) 0))
  near_zero e = record {
    sign = s;
    tolerance = 2 ^ 109;
    allowed = inl refl;
    near = record {
      units = 0 * 2 ^ 0;
      value = signed s 0 (lit< tt);
      low = ge-float x u v up vp h s (0 - 2 ^ 109) (2 ^ 149) (ge-at s u v w (0 - 2 ^ 109) (2 ^ 149) (pow_pos 149)
          zero-le g);
      high = le-float x u v up vp h s (0 + 2 ^ 109) (2 ^ 149) (le-at s u v (w + 1500) (0 + 2 ^ 109) (2 ^ 149)
          (pow_pos 149) (rw e (lit≤ tt)) l);
    };
  }

  near_rounded : 0 < w → w < 2 ^ 64 → WithinLn x (of_bits binary32 (rounded w + cond s (2 ^ 31) 0))
  near_rounded W0 W1 =
      let top = leading_top 64 w W0 W1 in
      go (count_leading_zeros 64 w) top.0 top.1 top.2 top.3 (rounded_is w W0)
    where
      go : (z j : ℕ) → z + suc j ≡ 64 → 2 ^ j ≤ w → w < 2 ^ suc j → rounded w ≡ (137 - z) * 2 ^ 23 + m_of (w * 2 ^ z)
          → WithinLn x (of_bits binary32 (rounded w + cond s (2 ^ 31) 0))
      go z j e lo hi is =
          let Z : ℕ = 2 ^ z in
          let Y : ℕ = 2 ^ (137 - z) in
          let W = w * Z in
          let a : 2 ^ j * 2 ^ z ≡ 2 ^ 63 = sym (pow-add 2 j z) ∙ ap (λ (i : ℕ). 2 ^ i) (sixty_three z j e) in
          let b : 2 ^ suc j * 2 ^ z ≡ 2 ^ 64 = sym (pow-add 2 (suc j) z) ∙ ap (λ (i : ℕ). 2 ^ i) (sixty_four z j e) in
          let W-lo : 2 ^ 63 ≤ W = le_trans (le_of_eq (sym a)) (mul-le-mul_right Z lo) in
          let W-hi : W < 2 ^ 64 = lt_of_lt_of_le (mul-lt-mul_of_pos_right hi (pow_pos z)) (le_of_eq b) in
          let ZY : Z * Y ≡ 2 ^ 97 * 2 ^ 40 = sym (pow-add 2 z (137 - z)) ∙ ap (λ (i : ℕ). 2 ^ i) (all z j e) in
          let m = m_of W in
          let r = (137 - z) * 2 ^ 23 + m in
          let val : HasValue (of_bits binary32 (rounded w + cond s (2 ^ 31) 0)) s (m * Y) (2 ^ 149) =
          rw is (subst (λ (i : ℕ). HasValue (of_bits binary32 (r + cond s (2 ^ 31) 0)) s i (2 ^ 149))
          (packed-units (137 - z) m (m-low W W-lo) (m-high W W-hi))
          (signed s r (pattern z m (m-high W W-hi)))) in
          let fin : (t : ℕ) → Y + 3000 * 2 ^ 97 ≤ 2 * t → (t ≡ 2 ^ 109) ⊎ (j : ℕ) × (t ≡ 2 ^ j) × Step (LnGe s x) j
          → WithinLn x (of_bits binary32 (rounded w + cond s (2 ^ 31) 0)) =
          λ t T S. record {
            sign = s;
            tolerance = t;
            allowed = S;
            near = record {
              units = m * Y;
              value = val;
              low = ge-float x u v up vp h s (m * Y - t) (2 ^ 149) (ge-at s u v w (m * Y - t) (2 ^ 149) (pow_pos 149)
                  (round-low w Z Y (2 ^ 97) t ZY (less Y t (2 ^ 97) T)) g);
              high = le-float x u v up vp h s (m * Y + t) (2 ^ 149) (le-at s u v (w + 1500) (m * Y + t) (2 ^ 149)
                  (pow_pos 149) (round-high w Z Y (2 ^ 97) t ZY T) l);
            };
          } in
          elim (lt_or_ge Y (2 ^ 109)) [
            | inl k ↦ fin (2 ^ 109) (small-y Y (2 ^ 97) k) (inl refl)
            | inr k ↦ fin Y (large_y Y (2 ^ 97) k)
                (inr (
                  137 - z,
                  refl,
                  inr (ge-float x u v up vp h s (2 ^ (23 + (137 - z))) (2 ^ 149)
                      (rw (pow-add 2 23 (137 - z)) (ge-at s u v w (2 ^ 23 * Y) (2 ^ 149) (pow_pos 149)
                      (round-step w Z Y (2 ^ 97) ZY W-lo) g))),
                ))
          ]
        where
          sixty_three : (z j : ℕ) → z + suc j ≡ 64 → j + z ≡ 63
          sixty_three z j e = omega arith

          sixty_four : (z j : ℕ) → z + suc j ≡ 64 → suc j + z ≡ 64
          sixty_four z j e = omega arith

          all : (z j : ℕ) → z + suc j ≡ 64 → z + (137 - z) ≡ 137
          all z j e = omega arith

          pattern : (z m : ℕ) → m ≤ 2 ^ 24 → (137 - z) * 2 ^ 23 + m < 0x7F800000
          pattern z m l = omega arith

          less : (y t h : ℕ) → y + 3000 * h ≤ 2 * t → y ≤ 2 * t
          less y t h T = omega arith

          small-y : (y h : ℕ) → y < h * 4096 → y + 3000 * h ≤ 2 * (h * 4096)
          small-y y h k = omega arith

          large_y : (y h : ℕ) → h * 4096 ≤ y → y + 3000 * h ≤ 2 * y
          large_y y h k = omega arith

near_any : (x : Float) (s : Bool) (u v w : ℕ) → 0 < u → 0 < v → HasValue x false u v → Ge s u v w (2 ^ 52)
    → Le s u v (w + 1500) (2 ^ 52) → w < 2 ^ 64
    → WithinLn x (of_bits binary32 (rounded w + cond s (2 ^ 31) 0))
near_any x s u v w up vp h g l W1 =
    elim (eq-zero-or-pos w) [
      | inl e ↦ subst (λ (i : ℕ). WithinLn x (of_bits binary32 (i + cond s (2 ^ 31) 0)))
          (sym (ap rounded e ∙ rounded_zero)) (near_zero x s u v w up vp h g l e)
      | inr p ↦ near_rounded x s u v w up vp h g l p W1
    ]

-- ---- the cases of ln_rounded
up_is : (w : ℕ) → 496343524069145961 ≤ w → ln_rounded w ≡ rounded (w - 496343524069145961) + 0
unfolding ln_rounded ln_size ln_sign
up_is w h = simp (le-ltb w 496343524069145961 h)

down_is : (w : ℕ) → w < 496343524069145961 → ln_rounded w ≡ rounded (496343524069144641 - w) + 2 ^ 31
unfolding ln_rounded ln_size ln_sign
down_is w h = simp (lt-ltb w 496343524069145961 h)

-- ---- x = u / 2^149 = m / 2^23 * 2^(n - 159)
module _ (x : Float) (u n m : ℕ) (up : 0 < u) (h : HasValue x false u (2 ^ 149)) (lo : 2 ^ 23 ≤ m) (hi : m < 2 ^ 24)
  where
    pub near_up : 159 ≤ n → n ≤ 286 → u * 2 ^ 23 ≡ 2 ^ (n - 159) * m * 2 ^ 149
        → WithinLn x (of_bits binary32 (ln_rounded (n * 3121657384082679 + ln_mant m)))
    near_up N N' e =
        let k = n - 159 in
        let w = n * 3121657384082679 + ln_mant m in
        let E : w - 496343524069145961 ≡ k * 3121657384082679 + ln_mant m = omega arith in
        rw (up_is w (omega arith), E)
        (near_any x false u (2 ^ 149) (k * 3121657384082679 + ln_mant m) up (pow_pos 149) h
        (up_le m lo hi k u (2 ^ 149) e)
        (up-ge m lo hi k u (2 ^ 149) (omega arith) e) (omega (arith, ln_mant-lt m lo hi)))

    pub near_down : n < 159 → u * (2 ^ (159 - n) * 2 ^ 23) ≡ m * 2 ^ 149
        → WithinLn x (of_bits binary32 (ln_rounded (n * 3121657384082679 + ln_mant m)))
    near_down N e =
        let k = 159 - n in
        let w = n * 3121657384082679 + ln_mant m in
        let t = 496343524069144641 - w in
        let l = ln_mant-lt m lo hi in
        let E : t + (ln_mant m + 1320) ≡ k * 3121657384082679 = omega arith in
        rw (down_is w (omega arith))
        (near_any x true u (2 ^ 149) t up (pow_pos 149) h (down_le m lo hi k t u (2 ^ 149) e E)
        (down_ge m lo hi k t u (2 ^ 149) (omega arith) e E) (omega arith))

-- ---- leading zeros
pub top64 : (w : ℕ) → 0 < w → w < 2 ^ 64 → (count_leading_zeros 64 w ≤ 63) × (w * 2 ^ count_leading_zeros 64 w < 2 ^ 64)
top64 w p h =
    let t = leading_top 64 w p h in
    go (count_leading_zeros 64 w) t.0 t.1 t.3
  where
    go : (z j : ℕ) → z + suc j ≡ 64 → w < 2 ^ suc j → (z ≤ 63) × (w * 2 ^ z < 2 ^ 64)
    go z j e hi =
        let s : suc j + z ≡ 64 = omega arith in
        let b : 2 ^ suc j * 2 ^ z ≡ 2 ^ 64 = sym (pow-add 2 (suc j) z) ∙ ap (λ (i : ℕ). 2 ^ i) s in
        (omega arith, lt_of_lt_of_le (mul-lt-mul_of_pos_right hi (pow_pos z)) (le_of_eq b))

pub rounded-lt : (w : ℕ) → w < 2 ^ 64 → rounded w < 0x7F800000
rounded-lt w h =
    elim (eq-zero-or-pos w) [
      | inl e ↦ subst (λ (i : ℕ). i < 0x7F800000) (sym (ap rounded e ∙ rounded_zero)) (lit< tt)
      | inr p ↦ subst (λ (i : ℕ). i < 0x7F800000) (sym (rounded_is w p))
          (go (count_leading_zeros 64 w) (m_of (w * 2 ^ count_leading_zeros 64 w))
          (m-high (w * 2 ^ count_leading_zeros 64 w) (top64 w p h).1))
    ]
  where
    go : (z m : ℕ) → m ≤ 2 ^ 24 → (137 - z) * 2 ^ 23 + m < 0x7F800000
    go z m l = omega arith

pub size-lt : (w : ℕ) → w < 2 ^ 64 → ln_size w < 2 ^ 64
unfolding ln_size
size-lt w h = go (ltb w 496343524069145961)
  where
    go : (t : Bool) → cond t (496343524069144641 - w) (w - 496343524069145961) < 2 ^ 64
    go true = omega arith
    go false = omega arith

pub sign_mod : (w n : ℕ) → n < 0x7F800000 → (n + ln_sign w) % 2 ^ 31 ≤ 0x7F800000
unfolding ln_sign
sign_mod w n h = go (ltb w 496343524069145961)
  where
    go : (t : Bool) → (n + cond t (2 ^ 31) 0) % 2 ^ 31 ≤ 0x7F800000
    go true = omega arith
    go false = omega arith

-- exp_of meets IsExp.
--   packed-value             the value of a packed pattern, from 2^-126 up
--   of_x, of_nan             exp_of at a number, and at NaN
--   shifted-le, shifted-ge   below the limit the quotient n is from 1 to 254
--   fixed_fits               and fixed is a number that the code's words hold
--   exp_law                  the law
use Rattle.std.proofs.Common.{◌≡◌, ℕ, zero, suc, ◌+◌, ◌-◌, ◌*◌, ◌/◌, ◌%◌, ◌^◌, ◌<◌, ◌≤◌, Bool, true, false, not, T, ltb, ◌⊎◌, sym, refl, ap, ◌∙◌, subst, inl, inr, le_trans, mul-le-mul, eq-or-lt_of_le, one-mul, pow-suc, arith, lit<, lit≤, pow_pos, pow_mono, pow-add, le-ltb}
use native.Mathlib.Nat.{le-suc}
use lib.Ieee.{Float, nan, inf, fin, binary32, is_nan, of_bits, to_bits, fits}
use lib.Ieee.Exact.{HasValue}
use lib.Ieee.Bits.{of_bits-to_bits, to_bits-lt, cond_no}
use lib.Ieee.Positive as P
use Rattle.series.specs.Exp.{sum, scale, SignedGe, SignedLe, Within, ln2}
use Rattle.elementary.specs.Exp.{mant, fixed, packed, shifted, limit, exp_abs, exp_bits, exp_of}
use Rattle.elementary.specs.Accuracy.{sign_of, ExpAtLeast, ExpAtMost, IsExp}
use Rattle.series.proofs.Cuts.{lt_or_ge, ge_weaken, le_same, ge-same, le_mono, le-by, ge-one, cut, signed_ge_same}
use Rattle.series.proofs.Cuts.{signed_le_same, signed_ge_weaken, signed_le_weaken}
use Rattle.elementary.proofs.exp.Reduce.{mant-high, pos_ge, pos_le, neg-ge, neg-le}
use Rattle.series.proofs.Near.{WeakGe, WeakLe, Bounds, norm_up, norm_down, within}
use Rattle.elementary.proofs.exp.Error.{mant-ge, mant-low}
use Rattle.elementary.proofs.exp.Cases.{packed_zero, packed-suc, abs-one, abs-mid, abs-end, bits_is, bits_pos}
use Rattle.elementary.proofs.exp.Cases.{bits-neg, limit-le, fixed-neg, fixed-le, fixed-low}
use Rattle.elementary.proofs.Common.{number_of-bits, infinity_is, zero_is, sign_is, fraction_is}
use Rattle.series.proofs.Value.{units, value_pos, value-neg, packed-units}

-- ---- the bounds at a float's fraction, from those at an equal one
ge-float : (x : Float) (s : Bool) (u c a b : ℕ) → 0 < c → HasValue x s u c → SignedGe s u c a b → ExpAtLeast x a b
ge-float x s u c a b C h g = rw (sign_is x s u c h) (signed_ge_same s u c (P.num x) (P.den x) a b C
    (sym (fraction_is x s u c h)) g)

le-float : (x : Float) (s : Bool) (u c a b : ℕ) → 0 < c → HasValue x s u c → SignedLe s u c a b → ExpAtMost x a b
le-float x s u c a b C h g = rw (sign_is x s u c h) (signed_le_same s u c (P.num x) (P.den x) a b C
    (sym (fraction_is x s u c h)) g)

weak_ge : (x : Float) → WeakGe (ExpAtLeast x)
weak_ge x = signed_ge_weaken (sign_of x) (P.num x) (P.den x)

weak_le : (x : Float) → WeakLe (ExpAtMost x)
weak_le x = signed_le_weaken (sign_of x) (P.num x) (P.den x)

-- r is within one step of e^x
abbrev Close : Float → Float → Type 0
Close x r = Within (ExpAtLeast x) (ExpAtMost x) 1 r

-- ---- x = u / 2^149 = X / 2^48
same_units : (a : ℕ) → 855638016 ≤ a → fixed a * 2 ^ 149 ≡ units (a / 2 ^ 23) (a % 2 ^ 23) * 2 ^ 48
unfolding fixed
same_units a h =
    let f = a / 2 ^ 23 in
    let e : f ≡ suc ((f - 102) + 101) = omega arith in
    subst (λ (z : ℕ). (a % 2 ^ 23 + 2 ^ 23) * 2 ^ (f - 102) * 2 ^ 149 ≡ units z (a % 2 ^ 23) * 2 ^ 48) (sym e)
    (rw (pow-add 2 (f - 102) 101) (go (a % 2 ^ 23) (2 ^ (f - 102)) (2 ^ 101)))
  where
    go : (t w h : ℕ) → (t + 2 ^ 23) * w * (h * 2 ^ 48) ≡ (2 ^ 23 + t) * (w * h) * 2 ^ 48
    go t w h = omega arith

-- ---- the result, packed
pub packed-value : (i r : ℕ) → packed (suc i) r < 0x7F800000 → r < ln2 + 1
    → HasValue (of_bits binary32 (packed (suc i) r)) false ((mant r + 128) / 256 * 2 ^ i) (2 ^ 149)
packed-value i r l k =
    let m = (mant r + 128) / 256 in
    rw (packed-suc i r)
    (subst (λ (z : ℕ). HasValue (of_bits binary32 (i * 2 ^ 23 + m)) false z (2 ^ 149))
    (packed-units i m (omega (arith, mant-low r (omega arith))) (omega (arith, mant-high r k)))
    (value_pos (i * 2 ^ 23 + m) (rw (packed-suc i r) at l)))

near_packed : (x : Float) (i r : ℕ) → r < ln2 + 1 → packed (suc i) r < 0x7F800000
    → Bounds (ExpAtLeast x) (ExpAtMost x) (suc i) (mant r) (mant r + 90) → Close x (of_bits binary32 (packed (suc i) r))
near_packed x i r R lt b =
    let M = mant r in
    let P : 2 ^ 31 ≤ M = mant-low r (omega arith) in
    within (ExpAtLeast x) (ExpAtMost x) (weak_ge x) (weak_le x) M (M + 90) (omega arith) (omega arith) (suc i) i 2
    (pow-suc 2 i) b 1 ((M + 128) / 256) (of_bits binary32 (packed (suc i) r)) (packed-value i r lt R)
    (inr (omega arith)) (omega arith) (omega arith)

-- x ≥ 0
near_pos : (x : Float) (u k i r X : ℕ) → HasValue x false u (2 ^ 149) → X * 2 ^ 149 ≡ u * 2 ^ 48
    → X ≡ k * (ln2 + 1) + r + 128 → k ≤ 127 → 127 + k ≡ suc i → r < ln2 + 1
    → packed (suc i) r < 0x7F800000 → Close x (of_bits binary32 (packed (suc i) r))
near_pos x u k i r X v e f K N R lt =
    let M = mant r in
    let Q : ℕ = 2 ^ 48 in
    let P : 2 ^ 31 ≤ M = mant-low r (omega arith) in
    near_packed x i r R lt
    (subst (λ (n : ℕ). Bounds (ExpAtLeast x) (ExpAtMost x) n M (M + 90)) N
    (norm_up (ExpAtLeast x) (ExpAtMost x) (weak_ge x) (weak_le x) M (M + 90) (omega arith) (omega arith) k
    (ge-float x false u (2 ^ 149) (2 ^ k * M) (2 ^ 31) (pow_pos 149) v (ge-same X Q u (2 ^ 149) (2 ^ k * M) (2 ^ 31)
    (lit< tt) e (pos_ge k r X R (omega arith))))
    (le-float x false u (2 ^ 149) (2 ^ k * (M + 90)) (2 ^ 31) (pow_pos 149) v
    (le_same X Q u (2 ^ 149) (2 ^ k * (M + 90)) (2 ^ 31) (lit< tt) e
    (pos_le k r X R (128 + k) (omega arith) (omega arith))))))

-- x < 0
near_neg : (x : Float) (u k i r X : ℕ) → HasValue x true u (2 ^ 149) → X * 2 ^ 149 ≡ u * 2 ^ 48
    → X + r + 128 ≡ k * (ln2 + 1) → k + suc i ≡ 127 → r < ln2 + 1
    → packed (suc i) r < 0x7F800000 → Close x (of_bits binary32 (packed (suc i) r))
near_neg x u k i r X v e f K R lt =
    let M = mant r in
    let Q : ℕ = 2 ^ 48 in
    let P : 2 ^ 31 ≤ M = mant-low r (omega arith) in
    near_packed x i r R lt
    (norm_down (ExpAtLeast x) (ExpAtMost x) (weak_ge x) (weak_le x) M (M + 90) (omega arith) (omega arith) k (suc i) K
    (ge-float x true u (2 ^ 149) M (2 ^ k * 2 ^ 31) (pow_pos 149) v (le_same X Q u (2 ^ 149) (2 ^ k * 2 ^ 31) M
    (lit< tt) e (neg-ge k r X R (omega arith))))
    (le-float x true u (2 ^ 149) (M + 90) (2 ^ k * 2 ^ 31) (pow_pos 149) v (ge-same X Q u (2 ^ 149) (2 ^ k * 2 ^ 31)
    (M + 90) (lit< tt) e (neg-le k r X R 128 (omega arith) (omega arith)))))

-- ---- |x| < 2^-25
one_value : HasValue (of_bits binary32 0x3F800000) false (2 ^ 149) (2 ^ 149)
one_value = value_pos 0x3F800000 (lit< tt)

-- a unit is 2^-149, and a step at 1 is 2^126 units, below it 2^125
at_one : (x : Float) (j : ℕ) → ExpAtLeast x (2 ^ (23 + j)) (2 ^ 149) → ExpAtLeast x (2 ^ 149 - 2 ^ j) (2 ^ 149)
    → ExpAtMost x (2 ^ 149 + 2 ^ j) (2 ^ 149) → Close x (of_bits binary32 0x3F800000)
at_one x j s l h = record {
  j = j;
  step = inr s;
  near = rw (one-mul (2 ^ j)) record { units = 2 ^ 149; value = one_value; low = l; high = h };
}

near_zero : (x : Float) (s : Bool) (u : ℕ) → HasValue x s u (2 ^ 149) → u ≤ 2 ^ 124
    → Close x (of_bits binary32 0x3F800000)
near_zero x false u v h =
    at_one x 126
    (ge-float x false u (2 ^ 149) (2 ^ 149) (2 ^ 149) (pow_pos 149) v (ge_weaken u (2 ^ 149) 1 1 (2 ^ 149) (2 ^ 149)
    (lit< tt) (lit≤ tt) (ge-one u (2 ^ 149))))
    (ge-float x false u (2 ^ 149) (2 ^ 149 - 2 ^ 126) (2 ^ 149) (pow_pos 149) v
    (ge_weaken u (2 ^ 149) 1 1 (2 ^ 149 - 2 ^ 126) (2 ^ 149) (lit< tt) (lit≤ tt) (ge-one u (2 ^ 149))))
    (le-float x false u (2 ^ 149) (2 ^ 149 + 2 ^ 126) (2 ^ 149) (pow_pos 149) v
    (le_mono u (2 ^ 124) (2 ^ 149) (2 ^ 149 + 2 ^ 126) (2 ^ 149) h (le-by (2 ^ 124) (2 ^ 149) (2 ^ 149 + 2 ^ 126)
    (2 ^ 149) 1 (lit< tt) (lit≤ tt) (unfold sum scale in lit≤ tt))))
near_zero x true u v h =
    at_one x 125
    (ge-float x true u (2 ^ 149) (2 ^ 148) (2 ^ 149) (pow_pos 149) v
    (le_mono u (2 ^ 124) (2 ^ 149) (2 ^ 149) (2 ^ 148) h (le-by (2 ^ 124) (2 ^ 149) (2 ^ 149) (2 ^ 148) 1 (lit< tt)
    (lit≤ tt) (unfold sum scale in lit≤ tt))))
    (ge-float x true u (2 ^ 149) (2 ^ 149 - 2 ^ 125) (2 ^ 149) (pow_pos 149) v
    (le_mono u (2 ^ 124) (2 ^ 149) (2 ^ 149) (2 ^ 149 - 2 ^ 125) h
    (le-by (2 ^ 124) (2 ^ 149) (2 ^ 149) (2 ^ 149 - 2 ^ 125) 1 (lit< tt) (lit≤ tt) (unfold sum scale in lit≤ tt))))
    (le-float x true u (2 ^ 149) (2 ^ 149 + 2 ^ 125) (2 ^ 149) (pow_pos 149) v
    (ge_weaken u (2 ^ 149) 1 1 (2 ^ 149) (2 ^ 149 + 2 ^ 125) (lit< tt) (lit≤ tt) (ge-one u (2 ^ 149))))

tiny : (a : ℕ) → a < 855638016 → units (a / 2 ^ 23) (a % 2 ^ 23) ≤ 2 ^ 124
tiny a h = go (a / 2 ^ 23) (a % 2 ^ 23) (omega arith) (omega arith)
  where
    go : (f t : ℕ) → f < 102 → t < 2 ^ 23 → units f t ≤ 2 ^ 124
    go zero t F T' = le_trans (mul-le-mul (le_trans (le-suc t) T') (pow_mono {i = 0} {j = 101} (lit≤ tt))) (lit≤ tt)
    go (suc f) t F T' = mul-le-mul {n₂ = (2 ^ 24)} {m₂ = 2 ^ 100} (omega arith)
        (pow_mono {i = f} {j = 100} (omega arith))

-- ---- the patterns stay below the infinity's
top_r : (r : ℕ) → r ≤ 195101507643936 → mant r ≤ 4294966784
top_r r h = omega (
  arith,
  cut r (2 ^ 48) (mant r) (2 ^ 31) 4294966784 (2 ^ 31) (lit< tt) (mant-ge r (omega arith))
      (le_mono r 195101507643936 (2 ^ 48) 4294966784 (2 ^ 31) h (le-by 195101507643936 (2 ^ 48) 4294966784 (2 ^ 31) 18
      (lit< tt) (lit≤ tt) (unfold sum scale in lit≤ tt))),
)

packed_lt : (n r : ℕ) → r < ln2 + 1 → n * (ln2 + 1) + r ≤ 49751412479956400 → packed n r < 0x7F800000
packed_lt zero r R h = rw (packed_zero 0 r refl) (omega (arith, mant-high r R))
packed_lt (suc i) r R h = rw (packed-suc i r) (go (eq-or-lt_of_le K))
  where
    K : i ≤ 253
    K = omega arith

    go : (i ≡ 253) ⊎ (i < 253) → i * 2 ^ 23 + (mant r + 128) / 256 < 0x7F800000
    go (inl e) = omega (arith, top_r r (omega arith))
    go (inr l) = omega (arith, mant-high r R)

-- ---- all of it
pub of_x : (x : Float) → T (not (is_nan x)) → exp_of x ≡ of_bits binary32 (exp_bits (to_bits binary32 x))
unfolding exp_of
of_x x h = cond_no (is_nan x) nan (of_bits binary32 (exp_bits (to_bits binary32 x))) h

pub of_nan : (x : Float) → T (is_nan x) → exp_of x ≡ nan
unfolding exp_of is_nan
of_nan nan h = refl
of_nan (inf s) h = absurd h
of_nan (fin s m e) h = absurd h

-- ---- n and r
pub shifted-le : (s : Bool) (a : ℕ) → a < limit s → shifted s (fixed a) ≤ 49751412479956400
unfolding shifted limit
shifted-le true a h = omega (arith, fixed-le a 1118925335 (lit≤ tt) (lit< tt) (omega arith))
shifted-le false a h = omega arith

pub shifted-ge : (s : Bool) (a : ℕ) → a < limit s → ln2 + 1 ≤ shifted s (fixed a)
unfolding shifted limit
shifted-ge true a h = omega arith
shifted-ge false a h = omega (arith, fixed-neg a h)

pub fixed_fits : (b a : ℕ) → a < limit (ltb b (2 ^ 31))
    → (fixed a < 2 ^ 55) × (2 ^ 31 ≤ b → fixed a ≤ 24778155486156208)
fixed_fits b a h = (
  omega (arith, fixed-le a 1118925335 (lit≤ tt) (lit< tt) (omega (arith, limit-le (ltb b (2 ^ 31))))),
  λ k. omega (arith, fixed-neg a (go k)),
)
  where
    go : 2 ^ 31 ≤ b → a < 1118743632
    go k = unfold limit in (rw (le-ltb b (2 ^ 31) k) at h)

-- y is what exp_bits gives, and x the value of the pattern a with the sign s
near_of : (x : Float) (s : Bool) (a : ℕ) → HasValue x (not s) (units (a / 2 ^ 23) (a % 2 ^ 23)) (2 ^ 149) → a < limit s
    → Close x (of_bits binary32 (exp_abs s a))
near_of x s a v h = go (lt_or_ge a 855638016) s v h
  where
    mid : (t : Bool) → HasValue x (not t) (units (a / 2 ^ 23) (a % 2 ^ 23)) (2 ^ 149) → 855638016 ≤ a → a < limit t
        → Close x (of_bits binary32 (packed (shifted t (fixed a) / (ln2 + 1)) (shifted t (fixed a) % (ln2 + 1))))
    mid true v l h =
        let X = fixed a in
        let Z = shifted true X in
        let n = Z / (ln2 + 1) in
        let r = Z % (ln2 + 1) in
        let zi : Z ≡ 24778155486156208 + X = unfold shifted in refl in
        let lo : 2 ^ 23 ≤ X = fixed-low a in
        let k = n - 127 in
        let i = n - 1 in
        let N : suc i ≡ n = omega arith in
        let top = shifted-le true a h in
        let R : r < ln2 + 1 = omega arith in
        subst (λ (j : ℕ). Close x (of_bits binary32 (packed j r))) N
        (near_pos x (units (a / 2 ^ 23) (a % 2 ^ 23)) k i r X v (same_units a l) (omega arith) (omega arith)
        (omega arith) R (packed_lt (suc i) r R (omega arith)))
    mid false v l h =
        let X = fixed a in
        let Z = shifted false X in
        let n = Z / (ln2 + 1) in
        let r = Z % (ln2 + 1) in
        let zi : Z ≡ 24778155486156208 - X = unfold shifted in refl in
        let hi : X ≤ 24583051000000000 = fixed-neg a (unfold limit in h) in
        let i = n - 1 in
        let N : suc i ≡ n = omega arith in
        let R : r < ln2 + 1 = omega arith in
        subst (λ (j : ℕ). Close x (of_bits binary32 (packed j r))) N
        (near_neg x (units (a / 2 ^ 23) (a % 2 ^ 23)) (127 - n) i r X v (same_units a l) (omega arith) (omega arith) R
        (packed_lt (suc i) r R (omega arith)))

    go : (a < 855638016) ⊎ (855638016 ≤ a) → (t : Bool) → HasValue x (not t) (units (a / 2 ^ 23) (a % 2 ^ 23)) (2 ^ 149)
        → a < limit t → Close x (of_bits binary32 (exp_abs t a))
    go (inl l) t v h = rw (abs-one t a l) (near_zero x (not t) (units (a / 2 ^ 23) (a % 2 ^ 23)) v (tiny a l))
    go (inr l) t v h = rw (abs-mid t a l h) (mid t v l h)

pub exp_law : (x : Float) → T (fits binary32 x) → IsExp x (exp_of x)
exp_law x f =
    let b = to_bits binary32 x in
    let e : x ≡ of_bits binary32 b = sym (of_bits-to_bits binary32 x f) in
    let top : b < 2 ^ 32 = to_bits-lt binary32 x f in
    let vp : b < 0x7F800000 → HasValue x false (units (b / 2 ^ 23) (b % 2 ^ 23)) (2 ^ 149) =
    λ h. subst (λ (y : Float). HasValue y false (units (b / 2 ^ 23) (b % 2 ^ 23)) (2 ^ 149)) (sym e) (value_pos b h) in
    let vn : 2 ^ 31 ≤ b → b - 2 ^ 31 < 0x7F800000
    → HasValue x true (units ((b - 2 ^ 31) / 2 ^ 23) ((b - 2 ^ 31) % 2 ^ 23)) (2 ^ 149) =
    λ s h. subst (λ (y : Float). HasValue y true (units ((b - 2 ^ 31) / 2 ^ 23) ((b - 2 ^ 31) % 2 ^ 23)) (2 ^ 149))
    (sym e) (value-neg b s h) in
    record {
      of_nan = of_nan x;
      at_zero = λ (z : b % 2 ^ 31 ≡ 0). of_x x (number_of-bits x (omega arith)) ∙ ap (of_bits binary32)
          (bits_is b ∙ abs-one (ltb b (2 ^ 31)) (b % 2 ^ 31) (omega arith));
      over = λ n h l. of_x x n ∙ ap (of_bits binary32) (bits_pos b l ∙ abs-end true b (unfold limit in h)) ∙ infinity_is;
      under = λ n h. of_x x n ∙ ap (of_bits binary32) (bits-neg b (omega arith) top ∙ abs-end false (b - 2 ^ 31)
          (unfold limit in omega arith)) ∙ zero_is;
      near = λ n h. subst (Close x) (sym (of_x x n)) (elim h [
        | inl h ↦ rw (bits_pos b (omega arith)) (near_of x true b (vp (omega arith)) (unfold limit in h))
        | inr h ↦ rw (bits-neg b h.0 top) (near_of x false (b - 2 ^ 31) (vn h.0 (omega (arith, h.1)))
            (unfold limit in omega (arith, h.1)))
      ]);
    }

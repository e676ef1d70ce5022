-- ln_of meets IsLn; the cases of its definition, and what the code's proofs ask of them.
--   range_of, fixed_of                       the ranges of x's parts, and ln_fixed from them
--   fixed-lt, fixed_gap                      ln_fixed from above, and that it is not just below 159 ln 2
--   rounded-mod                              no pattern is a NaN's
--   at_near, at_zero, at_infinity, at_rest   ln_at of a finite x above 0, of a zero, of +infinity, and else
--   of_x, of_nan                             ln_of at a number, and at NaN
--   ln_law                                   the law
use Rattle.std.proofs.Common.{◌≡◌, ℕ, ◌+◌, ◌*◌, ◌%◌, ◌^◌, ◌<◌, ◌≤◌, true, false, not, T, pos, sym, refl, ap, ◌∙◌, subst, ap₂, arith, le-ltb, lt-ltb, eq-eqb, ne_eqb}
use lib.Ieee.{Float, nan, inf, fin, binary32, is_nan, of_bits, to_bits, fits}
use lib.Ieee.Bits.{of_bits-to_bits, to_bits-lt, cond_no}
use Rattle.elementary.proofs.Common.{number_of-bits}
use Rattle.elementary.specs.Ln.{ln_mant, exponent, significand, ln_wide, ln_fixed, ln_size, rounded, ln_rounded, ln_at}
use Rattle.elementary.specs.Ln.{ln_of}
use Rattle.elementary.specs.Accuracy.{WithinLn, IsLn}
use Rattle.elementary.proofs.ln.Fixed.{ln_mant-lt}
use Rattle.elementary.proofs.ln.Rounding.{near_up, near_down, rounded-lt, size-lt, sign_mod}
use Rattle.elementary.proofs.ln.Parts.{range, at-parts}

fixed_is : (b : ℕ) → ln_fixed b ≡ exponent b * 3121657384082679 + ln_mant (significand b)
unfolding ln_fixed ln_wide
fixed_is b = refl

near_of : (x : Float) (b : ℕ) → x ≡ of_bits binary32 b → 0 < b → b < 0x7F800000
    → WithinLn x (of_bits binary32 (ln_rounded (ln_fixed b)))
near_of x b e p h = rw (fixed_is b)
    (at-parts x (λ n m. WithinLn x (of_bits binary32 (ln_rounded (n * 3121657384082679 + ln_mant m))))
    (λ u n m up v lo hi. near_up x u n m up v lo hi) (λ u n m up v lo hi. near_down x u n m up v lo hi) b e p h)

-- ---- what the code's proofs ask
pub range_of : {b n m : ℕ} → 0 < b → b < 0x7F800000 → n ≡ exponent b → m ≡ significand b
    → (n ≤ 286) × (2 ^ 23 ≤ m) × (m < 2 ^ 24)
range_of {b = b} p h e f = let r = range b p h in rw (e, f) (r.most, r.low, r.high)

pub fixed_of : (b n m : ℕ) {w : ℕ} → w ≡ ln_wide n m → n ≡ exponent b → m ≡ significand b → w ≡ ln_fixed b
unfolding ln_fixed
fixed_of b n m g e f = g ∙ ap₂ ln_wide e f

pub fixed-lt : (b : ℕ) → 0 < b → b < 0x7F800000 → ln_fixed b < 900000000000000000
fixed-lt b p h = let r = range b p h in rw (fixed_is b)
    (omega (arith, r.most, ln_mant-lt (significand b) r.low r.high))

-- ln_fixed is not just below 159 ln 2
pub fixed_gap : (b : ℕ) → 0 < b → b < 0x7F800000 → ln_fixed b < 496343524069145961 → ln_fixed b ≤ 496343524069144641
fixed_gap b p h = let r = range b p h in rw (fixed_is b)
    (λ l. omega (arith, l, ln_mant-lt (significand b) r.low r.high))

pub rounded-mod : (w : ℕ) → w < 2 ^ 64 → ln_rounded w % 2 ^ 31 ≤ 0x7F800000
unfolding ln_rounded
rounded-mod w h = sign_mod w (rounded (ln_size w)) (rounded-lt (ln_size w) (size-lt w h))

-- ---- the cases of ln_at
pub at_near : (b : ℕ) → (b % 2 ^ 31 ≡ 0 → ⊥) → b < 0x7F800000 → ln_at b ≡ of_bits binary32 (ln_rounded (ln_fixed b))
unfolding ln_at
at_near b p h = simp (ne_eqb (b % 2 ^ 31) 0 p, lt-ltb b 0x7F800000 h)

pub at_zero : (b : ℕ) → b % 2 ^ 31 ≡ 0 → ln_at b ≡ inf true
unfolding ln_at
at_zero b h = simp (eq-eqb (b % 2 ^ 31) 0 h)

at_one : ln_at 0x3F800000 ≡ fin false 0 (pos 0)
unfolding ln_at of_bits
at_one = refl

pub at_infinity : ln_at 0x7F800000 ≡ inf false
unfolding ln_at
at_infinity = refl

pub at_rest : (b : ℕ) → (b % 2 ^ 31 ≡ 0 → ⊥) → 0x7F800000 ≤ b → (b ≡ 0x7F800000 → ⊥) → ln_at b ≡ nan
unfolding ln_at
at_rest b p h k = simp (ne_eqb (b % 2 ^ 31) 0 p, le-ltb b 0x7F800000 h, ne_eqb b 0x7F800000 k)

pub of_x : (x : Float) → T (not (is_nan x)) → ln_of x ≡ ln_at (to_bits binary32 x)
unfolding ln_of
of_x x h = cond_no (is_nan x) nan (ln_at (to_bits binary32 x)) h

pub of_nan : (x : Float) → T (is_nan x) → ln_of x ≡ nan
unfolding ln_of is_nan
of_nan nan h = refl
of_nan (inf s) h = absurd h
of_nan (fin s m e) h = absurd h

pub ln_law : (x : Float) → T (fits binary32 x) → IsLn x (ln_of x)
ln_law x f =
    let b = to_bits binary32 x in
    let e : x ≡ of_bits binary32 b = sym (of_bits-to_bits binary32 x f) in
    let top : b < 2 ^ 32 = to_bits-lt binary32 x f in
    record {
      of_nan = of_nan x;
      at_zero = λ n z. of_x x n ∙ at_zero b z;
      below = λ n h. of_x x n ∙ at_rest b (λ (e : b % 2 ^ 31 ≡ 0). beyond b top h e) (omega arith)
          (λ (e : b ≡ 0x7F800000). apart b h e);
      at_one = λ (z : b ≡ 0x3F800000). of_x x (number_of-bits x (omega arith)) ∙ ap ln_at z ∙ at_one;
      at_infinity = λ (z : b ≡ 0x7F800000). of_x x (number_of-bits x (omega arith)) ∙ ap ln_at z ∙ at_infinity;
      near = λ (p : 0 < b) (h : b < 0x7F800000). subst (WithinLn x)
          (sym (of_x x (number_of-bits x (omega arith)) ∙ at_near b (λ (e : b % 2 ^ 31 ≡ 0). above b p h e) h))
          (near_of x b e p h);
    }
  where
    beyond : (b : ℕ) → b < 2 ^ 32 → 2 ^ 31 < b → b % 2 ^ 31 ≡ 0 → ⊥
    beyond b t h e = omega arith

    apart : (b : ℕ) → 2 ^ 31 < b → b ≡ 0x7F800000 → ⊥
    apart b h e = omega arith

    above : (b : ℕ) → 0 < b → b < 0x7F800000 → b % 2 ^ 31 ≡ 0 → ⊥
    above b p h e = omega arith

use Rattle.std.proofs.Common.{◌≡◌, ℕ, ◌%◌, ◌^◌, ◌<◌, ◌≤◌, true, T, sym, refl, ap, ◌∙◌, subst, not, le_trans, pos_of_ne-zero, arith, lit≤}
use lib.Ieee.{Float, nan, inf, binary32, is_nan, of_bits, to_bits, fits}
use lib.Ieee.Bits.{of_bits-to_bits, to_bits-lt}
use Rattle.elementary.specs.Ln.{ln_fixed, ln_rounded, ln_at, ln_of}
use Rattle.elementary.specs.Accuracy.{IsLn}
use Rattle.elementary.proofs.Common.{nan_is, number_is, no_nan_bits, infinity_is}
use Rattle.elementary.proofs.ln.Law.{of_x, of_nan, range_of, fixed_of, fixed-lt, fixed_gap, rounded-mod, ln_law}
use Rattle.elementary.proofs.ln.Law.{at_near, at_zero, at_infinity, at_rest}
use Rattle.elementary.proofs.ln.ln_f32.Goals as goal

minus_infinity : of_bits binary32 4286578688 ≡ inf true
unfolding of_bits
minus_infinity = refl

no_number : of_bits binary32 0x7FC00000 ≡ nan
unfolding of_bits
no_number = refl

-- the law holds of what equals ln_of x
law : (x r : Float) → T (fits binary32 x) → r ≡ ln_of x → IsLn x r
law x r f e = subst (IsLn x) (sym e) (ln_law x f)

-- the answer r at the pattern of x, a number
at_pattern : (x r : Float) → T (not (is_nan x)) → r ≡ ln_at (to_bits binary32 x) → r ≡ ln_of x
at_pattern x r n e = e ∙ sym (of_x x n)

-- a pattern from the infinity's up that is not -0's
not_zero : (x : Float) → T (fits binary32 x) → 0x7F800000 ≤ to_bits binary32 x → (to_bits binary32 x ≡ 2 ^ 31 → ⊥)
    → to_bits binary32 x % 2 ^ 31 ≡ 0 → ⊥
not_zero x f h n z = n (go (to_bits binary32 x) (to_bits-lt binary32 x f) h z)
  where
    go : (b : ℕ) → b < 2 ^ 32 → 0x7F800000 ≤ b → b % 2 ^ 31 ≡ 0 → b ≡ 2 ^ 31
    go b l h z = omega arith

above : (b : ℕ) → (b ≡ 0 → ⊥) → b < 0x7F800000 → b % 2 ^ 31 ≡ 0 → ⊥
above b n l z = n (omega arith)

w-is : (c : goal.After-ln_wide)
    → c.ln_wide.result ≡ ln_fixed (to_bits binary32 c.args.x)
w-is c = fixed_of (to_bits binary32 c.args.x)
    c.exponent_of.result c.significand_of.result c.ln_wide.ensures
    c.exponent_of.ensures c.significand_of.ensures

-- the bits of ln x
bits_are : (c : goal.After-ln_rounded)
    → c.ln_rounded.result
    ≡ ln_rounded (ln_fixed (to_bits binary32 c.args.x))
bits_are c = c.ln_rounded.ensures ∙ ap ln_rounded (w-is c.before)

pub returns-then-is_nan : goal.returns-then-is_nan
returns-then-is_nan c =
    let x = c.args.x in
    let e : x ≡ nan = nan_is x _ c.is_nan.ensures.value c.if-is_nan.true in
    let v : x ≡ ln_of x = e ∙ sym (ap ln_of e ∙ of_nan nan (unfold is_nan in tt)) in
    record { value = v; bound = law x x (subst T (sym c.well_formed.0.1) tt) v }

pub returns-then-b-eq0 : goal.returns-then-b-eq0
returns-then-b-eq0 c =
    let x = c.args.x in
    let r : Float = of_bits binary32 4286578688 in
    let v : r ≡ ln_of x = at_pattern x r (number_is x _ c.is_nan.ensures.value c.if-is_nan.false)
    (minus_infinity ∙ sym (at_zero (to_bits binary32 x) (ap (λ (n : ℕ). n % 2 ^ 31) c.if-b-eq0.true))) in
    record { value = v; bound = law x r (subst T (sym c.well_formed.0.1) tt) v }

pub ln_wide-requires : goal.ln_wide-requires
ln_wide-requires c = range_of (pos_of_ne-zero c.if-b-eq0.false) c.if-b-lt2139095040.true
    c.exponent_of.ensures c.significand_of.ensures

pub ln_rounded-requires : goal.ln_rounded-requires
ln_rounded-requires c =
    let b = to_bits binary32 c.args.x in
    rw (w-is c) (fixed_gap b (pos_of_ne-zero c.if-b-eq0.false)
    c.if-b-lt2139095040.true)

pub float_from_bits-result : goal.float_from_bits-result
float_from_bits-result c =
    let b = to_bits binary32 c.args.x in
    no_nan_bits c.ln_rounded.result
    (rw (bits_are c) (rounded-mod (ln_fixed b)
    (le_trans (fixed-lt b (pos_of_ne-zero c.if-b-eq0.false)
    c.if-b-lt2139095040.true) (lit≤ tt))))

pub returns-then-b-lt2139095040 : goal.returns-then-b-lt2139095040
returns-then-b-lt2139095040 c =
    let b = to_bits binary32 c.args.x in
    let n = c.if-b-eq0.false in
    let l = c.if-b-lt2139095040.true in
    let x = c.args.x in
    let r : Float = of_bits binary32 c.ln_rounded.result in
    let v : r ≡ ln_of x = at_pattern x r (number_is x _ c.is_nan.ensures.value c.if-is_nan.false)
    (ap (of_bits binary32) (bits_are c) ∙ sym (at_near b (above b n l) l)) in
    record { value = v; bound = law x r (subst T (sym c.well_formed.0.1) tt) v }

pub returns-then-b-eq2139095040 : goal.returns-then-b-eq2139095040
returns-then-b-eq2139095040 c =
    let x = c.args.x in
    let r : Float = c.args.x in
    let v : r ≡ ln_of x = at_pattern x r (number_is x _ c.is_nan.ensures.value c.if-is_nan.false)
    (sym (of_bits-to_bits binary32 c.args.x (subst T (sym c.well_formed.0.1) tt)) ∙ ap (of_bits binary32) c.if-b-eq2139095040.true ∙ infinity_is
    ∙ sym (ap ln_at c.if-b-eq2139095040.true ∙ at_infinity)) in
    record { value = v; bound = law x r (subst T (sym c.well_formed.0.1) tt) v }

pub returns-then-b : goal.returns-then-b
returns-then-b c =
    let x = c.args.x in
    let r : Float = of_bits binary32 4286578688 in
    let v : r ≡ ln_of x = at_pattern x r (number_is x _ c.is_nan.ensures.value c.if-is_nan.false)
    (minus_infinity ∙ sym (at_zero (to_bits binary32 x) (ap (λ (n : ℕ). n % 2 ^ 31) c.if-b.true))) in
    record { value = v; bound = law x r (subst T (sym c.well_formed.0.1) tt) v }

pub returns-else-b : goal.returns-else-b
returns-else-b c =
    let x = c.args.x in
    let r : Float = of_bits binary32 0x7FC00000 in
    let v : r ≡ ln_of x = at_pattern x r (number_is x _ c.is_nan.ensures.value c.if-is_nan.false)
    (no_number ∙ sym (at_rest (to_bits binary32 c.args.x) (not_zero x (subst T (sym c.well_formed.0.1) tt) c.if-b-lt2139095040.false
    c.if-b.false) c.if-b-lt2139095040.false c.if-b-eq2139095040.false)) in
    record { value = v; bound = law x r (subst T (sym c.well_formed.0.1) tt) v }

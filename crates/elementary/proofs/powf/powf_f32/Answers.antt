-- Two numbers go by their bit patterns, and a NaN by the tests on it. The bound follows from the equation.
use Rattle.std.proofs.Common.{◌≡◌, not, T, sym, ◌∙◌, subst}
use lib.Ieee.{Float, nan, is_nan, binary32, fits}
use Rattle.elementary.specs.Pow.{pow_of}
use Rattle.elementary.specs.Accuracy.{IsPow}
use Rattle.elementary.proofs.Common.{nan_is, number_is, bits_of_number}
use Rattle.elementary.proofs.powf.Cases.{of_numbers}
use Rattle.elementary.proofs.powf.Law.{pow_law}
use Rattle.elementary.proofs.powf.powf_f32.Goals as goal
use Rattle.elementary.proofs.powf.powf_f32.Goals.{else-not-is_nan-via-then-not-is_nan+else-not-is_nan-2, else-not-is_nan-via-else-not-is_nan}

no_number : (x : Float) → x ≡ nan → T (not (is_nan x)) → ⊥
unfolding is_nan
no_number x e n = subst (λ (v : Float). T (not (is_nan v))) e n

-- the law holds of what equals pow_of x y; an `f32` is a float that the format holds
law : (x y r : Float) → T (fits binary32 x) → T (fits binary32 y) → r ≡ pow_of x y → IsPow x y r
law x y r f g e = subst (IsPow x y) (sym e) (pow_law x y f g)

pub of_numbers-requires : goal.of_numbers-requires
of_numbers-requires c = (
  bits_of_number c.args.x (subst T (sym c.well_formed.0.1) tt)
      (number_is c.args.x _ c.is_nan.ensures.value c.if-not-is_nan.true),
  bits_of_number c.args.y (subst T (sym c.well_formed.1.0.1) tt)
      (number_is c.args.y _ c.is_nan-then-not-is_nan.ensures.value c.if-not-is_nan-2.true),
)

pub returns-then-not-is_nan-2 : goal.returns-then-not-is_nan-2
returns-then-not-is_nan-2 c =
    let x = c.args.x in
    let y = c.args.y in
    let v : c.of_numbers.result ≡ pow_of x y = c.of_numbers.ensures
    ∙ sym (of_numbers x y (number_is x _ c.is_nan.ensures.value c.if-not-is_nan.true)
    (number_is y _ c.is_nan-then-not-is_nan.ensures.value c.if-not-is_nan-2.true)) in
    record {
      value = v;
      bound = law x y c.of_numbers.result (subst T (sym c.well_formed.0.1) tt) (subst T (sym c.well_formed.1.0.1) tt) v;
    }

pub of_nan-requires : goal.of_nan-requires
of_nan-requires c =
    elim c.else-not-is_nan.branch [
      | else-not-is_nan-via-then-not-is_nan+else-not-is_nan-2 w ↦ λ n. absurd
          (no_number c.args.y (nan_is c.args.y _ w.is_nan-then-not-is_nan.ensures.value w.if-not-is_nan-2.false) n)
      | else-not-is_nan-via-else-not-is_nan w ↦ λ n. nan_is c.args.x _ c.is_nan.ensures.value w.if-not-is_nan.false
    ]

pub returns-else-not-is_nan-clause-bound : goal.returns-else-not-is_nan-clause-bound
returns-else-not-is_nan-clause-bound c =
    law c.args.x c.args.y c.of_nan.result (subst T (sym c.well_formed.0.1) tt)
    (subst T (sym c.well_formed.1.0.1) tt) c.of_nan.ensures

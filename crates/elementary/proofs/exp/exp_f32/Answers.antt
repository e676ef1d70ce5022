use Rattle.std.proofs.Common.{◌≡◌, T, sym, ap, ◌∙◌, subst}
use lib.Ieee.{Float, nan, is_nan, binary32, fits}
use Rattle.elementary.specs.Exp.{exp_of}
use Rattle.elementary.specs.Accuracy.{IsExp}
use Rattle.elementary.proofs.Common.{nan_is, number_is}
use Rattle.elementary.proofs.exp.Law.{of_x, of_nan, exp_law}
use Rattle.elementary.proofs.exp.exp_f32.Goals as goal

-- the law holds of what equals exp_of x; an `f32` is a float that the format holds
law : (x r : Float) → T (fits binary32 x) → r ≡ exp_of x → IsExp x r
law x r f e = subst (IsExp x) (sym e) (exp_law x f)

pub returns-then-is_nan : goal.returns-then-is_nan
returns-then-is_nan c =
    let x = c.args.x in
    let e : x ≡ nan = nan_is x _ c.is_nan.ensures.value c.if-is_nan.true in
    let v : x ≡ exp_of x = e ∙ sym (ap exp_of e ∙ of_nan nan (unfold is_nan in tt)) in
    record { value = v; bound = law x x (subst T (sym c.well_formed.0.1) tt) v }

pub returns-else-is_nan : goal.returns-else-is_nan
returns-else-is_nan c =
    let x = c.args.x in
    let v : c.exp_at.result ≡ exp_of x = c.exp_at.ensures ∙ sym (of_x x (number_is x _ c.is_nan.ensures.value c.if-is_nan.false)) in
    record { value = v; bound = law x c.exp_at.result (subst T (sym c.well_formed.0.1) tt) v }

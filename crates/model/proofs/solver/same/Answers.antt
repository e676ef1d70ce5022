use Rattle.std.proofs.Common.{◌≡◌, T, sym, ap, ◌∙◌, subst, eq-eqb, eqb-true}
use lib.Ieee.{Float, binary32, fits, of_bits, to_bits}
use lib.Ieee.Bits.{of_bits-to_bits}
use Rattle.model.proofs.solver.same.Goals as goal

-- floats of one pattern are one float
of_bits_lem : (x y : Float) → T (fits binary32 x) → T (fits binary32 y) → to_bits binary32 x ≡ to_bits binary32 y → x ≡ y
of_bits_lem x y fx fy e = sym (of_bits-to_bits binary32 x fx) ∙ ap (of_bits binary32) e ∙ of_bits-to_bits binary32 y fy

pub returns : goal.returns
returns c =
    let bx = c.to_bits.ensures in
    let by = c.to_bits-2.ensures in (
      λ h. of_bits_lem c.args.x c.args.y (subst T (sym c.well_formed.0.1) tt) (subst T (sym c.well_formed.1.0.1) tt)
          (sym bx ∙ eqb-true c.to_bits.result c.to_bits-2.result h ∙ by),
      λ e. eq-eqb c.to_bits.result c.to_bits-2.result (bx ∙ ap (to_bits binary32) e ∙ sym by),
    )

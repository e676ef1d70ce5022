-- The value is the definition's, and the bound is its law: the decays are floats that an f32 holds, as the struct's
-- third and fifth field.
use Rattle.std.proofs.Common.{◌≡◌, T, sym, subst, rules}
use lib.Ieee.{binary32, fits}
use Rattle.model.specs.Model.{retention}
use Rattle.model.specs.Accuracy.{IsRetention}
use Rattle.model.proofs.Retention.{retention_near}
use Rattle.std.proofs.Common.{rules}
use Rattle.model.proofs.forgetting_curve.Curve.retention.Goals as goal

held1 : (c : goal.Start) → T (fits binary32 c.args.self.decay1)
held1 c = subst T (sym c.well_formed.0.1.1.1.1.0.1) tt

held2 : (c : goal.Start) → T (fits binary32 c.args.self.decay2)
held2 c = subst T (sym c.well_formed.0.1.1.1.1.1.1.0.1) tt

value : (c : goal.After-squeezed)
    → c.squeezed.result
    ≡ retention c.args.self c.args.t
unfolding retention
value c = rw (c.squeezed.ensures, c.weighted.ensures, c.max.ensures)

pub returns : goal.returns
returns c =
    record {
      value = value c;
      bound = λ i. subst (IsRetention c.args.self c.args.t) (sym (value c))
          (retention_near c.args.self c.args.t (held1 c.before.before.before.before) (held2 c.before.before.before.before) i);
    }

pub max-requires : goal.max-requires
max-requires c = search rules

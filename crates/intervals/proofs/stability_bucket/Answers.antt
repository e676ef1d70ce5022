-- The value is the definition's, and the bound is its law.
use mathlib.Core.Path.{◌≡◌, sym, subst}
use lib.Dec.{T}
use lib.Ieee.{binary32, fits, of_bits, of_fields, round}
use Rattle.float32.specs.Float32.{max}
use Rattle.model.specs.Constants.{s_min}
use Rattle.intervals.specs.Bucket.{stability_bucket}
use Rattle.intervals.specs.Accuracy.{IsLnBucket}
use Rattle.intervals.proofs.Logarithm.{ln_bucket}
use borrow.Author.Rules.{rules}
use Rattle.std.proofs.Common.{rules}
use Rattle.intervals.proofs.stability_bucket.Goals as goal

-- an f32 is a float that the format holds
held : (c : goal.Start) → T (fits binary32 c.args.stability)
held c = subst T (sym c.well_formed.0.1) tt

value : (c : goal.After-bucket_index)
    → c.bucket_index.result ≡ stability_bucket c.args.stability
unfolding stability_bucket of_bits of_fields round
value c = rw (c.bucket_index.ensures, c.ln_f32.ensures.value, c.max.ensures)

pub returns : goal.returns
returns c =
    record {
      value = value c;
      bound = λ f. subst (IsLnBucket (max c.args.stability s_min)) (sym (value c))
          (ln_bucket c.args.stability (held c.before.before.before) f);
    }

pub max-requires : goal.max-requires
max-requires c = search rules

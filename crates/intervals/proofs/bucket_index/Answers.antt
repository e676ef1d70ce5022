use mathlib.Core.Path.{◌≡◌, ◌∙◌, ap}
use lib.Ieee.{of_bits, of_fields, round}
use mir.Syntax.{w32}
use lib.IntN.{ℤ}
use mir.Val.{to_z, of_z}
use Rattle.intervals.specs.Bucket.{bucket_index}
use Rattle.intervals.proofs.Patterns.{cast_is, bucket_in}
use Rattle.intervals.proofs.bucket_index.Goals as goal

pub returns : goal.returns
unfolding bucket_index of_bits of_fields round
returns c =
    let e : c.to_i32.result ≡ bucket_index c.args.value c.args.step =
    rw (c.to_i32.ensures, c.clamp.ensures, c.round-times.ensures) in
    c.cast_unsigned.ensures ∙ ap (λ (z : ℤ). of_z w32 (to_z w32 (of_z w32 z))) e ∙ cast_is _ (bucket_in c.args.value c.args.step)

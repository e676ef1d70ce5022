use Rattle.std.proofs.Common.{refl}
use Rattle.elementary.specs.Ln.{ln_small}
use Rattle.elementary.proofs.ln.ln_small.Goals as goal

pub returns : goal.returns
unfolding ln_small
returns c = refl

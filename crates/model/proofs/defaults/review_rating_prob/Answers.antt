use Rattle.std.proofs.Common.{refl}
use lib.Ieee.{round, of_bits, of_fields}
use Rattle.model.specs.Defaults.{over, review_rating_prob}
use Rattle.model.proofs.defaults.review_rating_prob.Goals as goal

pub returns : goal.returns
unfolding review_rating_prob over round of_bits of_fields
returns c = refl

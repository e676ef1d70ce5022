use Rattle.std.proofs.Common.{ℕ, get_or, ap, ◌∙◌, arith}
use lib.Ieee.{nan}
use Rattle.elementary.specs.Pow.{pow_of}
use Rattle.elementary.specs.Filled.{filled}
use Rattle.elementary.proofs.blocks.powers_of.Goals as goal

pub returns : goal.returns
returns c =
    let x = c.args.x.now in
    let y = c.args.y in
    let first = c.up_to_64.ensures.0 in record { value = c.powers_of_first.ensures.value ∙ ap (λ (n : ℕ). filled (λ i. pow_of (get_or x i nan) y) n x) first; bound = λ i h. c.powers_of_first.ensures.bound i (omega (arith, first, h)) }

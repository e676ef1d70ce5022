use lib.Ieee.{of_bits, of_fields}
use mathlib.Core.Path.{◌≡◌}
use lib.ListN.{get_or}
use Rattle.std.proofs.Common.{rules, arith}
use Rattle.std.proofs.lemmas.Grind.{common_steps}
use Rattle.cards.specs.Cards.{card_at, no_floats, no_counts}
use Rattle.cards.proofs.card.card_at.Goals as goal

pub returns : goal.returns
unfolding card_at of_bits of_fields
returns c =
    let f : c.unwrap_or.result ≡ get_or c.args.cards.now c.args.c no_floats = grind (arith, common_steps) in
    let n : c.unwrap_or-2.result ≡ get_or c.args.counts.now c.args.c no_counts = search rules in
    rw (f, n)

use Rattle.std.proofs.Common.{ap, ◌∙◌}
use lib.Ieee.{binary32, of_bits}
use Rattle.elementary.proofs.large.Steps.{large_from}
use Rattle.elementary.proofs.large.large_pow.Goals as goal

pub returns : goal.returns
returns c =
    let n = c.normalized in
    let q = c.squared-x in
    c.value_of.ensures ∙ ap (of_bits binary32)
    (large_from c.args.b c.args.c n.result q.result c.large_arg.result n.ensures
    q.ensures c.large_arg.ensures)

use Rattle.std.proofs.Common.{ap, ◌∙◌, le_trans, le_of_eq}
use lib.Ieee.{binary32, of_bits}
use Rattle.elementary.proofs.Common.{below_nan}
use Rattle.elementary.proofs.exp2.Words.{quick_is, quick_le}
use Rattle.elementary.proofs.exp2.normal_by.Goals as goal

pub float_from_bits-result : goal.float_from_bits-result
float_from_bits-result c =
    below_nan c.normal.result (le_trans (le_of_eq c.normal.ensures)
    (quick_le c.args.z c.digits_by.result c.digits_by.ensures c.requires.0))

pub returns : goal.returns
returns c =
    ap (of_bits binary32) (c.normal.ensures ∙ quick_is c.args.z c.digits_by.result
    c.digits_by.ensures c.requires.0)

use Rattle.std.proofs.Common.{◌≡◌, ap, ◌∙◌}
use lib.Ieee.{binary32, of_bits}
use Rattle.elementary.specs.Power.{normalized, log2_of}
use Rattle.elementary.proofs.power.Parts.{parts, log_range}
use Rattle.elementary.proofs.power.Steps.{pow_near}
use Rattle.elementary.proofs.power.near_pow.Goals as goal

log-is : (c : goal.After-log2_of-l) → c.log2_of-l.result ≡ log2_of (normalized c.args.b)
log-is c = c.log2_of-l.ensures ∙ ap log2_of c.normalized.ensures

pub arg_of-requires : goal.arg_of-requires
arg_of-requires c =
    let b = c.args.b in
    let p = parts b c.requires.positive c.requires.finite in
    let r = log_range (normalized b) p.least p.most in
    rw (log-is c) (r.0, r.1, c.requires.small)

pub returns : goal.returns
returns c =
    c.value_of.ensures
    ∙ ap (of_bits binary32) (pow_near c.args.b c.args.c c.log2_of-l.result c.arg_of.result
    (c.log2_of-l.ensures ∙ ap log2_of c.normalized.ensures) c.arg_of.ensures)

use Rattle.std.proofs.Common.{ℕ, List, get_or, refl, ap, ◌∙◌, le_trans, le_of_eq, arith}
use lib.Ieee.{nan, binary32, to_bits}
use Rattle.power_tables.specs.Tables.{line_word, curvature}
use Rattle.elementary.specs.Filled.{filled}
use Rattle.elementary.proofs.Filled.{fill_turn, fill_after}
use Rattle.elementary.proofs.blocks.Laws.{same-interval, arg_from}
use Rattle.elementary.proofs.power.Steps.{log_most}
use Rattle.elementary.proofs.blocks.args.Goals as goal

pub loop-i-init : goal.loop-i-init
unfolding filled
loop-i-init c = refl

pub log2_by-l-requires : goal.log2_by-l-requires
log2_by-l-requires c =
    let words = c.requires.2 c.loop-i.i (omega arith) in
    let b = to_bits binary32 (get_or c.args.x.now c.loop-i.i nan) in (
      ap (λ (l : List ℕ). get_or l c.loop-i.i 0) c.loop-i.invariant
          ∙ fill_after _ c.loop-i.i c.loop-i.i c.args.e.now 0 (omega arith) ∙ words.1
          ∙ ap line_word (same-interval b words.0.low),
      words.2 ∙ ap curvature (same-interval b words.0.low),
    )

pub quick_arg-requires : goal.quick_arg-requires
quick_arg-requires c =
    let d = c.requires.1 in
    let b = (c.requires.2 c.loop-i.i (omega arith)).0 in (
      le_trans (le_of_eq c.log2_by-l.ensures) (log_most _ (omega (arith, b.high))),
      omega arith,
      omega (arith, d.low, d.high),
      omega (arith, d.low, d.high),
    )

pub loop-i-preserved : goal.loop-i-preserved
loop-i-preserved c =
    let b = (c.requires.2 c.loop-i.i (omega arith)).0 in fill_turn _ _ _ _ _ c.loop-i.invariant
    (arg_from (to_bits binary32 (get_or c.args.x.now c.loop-i.i nan)) c.args.c b.low
    b.high
    c.requires.1 c.log2_by-l.result c.quick_arg.result c.log2_by-l.ensures
    c.quick_arg.ensures)

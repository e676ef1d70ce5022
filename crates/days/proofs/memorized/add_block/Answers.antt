use native.Mathlib.Omega.{arith}
use mathlib.Core.Path.{refl, ◌∙◌}
use Prim.Native.Nat.{◌+◌, min}
use native.Mathlib.Nat.{min-eq_left}
use lib.ListN.{get_or, length-set}
use lib.Ieee.{Float, nan, binary32, add}
use Rattle.model.specs.Model.{retention}
use Rattle.days.proofs.Spans.{chance-at, block_start, block_turn, block_end}
use Rattle.days.proofs.memorized.add_block.Goals as goal

pub times-requires : goal.times-requires
times-requires c = (c.requires.0, c.requires.1)

pub loop-i-init : goal.loop-i-init
loop-i-init c = (omega arith, refl, λ r h. block_start r c.args.last _ _ _)

pub loop-i-preserved : goal.loop-i-preserved
loop-i-preserved c =
    let l = c.loop-i.memorized in
    let i = c.loop-i.i in
    let chances = c.retentions.new.a in
    let day = c.args.d + i in (
      omega arith,
      length-set l day (add binary32 (get_or l day nan) (get_or chances i nan)) ∙ c.loop-i.invariant.1,
      λ r h. block_turn r c.args.last l _ chances _ _ i (omega arith) (h i (omega arith))
          (c.loop-i.invariant.2 r h),
    )

pub returns : goal.returns
returns c =
    let few = c.requires.0 in
    let r : Float → Float = λ t. retention c.args.curve t in
    block_end r c.args.last _ _ _ _ _ (omega arith) (c.loop-i.invariant.2 r (λ j h.
    chance-at r c.args.last _ _ _ c.args.d c.args.n (min c.args.n 64) j
    (min-eq_left few) few c.times.ensures c.retentions.ensures h))

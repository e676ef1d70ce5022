use Rattle.std.proofs.Common.{List, get_or, refl, ap, ◌∙◌, subst, arith}
use lib.Ieee.{Float, nan}
use Rattle.elementary.specs.Pow.{pow_of}
use Rattle.elementary.specs.Accuracy.{IsPow}
use Rattle.elementary.specs.Filled.{filled}
use Rattle.elementary.proofs.Filled.{fill_turn, fill_after}
use Rattle.elementary.proofs.blocks.Laws.{all-turn}
use Rattle.elementary.proofs.blocks.one_by_one.Goals as goal

pub loop-i-init : goal.loop-i-init
unfolding filled
loop-i-init c = (refl, λ j h. absurd (omega arith))

pub loop-i-preserved : goal.loop-i-preserved
loop-i-preserved c =
    let inv = c.loop-i.invariant in
    let i = c.loop-i.i in
    let x = c.args.x.now in
    let y = c.args.y in
    let same = ap (λ (l : List Float). get_or l i nan) inv.0 ∙ fill_after _ i i x nan (omega arith) in
    let power = c.powf_f32.ensures.value ∙ ap (λ (v : Float). pow_of v y) same in (
      fill_turn _ _ _ _ _ inv.0 power,
      all-turn (λ j. IsPow (get_or x j nan) y (pow_of (get_or x j nan) y)) i inv.1
          (subst (IsPow (get_or x i nan) y) power (subst (λ (v : Float). IsPow v y c.powf_f32.result) same
          c.powf_f32.ensures.bound)),
    )

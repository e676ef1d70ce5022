use Rattle.std.proofs.Common.{◌≡◌, ℕ, suc, ◌+◌, ◌-◌, sym, ap, ◌∙◌, arith}
use Rattle.elementary.specs.Power.{squares}
use Rattle.elementary.proofs.large.Squaring.{squares_zero, one_more}
use Rattle.elementary.proofs.large.squares.Goals as goal

pub loop-preserved : goal.loop-preserved
loop-preserved c =
    let k = c.args.k in
    let i = c.loop.counter in
    let y = c.loop.y in
    let e : k - i ≡ suc (k - (i + 1)) = omega arith in
    ap (squares (k - (i + 1))) c.square_once-y.ensures ∙ sym (one_more (k - (i + 1)) y)
    ∙ ap (λ (n : ℕ). squares n y) (sym e) ∙ c.loop.invariant

pub returns : goal.returns
returns c =
    let e : c.args.k - c.loop.counter ≡ 0 = omega arith in
    sym (squares_zero c.loop.y) ∙ ap (λ (n : ℕ). squares n c.loop.y) (sym e) ∙ c.loop.invariant

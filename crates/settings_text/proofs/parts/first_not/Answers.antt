use Rattle.std.proofs.Common.{◌≡◌, ℕ, ◌+◌, ◌∙◌, ap, drop, rules, tests, arith, not}
use Rattle.std.proofs.lemmas.Grind.{common_steps}
use Rattle.std.proofs.lemmas.Iterator.{YieldsList-from_slice}
use Rattle.std.proofs.lemmas.Iterator.Search.{position_from_yields_List}
use Rattle.settings_text.specs.Text.{leading, first_not}
use Rattle.settings_text.proofs.Scan.{leading_is}
use Rattle.settings_text.proofs.parts.first_not.Goals as goal

pub returns : goal.returns
unfolding first_not
returns g c = λ p h.
    let e : c.unwrap_or-rest.result.now ≡ drop c.args.i c.args.s.now = grind (arith, common_steps) in
    ap (λ (n : ℕ). c.args.i + n)
    (c.unwrap_or.ensures
    ∙ leading_is p c.unwrap_or-rest.result.now _
    (position_from_yields_List (λ b. not (p b)) _ _ _ c.position.ensures.ran
    (YieldsList-from_slice c.unwrap_or-rest.result.now c.iter.ensures.rest) (λ x b q k. search (rules, tests, h)))
    ∙ ap (leading p) e)

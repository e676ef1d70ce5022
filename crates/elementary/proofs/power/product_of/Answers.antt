use Rattle.std.proofs.Common.{ℕ, ◌-◌, ◌*◌, ◌/◌, ◌^◌, ap, ◌∙◌, arith}
use Rattle.elementary.proofs.power.Steps.{product_near, product-none}
use Rattle.elementary.proofs.power.product_of.Goals as goal

pub returns-then-a-ge671088640 : goal.returns-then-a-ge671088640
returns-then-a-ge671088640 c =
    ap (λ (m : ℕ). m * c.args.g / 2 ^ (143 - c.args.a / 2 ^ 23)) c.from.ensures
    ∙ product_near c.args.g c.args.a (omega arith)

pub returns-else-a-ge671088640 : goal.returns-else-a-ge671088640
returns-else-a-ge671088640 c = product-none c.args.g c.args.a c.requires.0 c.if-a-ge671088640.false

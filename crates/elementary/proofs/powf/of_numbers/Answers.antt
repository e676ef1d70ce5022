use Rattle.std.proofs.Common.{◌≡◌, ℕ, sym, ap, ◌∙◌, arith}
use lib.Ieee.{binary32, of_bits}
use Rattle.elementary.specs.Power.{near_bits}
use Rattle.elementary.specs.Pow.{pow_at}
use Rattle.elementary.specs.Quick.{Near}
use Rattle.elementary.proofs.power.Finite.{is_near}
use Rattle.elementary.proofs.powf.Cases.{at_regular}
use Rattle.elementary.proofs.powf.of_numbers.Goals as goal

near : (b c : ℕ) → Near b c → of_bits binary32 (near_bits b c) ≡ pow_at b c
near b c n =
    sym (at_regular b c n.positive n.finite (omega (arith, n.small))
    ∙ ap (of_bits binary32) (is_near b c (omega (arith, n.small))))

pub returns-then-is_quick : goal.returns-then-is_quick
returns-then-is_quick c =
    let q = c.is_quick.ensures c.if-is_quick.true in
    c.quick_pow.ensures ∙ near c.args.b c.args.c record {
      positive = omega (arith, q.x_low);
      finite = omega (arith, q.x_high);
      small = omega (arith, q.y_low, q.y_high);
    }

pub returns-then-is_near : goal.returns-then-is_near
returns-then-is_near c = c.near_pow.ensures ∙ near c.args.b c.args.c (c.is_near.ensures.0 c.if-is_near.true)

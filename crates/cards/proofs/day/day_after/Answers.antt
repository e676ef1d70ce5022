use mathlib.Core.Path.{◌≡◌, sym, ap, ◌∙◌}
use native.Mathlib.Omega.{arith}
use Prim.Native.Nat.{ℕ, suc, ◌+◌}
use lib.Ieee.{Float, of_bits, binary32, add}
use Rattle.cards.specs.Day.{day_of}
use Rattle.cards.proofs.Later.{day-next}
use Rattle.cards.proofs.day.day_after.Goals as goal

pub returns-then-d-lt16777216 : goal.returns-then-d-lt16777216
returns-then-d-lt16777216 c = one_more c.args.d ∙ sym (day-next c.args.d c.if-d-lt16777216.true)
  where
    one_more : (n : ℕ) → n + 1 ≡ suc n
    one_more n = omega arith

pub returns-else-d-lt16777216 : goal.returns-else-d-lt16777216
returns-else-d-lt16777216 c = c.day_of.ensures
    ∙ ap (λ (x : Float). day_of (add binary32 x (of_bits binary32 0x3F80_0000))) c.from_u32.ensures

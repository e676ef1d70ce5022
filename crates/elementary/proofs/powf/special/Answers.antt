use Rattle.std.proofs.Common.{◌≡◌, ℕ, ◌%◌, ◌^◌, ◌≤◌, sym, refl, ap, ◌∙◌, subst}
use lib.Ieee.{nan, binary32, of_bits}
use Rattle.elementary.proofs.Common.{no_nan_bits}
use Rattle.elementary.proofs.powf.Cases.{at_zero, at_one, at-below, at-num, num-mod}
use Rattle.elementary.proofs.powf.special.Goals as goal

no_number : of_bits binary32 0x7FC00000 ≡ nan
unfolding of_bits
no_number = refl

pub returns-then-c-eq0 : goal.returns-then-c-eq0
returns-then-c-eq0 c = sym (at_zero c.args.b c.args.c c.if-c-eq0.true)

pub returns-then-b-eq1065353216 : goal.returns-then-b-eq1065353216
returns-then-b-eq1065353216 c = sym (at_one c.args.b c.args.c c.if-b-eq1065353216.true)

pub returns-then-b-gt2147483648 : goal.returns-then-b-gt2147483648
returns-then-b-gt2147483648 c =
    no_number ∙ sym (at-below c.args.b c.args.c c.if-c-eq0.false c.if-b-eq1065353216.false
    c.if-b-gt2147483648.true)

pub float_from_bits-result : goal.float_from_bits-result
float_from_bits-result c =
    no_nan_bits c.special_bits.result (subst (λ (i : ℕ). i % 2 ^ 31 ≤ 0x7F800000)
    (sym c.special_bits.ensures) (num-mod c.args.b c.args.c c.if-b-gt2147483648.false))

pub returns-else-b-gt2147483648 : goal.returns-else-b-gt2147483648
returns-else-b-gt2147483648 c =
    ap (of_bits binary32) c.special_bits.ensures
    ∙ sym (at-num c.args.b c.args.c c.if-c-eq0.false c.if-b-eq1065353216.false
    c.if-b-gt2147483648.false)

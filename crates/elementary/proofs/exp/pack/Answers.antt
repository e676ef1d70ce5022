use Rattle.std.proofs.Common.{◌≡◌, ℕ, ◌+◌, ◌-◌, ◌*◌, ◌/◌, ◌%◌, ◌^◌, ◌≤◌, sym, ap, ◌∙◌, le_trans, le_of_eq, arith, ◌<◌}
use lib.Ieee.{binary32, of_bits}
use Rattle.series.specs.Exp.{ln2}
use Rattle.elementary.specs.Exp.{packed, mant}
use Rattle.elementary.proofs.Common.{no_nan_bits}
use Rattle.elementary.proofs.exp.Reduce.{mant-high}
use Rattle.elementary.proofs.exp.Cases.{packed_zero, packed_some, packed-le}
use Rattle.elementary.proofs.exp.pack.Goals as goal

high : {m r : ℕ} → m ≡ mant r → r < ln2 + 1 → m ≤ 2 ^ 32
high {r = r} e h = le_trans (le_of_eq e) (mant-high r h)

tiny-is : (c : goal.Then-e-eq0) → (c.mantissa-m.result + 256) / 512 ≡ packed c.args.e
    c.args.r
tiny-is c = ap (λ (m : ℕ). (m + 256) / 512) c.mantissa-m.ensures
    ∙ sym (packed_zero c.args.e c.args.r c.if-e-eq0.true)

rest-is : (c : goal.Else-e-eq0) → (c.args.e - 1) * 2 ^ 23 + (c.mantissa-m.result + 128) / 256
    ≡ packed c.args.e c.args.r
rest-is c =
    ap (λ (m : ℕ). (c.args.e - 1) * 2 ^ 23 + (m + 128) / 256) c.mantissa-m.ensures
    ∙ sym (packed_some c.args.e c.args.r c.if-e-eq0.false)

-- no pattern is a NaN's
number : {n e r : ℕ} → e < 255 → r < ln2 + 1 → n ≡ packed e r → n % 2 ^ 31 ≤ 0x7F800000
number {n = n} {e = e} {r = r} below rest h =
    let k : n ≤ 0x7F800000 = le_trans (le_of_eq h) (packed-le e r below rest) in omega arith

pub overflow_add-result : goal.overflow_add-result
overflow_add-result c = omega (arith, high c.mantissa-m.ensures c.requires.1)

pub overflow_cast-result : goal.overflow_cast-result
overflow_cast-result c = omega (arith, high c.mantissa-m.ensures c.requires.1)

pub float_from_bits-result : goal.float_from_bits-result
float_from_bits-result c = no_nan_bits ((c.mantissa-m.result + 256) / 512)
    (number c.requires.0 c.requires.1 (tiny-is c))

pub returns-then-e-eq0 : goal.returns-then-e-eq0
returns-then-e-eq0 c = ap (of_bits binary32) (tiny-is c)

pub overflow_add-result-else-e-eq0 : goal.overflow_add-result-else-e-eq0
overflow_add-result-else-e-eq0 c = omega (arith, high c.mantissa-m.ensures c.requires.1)

pub overflow_cast-result-else-e-eq0 : goal.overflow_cast-result-else-e-eq0
overflow_cast-result-else-e-eq0 c = omega (arith, high c.mantissa-m.ensures c.requires.1)

pub float_from_bits-result-else-e-eq0 : goal.float_from_bits-result-else-e-eq0
float_from_bits-result-else-e-eq0 c = no_nan_bits
    ((c.args.e - 1) * 2 ^ 23 + (c.mantissa-m.result + 128) / 256)
    (number c.requires.0 c.requires.1 (rest-is c))

pub returns-else-e-eq0 : goal.returns-else-e-eq0
returns-else-e-eq0 c = ap (of_bits binary32) (rest-is c)

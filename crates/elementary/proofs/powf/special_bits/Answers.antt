use Rattle.std.proofs.Common.{◌≡◌, ℕ, ◌%◌, ◌^◌, ◌<◌, ◌≤◌, sym, ◌∙◌, arith}
use Rattle.elementary.proofs.powf.Cases.{num_zero, num_inf, num_to_inf}
use Rattle.elementary.proofs.powf.special_bits.Goals as goal

-- y is an infinity
infinite : (b a : ℕ) → b ≤ 2 ^ 31 → b % 2 ^ 31 ≤ 0x7F800000 → a ≤ 0x7F800000
    → (0 < b → b < 0x7F800000 → 0x7F800000 ≤ a) → (b % 2 ^ 31 ≡ 0 → ⊥) → (b ≡ 0x7F800000 → ⊥) → a ≡ 0x7F800000
infinite b a h i j k l m = omega (arith, k (omega arith) (omega arith))

pub returns-then-b-eq0 : goal.returns-then-b-eq0
returns-then-b-eq0 c =
    c.zero_bits.ensures ∙ sym (num_zero c.args.b c.args.c
    c.if-b-eq0.true)

pub returns-then-b-eq2139095040 : goal.returns-then-b-eq2139095040
returns-then-b-eq2139095040 c =
    c.inf_bits.ensures ∙ sym (num_inf c.args.b c.args.c c.if-b-eq0.false
    c.if-b-eq2139095040.true)

pub returns-else-b-eq2139095040 : goal.returns-else-b-eq2139095040
returns-else-b-eq2139095040 c =
    let p = c.requires in
    let l = c.if-b-eq0.false in
    let m = c.if-b-eq2139095040.false in
    c.to_inf_bits.ensures ∙ sym (num_to_inf c.args.b c.args.c l m
    (infinite c.args.b (c.args.c % 2 ^ 31) p.0 p.1 p.2 p.3 l m))

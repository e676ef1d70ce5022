use Rattle.std.proofs.Common.{◌≡◌, ℕ, ◌+◌, ◌-◌, ◌*◌, ◌/◌, ◌%◌, ◌^◌, ◌<◌, ◌≤◌, eqb, sym, ap, ◌∙◌, mod-eq_of_lt, one-mul, arith}
use Rattle.elementary.proofs.powf.Cases.{odd_below, odd_mid, odd_above, power_fits}
use Rattle.elementary.proofs.powf.is_odd.Goals as goal
use Rattle.elementary.proofs.powf.is_odd.Goals.{else-a-ge1065353216-via-then-a-ge1065353216+else-a-lt1266679808, else-a-ge1065353216-via-else-a-ge1065353216}

-- what the shift gives
is : (c : goal.Then-a-lt1266679808) → 1 * 2 ^ (150 - c.args.a / 2 ^ 23) % 2 ^ 32 ≡ 2 ^
    (150 - c.args.a / 2 ^ 23)
is c =
    let a = c.args.a in
    let h = power_fits a c.if-a-ge1065353216.true in
    ap (λ (z : ℕ). z % 2 ^ 32) (one-mul (2 ^ (150 - a / 2 ^ 23)))
    ∙ mod-eq_of_lt (small (2 ^ (150 - a / 2 ^ 23)) h)
  where
    small : (n : ℕ) → n ≤ 2 ^ 23 → n < 2 ^ 32
    small n h = omega arith

pub overflow_mul-result : goal.overflow_mul-result
overflow_mul-result c = omega (arith, is c, power_fits c.args.a c.if-a-ge1065353216.true)

pub returns-then-a-lt1266679808 : goal.returns-then-a-lt1266679808
returns-then-a-lt1266679808 c =
    let a = c.args.a in
    ap (λ (p : ℕ). eqb ((a % 2 ^ 23 + 2 ^ 23) % (p * 2)) p) (is c)
    ∙ sym (odd_mid a c.if-a-ge1065353216.true c.if-a-lt1266679808.true)

pub returns-else-a-ge1065353216 : goal.returns-else-a-ge1065353216
returns-else-a-ge1065353216 c = elim c.else-a-ge1065353216.branch [
  | else-a-ge1065353216-via-then-a-ge1065353216+else-a-lt1266679808 w ↦ sym (odd_above c.args.a w.if-a-lt1266679808.false)
  | else-a-ge1065353216-via-else-a-ge1065353216 w ↦ sym (odd_below c.args.a w.if-a-ge1065353216.false)
]

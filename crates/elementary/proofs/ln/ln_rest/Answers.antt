use Rattle.std.proofs.Common.{◌≡◌, ℕ, ◌+◌, ◌-◌, ◌*◌, ◌/◌, ◌%◌, ◌^◌, ◌≤◌, ap, ◌∙◌, ap₂, le_trans, le_of_eq, arith, rules}
use Rattle.elementary.specs.Ln.{ln_small, ln_rest}
use Rattle.elementary.proofs.ln.Error.{c2_of, l2_of, product, D-of, D-le, small-lt, log2_entry}
use Rattle.std.proofs.Common.{rules}
use Rattle.std.proofs.Common.{arith}
use Rattle.elementary.proofs.ln.ln_rest.Goals as goal

-- the product
is : (c : goal.After-second_at-e) → c.args.t * (c.second_at-e.result % 2 ^ 18) ≡ c.args.t * c2_of
    c.args.j
is c = ap (λ (z : ℕ). c.args.t * (z % 2 ^ 18)) c.second_at-e.ensures

range : (c : goal.Start) → (2 ^ 55 ≤ c.args.t * c2_of c.args.j)
    × (c.args.t * c2_of c.args.j ≤ 36031270685245440)
range c = product c.args.t c.args.j c.requires.0 c.requires.1 c.requires.2

-- 2^45 is a whole number of times 2^32
cut : (n : ℕ) → 2 ^ 55 ≤ n → n ≤ 36031270685245440 → n / 1024 % 2 ^ 32 ≡ (n - 2 ^ 55) / 1024
cut n l h = omega arith

small_is : (c : goal.After-ln_small)
    → c.ln_small.result ≡ ln_small (D-of c.args.t c.args.j)
small_is c =
    c.ln_small.ensures ∙ ap (λ (z : ℕ). ln_small (z / 1024 % 2 ^ 32)) (is c.before)
    ∙ ap ln_small (cut (c.args.t * c2_of c.args.j) (range c.before.before).0 (range c.before.before).1)

small_low : (c : goal.After-ln_small) → c.ln_small.result ≤ 2415689728
small_low c =
    le_trans (le_of_eq (small_is c)) (small-lt (D-of c.args.t c.args.j)
    (D-le c.args.t c.args.j c.requires.0 c.requires.1 c.requires.2))

pub overflow_mul-d : goal.overflow_mul-d
overflow_mul-d c = omega (arith, is c, range c.before)

pub ln_small-requires : goal.ln_small-requires
ln_small-requires c = omega (arith, is c, range c.before)

pub overflow_mul-result : goal.overflow_mul-result
overflow_mul-result c = omega (arith, small_low c)

pub overflow_add-result : goal.overflow_add-result
overflow_add-result c =
    let j = c.args.j in
    let e : c.second_at-e.result / 2 ^ 18 ≡ l2_of j = ap (λ (z : ℕ). z / 2 ^ 18) c.second_at-e.ensures
    in
    omega (arith, small_low c, e, (log2_entry j c.requires.0).0)

pub returns : goal.returns
unfolding ln_rest
returns c = ap₂ (λ (x y : ℕ). x / 2 ^ 18 + y * 128) c.second_at-e.ensures (small_is c)

pub second_at-e-requires : goal.second_at-e-requires
second_at-e-requires c = search rules

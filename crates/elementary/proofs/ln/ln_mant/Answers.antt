use Rattle.std.proofs.Common.{◌≡◌, ℕ, ◌+◌, ◌*◌, ◌/◌, ◌%◌, ◌^◌, ◌<◌, ◌≤◌, sym, ap, ◌∙◌, subst, ap₂, le_trans, le_of_eq, arith, rules}
use Rattle.elementary.specs.Ln.{ln_rest, ln_mant}
use Rattle.elementary.proofs.ln.Error.{l_of, i_of, t_of, j_of, i_lt, t_range, j-lt, j_lo, j_hi, rest_lt}
use Rattle.elementary.proofs.ln.Error.{log-entry}
use Rattle.std.proofs.Common.{rules}
use Rattle.std.proofs.Common.{arith}
use Rattle.elementary.proofs.ln.ln_mant.Goals as goal

-- the product
is : (c : goal.After-first_at-e) → c.args.m * (c.first_at-e.result % 2 ^ 16) ≡ t_of c.args.m
is c = ap (λ (z : ℕ). c.args.m * (z % 2 ^ 16)) c.first_at-e.ensures

range : (c : goal.Start) → (2 ^ 38 ≤ t_of c.args.m) × (t_of c.args.m < 277025390592)
range c = t_range c.args.m c.requires.0 c.requires.1

log_is : (c : goal.After-first_at-e) → c.first_at-e.result / 2 ^ 16 * 32 ≡ l_of (i_of c.args.m)
log_is c = ap (λ (z : ℕ). z / 2 ^ 16 * 32) c.first_at-e.ensures

log-low : (c : goal.After-first_at-e) → c.first_at-e.result / 2 ^ 16 * 32 ≤ 2 ^ 52
log-low c = le_trans (le_of_eq (log_is c))
    (log-entry (i_of c.args.m) (i_lt c.args.m c.requires.0 c.requires.1)).0

abbrev Asked : ℕ → Type 0
Asked t = (t / 2 ^ 24 % 128 < 128) × (2 ^ 38 + t / 2 ^ 24 % 128 * 2 ^ 24 ≤ t)
    × (t ≤ 2 ^ 38 + (t / 2 ^ 24 % 128 + 1) * 2 ^ 24)

rest-is : (c : goal.After-ln_rest) → c.ln_rest.result ≡ ln_rest (t_of c.args.m)
    (j_of c.args.m)
rest-is c = c.ln_rest.ensures ∙ ap (λ (t : ℕ). ln_rest t (t / 2 ^ 24 % 128)) (is c.before)

pub overflow_mul-t : goal.overflow_mul-t
overflow_mul-t c = omega (arith, is c, range c.before)

pub overflow_mul-result : goal.overflow_mul-result
overflow_mul-result c = omega (arith, log-low c)

pub ln_rest-requires : goal.ln_rest-requires
ln_rest-requires c =
    let m = c.args.m in
    subst Asked (sym (is c)) (
      j-lt m c.requires.0 c.requires.1,
      j_lo m c.requires.0 c.requires.1,
      j_hi m c.requires.0
          c.requires.1,
    )

pub overflow_add-result : goal.overflow_add-result
overflow_add-result c =
    let m = c.args.m in
    omega (
      arith,
      rest-is c,
      rest_lt (t_of m) (j_of m) (j-lt m c.requires.0 c.requires.1) (j_lo m c.requires.0 c.requires.1)
          (j_hi m c.requires.0 c.requires.1),
      log-low c.before,
    )

pub returns : goal.returns
unfolding ln_mant
returns c = ap₂ (λ (x y : ℕ). x + y) (log_is c.before) (rest-is c)

pub first_at-e-requires : goal.first_at-e-requires
first_at-e-requires c = search rules

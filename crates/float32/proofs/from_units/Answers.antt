-- `float32::from_units` meets its contract: `proofs/Patterns.antt` says what the pattern is.
use Rattle.std.proofs.Common.{◌≡◌, ℕ, ◌%◌, refl, ◌+◌, ◌*◌, ◌^◌, ◌<◌, ◌≤◌, Bool, true, false, cond, not, T, sym, ap, ◌∙◌, subst, arith}
use Rattle.std.specs.Int.{from_bool}
use lib.Ieee.{binary32, of_bits, nan_bits}
use Rattle.float32.proofs.Patterns.{pack-units, pack_no_nan, pack-over, infinity_no_nan}
use Rattle.float32.proofs.from_units.Goals as goal

sign_is : (s : Bool) (r : ℕ) → r ≡ from_bool s → r * 2147483648 % 4294967296 ≡ cond s (2 ^ 31) 0
sign_is true r e = rw e refl
sign_is false r e = rw e refl

in_range : (k : ℕ) → k ≤ 253 → k < 254
in_range k h = omega arith

pub float_from_bits-result : goal.float_from_bits-result
float_from_bits-result c =
    subst (λ (b : ℕ). T (not (nan_bits binary32 (b + 0x7f80_0000)))) (sym (sign_is c.args.negative _ c.from-sign.ensures))
    (infinity_no_nan c.args.negative)

pub float_from_bits-result-else-k-gt253 : goal.float_from_bits-result-else-k-gt253
float_from_bits-result-else-k-gt253 c =
    subst (λ (b : ℕ). T (not (nan_bits binary32 (b + (c.args.k * 8388608 + c.args.q)))))
    (sym (sign_is c.args.negative _ c.from-sign.ensures))
    (pack_no_nan c.args.negative c.args.q c.args.k (in_range c.args.k c.if-k-gt253.false)
    c.requires.q_bound)

pub returns-then-k-gt253 : goal.returns-then-k-gt253
returns-then-k-gt253 c =
    ap (λ (b : ℕ). of_bits binary32 (b + 0x7f80_0000)) (sign_is c.args.negative _ c.from-sign.ensures)
    ∙ pack-over c.args.negative c.args.q c.args.k c.if-k-gt253.true
    (c.requires.full (positive c.args.k c.if-k-gt253.true))
  where
    positive : (k : ℕ) → 253 < k → 0 < k
    positive k h = omega arith

pub returns-else-k-gt253 : goal.returns-else-k-gt253
returns-else-k-gt253 c =
    ap (λ (b : ℕ). of_bits binary32 (b + (c.args.k * 8388608 + c.args.q))) (sign_is c.args.negative _ c.from-sign.ensures)
    ∙ pack-units c.args.negative c.args.q c.args.k (in_range c.args.k c.if-k-gt253.false)
    c.requires.q_bound c.requires.full

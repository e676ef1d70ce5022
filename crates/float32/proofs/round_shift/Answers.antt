use Rattle.std.proofs.Common.{◌≡◌, ℕ, ◌-◌, ◌*◌, ◌/◌, ◌^◌, ◌<◌, sym, ap, ◌∙◌, arith, pow_pos}
use lib.Ieee.Nearest.{closest}
use Rattle.float32.proofs.Shift.{two-pow, shift-even, shift_tie, shift_up, back_up, shift_out}
use Rattle.float32.proofs.round_shift.Goals as goal

whole : (m sh : ℕ) {r : ℕ} → 0 < sh → r ≡ closest m (2 * 2 ^ (sh - 1)) → r ≡ closest m (2 ^ sh)
whole m sh h e = e ∙ ap (λ (z : ℕ). closest m z) (sym (two-pow sh h))

pub returns-then-sh-gt64 : goal.returns-then-sh-gt64
returns-then-sh-gt64 c = shift_out c.args.m c.args.sh c.ranges.m.fits
    c.if-sh-gt64.true

pub returns-then-h-eq0 : goal.returns-then-h-eq0
returns-then-h-eq0 c =
    whole c.args.m c.args.sh (omega (arith, c.if-sh-eq0.false))
    (shift-even c.args.m (2 ^ (c.args.sh - 1)) (pow_pos (c.args.sh - 1)) c.if-h-eq0.true)

pub returns-then-h-sh : goal.returns-then-h-sh
returns-then-h-sh c =
    let p = 2 ^ (c.args.sh - 1) in
    let P = pow_pos (c.args.sh - 1) in
    whole c.args.m c.args.sh (omega (arith, c.if-sh-eq0.false))
    (shift_tie c.args.m p P (omega (arith, c.if-h-eq0.false))
    (sym (back_up c.args.m p P 64 c.ranges.m.fits) ∙ c.if-h-sh.true))

pub returns-else-h-sh : goal.returns-else-h-sh
returns-else-h-sh c =
    let p = 2 ^ (c.args.sh - 1) in
    let P = pow_pos (c.args.sh - 1) in
    whole c.args.m c.args.sh (omega (arith, c.if-sh-eq0.false))
    (shift_up c.args.m p P (omega (arith, c.if-h-eq0.false)) (λ (e : c.args.m / p * p ≡ c.args.m). c.if-h-sh.false (back_up c.args.m p P 64 c.ranges.m.fits ∙ e)))

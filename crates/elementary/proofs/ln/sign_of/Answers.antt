use Rattle.std.proofs.Common.{◌^◌, Bool, cond, sym, ap, le-ltb, lt-ltb}
use Rattle.elementary.specs.Ln.{ln_sign}
use Rattle.elementary.proofs.ln.sign_of.Goals as goal

pub returns-then-w-lt-LN2_159 : goal.returns-then-w-lt-LN2_159
unfolding ln_sign
returns-then-w-lt-LN2_159 c = sym (ap (λ (t : Bool). cond t (2 ^ 31) 0) (lt-ltb c.args.w 496343524069145961 c.if-w-lt-LN2_159.true))

pub returns-else-w-lt-LN2_159 : goal.returns-else-w-lt-LN2_159
unfolding ln_sign
returns-else-w-lt-LN2_159 c = sym (ap (λ (t : Bool). cond t (2 ^ 31) 0) (le-ltb c.args.w 496343524069145961 c.if-w-lt-LN2_159.false))

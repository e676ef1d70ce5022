use Rattle.std.proofs.Common.{◌-◌, Bool, cond, sym, ap, le-ltb, lt-ltb}
use Rattle.elementary.specs.Ln.{ln_size}
use Rattle.elementary.proofs.ln.size_of.Goals as goal

pub returns-then-w-lt-LN2_159 : goal.returns-then-w-lt-LN2_159
unfolding ln_size
returns-then-w-lt-LN2_159 c = let w = c.args.w in sym
    (ap (λ (t : Bool). cond t (496343524069144641 - w) (w - 496343524069145961))
    (lt-ltb w 496343524069145961 c.if-w-lt-LN2_159.true))

pub returns-else-w-lt-LN2_159 : goal.returns-else-w-lt-LN2_159
unfolding ln_size
returns-else-w-lt-LN2_159 c = let w = c.args.w in sym
    (ap (λ (t : Bool). cond t (496343524069144641 - w) (w - 496343524069145961))
    (le-ltb w 496343524069145961 c.if-w-lt-LN2_159.false))

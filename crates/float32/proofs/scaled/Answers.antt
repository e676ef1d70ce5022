use Rattle.std.proofs.Common.{◌≡◌, ℕ, ◌+◌, ◌*◌, ◌^◌, ◌<◌, ◌∙◌, subst, le_of_lt, arith, rules}
use Rattle.float32.proofs.Rescale.{shift-room, shifted_up, shifted_down}
use Rattle.std.proofs.Common.{rules}
use Rattle.std.proofs.Common.{arith}
use Rattle.float32.proofs.scaled.Goals as goal

small : (c : goal.Start) → c.args.m * 2 ^ c.args.e < 2 ^ (24 + (925 + c.args.k))
small c = subst (λ (i : ℕ). c.args.m * 2 ^ c.args.e < 2 ^ i) go c.requires.e_bound
  where
    go : 949 + c.args.k ≡ 24 + (925 + c.args.k)
    go = omega arith

pub overflow_shl-result : goal.overflow_shl-result
overflow_shl-result c = shift-room c.args.m c.args.e (925 + c.args.k) c.requires.m_nonzero c.if-e-k.true
    (small c.before)

pub returns-then-e-k : goal.returns-then-e-k
returns-then-e-k c = shifted_up c.args.m c.args.e (925 + c.args.k) c.if-e-k.true (small c.before)

pub returns-else-e-k : goal.returns-else-e-k
returns-else-e-k c = c.round_shift.ensures ∙ shifted_down c.args.m c.args.e
    (925 + c.args.k) (le_of_lt c.if-e-k.false)

pub overflow_add-k : goal.overflow_add-k
overflow_add-k c = search rules

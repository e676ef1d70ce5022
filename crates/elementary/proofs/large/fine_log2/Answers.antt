use Rattle.std.proofs.Common.{◌≡◌, ◌*◌, ◌%◌, ◌^◌, mod-eq_of_lt, arith}
use lib.Count.{count_leading_zeros}
use Rattle.elementary.proofs.large.Log.{Top, top}
use Rattle.elementary.proofs.large.Steps.{fine-from}
use Rattle.elementary.proofs.large.fine_log2.Goals as goal

tp : (c : goal.Start) → Top c.args.x (count_leading_zeros 64 c.args.x)
tp c = top c.args.x (omega arith) (omega arith)

shifted : (c : goal.Start) → c.args.x * 2 ^ count_leading_zeros 64
    c.args.x % 2 ^ 64 ≡ c.args.x * 2 ^ count_leading_zeros 64 c.args.x
shifted c = mod-eq_of_lt (tp c).high

pub overflow_sub-i : goal.overflow_sub-i
overflow_sub-i c = omega (arith, shifted c, (tp c).low)

pub returns : goal.returns
returns c =
    let x = c.args.x in
    rw c.from.ensures (fine-from x (x * 2 ^ count_leading_zeros 64 x % 2 ^ 64) c.fine_log2_at-f.result
    (shifted c.before.before) c.fine_log2_at-f.ensures.0)

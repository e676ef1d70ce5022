use Rattle.std.proofs.Common.{ℕ, ◌+◌, ◌-◌, ◌*◌, ◌/◌, ◌^◌, ◌<◌, ◌≤◌, sym, ap, ◌∙◌, mod-eq_of_lt, arith}
use lib.Count.{count_leading_zeros}
use Rattle.elementary.proofs.ln.Rounding.{rounded_is, m_of, top64}
use Rattle.elementary.proofs.ln.round_fixed.Goals as goal

top : (c : goal.Start) → (count_leading_zeros 64 c.args.w ≤ 63) × (c.args.w * 2 ^ count_leading_zeros 64 c.args.w < 2 ^ 64)
top c = top64 c.args.w c.requires (omega arith)

pub returns : goal.returns
unfolding m_of
returns c = let w = c.args.w in ap (λ (i : ℕ). (137 - count_leading_zeros 64 w) * 2 ^ 23 + (i / 2 ^ 39 + 1) / 2)
    (mod-eq_of_lt (top c).1) ∙ sym (rounded_is w c.requires)

use Prim.Native.Nat.{ℕ, ◌+◌, ◌-◌}
use native.Mathlib.Omega.{arith}
use mathlib.Core.Path.{◌≡◌, sym, ap, ◌∙◌}
use Rattle.draws.specs.Draws.{split_mix}
use Rattle.events.specs.Scalars.{of_runtime}
use Rattle.events.specs.Events.{short_steps}
use Rattle.events.proofs.Loops.{steps-many, steps_easy, steps_on}
use Rattle.events.proofs.short_steps.Goals as goal
use Rattle.events.proofs.short_steps.Goals.{then-t-limit-via-then-t-limit, then-t-limit-via-else-t-limit+then-t-ge4}

pub loop-preserved : goal.loop-preserved
loop-preserved c =
    steps_on split_mix (of_runtime c.args.m) c.args.transitions c.args.costs c.args.limit (5 - (c.loop.counter + 1))
    (5 - c.loop.counter) c.loop.t c.short_step-t.result (omega arith) c.if-t-limit.false c.if-t-ge4.false
    c.short_step-t.ensures ∙ c.loop.invariant

pub returns-after-loop : goal.returns-after-loop
unfolding short_steps
returns-after-loop c = let e : 5 - c.loop.counter ≡ 0 = omega arith in sym
    (ap (λ (z : ℕ). short_steps split_mix (of_runtime c.args.m) c.args.transitions
    c.args.costs c.args.limit z c.loop.t) e) ∙ c.loop.invariant

pub returns-then-t-limit : goal.returns-then-t-limit
returns-then-t-limit c =
    sym (elim c.then-t-limit.branch [
      | then-t-limit-via-then-t-limit w ↦ steps-many split_mix (of_runtime c.args.m)
          c.args.transitions c.args.costs c.args.limit (5 - c.loop.counter) c.loop.t w.if-t-limit.true
      | then-t-limit-via-else-t-limit+then-t-ge4 w ↦ steps_easy split_mix (of_runtime c.args.m) c.args.transitions
          c.args.costs c.args.limit (5 - c.loop.counter) c.loop.t w.if-t-ge4.true
    ]) ∙ c.loop.invariant

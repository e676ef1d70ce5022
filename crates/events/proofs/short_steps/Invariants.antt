-- The loop's invariant: the steps that are left come from here to what all five come to from the first.
use mathlib.Core.Path.{◌≡◌}
use Prim.Native.Nat.{◌-◌}
use Rattle.draws.specs.Draws.{split_mix}
use Rattle.events.specs.Scalars.{of_runtime}
use Rattle.events.specs.Events.{short_steps}
use Rattle.events.proofs.short_steps.Given as goal

abbrev pub invariant-loop : goal.invariant-loop
invariant-loop l = short_steps split_mix (of_runtime l.m) l.transitions l.costs l.limit (5 - l.counter) l.t
    ≡ short_steps split_mix (of_runtime l.m) l.transitions l.costs l.limit 5 l.initial.t

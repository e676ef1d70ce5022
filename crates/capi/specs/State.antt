-- A memory state from its three numbers. Definitions only.
use Rattle.std.specs.Prelude.{Float}
use Rattle.model.specs.declared.forgetting_curve.MemoryState.{MemoryState}

unfoldable pub state_of : Float → Float → Float → MemoryState
state_of s d fast = record { stability = s; difficulty = d; stability_fast = fast }

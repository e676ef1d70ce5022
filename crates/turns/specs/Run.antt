-- A run: take the next turn until the run stops, at most n times. Definitions only.
--   Next A S X          the next turn with the state after it, or a stop
--   run next n ts s     the turns taken and the state come to, after at most n turns from s
--   stop_of next n s     how that run stops; none where it is cut off, with a turn still to take
use Rattle.std.specs.Prelude.{ℕ, zero, suc, List, ◌∷◌}
use Rattle.std.proofs.Math.Option.{Option, none, some}

-- the next turn with the state after it; or the run stops, by its end or by a refusal, with the answer x
pub data Next (A S X : Type 0) : Type 0 where
  takes : A → S → Next A S X
  stops : X → Next A S X

-- what a run has come to: its turns, latest first, and its state
pub record RunState (A S : Type 0) : Type 0 where
  pub turns : List A
  pub state : S

abbrev pub run : {A S X : Type 0} → (S → Next A S X) → ℕ → List A → S → RunState A S
run next zero ts s = record { turns = ts; state = s }
run next (suc n) ts s = elim
    (next s) [ takes t s' ↦ run next n (t ∷ ts) s' | stops x ↦ record { turns = ts; state = s } ]

-- how a run of at most n turns stops; none where it is cut off
abbrev pub stop_of : {A S X : Type 0} → (S → Next A S X) → ℕ → S → Option X
stop_of next zero s = none
stop_of next (suc n) s = elim (next s) [ takes t s' ↦ stop_of next n s' | stops x ↦ some x ]

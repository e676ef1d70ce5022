use mathlib.Core.Path.{◌≡◌, ◌∙◌, sym, refl}
use mathlib.Core.Bool.{Bool, true, false, not, ◌&&◌, true≢false}
use Prim.Native.Nat.{ℕ, ◌<◌}
use native.Mathlib.Omega.{arith}
use lib.Dec.{ltb}
use Rattle.std.proofs.Common.{rules}
use Rattle.std.proofs.lemmas.Bool.{ltb-true}
use Rattle.brent.specs.declared.Brent.{Brent}
use Rattle.brent.specs.Step.{converged}
use Rattle.brent.specs.Stepping.{goes_on}
use Rattle.brent.proofs.take_mean.Goals as goal

-- a round that is to come is one of the rounds
going-below : (rounds : ℕ) (s : Brent) → goes_on rounds s ≡ true → s.done < rounds
unfolding goes_on
going-below rounds s h = go (ltb s.done rounds) refl h
  where
    go : (b : Bool) → ltb s.done rounds ≡ b → (b && not (converged s)) ≡ true → s.done < rounds
    go true e h = ltb-true _ _ e
    go false e h = absurd (true≢false (sym h))

pub after_trial-requires : goal.after_trial-requires
after_trial-requires c =
    let h = going-below c.args.t.rounds c.args.t.state (sym c.goes_on.ensures ∙ c.if-goes_on.true) in
    let m : c.args.t.rounds < 4294967296 = search rules in
    omega arith

-- One turn of the loop over short-term steps, and that what is kept of the parameters serves as they do.
--     steps-many, steps_easy              steps that end: enough good ratings, or an easy one
--     steps_on        one that goes on
--     runtime_is w       THE MODEL KEPT BY VALUE is the model
use mathlib.Core.Path.{◌≡◌, refl, sym, ap, ◌∙◌, fun_ext}
use mathlib.Core.Bool.{Bool, true, false, ◌||◌, cond}
use mathlib.Core.List.{List}
use Prim.Native.Nat.{ℕ, zero, suc, ◌+◌, ◌≤◌, ◌<◌}
use native.Mathlib.Omega.{arith}
use borrow.Author.Tests.{le-leb, lt-leb}
use lib.Dec.{leb}
use lib.Ieee.{Float}
use Rattle.draws.specs.Draws.{DrawRule}
use Rattle.model.specs.Model as Model
use Rattle.model.specs.Runtime as Runtime
use Rattle.model.proofs.Runtime.{init_stability_is, curves_are}
use Rattle.events.specs.declared.ShortTerm.{ShortTerm}
use Rattle.events.specs.Scalars.{Scalars, of_parameters, of_runtime}
use Rattle.events.specs.Events.{short_step, short_steps}

module _ (w : DrawRule) (x : Scalars) (transitions costs : List Float) (limit : ℕ) where
  pub steps-many : (n : ℕ) (t : ShortTerm) → limit ≤ t.consecutive → short_steps w x transitions costs limit n t ≡ t
  unfolding short_steps
  steps-many zero t h = refl
  steps-many (suc n) t h = rw (le-leb limit t.consecutive h)

  pub steps_easy : (n : ℕ) (t : ShortTerm) → 4 ≤ t.rating → short_steps w x transitions costs limit n t ≡ t
  unfolding short_steps
  steps_easy zero t h = refl
  steps_easy (suc n) t h = go (leb limit t.consecutive)
    where
      go : (b : Bool) → cond (b || leb 4 t.rating) t (short_steps w x transitions costs limit n
          (short_step w x transitions costs t)) ≡ t
      go true = refl
      go false = rw (le-leb 4 t.rating h)

  pub steps_on : (m n : ℕ) (t t' : ShortTerm) → n ≡ m + 1 → t.consecutive < limit → t.rating < 4
      → t' ≡ short_step w x transitions costs t
      → short_steps w x transitions costs limit m t' ≡ short_steps w x transitions costs limit n t
  steps_on m n t t' p h k e = rw e
      (sym (ap (λ (z : ℕ). short_steps w x transitions costs limit z t) (let z : n ≡ suc m = omega arith in z) ∙ one))
    where
      one : short_steps w x transitions costs limit (suc m) t ≡ short_steps w x transitions costs limit m
          (short_step w x transitions costs t)
      one = unfold short_steps in rw (lt-leb limit t.consecutive h, lt-leb 4 t.rating k)

-- THE MODEL KEPT BY VALUE is the model
pub runtime_is : (w : List Float) → of_runtime (Runtime.runtime_of w) ≡ of_parameters w
unfolding Runtime.runtime_of Runtime.difficulty_of Model.init_difficulty Model.next_difficulty Model.stability_for_set
runtime_is w = rw (fun_ext (init_stability_is w), curves_are w)

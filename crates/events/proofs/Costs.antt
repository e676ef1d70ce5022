-- The cost that an event adds up on its way is the cost of the ratings that it draws.
use mathlib.Core.Path.{◌≡◌, refl, ap, ◌∙◌, subst}
use mathlib.Core.Bool.{Bool, true, false, ◌||◌, cond}
use mathlib.Core.List.{List, [], ◌∷◌}
use Prim.Native.Nat.{ℕ, zero, suc}
use lib.Dec.{leb}
use lib.Ieee.{Float}
use Rattle.std.specs.Prelude.{Option, Some, None}
use Rattle.float32.specs.Ops.{◌+ᶠ◌}
use Rattle.draws.specs.Draws.{DrawRule, recalled}
use Rattle.cards.specs.declared.configuration.SimulatorConfig.{SimulatorConfig}
use Rattle.cards.specs.declared.card.Card.{Card}
use Rattle.cards.specs.Config.{row_of}
use Rattle.events.specs.declared.ShortTerm.{ShortTerm}
use Rattle.events.specs.declared.Memory.{Memory}
use Rattle.events.specs.Scalars.{Scalars}
use Rattle.events.specs.Events.{of_rating, short_step, short_steps, memory_of, chance_ok, chance_on}
use Rattle.events.specs.Events.{learning_limit, first_of, learning, success_rating, success, failed_of, lapse}
use Rattle.events.specs.Events.{reviewing, event_at, event_of}
use Rattle.events.specs.Drawn.{Drawn, kind_as, short_ratings, learning_ratings, lapse_ratings, review_ratings}
use Rattle.events.specs.Drawn.{ratings_of, paid, cost_of}

steps_cost : (w : DrawRule) (x : Scalars) (transitions costs : List Float) (limit n : ℕ) (t : ShortTerm)
    → (short_steps w x transitions costs limit n t).cost ≡ paid costs t.cost (short_ratings w x transitions costs limit
    n t)
unfolding short_steps short_ratings paid
steps_cost w x transitions costs limit zero t = refl
steps_cost w x transitions costs limit (suc n) t = go (leb limit t.consecutive || leb 4 t.rating)
    (steps_cost w x transitions costs limit n (short_step w x transitions costs t))
  where
    t' : ShortTerm
    t' = short_step w x transitions costs t

    step : t'.cost ≡ t.cost +ᶠ of_rating costs t'.rating
    step = unfold short_step in refl

    go : (b : Bool) → (short_steps w x transitions costs limit n t').cost ≡ paid costs t'.cost
        (short_ratings w x transitions costs limit n t')
        → (cond b t (short_steps w x transitions costs limit n t')).cost ≡ paid costs t.cost
        (cond b [] (t'.rating ∷ short_ratings w x transitions costs limit n t'))
    go true ih = refl
    go false ih = ih ∙ ap (λ (z : Float). paid costs z (short_ratings w x transitions costs limit n t')) step

module _ (w : DrawRule) (g : SimulatorConfig) (x : Scalars) where
  -- of an event that came about
  abbrev Costs : Bool → Drawn → Option Memory → Type 0
  Costs new rs (Some m) = m.cost ≡ cost_of g (kind_as new m.recalled rs)
  Costs new rs None = Unit {0}

  learning_cost : (state : ℕ) → Costs true (learning_ratings w g x state) (Some (learning w g x state))
  unfolding learning memory_of
  learning_cost state =
      let first = first_of w g x state in
      steps_cost w x g.learning_step_transitions (row_of g.state_rating_costs 0)
      (learning_limit g first.rating) 5 first

  success_cost : (k : Card) (chance : Float) (state : ℕ)
      → Costs false (success_rating w g x state ∷ []) (Some (success w g x k chance state))
  unfolding success
  success_cost k chance state = refl

  lapse_cost : (k : Card) (chance : Float) (state : ℕ)
      → Costs false (lapse_ratings w g x k chance state) (Some (lapse w g x k chance state))
  unfolding lapse memory_of
  lapse_cost k chance state =
      ap (λ (z : Float). of_rating (row_of g.state_rating_costs 1) 1 +ᶠ z)
      (steps_cost w x g.relearning_step_transitions (row_of g.state_rating_costs 2)
      g.relearning_step_count 5 (failed_of w g x k chance state))

  reviewing_cost : (k : Card) (chance : Float) (state : ℕ) → Costs false (review_ratings w g x k chance state)
      (reviewing w g x k chance state)
  unfolding reviewing
  reviewing_cost k chance state = go (chance_ok chance) (recalled chance (w.word state))
    where
      go : (a b : Bool)
          → Costs false (cond b (success_rating w g x (w.after state) ∷ [])
          (lapse_ratings w g x k chance (w.after state)))
          (cond a (Some (cond b (success w g x k chance (w.after state)) (lapse w g x k chance (w.after state)))) None)
      go true true = success_cost k chance (w.after state)
      go true false = lapse_cost k chance (w.after state)
      go false b = tt

  all-costs : (k : Card) (new : Bool) (day state : ℕ)
      → Costs new (ratings_of w g x k new day state) (event_of w g x k new day state)
  unfolding event_of event_at ratings_of
  all-costs k true day state = learning_cost state
  all-costs k false day state = reviewing_cost k (chance_on x k day) state

  pub event_cost : (k : Card) (new : Bool) (day state : ℕ) (m : Memory) → event_of w g x k new day state
      ≡ Some m
      → m.cost ≡ cost_of g (kind_as new m.recalled (ratings_of w g x k new day state))
  event_cost k new day state m e = subst (λ (z : Option Memory). Costs new (ratings_of w g x k new day state) z) e
      (all-costs k new day state)

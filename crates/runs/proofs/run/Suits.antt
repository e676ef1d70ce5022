-- What demand 3 asks of a run's rules (`Suits`), and that the rules of an accepted call have it, whatever is drawn
-- (`suits`): a scheduled interval is 1 to 36,500.
use mathlib.Core.Path.{◌≡◌, refl, subst}
use mathlib.Core.Bool.{Bool, true, not, ◌&&◌}
use lib.Dec.{T}
use lib.Ieee.{Float, of_bits, of_fields, of_int, round, le, is_nan}
use lib.Ieee.Positive.{positive, between, le_trans_positive}
use Rattle.float32.specs.Numbers.{1ᶠ}
use Rattle.float32.proofs.Cmp as cmp
use Rattle.draws.specs.Draws.{DrawRule}
use Rattle.model.specs.Model.{Curves, curve_of, scheduled}
use Rattle.model.proofs.Laws.{scheduled_between}
use Rattle.cards.specs.declared.configuration.SimulatorConfig.{SimulatorConfig}
use Rattle.cards.specs.Config.{row_of, three_of, weights_ok, transitions_ok, costs_ok, interval_ok, config_ok}
use Rattle.cards.proofs.Later.{one_is}
use Rattle.events.specs.Scalars.{of_parameters}
use Rattle.cards.specs.Day.{longest_interval, IntervalInRange}
use Rattle.runs.specs.State.{State}
use Rattle.runs.specs.Rules.{Rules, rules_with}
use Rattle.entry.specs.Entry.{Inputs}
use Rattle.runs.proofs.turn.Slots.{Slots, table_slots}
use Rattle.runs.proofs.Accepted.{Accepted}
use Rattle.turns.proofs.Logic.{both}

-- ---- a scheduled interval is 1 to 36,500
one_positive : T (positive 1ᶠ)
unfolding of_bits of_fields
one_positive = tt

longest_positive : T (positive longest_interval)
unfolding of_int round
longest_positive = tt

pub scheduled_fair : (w : Curves) (s r longest : Float) → interval_ok longest ≡ true
    → IntervalInRange (scheduled w s r longest)
unfolding interval_ok
scheduled_fair w s r longest e =
    let p = both (le 1ᶠ longest) (le longest longest_interval) e in
    let low : T (le 1ᶠ longest) = cmp.yes p.0 in
    let high : T (le longest longest_interval) = cmp.yes p.1 in
    let b = scheduled_between w s r longest low in
    let ph : T (positive longest) = between 1ᶠ longest longest_interval
    one_positive longest_positive low high in
    let px : T (positive (scheduled w s r longest)) = between 1ᶠ
    (scheduled w s r longest) longest one_positive ph b.least b.most in
    record {
      least = subst (λ (z : Float). T (le z (scheduled w s r longest))) one_is b.least;
      most = le_trans_positive (scheduled w s r longest) longest longest_interval px ph longest_positive b.most high;
    }

interval-ok : (g : SimulatorConfig) → config_ok g ≡ true → interval_ok g.max_ivl ≡ true
unfolding config_ok
interval-ok g e =
    let last : Bool = not (is_nan g.max_cost_perday) && interval_ok g.max_ivl in
    let e₅ : Bool = costs_ok g.state_rating_costs && last in
    let e₄ : Bool = transitions_ok g.relearning_step_transitions && e₅ in
    let e₃ : Bool = transitions_ok g.learning_step_transitions && e₄ in
    let e₂ : Bool = weights_ok (three_of g.review_rating_prob) && e₃ in
    let a = both (weights_ok (row_of g.first_rating_prob 0)) e₂ e in
    let b = both (weights_ok (three_of g.review_rating_prob)) e₃ a.1 in
    let c = both (transitions_ok g.learning_step_transitions) e₄ b.1 in
    let d = both (transitions_ok g.relearning_step_transitions) e₅ c.1 in
    let f = both (costs_ok g.state_rating_costs) last d.1 in
    (both (not (is_nan g.max_cost_perday)) (interval_ok g.max_ivl) f.1).1

-- what demand 3 asks of a run's rules: the span of the inputs, and a model with lawful slots; nothing of limits, prices
-- or draws
pub record Suits {C : Type 0} (R : Rules C) (i : Inputs) : Type 0 where
  pub span_is : i.settings.config.learn_span ≡ R.span
  pub slots : Slots R.model

-- so WHATEVER IS DRAWN
pub suits : (w : DrawRule) (i : Inputs) (s : State Float) → Accepted i s
    → Suits (rules_with w i.settings.config (of_parameters i.parameters)) i
suits w i s ok = record {
  span_is = refl;
  slots = table_slots i.settings.config (of_parameters i.parameters)
      (λ x y. scheduled_fair (curve_of i.parameters) x y i.settings.config.max_ivl
      (interval-ok i.settings.config ok.config_passes));
}

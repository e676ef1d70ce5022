use mathlib.Core.Path.{ap, ◌∙◌}
use mathlib.Core.Bool.{false, cond}
use mathlib.Core.List.{List, []}
use lib.ListN.{get_or}
use lib.Ieee.{Float}
use Rattle.forecast_text.specs.Settings.{parameters_of}
use Rattle.forecast_text.specs.Forecast.{lists}
use Rattle.forecast_text.proofs.Call.{first_parameters}
use Rattle.cheapest_text.proofs.Texts.{searched_is}
use Rattle.cheapest_text.proofs.search.Goals as goal

pub returns : goal.returns
unfolding lists parameters_of
returns c =
    let a = c.args in
    let w = c.floats_of-parameters.ensures in
    let e = first_parameters (get_or a.set.seen 0 false) c.parameter_count.result
    c.floats_of-parameters.result c.parameter_count.ensures w.0
    ∙ ap (λ (ws : List Float). cond (get_or a.set.seen 0 false) ws []) w.1 in
    searched_is a.set _ _ _ _ c.config_of.ensures e c.optimal_retention.ensures.search

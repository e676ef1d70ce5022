use mathlib.Core.Path.{ap, ◌∙◌}
use mathlib.Core.Bool.{false, cond}
use mathlib.Core.List.{List, []}
use lib.ListN.{get_or}
use lib.Ieee.{Float}
use Rattle.std.proofs.Common.{rules}
use Rattle.runs.specs.State.{lent_of}
use Rattle.forecast_text.specs.Settings.{parameters_of}
use Rattle.forecast_text.specs.Forecast.{lists}
use Rattle.forecast_text.proofs.Call.{run_days, first_parameters}
use Rattle.forecast_text.proofs.run.Goals as goal

pub returns : goal.returns
unfolding lists parameters_of
returns c =
    let a = c.args in
    let w = c.floats_of-parameters.ensures in
    let e = first_parameters (get_or a.set.seen 0 false) c.parameter_count.result
    c.floats_of-parameters.result c.parameter_count.ensures w.0
    ∙ ap (λ (ws : List Float). cond (get_or a.set.seen 0 false) ws []) w.1 in
    run_days a.set a.days.now a.costs.now a.memorized.now _ _ _ _ (lent_of c.simulate.new.lists)
    c.config_of.ensures e c.from_bits.ensures c.simulate.ensures.run (search rules) (search rules) (search rules)

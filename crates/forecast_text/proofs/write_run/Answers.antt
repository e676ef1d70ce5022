use mathlib.Core.Path.{sym, ◌∙◌}
use Rattle.forecast_text.proofs.Texts.{run-printed, never_full}
use Rattle.forecast_text.proofs.write_run.Goals as goal

pub returns : goal.returns
returns c =
    let a = c.args in
    run-printed a.out.now a.rows.days.now a.rows.costs.now a.rows.memorized.now a.span a.turns a.cards
    c.requires.0 c.requires.1.0 c.requires.1.1.0 c.requires.1.1.1.0 c.requires.1.1.1.1
    c.in_ok-at.at c.write_forecast.new.out c.write_days.result
    c.write_days.new.out
    (sym c.write_forecast.ensures.0 ∙ c.in_ok-at.was)
    c.write_forecast.ensures.1
    c.write_days.ensures.0 c.write_days.ensures.1

pub returns-in_err-at : goal.returns-in_err-at
returns-in_err-at c =
    let a = c.args in
    absurd (never_full a.out.now a.rows.days.now a.rows.costs.now a.rows.memorized.now a.span a.turns a.cards
    c.requires.0 c.requires.1.0 c.requires.1.1.0 c.requires.1.1.1.0 c.requires.1.1.1.1
    (sym c.write_forecast.ensures.0 ∙ c.in_err-at.was))

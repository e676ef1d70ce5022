-- Where the parameters pass, the tests behind them decide.
use mathlib.Core.Path.{sym, ◌∙◌}
use Rattle.std.proofs.Common.{rules}
use Rattle.entry.proofs.Tests.{raised, parameters_fail, parameters_pass}
use Rattle.entry.proofs.check_settings.Goals as goal

pub returns-in_err-check_parameters : goal.returns-in_err-check_parameters
returns-in_err-check_parameters c =
    raised c.from_residual.result _ c.from_residual.ensures.1
    ∙ sym (parameters_fail _ _ _ _ _ _ (sym c.check_parameters.ensures ∙ c.in_err-check_parameters.was))

pub returns-then-bad_deck : goal.returns-then-bad_deck
returns-then-bad_deck c =
    rw (parameters_pass _ _ _ _ _ (sym c.check_parameters.ensures ∙ c.in_ok-check_parameters.was)) (search rules)

pub returns-then-bad_span : goal.returns-then-bad_span
returns-then-bad_span c =
    rw (parameters_pass _ _ _ _ _ (sym c.check_parameters.ensures ∙ c.in_ok-check_parameters.was)) (search rules)

pub returns-then-not-setting_ok : goal.returns-then-not-setting_ok
returns-then-not-setting_ok c =
    rw (parameters_pass _ _ _ _ _ (sym c.check_parameters.ensures ∙ c.in_ok-check_parameters.was)) (search rules)

pub returns-then-not-lists_ok : goal.returns-then-not-lists_ok
returns-then-not-lists_ok c =
    rw (parameters_pass _ _ _ _ _ (sym c.check_parameters.ensures ∙ c.in_ok-check_parameters.was)) (search rules)

pub returns-then-deck-n : goal.returns-then-deck-n
returns-then-deck-n c =
    rw (parameters_pass _ _ _ _ _ (sym c.check_parameters.ensures ∙ c.in_ok-check_parameters.was)) (search rules)

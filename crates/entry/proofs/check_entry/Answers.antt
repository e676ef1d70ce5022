-- The tests of the settings, and where they pass those of the cards.
use mathlib.Core.Path.{sym, ◌∙◌}
use native.Mathlib.Omega.{arith}
use Rattle.entry.proofs.Tests.{raised, settings_pass, settings_fail, settings_passed}
use Rattle.entry.proofs.check_entry.Goals as goal

pub returns-in_err-check_settings : goal.returns-in_err-check_settings
returns-in_err-check_settings c =
    rw (← c.lists_ok-long.ensures) (raised c.from_residual.result _ c.from_residual.ensures.1
    ∙ sym (settings_fail _ _ _ _ _ _ (sym c.check_settings.ensures ∙ c.in_err-check_settings.was) _))

pub overflow_cast-n : goal.overflow_cast-n
overflow_cast-n c =
    let p = settings_passed _ _ _ _ _ _ (sym c.check_settings.ensures ∙ c.in_ok-check_settings.was) in
    omega (arith, p.deck_most, p.existing_few)

pub returns : goal.returns
returns c =
    let e = sym c.check_settings.ensures ∙ c.in_ok-check_settings.was in
    rw (← c.lists_ok-long.ensures) (c.check_cards.ensures ∙ sym (settings_pass _ _ _ _ _ e _))

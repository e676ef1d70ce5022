-- The tests before refusal 5, and then the search for the first record that does not pass it.
use mathlib.Core.Path.{◌≡◌, sym, ◌∙◌}
use mathlib.Core.Bool.{true, false}
use Prim.Native.Nat.{◌<◌}
use native.Mathlib.Omega.{arith}
use lib.ListN.{length}
use Rattle.std.proofs.Common.{rules}
use Rattle.std.proofs.lemmas.Iterator.{IsFirst-from_position, YieldsList-from_slice}
use Rattle.std.proofs.lemmas.Result.{err_from_is_err_and}
use Rattle.entry.specs.Entry.{is_bad}
use Rattle.entry.proofs.Tests.{settings_pass, settings_fail, settings_passed}
use Rattle.card_records.proofs.Call.{room_told}
use Rattle.card_records.proofs.Laws.{bad_in, record_refused, records_pass}
use Rattle.card_records.proofs.check_records.Goals as goal

pub returns-in_err-check_settings-clause-tests : goal.returns-in_err-check_settings-clause-tests
returns-in_err-check_settings-clause-tests c =
    let p = err_from_is_err_and c.from_residual.result c.from_residual.ensures.1 in
    rw (p.1, p.2, ← c.is_finite-finite.ensures, ← c.lists_ok-long.ensures)
    (sym (settings_fail _ _ _ _ _ _ (sym c.check_settings.ensures ∙ c.in_err-check_settings.was) _))

pub overflow_cast-result : goal.overflow_cast-result
overflow_cast-result c =
    let found = bad_in c.args.records.now c.position.result
    (IsFirst-from_position _ _ _ (λ x. is_bad x ≡ true) (λ x. is_bad x ≡ false) c.position.ensures.ran
    (YieldsList-from_slice _ c.iter.ensures.rest) (λ x q k. search rules) (λ x q k. search rules)) in
    let first = rw c.in-Some.is at found in
    let p = settings_passed _ _ _ _ _ _ (sym c.check_settings.ensures ∙ c.in_ok-check_settings.was) in
    omega (arith, p.deck_most, p.existing_few, first.1)

pub returns-in-Some-clause-tests : goal.returns-in-Some-clause-tests
returns-in-Some-clause-tests c =
    let found = bad_in c.args.records.now c.position.result
    (IsFirst-from_position _ _ _ (λ x. is_bad x ≡ true) (λ x. is_bad x ≡ false) c.position.ensures.ran
    (YieldsList-from_slice _ c.iter.ensures.rest) (λ x q k. search rules) (λ x q k. search rules)) in
    let e = sym c.check_settings.ensures ∙ c.in_ok-check_settings.was in
    rw (← c.is_finite-finite.ensures, ← c.lists_ok-long.ensures)
    (sym (settings_pass _ _ _ _ _ e _ ∙ record_refused c.args.records.now c.in-Some.i (rw c.in-Some.is at found)))

pub returns-in-None-clause-tests : goal.returns-in-None-clause-tests
returns-in-None-clause-tests c =
    let found = bad_in c.args.records.now c.position.result
    (IsFirst-from_position _ _ _ (λ x. is_bad x ≡ true) (λ x. is_bad x ≡ false) c.position.ensures.ran
    (YieldsList-from_slice _ c.iter.ensures.rest) (λ x q k. search rules) (λ x q k. search rules)) in
    let e = sym c.check_settings.ensures ∙ c.in_ok-check_settings.was in
    rw (← c.is_finite-finite.ensures, ← c.lists_ok-long.ensures)
    (sym (settings_pass _ _ _ _ _ e _ ∙ records_pass c.args.records.now (rw c.in-None.is at found)))

pub returns-in-None-clause-fits : goal.returns-in-None-clause-fits
returns-in-None-clause-fits c =
    let p = settings_passed _ _ _ _ _ _ (sym c.check_settings.ensures ∙ c.in_ok-check_settings.was) in
    let few : length c.args.records.now < 4294967296 = omega (arith, p.deck_most, p.existing_few) in
    let room = room_told _ _ _ _ (sym c.lists_ok-long.ensures ∙ p.lists_pass) in
    (few, room.0, room.1)

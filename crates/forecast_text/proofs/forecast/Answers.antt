use Rattle.settings_text.specs.Forms as Forms
use Rattle.forecast_text.specs.Forecast.{forecast_text}
use Rattle.forecast_text.proofs.Texts.{no_room, line_text, read_text, refused-printed, printed_is}
use Rattle.forecast_text.proofs.forecast.Goals as goal

pub returns-then-out-lt133680 : goal.returns-then-out-lt133680
returns-then-out-lt133680 c =
    let a = c.args in
    no_room a.out.now (forecast_text a.text.now) c.if-out-lt133680.true

pub returns-in-Err : goal.returns-in-Err
returns-in-Err c =
    let a = c.args in
    let text = line_text a.text.now _ _ c.default_settings.ensures c.read-reading.ensures
    c.in-Err.e c.in-Err.is in
    let p = refused-printed a.out.now (Forms.number_of c.in-Err.e) (Forms.second_of c.in-Err.e)
    c.write_refused.result c.write_refused.new.out
    c.if-out-lt133680.false (rw (c.number.ensures, c.second.ensures) at c.write_refused.ensures.0) (rw (c.number.ensures, c.second.ensures) at c.write_refused.ensures.1) in
    printed_is a.out.now (forecast_text a.text.now) _ _ c.if-out-lt133680.false (rw text p)

pub returns-in-Ok : goal.returns-in-Ok
returns-in-Ok c =
    let a = c.args in
    let text = read_text a.text.now _ _ c.default_settings.ensures c.read-reading.ensures
    c.in-Ok.is in
    printed_is a.out.now (forecast_text a.text.now) _ _ c.if-out-lt133680.false
    (rw text c.forecast_settings.ensures)

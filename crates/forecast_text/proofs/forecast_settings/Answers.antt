use native.Mathlib.Omega.{arith}
use Rattle.forecast_text.specs.Settings.{most_span}
use Rattle.forecast_text.specs.Forecast.{forecast_run}
use Rattle.forecast_text.proofs.Call.{zero_above-le}
use Rattle.forecast_text.proofs.Texts.{finished_text, refused_text, refused-printed}
use Rattle.forecast_text.proofs.forecast_settings.Goals as goal

pub write_run-requires : goal.write_run-requires
write_run-requires c =
    let short = zero_above-le most_span c.args.set.span c.span_of-span.result
    c.span_of-span.ensures in (
      c.requires,
      (
        short,
        (
          omega (arith, short, c.run-answer.auto.days),
          (omega (arith, short, c.run-answer.auto.costs), omega (arith, short, c.run-answer.auto.memorized)),
        ),
      ),
    )

pub returns-in-Ok : goal.returns-in-Ok
unfolding forecast_run
returns-in-Ok c =
    let text = finished_text c.args.set c.run-answer.result c.run-answer.new.days c.run-answer.new.costs
    c.run-answer.new.memorized c.run-answer.ensures
    c.in-Ok.p c.span_of-span.result c.in-Ok.is
    c.span_of-span.ensures in
    rw text c.write_run.ensures

pub returns-in-Err : goal.returns-in-Err
unfolding forecast_run
returns-in-Err c =
    let a = c.args in
    let text = refused_text a.set c.run-answer.result c.run-answer.new.days c.run-answer.new.costs
    c.run-answer.new.memorized c.run-answer.ensures
    c.in-Err.refused c.in-Err.is in
    rw text (refused-printed a.out.now _ _ c.write_refused.result
    c.write_refused.new.out c.requires
    (rw (c.number_of-number.ensures, c.second_of-second.ensures) at
    c.write_refused.ensures.0)
    (rw (c.number_of-number.ensures, c.second_of-second.ensures) at
    c.write_refused.ensures.1))

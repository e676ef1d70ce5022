use mathlib.Core.Path.{sym}
use Rattle.cheapest_text.proofs.Texts.{line_text, read_text}
use Rattle.cheapest_text.proofs.cheapest.Goals as goal

pub returns-in-Err : goal.returns-in-Err
returns-in-Err c =
    let text = line_text c.args.text.now _ _ c.default_settings.ensures
    c.read-reading.ensures c.in-Err.e c.in-Err.is in
    rw (text, sym c.number.ensures, sym c.second.ensures) c.write_refused.ensures

pub returns-in-Ok : goal.returns-in-Ok
returns-in-Ok c =
    let text = read_text c.args.text.now _ _ c.default_settings.ensures
    c.read-reading.ensures c.in-Ok.is in
    rw (text, sym c.search.ensures) c.write_answer.ensures

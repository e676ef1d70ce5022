-- WHAT THE CHEAPEST RETENTION OF A TEXT IS, from the bytes read to the bytes written. Definitions only.
--   cheapest_search s        the search over settings
--   answer_text, cheapest_text   what is printed, of a search and of a text
use Rattle.std.specs.Prelude.{ℕ, List, [], replicate, Float}
use Rattle.float32.specs.Numbers.{0ᶠ}
use Rattle.settings_text.specs.declared.Settings.{Settings}
use Rattle.std.specs.Prelude.{Result, Ok, Err}
use Rattle.settings_text.specs.declared.ReadError.{ReadError}
use Rattle.settings_text.specs.Forms as Forms
use Rattle.settings_text.specs.Forms.{reading}
use Rattle.report.specs.Lines.{refused_line, cheapest_line}
use Rattle.entry.specs.declared.Refusal.{Refusal}
use Rattle.entry.specs.Refusals.{number_of, second_of}
use Rattle.runs.specs.State.{Lent}
use Rattle.brent.specs.Search.{Searched}
use Rattle.entry.specs.Entry.{settings, inputs}
use Rattle.retention.specs.Retention.{SearchAnswer, most_rounds, optimal_retention, optimum_of}
use Rattle.forecast_text.specs.Settings.{most_span, default_settings, config_of, parameters_of}
use Rattle.forecast_text.specs.Forecast.{lists}

-- the lists of the forecast, and all rounds that the search allows; the text's retention and seed play no part
unfoldable pub cheapest_search : Settings → Searched (Lent Float) Refusal
cheapest_search s =
    optimal_retention (inputs (settings (config_of s) 0ᶠ 0) (parameters_of s) [] []) most_rounds
    (lists (replicate most_span (replicate 4 0)) (replicate most_span 0ᶠ) (replicate most_span 0ᶠ))

unfoldable pub answer_text : SearchAnswer → List ℕ
answer_text (Ok x) = cheapest_line x.retention x.rounds x.mean
answer_text (Err r) = refused_line (number_of r) (second_of r)

unfoldable pub verdict_text : Result Unit ReadError → Settings → List ℕ
verdict_text (Err e) s = refused_line (Forms.number_of e) (Forms.second_of e)
verdict_text (Ok u) s = answer_text (optimum_of (cheapest_search s).answer)

unfoldable pub cheapest_text : List ℕ → List ℕ
cheapest_text text =
    let r = reading text default_settings in
    verdict_text r.verdict r.settings

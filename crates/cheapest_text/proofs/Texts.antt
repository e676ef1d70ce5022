-- The search of settings, and what is printed of a text.
use mathlib.Core.Path.{◌≡◌, sym}
use Prim.Native.Nat.{ℕ, ◌≤◌}
use native.Mathlib.Omega.{arith}
use mathlib.Core.List.{List, []}
use lib.ListN.{length, replicate}
use lib.Ieee.{Float}
use Rattle.float32.specs.Numbers.{0ᶠ}
use Rattle.cards.specs.declared.configuration.SimulatorConfig.{SimulatorConfig}
use Rattle.settings_text.specs.declared.Settings.{Settings}
use Rattle.settings_text.specs.declared.Reading.{Reading}
use Rattle.std.specs.Prelude.{Result, Ok, Err}
use Rattle.settings_text.specs.declared.ReadError.{ReadError}
use Rattle.settings_text.specs.Forms as Forms
use Rattle.settings_text.specs.Forms.{reading}
use Rattle.report.specs.Lines.{refused_line}
use Rattle.report.proofs.WriteLaws.{refused-short, cheapest-short}
use Rattle.entry.specs.Refusals.{number_of, second_of}
use Rattle.runs.specs.State.{Lent}
use Rattle.entry.specs.Entry.{settings, inputs}
use Rattle.retention.specs.Retention.{SearchAnswer, optimum_of, SearchContract}
use Rattle.forecast_text.specs.Settings.{most_span, default_settings, config_of, parameters_of}
use Rattle.forecast_text.specs.Forecast.{lists}
use Rattle.cheapest_text.specs.Cheapest.{cheapest_search, answer_text, verdict_text, cheapest_text}

-- the call that the code makes is that of the definition
pub searched_is : (s : Settings) (g : SimulatorConfig) (w : List Float) (r : SearchAnswer) (l : Lent Float)
    → g ≡ config_of s → w ≡ parameters_of s
    → SearchContract (inputs (settings g 0ᶠ 0) w [] []) 64
    (lists (replicate most_span (replicate 4 0)) (replicate most_span 0ᶠ) (replicate most_span 0ᶠ)) r l
    → r ≡ optimum_of (cheapest_search s).answer
unfolding cheapest_search
searched_is s g w r l eg ew k = rw (sym eg, sym ew) k.result.answer

module _ (text : List ℕ) (base : Settings) (x : Reading) (b : base ≡ default_settings) (e : x ≡ reading text base) where
  pub line_text : (r : ReadError) → x.verdict ≡ Err r → cheapest_text text ≡ refused_line (Forms.number_of r) (Forms.second_of r)
  unfolding cheapest_text verdict_text
  line_text r v = rw (sym b, sym e, v)

  pub read_text : x.verdict ≡ Ok tt → cheapest_text text ≡ answer_text (optimum_of (cheapest_search x.settings).answer)
  unfolding cheapest_text verdict_text
  read_text v = rw (sym b, sym e, v)

-- 90 bytes are room enough
answer_fits : (a : SearchAnswer) → length (answer_text a) ≤ 90
unfolding answer_text
answer_fits (Ok x) = cheapest-short x.retention x.rounds x.mean
answer_fits (Err r) = omega (arith, refused-short (number_of r) (second_of r))

verdict_fits : (v : Result Unit ReadError) (s : Settings) → length (verdict_text v s) ≤ 90
unfolding verdict_text
verdict_fits (Err e) s = omega (arith, refused-short (Forms.number_of e) (Forms.second_of e))
verdict_fits (Ok u) s = answer_fits (optimum_of (cheapest_search s).answer)

pub text_fits : (text : List ℕ) → length (cheapest_text text) ≤ 90
unfolding cheapest_text
text_fits text =
    let r = reading text default_settings in
    verdict_fits r.verdict r.settings

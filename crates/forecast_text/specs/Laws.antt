-- WHAT HOLDS OF EVERY TEXT. Definitions only.
--   entry_of s       the entry's refusals that a text can meet, in their order, by the program's own limits
--   RunLaws s       what is printed of settings that the entry turns away, and that no list is too short
--   TextLaws text   the room that a text's answer takes
use Rattle.std.specs.Prelude.{ℕ, ◌≤◌, ◌≡◌, not, ◌&&◌, ◌||◌, List, [], ◌∷◌, length, eqb, ltb, Err}
use Rattle.std.specs.Float.{binary32}
use Rattle.std.specs.Float.Ieee.{of_bits}
use Rattle.float32.specs.Float32.{is_finite}
use Rattle.cards.specs.Config.{config_ok}
use Rattle.settings_text.specs.declared.Settings.{Settings}
use Rattle.report.specs.Lines.{refused_line}
use Rattle.entry.specs.declared.Refusal.{Refusal}
use Rattle.entry.specs.declared.Refusal.TheVariants as refusal
use Rattle.entry.specs.Refusals.{number_of, second_of}
use Rattle.entry.specs.Entry.{Check, passed, fail_if, check_parameters, first_refusal}
use Rattle.runs.specs.Checked.{checked}
use Rattle.forecast_text.specs.Settings.{most_deck, most_span, config_of, parameters_of, inputs_of}
use Rattle.forecast_text.specs.Forecast.{room, lent_lists, run_text, forecast_text}

-- 1, 2, 3, 4: no list is too short, no card exists, so 5, 6 and 2 with 1 are never met
unfoldable pub entry_of : Settings → Check
entry_of s =
    check_parameters (parameters_of s)
    (first_refusal
    ((eqb s.deck 0 || ltb most_deck s.deck, refusal.DeckSize)
    ∷ (eqb s.span 0 || ltb most_span s.span, refusal.LearnSpan)
    ∷ (not (config_ok (config_of s) && is_finite (of_bits binary32 s.retention)), refusal.Config)
    ∷ []) passed)

pub record RunLaws (s : Settings) : Type 0 where
  -- the run's entry tests are these
  pub entry_is : checked (inputs_of s) (lent_lists s) ≡ entry_of s
  -- and the first that fails is printed
  pub refused : (r : Refusal) → entry_of s ≡ Err r → run_text s ≡ refused_line (number_of r) (second_of r)

pub record TextLaws (text : List ℕ) : Type 0 where
  -- no text runs over its room, whatever the numbers
  pub fits : length (forecast_text text) ≤ room

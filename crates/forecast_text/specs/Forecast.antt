-- WHAT A TEXT FORECASTS, from the bytes read to the bytes written (docs/RULES.md, P9 to P12). Definitions only.
--   lists               the lists that the program lends to the run
--   forecast_run s       the run of settings
--   run_text, forecast_text   what is printed, of a run and of a text
--   room                bytes that are room enough for every text (`text_fits`)
--   printed, left       the answer of a call, and the lent bytes that it leaves
use Rattle.std.specs.Prelude.{ℕ, ◌+◌, ◌*◌, cond, ◌≡◌, List, [], ◌++◌, length, drop, replicate, leb, Float}
use Rattle.std.proofs.Math.Option.{Option, none, some}
use Rattle.float32.specs.Numbers.{0ᶠ}
use Rattle.settings_text.specs.declared.Settings.{Settings}
use Rattle.std.specs.Prelude as std
use Rattle.std.specs.Prelude.{Some, None, Ok, Err}
use Rattle.settings_text.specs.declared.ReadError.{ReadError}
use Rattle.settings_text.specs.Forms as Forms
use Rattle.settings_text.specs.Forms.{reading}
use Rattle.report.specs.Lines.{forecast_line, refused_line}
use Rattle.report.specs.Rows.{day_lines}
use Rattle.entry.specs.Refusals.{number_of, second_of}
use Rattle.runs.specs.State.{State, Lent, lent, state}
use Rattle.runs.specs.Simulate.{Answer, Outcome, simulated}
use Rattle.forecast_text.specs.Settings.{most_deck, most_span, default_settings, config_of, inputs_of}

-- the length of the interval table
abbrev pub table_places : ℕ
table_places = 4096

-- the lists lent to the run, as long as the limits ask; what they hold plays no part (runs' `Demands.same_run`)
unfoldable pub lists : List (List ℕ) → List Float → List Float → Lent Float
lists days costs memorized =
    lent (replicate most_deck (replicate 6 0ᶠ)) (replicate most_deck (replicate 2 0)) (replicate most_deck (replicate 2 0))
    days costs memorized (replicate 1095 0) (replicate table_places (replicate 2 0)) (replicate table_places 0ᶠ)

-- the run of settings, with these lists of days
unfoldable pub run_with : List (List ℕ) → List Float → List Float → Settings → Outcome Float
run_with days costs memorized s = simulated (inputs_of s) (state (lists days costs memorized) 0 s.seed)

-- the program's own lists of days
abbrev pub lent_lists : Settings → State Float
lent_lists s =
    state (lists (replicate most_span (replicate 4 0)) (replicate most_span 0ᶠ) (replicate most_span 0ᶠ)) 0 s.seed

unfoldable pub forecast_run : Settings → Outcome Float
forecast_run = run_with (replicate most_span (replicate 4 0)) (replicate most_span 0ᶠ) (replicate most_span 0ᶠ)

-- P11: a run that ended by its first line and a line a day, or its refusal; every run has an answer
unfoldable pub answer_text : ℕ → Option Answer → List (List ℕ) → List Float → List Float → List ℕ
answer_text span none days costs memorized = []
answer_text span (some (Ok p)) days costs memorized =
    forecast_line span p.turns p.cards ++ day_lines days costs memorized 0 span
answer_text span (some (Err x)) days costs memorized = refused_line (number_of x.refusal) (second_of x.refusal)

unfoldable pub run_text : Settings → List ℕ
run_text s =
    let r : Outcome Float = forecast_run s in
    answer_text (config_of s).learn_span r.answer r.state.days r.state.costs r.state.memorized

-- 11 first, with its line; then the refusals of the run, in their order, and what it gives
unfoldable pub verdict_text : std.Result Unit ReadError → Settings → List ℕ
verdict_text (Err e) s = refused_line (Forms.number_of e) (Forms.second_of e)
verdict_text (Ok u) s = run_text s

unfoldable pub forecast_text : List ℕ → List ℕ
forecast_text text =
    let r = reading text default_settings in
    verdict_text r.verdict r.settings

-- what the code has of a run: its answer and its days
pub record RunDays (x : Outcome Float) (r : Answer) (days : List (List ℕ)) (costs memorized : List Float) : Type 0 where
  pub answer_is : x.answer ≡ some r
  pub days_are : days ≡ x.state.days
  pub costs_are : costs ≡ x.state.costs
  pub memorized_are : memorized ≡ x.state.memorized

-- ---- in a lent list of bytes

-- a first line of 90 bytes and 183 bytes a day
abbrev pub room : ℕ
room = 90 + most_span * 183

-- where the text ends; a list that is shorter than `room` is not written to
unfoldable pub printed : List ℕ → List ℕ → std.Option ℕ
printed out t = cond (leb room (length out)) (Some (length t)) None

unfoldable pub left : List ℕ → List ℕ → List ℕ
left out t = cond (leb room (length out)) (t ++ drop (length t) out) out

-- a text at the head of a list: r is the place behind it
pub record Printed (out t : List ℕ) (r : std.Option ℕ) (after : List ℕ) : Type 0 where
  pub place : r ≡ Some (length t)
  pub bytes : after ≡ t ++ drop (length t) out

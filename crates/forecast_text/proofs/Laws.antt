-- The laws of texts: the entry's refusals in their order, and the room.
use mathlib.Core.Path.{◌≡◌, refl, sym}
use Prim.Native.Nat.{ℕ, ◌+◌, ◌/◌, ◌≤◌}
use native.Mathlib.Omega.{arith}
use mathlib.Core.Bool.{Bool, true, false, cond, ◌||◌}
use mathlib.Core.Option.{Option, none, some}
use mathlib.Core.List.{List}
use lib.ListN.{length, length-append}
use lib.Dec.{eqb, ltb}
use lib.Ieee.{Float}
use borrow.Author.Tests.{le-leb, le-ltb, ltb-false}
use Rattle.settings_text.specs.declared.Settings.{Settings}
use Rattle.std.specs.Prelude.{Result, Ok, Err}
use Rattle.settings_text.specs.declared.ReadError.{ReadError}
use Rattle.settings_text.specs.Forms as Forms
use Rattle.settings_text.specs.Forms.{reading}
use Rattle.report.specs.Lines.{forecast_line, refused_line}
use Rattle.report.specs.Rows.{day_lines}
use Rattle.report.proofs.WriteLaws.{forecast-short, refused-short}
use Rattle.report.proofs.RowLaws.{days_short}
use Rattle.entry.specs.declared.Refusal.{Refusal}
use Rattle.entry.specs.Refusals.{number_of, second_of}
use Rattle.entry.specs.Entry.{most_cards, most_days, first_where, lengths_ok, check_settings, short_list, check_cards}
use Rattle.runs.specs.Checked.{lists_ok, checked}
use Rattle.runs.specs.Simulate.{Answer, simulated_by}
use Rattle.forecast_text.specs.Settings.{most_deck, most_span, config_of, inputs_of, default_settings, zero_above}
use Rattle.forecast_text.specs.Forecast.{lists, lent_lists, run_with, forecast_run, room, answer_text, run_text}
use Rattle.forecast_text.specs.Forecast.{verdict_text, forecast_text}
use Rattle.forecast_text.specs.Laws.{entry_of, RunLaws, TextLaws}
use Rattle.forecast_text.proofs.Call.{zero_above-le}

-- ---- the entry

or-true : (b : Bool) → (b || true) ≡ true
or-true true = refl
or-true false = refl

-- a number above its limit is refused as 0 is, and one within it by the run's own test
limit_is : (most larger n : ℕ) → most ≤ larger
    → (eqb (zero_above most n) 0 || ltb larger (zero_above most n)) ≡ (eqb n 0 || ltb most n)
limit_is most larger n h = go (ltb most n) refl
  where
    go : (b : Bool) → ltb most n ≡ b
        → (eqb (cond b 0 n) 0 || ltb larger (cond b 0 n)) ≡ (eqb n 0 || b)
    go true e = sym (or-true (eqb n 0))
    go false e = rw (le-ltb larger n (omega (arith, h, ltb-false most n e)))

lists-long : (s : Settings) → lists_ok (inputs_of s) (lent_lists s) ≡ true
unfolding lengths_ok short_list inputs_of config_of lists
lists-long s =
    let deck : zero_above most_deck s.deck ≤ most_deck = zero_above-le most_deck s.deck _ refl in
    let span : zero_above most_span s.span ≤ most_span = zero_above-le most_span s.span _ refl in
    let due : zero_above most_span s.span + zero_above most_span s.span / 2 ≤ 1095 = omega arith in
    rw (
      le-leb (zero_above most_deck s.deck) most_deck deck,
      le-leb (zero_above most_span s.span) most_span span,
      le-leb (zero_above most_span s.span + zero_above most_span s.span / 2) 1095 due,
    )

pub entry_is : (s : Settings) → checked (inputs_of s) (lent_lists s) ≡ entry_of s
unfolding check_settings entry_of inputs_of config_of check_cards first_where
entry_is s =
    rw (
      lists-long s,
      limit_is most_deck most_cards s.deck (omega arith),
      limit_is most_span most_days s.span (omega arith),
      le-ltb (zero_above most_deck s.deck) 0 (omega arith),
    )

entry-refused : (s : Settings) (r : Refusal) → entry_of s ≡ Err r
    → run_text s ≡ refused_line (number_of r) (second_of r)
unfolding run_text forecast_run run_with simulated_by answer_text
entry-refused s r e = rw (entry_is s, e)

-- ---- room

answer_fits : (span : ℕ) (a : Option Answer) (days : List (List ℕ)) (costs memorized : List Float) → span ≤ most_span
    → length (answer_text span a days costs memorized) ≤ room
unfolding answer_text
answer_fits span none days costs memorized h = omega arith
answer_fits span (some (Ok p)) days costs memorized h =
    omega (
      arith,
      length-append (forecast_line span p.turns p.cards) (day_lines days costs memorized 0 span),
      forecast-short span p.turns p.cards,
      days_short days costs memorized span 0,
    )
answer_fits span (some (Err x)) days costs memorized h =
    omega (arith, refused-short (number_of x.refusal) (second_of x.refusal))

verdict_fits : (v : Result Unit ReadError) (s : Settings) → length (verdict_text v s) ≤ room
unfolding verdict_text run_text config_of
verdict_fits (Err e) s = omega (arith, refused-short (Forms.number_of e) (Forms.second_of e))
verdict_fits (Ok u) s =
    let r = forecast_run s in
    answer_fits (zero_above most_span s.span) r.answer r.state.days r.state.costs r.state.memorized
    (zero_above-le most_span s.span _ refl)

text_fits : (text : List ℕ) → length (forecast_text text) ≤ room
unfolding forecast_text
text_fits text =
    let r = reading text default_settings in
    verdict_fits r.verdict r.settings

-- ---- the laws

pub run_laws : (s : Settings) → RunLaws s
run_laws s = record { entry_is = entry_is s; refused = entry-refused s }

pub text_laws : (text : List ℕ) → TextLaws text
text_laws text = record { fits = text_fits text }

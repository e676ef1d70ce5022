-- Texts at the head of a lent list that has room for them.
--   line-printed, refused-printed         a line is printed, and the line of a refusal
--   both-short, run-printed, never_full   the lines of a run: they fit, are printed, and the first always finds room
--   finished_text, refused_text           what is printed of a run that ends Ok, and of one refused
--   line_text, read_text                  what is printed of a text with a wrong line, and of one that is read
--   printed_is, no_room                   what is in the list: with room, and without
use mathlib.Core.Path.{◌≡◌, sym, ap, ◌∙◌}
use Prim.Native.Nat.{ℕ, ◌+◌, ◌≤◌, ◌<◌}
use native.Mathlib.Omega.{arith}
use mathlib.Core.Bool.{true, false}
use mathlib.Core.List.{List, ◌++◌}
use lib.ListN.{length, drop, length-append}
use lib.Seq.{sets, sets-eq, length-sets}
use lib.Dec.{leb}
use lib.Ieee.{Float}
use borrow.Author.Tests.{le-leb, lt-leb, leb-false}
use Rattle.std.specs.Prelude.{Option, Some, None, Ok, Err}
use Rattle.report.specs.Lines.{forecast_line, refused_line, placed, written}
use Rattle.report.specs.Rows.{day_lines, has_rows, span_placed, span_written}
use Rattle.report.proofs.WriteLaws.{sets_append, forecast-short, refused-short}
use Rattle.report.proofs.RowLaws.{placed_to, placed-full, written_sets, days_whole, days_short}
use Rattle.settings_text.specs.declared.Settings.{Settings}
use Rattle.settings_text.specs.declared.Reading.{Reading}
use Rattle.settings_text.specs.declared.ReadError.{ReadError}
use Rattle.settings_text.specs.Forms as Forms
use Rattle.settings_text.specs.Forms.{reading}
use Rattle.runs.specs.Simulate.{Answer}
use Rattle.runs.specs.declared.Refused.{Refused}
use Rattle.runs.specs.declared.Progress.{Progress}
use Rattle.entry.specs.Refusals.{number_of, second_of}
use Rattle.forecast_text.specs.Settings.{most_span, zero_above, default_settings, config_of}
use Rattle.forecast_text.specs.Forecast.{room, Printed, RunDays, forecast_run, answer_text, run_text, verdict_text}
use Rattle.forecast_text.specs.Forecast.{forecast_text, printed, left}

-- bytes stored from the first place on
sets_first : (out t : List ℕ) → length t ≤ length out → sets out 0 t ≡ t ++ drop (length t) out
sets_first out t h =
    let e : 0 + length t ≡ length t = omega arith in
    sets-eq t out 0 (omega arith) ∙ ap (λ (n : ℕ). t ++ drop n out) e

-- a line
pub line-printed : (out line : List ℕ) (r : Option ℕ) (after : List ℕ) → length line ≤ length out
    → r ≡ placed out 0 line → after ≡ written out 0 line → Printed out line r after
unfolding placed
line-printed out line r after h p w =
    let e : 0 + length line ≡ length line = omega arith in
    let b : leb (0 + length line) (length out) ≡ true = le-leb (0 + length line) (length out) (omega arith) in
    record {
      place = p ∙ (rw (b, e));
      bytes = w ∙ written_sets out line 0 (omega arith) ∙ sets_first out line h;
    }

pub refused-printed : (out : List ℕ) (number second : ℕ) (r : Option ℕ) (after : List ℕ) → room ≤ length out
    → r ≡ placed out 0 (refused_line number second) → after ≡ written out 0 (refused_line number second)
    → Printed out (refused_line number second) r after
refused-printed out number second r after h =
    line-printed out (refused_line number second) r after (omega (arith, refused-short number second))

-- the first line of a run and the lines of its days
module _ (out : List ℕ) (days : List (List ℕ)) (costs memorized : List Float) (span turns cards : ℕ)
    (enough : room ≤ length out) (short : span ≤ most_span)
    (d : span ≤ length days) (c : span ≤ length costs) (m : span ≤ length memorized) where
  abbrev line : List ℕ
  line = forecast_line span turns cards

  abbrev rows : List ℕ
  rows = day_lines days costs memorized 0 span

  pub both-short : length line + length rows ≤ length out
  both-short = omega (arith, forecast-short span turns cards, days_short days costs memorized span 0)

  has_rows_lem : has_rows days costs memorized span ≡ true
  unfolding has_rows
  has_rows_lem = rw (le-leb span (length days) d, le-leb span (length costs) c, le-leb span (length memorized) m)

  pub run-printed : (at : ℕ) (mid : List ℕ) (r : Option ℕ) (after : List ℕ)
      → placed out 0 line ≡ Some at → mid ≡ written out 0 line
      → r ≡ span_placed days costs memorized span mid at → after ≡ span_written days costs memorized span mid at
      → Printed out (line ++ rows) r after
  unfolding span_placed span_written
  run-printed at mid r after p w q x =
      let k : 0 + length line ≡ at = (placed_to out line 0 at p).1 in
      let s : mid ≡ sets out 0 line = w ∙ written_sets out line 0 (omega (arith, both-short)) in
      let n : length mid ≡ length out = ap length s ∙ length-sets out 0 line in
      let fits : at + length rows ≤ length mid = omega (arith, both-short, k, n) in
      let whole = days_whole days costs memorized span 0 at mid fits in
      let a : length (line ++ rows) ≡ length line + length rows = length-append line rows in
      let f : at + length rows ≡ length (line ++ rows) = omega (arith, a, k) in
      let g : sets (sets out 0 line) at rows ≡ sets out 0 (line ++ rows) =
      rw (sym k) (sym (sets_append out 0 line rows)) in
      record {
        place = q ∙ (rw has_rows_lem) ∙ whole.0 ∙ ap Some f;
        bytes = x ∙ (rw has_rows_lem) ∙ whole.1 ∙ written_sets mid rows at fits ∙ ap (λ (l : List ℕ). sets l at rows) s ∙ g
            ∙ sets_first out (line ++ rows) (omega (arith, both-short, a));
      }

  -- there is room for the first line
  pub never_full : placed out 0 line ≡ None → ⊥
  never_full e =
      let h : length out < 0 + length line = leb-false (0 + length line) (length out) (placed-full out line 0 e) in
      omega (arith, both-short)

-- ---- what is printed of a run

module _ (s : Settings) (a : Answer) (days : List (List ℕ)) (costs memorized : List Float)
    (run : RunDays (forecast_run s) a days costs memorized) where
  pub finished_text : (p : Progress) (span : ℕ) → a ≡ Ok p → span ≡ zero_above most_span s.span
      → run_text s ≡ forecast_line span p.turns p.cards ++ day_lines days costs memorized 0 span
  unfolding run_text answer_text config_of
  finished_text p span e f =
      rw (run.answer_is, e, sym run.days_are, sym run.costs_are, sym run.memorized_are, sym f)

  pub refused_text : (x : Refused) → a ≡ Err x
      → run_text s ≡ refused_line (number_of x.refusal) (second_of x.refusal)
  unfolding run_text answer_text
  refused_text x e = rw (run.answer_is, e)

-- ---- what is printed of a text

module _ (text : List ℕ) (base : Settings) (x : Reading) (b : base ≡ default_settings) (e : x ≡ reading text base) where
  pub line_text : (r : ReadError) → x.verdict ≡ Err r → forecast_text text ≡ refused_line (Forms.number_of r) (Forms.second_of r)
  unfolding forecast_text verdict_text
  line_text r v = rw (sym b, sym e, v)

  pub read_text : x.verdict ≡ Ok tt → forecast_text text ≡ run_text x.settings
  unfolding forecast_text verdict_text
  read_text v = rw (sym b, sym e, v)

-- ---- in a lent list

module _ (out t : List ℕ) where
  pub printed_is : (r : Option ℕ) (after : List ℕ) → room ≤ length out → Printed out t r after
      → (r ≡ printed out t) × (after ≡ left out t)
  unfolding printed left
  printed_is r after h p =
      let e : leb room (length out) ≡ true = le-leb room (length out) h in
      (rw e p.place, rw e p.bytes)

  pub no_room : length out < room → (None ≡ printed out t) × (out ≡ left out t)
  unfolding printed left
  no_room h =
      let e : leb room (length out) ≡ false = lt-leb room (length out) h in
      (rw e, rw e)

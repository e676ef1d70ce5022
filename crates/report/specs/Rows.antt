-- The rows of a run as lines, one a day. Definitions only.
--   Covers rows span            there is a row for each of the first `span` days
--   day_at l d                  the row of day d, for its line
--   day_lines l d k             the lines of k days from day d on
--   days_placed, days_written    these lines in a list, until one finds no room: where they end, and the list
--   span_placed, span_written    the lines of the first `span` days; none where a list of rows is shorter
use Rattle.std.specs.Prelude.{ℕ, zero, suc, ◌+◌, ◌≤◌, Bool, cond, ◌&&◌, List, [], ◌++◌, length, get_or, leb, Float}
use Rattle.std.specs.Float.{nan}
use Rattle.report.specs.declared.Day.{Day}
use Rattle.report.specs.declared.Rows.{Rows}
use Rattle.std.specs.Prelude.{Option, Some, None}
use Rattle.report.specs.Lines.{day_line, written}

abbrev pub Covers : Rows → ℕ → Type 0
Covers rows span =
    (span ≤ length rows.days.now) × ((span ≤ length rows.costs.now) × (span ≤ length rows.memorized.now))

-- the rows of a run: learned, reviewed, correct and introduced of each day, its cost, and what is held on it
module _ (days : List (List ℕ)) (costs memorized : List Float) where
  unfoldable pub day_at : ℕ → Day
  day_at d = record {
    day = d;
    learn = get_or (get_or days d []) 0 0;
    review = get_or (get_or days d []) 1 0;
    correct = get_or (get_or days d []) 2 0;
    introduced = get_or (get_or days d []) 3 0;
    cost = get_or costs d nan;
    held = get_or memorized d nan;
  }

  unfoldable pub day_lines : ℕ → ℕ → List ℕ
  day_lines d zero = []
  day_lines d (suc k) = day_line (day_at d) ++ day_lines (suc d) k

  unfoldable pub days_placed : ℕ → ℕ → List ℕ → ℕ → Option ℕ
  days_placed d zero out at = Some at
  days_placed d (suc k) out at =
      let line : List ℕ = day_line (day_at d) in
      cond (leb (at + length line) (length out)) (days_placed (suc d) k (written out at line) (at + length line)) None

  unfoldable pub days_written : ℕ → ℕ → List ℕ → ℕ → List ℕ
  days_written d zero out at = out
  days_written d (suc k) out at =
      let line : List ℕ = day_line (day_at d) in
      cond (leb (at + length line) (length out)) (days_written (suc d) k (written out at line) (at + length line)) out

  -- there is a row for each day of the span
  unfoldable pub has_rows : ℕ → Bool
  has_rows span = leb span (length days) && (leb span (length costs) && leb span (length memorized))

  unfoldable pub span_placed : ℕ → List ℕ → ℕ → Option ℕ
  span_placed span out at = cond (has_rows span) (days_placed 0 span out at) None

  unfoldable pub span_written : ℕ → List ℕ → ℕ → List ℕ
  span_written span out at = cond (has_rows span) (days_written 0 span out at) out

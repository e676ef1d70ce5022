-- The lines that are printed, and a line in a lent list. Definitions only.
--   forecast_line, day_line, refused_line, cheapest_line   the lines, each with its line feed
--   placed out at line, written out at line            a line in a list from a place on: where it ends, and the list
use Rattle.std.specs.Prelude.{ℕ, ◌+◌, cond, List, ◌++◌, length, take, drop, leb, Float, Option, Some, None}
use Rattle.std.specs.Float.{binary32}
use Rattle.std.specs.Float.Ieee.{to_bits}
use Rattle.settings_text.specs.Quoted.{bytes}
use Rattle.report.specs.declared.Day.{Day}
use Rattle.report.specs.Digits.{decimal, hex}

-- ---- lines

-- a label, what follows it, and the rest of the line
abbrev pub labelled : List ℕ → List ℕ → List ℕ → List ℕ
labelled label value rest = (label ++ value) ++ rest

-- W of a float; `to_bits` has one pattern for all NaNs, 7FC00000
abbrev pub word : Float → List ℕ
word x = hex (to_bits binary32 x)

-- span, turns and cards
unfoldable pub forecast_line : ℕ → ℕ → ℕ → List ℕ
forecast_line span turns cards =
    labelled (bytes "(forecast ") (decimal span)
    (labelled (bytes " (turns ") (decimal turns)
    (labelled (bytes ") (cards ") (decimal cards) (bytes "))\n")))

-- a day: cost and held as W, the rest decimal
unfoldable pub day_line : Day → List ℕ
day_line d =
    labelled (bytes "(day ") (decimal d.day)
    (labelled (bytes " (learn ") (decimal d.learn)
    (labelled (bytes ") (review ") (decimal d.review)
    (labelled (bytes ") (correct ") (decimal d.correct)
    (labelled (bytes ") (introduced ") (decimal d.introduced)
    (labelled (bytes ") (cost ") (word d.cost)
    (labelled (bytes ") (held ") (word d.held) (bytes "))\n")))))))

-- a refusal: its number and its second number
unfoldable pub refused_line : ℕ → ℕ → List ℕ
refused_line number second =
    labelled (bytes "(refused ") (decimal number) (labelled (bytes " ") (decimal second) (bytes ")\n"))

-- what a search found: the retention, the rounds that it took, and the mean cost there
unfoldable pub cheapest_line : Float → ℕ → Float → List ℕ
cheapest_line retention rounds mean =
    labelled (bytes "(cheapest ") (word retention)
    (labelled (bytes " (rounds ") (decimal rounds)
    (labelled (bytes ") (mean ") (word mean) (bytes "))\n")))

-- ---- a line in a lent list: whole, or not at all

unfoldable pub placed : List ℕ → ℕ → List ℕ → Option ℕ
placed out at line = cond (leb (at + length line) (length out)) (Some (at + length line)) None

unfoldable pub written : List ℕ → ℕ → List ℕ → List ℕ
written out at line =
    cond (leb (at + length line) (length out)) (take at out ++ line ++ drop (at + length line) out) out

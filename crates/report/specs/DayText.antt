-- The parts of a day's line, as a reader of it finds them.
use Rattle.settings_text.specs.Quoted.{bytes}
use Rattle.std.specs.Prelude.{ℕ, List, [], ◌∷◌, ◌++◌}
use Rattle.std.specs.Float.{binary32}
use Rattle.std.specs.Float.Ieee.{to_bits}
use Rattle.report.specs.declared.Day.{Day}
use Rattle.settings_text.specs.Text.{Part, opened, closed, word}
use Rattle.report.specs.Digits.{decimal, hex}

-- a number in brackets with its name before it
unfoldable pub bracketed : List ℕ → List ℕ → List Part → List Part
bracketed name value ps = opened ∷ word name ∷ word value ∷ closed ∷ ps

unfoldable pub day_parts : Day → List Part
day_parts d =
    opened ∷ word (bytes "day") ∷ word (decimal d.day)
    ∷ bracketed (bytes "learn") (decimal d.learn)
    (bracketed (bytes "review") (decimal d.review)
    (bracketed (bytes "correct") (decimal d.correct)
    (bracketed (bytes "introduced") (decimal d.introduced)
    (bracketed (bytes "cost") (hex (to_bits binary32 d.cost))
    (bracketed (bytes "held") (hex (to_bits binary32 d.held)) (closed ∷ []))))))

-- a day's line without its line feed
unfoldable pub day_text : Day → List ℕ
day_text d =
    (bytes "(day ") ++
    (decimal d.day ++
    ((bytes " (learn ") ++
    (decimal d.learn ++
    ((bytes ") (review ") ++
    (decimal d.review ++
    ((bytes ") (correct ") ++
    (decimal d.correct ++
    ((bytes ") (introduced ") ++
    (decimal d.introduced ++
    ((bytes ") (cost ") ++
    (hex (to_bits binary32 d.cost) ++
    ((bytes ") (held ") ++ (hex (to_bits binary32 d.held) ++ (41 ∷ 41 ∷ []))))))))))))))

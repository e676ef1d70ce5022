-- The parts of a day's line, label by label.
--   day-parts   the line has the day's numbers as words, each behind its label
use Rattle.settings_text.specs.Quoted.{bytes}
use mathlib.Core.Path.{◌≡◌, refl}
use Prim.Native.Nat.{ℕ}
use mathlib.Core.Bool.{false}
use mathlib.Core.List.{List, [], ◌∷◌, ◌++◌}
use lib.Ieee.{binary32, to_bits}
use Rattle.report.specs.declared.Day.{Day}
use Rattle.settings_text.specs.Text.{opened, closed, word, blank, letter, parts, longer, in_word}
use Rattle.report.specs.Digits.{decimal, hex}
use Rattle.report.specs.DayText.{bracketed, day_parts, day_text}
use Rattle.report.proofs.TextLaws.{decimal-word, hex-word, word_then}

-- ---- labels

label_day : (t : List ℕ) → parts ((bytes "(day ") ++ t) ≡ opened ∷ word (bytes "day") ∷ parts t
unfolding parts blank letter in_word longer
label_day t = refl

label_learn : (t : List ℕ) → parts ((bytes " (learn ") ++ t) ≡ opened ∷ word (bytes "learn") ∷ parts t
unfolding parts blank letter in_word longer
label_learn t = refl

label_review : (t : List ℕ) → parts ((bytes ") (review ") ++ t) ≡ closed ∷ opened ∷ word (bytes "review") ∷ parts t
unfolding parts blank letter in_word longer
label_review t = refl

label_correct : (t : List ℕ) → parts ((bytes ") (correct ") ++ t) ≡ closed ∷ opened ∷ word (bytes "correct") ∷ parts t
unfolding parts blank letter in_word longer
label_correct t = refl

label_introduced : (t : List ℕ) → parts ((bytes ") (introduced ") ++ t)
    ≡ closed ∷ opened ∷ word (bytes "introduced") ∷ parts t
unfolding parts blank letter in_word longer
label_introduced t = refl

label_cost : (t : List ℕ) → parts ((bytes ") (cost ") ++ t) ≡ closed ∷ opened ∷ word (bytes "cost") ∷ parts t
unfolding parts blank letter in_word longer
label_cost t = refl

label_held : (t : List ℕ) → parts ((bytes ") (held ") ++ t) ≡ closed ∷ opened ∷ word (bytes "held") ∷ parts t
unfolding parts blank letter in_word longer
label_held t = refl

closing : parts (41 ∷ 41 ∷ []) ≡ closed ∷ closed ∷ []
unfolding parts blank
closing = refl

stops_day : (d : Day)
    → in_word ((bytes " (learn ") ++
    (decimal d.learn ++
    ((bytes ") (review ") ++
    (decimal d.review ++
    ((bytes ") (correct ") ++
    (decimal d.correct ++
    ((bytes ") (introduced ") ++
    (decimal d.introduced ++
    ((bytes ") (cost ") ++
    (hex (to_bits binary32 d.cost) ++
    ((bytes ") (held ") ++ (hex (to_bits binary32 d.held) ++ (41 ∷ 41 ∷ []))))))))))))) ≡ false
unfolding in_word letter blank
stops_day d = refl

stops_learn : (d : Day)
    → in_word ((bytes ") (review ") ++
    (decimal d.review ++
    ((bytes ") (correct ") ++
    (decimal d.correct ++
    ((bytes ") (introduced ") ++
    (decimal d.introduced ++
    ((bytes ") (cost ") ++
    (hex (to_bits binary32 d.cost) ++
    ((bytes ") (held ") ++ (hex (to_bits binary32 d.held) ++ (41 ∷ 41 ∷ []))))))))))) ≡ false
unfolding in_word letter blank
stops_learn d = refl

stops_review : (d : Day)
    → in_word ((bytes ") (correct ") ++
    (decimal d.correct ++
    ((bytes ") (introduced ") ++
    (decimal d.introduced ++
    ((bytes ") (cost ") ++
    (hex (to_bits binary32 d.cost) ++
    ((bytes ") (held ") ++ (hex (to_bits binary32 d.held) ++ (41 ∷ 41 ∷ []))))))))) ≡ false
unfolding in_word letter blank
stops_review d = refl

stops_correct : (d : Day)
    → in_word ((bytes ") (introduced ") ++
    (decimal d.introduced ++
    ((bytes ") (cost ") ++
    (hex (to_bits binary32 d.cost) ++ ((bytes ") (held ") ++ (hex (to_bits binary32 d.held) ++ (41 ∷ 41 ∷ [])))))))
    ≡ false
unfolding in_word letter blank
stops_correct d = refl

stops_introduced : (d : Day)
    → in_word ((bytes ") (cost ") ++
    (hex (to_bits binary32 d.cost) ++ ((bytes ") (held ") ++ (hex (to_bits binary32 d.held) ++ (41 ∷ 41 ∷ [])))))
    ≡ false
unfolding in_word letter blank
stops_introduced d = refl

stops_cost : (d : Day) → in_word ((bytes ") (held ") ++ (hex (to_bits binary32 d.held) ++ (41 ∷ 41 ∷ []))) ≡ false
unfolding in_word letter blank
stops_cost d = refl

stops_held : (d : Day) → in_word (41 ∷ 41 ∷ []) ≡ false
unfolding in_word letter blank
stops_held d = refl

-- ---- the parts

pub day-parts : (d : Day) → parts (day_text d) ≡ day_parts d
unfolding day_text day_parts bracketed
day-parts d =
    rw (
      label_day
          (decimal d.day ++
          ((bytes " (learn ") ++
          (decimal d.learn ++
          ((bytes ") (review ") ++
          (decimal d.review ++
          ((bytes ") (correct ") ++
          (decimal d.correct ++
          ((bytes ") (introduced ") ++
          (decimal d.introduced ++
          ((bytes ") (cost ") ++
          (hex (to_bits binary32 d.cost) ++
          ((bytes ") (held ") ++ (hex (to_bits binary32 d.held) ++ (41 ∷ 41 ∷ [])))))))))))))),
      word_then
          (decimal d.day)
          ((bytes " (learn ") ++
          (decimal d.learn ++
          ((bytes ") (review ") ++
          (decimal d.review ++
          ((bytes ") (correct ") ++
          (decimal d.correct ++
          ((bytes ") (introduced ") ++
          (decimal d.introduced ++
          ((bytes ") (cost ") ++
          (hex (to_bits binary32 d.cost) ++
          ((bytes ") (held ") ++ (hex (to_bits binary32 d.held) ++ (41 ∷ 41 ∷ []))))))))))))) (decimal-word d.day)
          (stops_day d),
      label_learn
          (decimal d.learn ++
          ((bytes ") (review ") ++
          (decimal d.review ++
          ((bytes ") (correct ") ++
          (decimal d.correct ++
          ((bytes ") (introduced ") ++
          (decimal d.introduced ++
          ((bytes ") (cost ") ++
          (hex (to_bits binary32 d.cost) ++
          ((bytes ") (held ") ++ (hex (to_bits binary32 d.held) ++ (41 ∷ 41 ∷ [])))))))))))),
      word_then
          (decimal d.learn)
          ((bytes ") (review ") ++
          (decimal d.review ++
          ((bytes ") (correct ") ++
          (decimal d.correct ++
          ((bytes ") (introduced ") ++
          (decimal d.introduced ++
          ((bytes ") (cost ") ++
          (hex (to_bits binary32 d.cost) ++
          ((bytes ") (held ") ++ (hex (to_bits binary32 d.held) ++ (41 ∷ 41 ∷ []))))))))))) (decimal-word d.learn)
          (stops_learn d),
      label_review
          (decimal d.review ++
          ((bytes ") (correct ") ++
          (decimal d.correct ++
          ((bytes ") (introduced ") ++
          (decimal d.introduced ++
          ((bytes ") (cost ") ++
          (hex (to_bits binary32 d.cost) ++
          ((bytes ") (held ") ++ (hex (to_bits binary32 d.held) ++ (41 ∷ 41 ∷ [])))))))))),
      word_then
          (decimal d.review)
          ((bytes ") (correct ") ++
          (decimal d.correct ++
          ((bytes ") (introduced ") ++
          (decimal d.introduced ++
          ((bytes ") (cost ") ++
          (hex (to_bits binary32 d.cost) ++
          ((bytes ") (held ") ++ (hex (to_bits binary32 d.held) ++ (41 ∷ 41 ∷ []))))))))) (decimal-word d.review)
          (stops_review d),
      label_correct
          (decimal d.correct ++
          ((bytes ") (introduced ") ++
          (decimal d.introduced ++
          ((bytes ") (cost ") ++
          (hex (to_bits binary32 d.cost) ++
          ((bytes ") (held ") ++ (hex (to_bits binary32 d.held) ++ (41 ∷ 41 ∷ [])))))))),
      word_then
          (decimal d.correct)
          ((bytes ") (introduced ") ++
          (decimal d.introduced ++
          ((bytes ") (cost ") ++
          (hex (to_bits binary32 d.cost) ++
          ((bytes ") (held ") ++ (hex (to_bits binary32 d.held) ++ (41 ∷ 41 ∷ []))))))) (decimal-word d.correct)
          (stops_correct d),
      label_introduced
          (decimal d.introduced ++
          ((bytes ") (cost ") ++
          (hex (to_bits binary32 d.cost) ++
          ((bytes ") (held ") ++ (hex (to_bits binary32 d.held) ++ (41 ∷ 41 ∷ [])))))),
      word_then
          (decimal d.introduced)
          ((bytes ") (cost ") ++
          (hex (to_bits binary32 d.cost) ++
          ((bytes ") (held ") ++ (hex (to_bits binary32 d.held) ++ (41 ∷ 41 ∷ []))))) (decimal-word d.introduced)
          (stops_introduced d),
      label_cost
          (hex (to_bits binary32 d.cost) ++
          ((bytes ") (held ") ++ (hex (to_bits binary32 d.held) ++ (41 ∷ 41 ∷ [])))),
      word_then
          (hex (to_bits binary32 d.cost)) ((bytes ") (held ") ++ (hex (to_bits binary32 d.held) ++ (41 ∷ 41 ∷ [])))
          (hex-word (to_bits binary32 d.cost)) (stops_cost d),
      label_held
          (hex (to_bits binary32 d.held) ++ (41 ∷ 41 ∷ [])),
      word_then (hex (to_bits binary32 d.held)) (41 ∷ 41 ∷ [])
          (hex-word (to_bits binary32 d.held)) (stops_held d),
      closing,
    )

-- What is written for a day reads back: its line has the day's numbers as words, which say the numbers.
--   day-lines           what is written is one line
--   DayBack, day_back   one line, whose parts are the day's, and each number reads back
use Rattle.settings_text.specs.Quoted.{bytes}
use mathlib.Core.Path.{◌≡◌, refl}
use Prim.Native.Nat.{◌<◌}
use mathlib.Core.Bool.{true}
use mathlib.Core.List.{[], ◌∷◌, ◌++◌, append_assoc}
use lib.Dec.{T}
use lib.Ieee.{binary32, to_bits, of_bits, fits}
use lib.Ieee.Bits.{to_bits-lt, of_bits-to_bits}
use Rattle.std.specs.Prelude.{Some}
use Rattle.report.specs.declared.Day.{Day}
use Rattle.settings_text.specs.Text.{in_line, parts, lines}
use Rattle.settings_text.specs.Numbers.{number32, bits}
use Rattle.report.specs.Digits.{decimal, hex}
use Rattle.report.specs.Lines.{day_line}
use Rattle.report.specs.DayText.{day_parts, day_text}
use Rattle.report.proofs.DigitLaws.{number32_back, bits_back}
use Rattle.report.proofs.TextLaws.{decimal-word, hex-word, no_feed, no_feed-append, solid-no_feed, line_then}
use Rattle.report.proofs.TextLaws.{none_left}
use Rattle.report.proofs.PartLaws.{day-parts}

-- ---- the line

day_line_is : (d : Day) → day_line d ≡ day_text d ++ (10 ∷ [])
unfolding day_line day_text
day_line_is d = simp append_assoc

end-no_feed : no_feed (41 ∷ 41 ∷ []) ≡ true
unfolding no_feed in_line
end-no_feed = refl

no_feed-day : no_feed (bytes "(day ") ≡ true
unfolding no_feed in_line
no_feed-day = refl

no_feed_learn : no_feed (bytes " (learn ") ≡ true
unfolding no_feed in_line
no_feed_learn = refl

no_feed-review : no_feed (bytes ") (review ") ≡ true
unfolding no_feed in_line
no_feed-review = refl

no_feed_correct : no_feed (bytes ") (correct ") ≡ true
unfolding no_feed in_line
no_feed_correct = refl

no_feed_introduced : no_feed (bytes ") (introduced ") ≡ true
unfolding no_feed in_line
no_feed_introduced = refl

no_feed_cost : no_feed (bytes ") (cost ") ≡ true
unfolding no_feed in_line
no_feed_cost = refl

no_feed_held : no_feed (bytes ") (held ") ≡ true
unfolding no_feed in_line
no_feed_held = refl

day-no_feed : (d : Day) → no_feed (day_text d) ≡ true
unfolding day_text
day-no_feed d = no_feed-append (bytes "(day ")
    (decimal d.day ++
    ((bytes " (learn ") ++
    (decimal d.learn ++
    ((bytes ") (review ") ++
    (decimal d.review ++
    ((bytes ") (correct ") ++
    (decimal d.correct ++
    ((bytes ") (introduced ") ++
    (decimal d.introduced ++
    ((bytes ") (cost ") ++
    (hex (to_bits binary32 d.cost) ++
    ((bytes ") (held ") ++ (hex (to_bits binary32 d.held) ++ (41 ∷ 41 ∷ [])))))))))))))) no_feed-day
    (no_feed-append (decimal d.day)
    ((bytes " (learn ") ++
    (decimal d.learn ++
    ((bytes ") (review ") ++
    (decimal d.review ++
    ((bytes ") (correct ") ++
    (decimal d.correct ++
    ((bytes ") (introduced ") ++
    (decimal d.introduced ++
    ((bytes ") (cost ") ++
    (hex (to_bits binary32 d.cost) ++
    ((bytes ") (held ") ++ (hex (to_bits binary32 d.held) ++ (41 ∷ 41 ∷ [])))))))))))))
    (solid-no_feed (decimal d.day) (decimal-word d.day).whole)
    (no_feed-append (bytes " (learn ")
    (decimal d.learn ++
    ((bytes ") (review ") ++
    (decimal d.review ++
    ((bytes ") (correct ") ++
    (decimal d.correct ++
    ((bytes ") (introduced ") ++
    (decimal d.introduced ++
    ((bytes ") (cost ") ++
    (hex (to_bits binary32 d.cost) ++
    ((bytes ") (held ") ++ (hex (to_bits binary32 d.held) ++ (41 ∷ 41 ∷ [])))))))))))) no_feed_learn
    (no_feed-append (decimal d.learn)
    ((bytes ") (review ") ++
    (decimal d.review ++
    ((bytes ") (correct ") ++
    (decimal d.correct ++
    ((bytes ") (introduced ") ++
    (decimal d.introduced ++
    ((bytes ") (cost ") ++
    (hex (to_bits binary32 d.cost) ++
    ((bytes ") (held ") ++ (hex (to_bits binary32 d.held) ++ (41 ∷ 41 ∷ [])))))))))))
    (solid-no_feed (decimal d.learn) (decimal-word d.learn).whole)
    (no_feed-append (bytes ") (review ")
    (decimal d.review ++
    ((bytes ") (correct ") ++
    (decimal d.correct ++
    ((bytes ") (introduced ") ++
    (decimal d.introduced ++
    ((bytes ") (cost ") ++
    (hex (to_bits binary32 d.cost) ++
    ((bytes ") (held ") ++ (hex (to_bits binary32 d.held) ++ (41 ∷ 41 ∷ [])))))))))) no_feed-review
    (no_feed-append (decimal d.review)
    ((bytes ") (correct ") ++
    (decimal d.correct ++
    ((bytes ") (introduced ") ++
    (decimal d.introduced ++
    ((bytes ") (cost ") ++
    (hex (to_bits binary32 d.cost) ++
    ((bytes ") (held ") ++ (hex (to_bits binary32 d.held) ++ (41 ∷ 41 ∷ [])))))))))
    (solid-no_feed (decimal d.review) (decimal-word d.review).whole)
    (no_feed-append (bytes ") (correct ")
    (decimal d.correct ++
    ((bytes ") (introduced ") ++
    (decimal d.introduced ++
    ((bytes ") (cost ") ++
    (hex (to_bits binary32 d.cost) ++
    ((bytes ") (held ") ++ (hex (to_bits binary32 d.held) ++ (41 ∷ 41 ∷ [])))))))) no_feed_correct
    (no_feed-append (decimal d.correct)
    ((bytes ") (introduced ") ++
    (decimal d.introduced ++
    ((bytes ") (cost ") ++
    (hex (to_bits binary32 d.cost) ++ ((bytes ") (held ") ++ (hex (to_bits binary32 d.held) ++ (41 ∷ 41 ∷ [])))))))
    (solid-no_feed (decimal d.correct) (decimal-word d.correct).whole)
    (no_feed-append (bytes ") (introduced ")
    (decimal d.introduced ++
    ((bytes ") (cost ") ++
    (hex (to_bits binary32 d.cost) ++ ((bytes ") (held ") ++ (hex (to_bits binary32 d.held) ++ (41 ∷ 41 ∷ []))))))
    no_feed_introduced
    (no_feed-append (decimal d.introduced)
    ((bytes ") (cost ") ++
    (hex (to_bits binary32 d.cost) ++ ((bytes ") (held ") ++ (hex (to_bits binary32 d.held) ++ (41 ∷ 41 ∷ [])))))
    (solid-no_feed (decimal d.introduced) (decimal-word d.introduced).whole)
    (no_feed-append (bytes ") (cost ")
    (hex (to_bits binary32 d.cost) ++ ((bytes ") (held ") ++ (hex (to_bits binary32 d.held) ++ (41 ∷ 41 ∷ []))))
    no_feed_cost
    (no_feed-append (hex (to_bits binary32 d.cost))
    ((bytes ") (held ") ++ (hex (to_bits binary32 d.held) ++ (41 ∷ 41 ∷ [])))
    (solid-no_feed (hex (to_bits binary32 d.cost)) (hex-word (to_bits binary32 d.cost)).whole)
    (no_feed-append (bytes ") (held ") (hex (to_bits binary32 d.held) ++ (41 ∷ 41 ∷ [])) no_feed_held
    (no_feed-append (hex (to_bits binary32 d.held)) (41 ∷ 41 ∷ [])
    (solid-no_feed (hex (to_bits binary32 d.held)) (hex-word (to_bits binary32 d.held)).whole)
    (end-no_feed))))))))))))))

pub day-lines : (d : Day) → lines (day_line d) ≡ day_text d ∷ [] ∷ []
day-lines d = rw (day_line_is d, line_then (day_text d) [] (day-no_feed d), none_left)

-- one line, whose parts are the day's
pub record DayBack (d : Day) : Type 0 where
  pub lined : lines (day_line d) ≡ day_text d ∷ [] ∷ []
  pub found : parts (day_text d) ≡ day_parts d
  pub day : d.day < 4294967296 → number32 (decimal d.day) ≡ Some d.day
  pub learn : d.learn < 4294967296 → number32 (decimal d.learn) ≡ Some d.learn
  pub review : d.review < 4294967296 → number32 (decimal d.review) ≡ Some d.review
  pub correct : d.correct < 4294967296 → number32 (decimal d.correct) ≡ Some d.correct
  pub introduced : d.introduced < 4294967296 → number32 (decimal d.introduced) ≡ Some d.introduced
  pub cost : T (fits binary32 d.cost) → bits (hex (to_bits binary32 d.cost)) ≡ Some (to_bits binary32 d.cost)
  pub cost_is : T (fits binary32 d.cost) → of_bits binary32 (to_bits binary32 d.cost) ≡ d.cost
  pub held : T (fits binary32 d.held) → bits (hex (to_bits binary32 d.held)) ≡ Some (to_bits binary32 d.held)
  pub held_is : T (fits binary32 d.held) → of_bits binary32 (to_bits binary32 d.held) ≡ d.held

pub day_back : (d : Day) → DayBack d
day_back d = record {
  lined = day-lines d;
  found = day-parts d;
  day = number32_back d.day;
  learn = number32_back d.learn;
  review = number32_back d.review;
  correct = number32_back d.correct;
  introduced = number32_back d.introduced;
  cost = λ f. bits_back (to_bits binary32 d.cost) (to_bits-lt binary32 d.cost f);
  cost_is = λ f. of_bits-to_bits binary32 d.cost f;
  held = λ f. bits_back (to_bits binary32 d.held) (to_bits-lt binary32 d.held f);
  held_is = λ f. of_bits-to_bits binary32 d.held f;
}

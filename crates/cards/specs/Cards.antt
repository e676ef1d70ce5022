-- A card by value, and as a row of six floats and a row of two counts in the lent lists. Definitions only.
--   card_of floats counts                            the card of two rows
--   no_floats, no_counts                              what is read past a list's end
--   card_at cards counts c                           the card at a place of the lists
--   floats_of k, counts_of k                          the two rows of a card
--   write_floats cards c k, write_counts counts c k   the lists with a card at a place
--   kept_above, is_kept k                             whether an existing card is kept at set-up
--   farthest, most_lapses                            the farthest date and the most lapses of a kept card
--   date_ok x, history_ok k, card_ok k                 the tests of refusal 5: a date, a last date, the card
use Rattle.std.specs.Prelude.{ℕ, Bool, false, ◌&&◌, ◌||◌, List, [], ◌∷◌, leb, get_or, set, Float}
use Rattle.std.specs.Float.{nan, binary32}
use Rattle.std.specs.Float.Ieee.{round, neg, lt, le}
use Rattle.float32.specs.Float32.{is_finite}
use Rattle.cards.specs.declared.card.Card.{Card}
use Rattle.cards.specs.Day.{is_new}

-- the card of a row of floats and a row of counts
abbrev pub card_of : List Float → List ℕ → Card
card_of floats counts = record {
  difficulty = get_or floats 0 nan;
  stability = get_or floats 1 nan;
  last_date = get_or floats 2 nan;
  due = get_or floats 3 nan;
  interval = get_or floats 4 nan;
  desired_retention = get_or floats 5 nan;
  reps = get_or counts 0 0;
  lapses = get_or counts 1 0;
}

-- what is read past a list's end
abbrev pub no_floats : List Float
no_floats = nan ∷ nan ∷ nan ∷ nan ∷ nan ∷ nan ∷ []

abbrev pub no_counts : List ℕ
no_counts = 0 ∷ 0 ∷ []

-- the card at place c
unfoldable pub card_at : List (List Float) → List (List ℕ) → ℕ → Card
card_at cards counts c = card_of (get_or cards c no_floats) (get_or counts c no_counts)

abbrev pub floats_of : Card → List Float
floats_of k = k.difficulty ∷ k.stability ∷ k.last_date ∷ k.due ∷ k.interval ∷ k.desired_retention ∷ []

abbrev pub counts_of : Card → List ℕ
counts_of k = k.reps ∷ k.lapses ∷ []

-- the lists with card k at place c
unfoldable pub write_floats : List (List Float) → ℕ → Card → List (List Float)
write_floats cards c k = set cards c (floats_of k)

unfoldable pub write_counts : List (List ℕ) → ℕ → Card → List (List ℕ)
write_counts counts c k = set counts c (counts_of k)

-- 1e-9
abbrev pub kept_above : Float
kept_above = round binary32 false 1 1000000000

-- an existing card is kept only if its stability is above 1e-9; a NaN is not
unfoldable pub is_kept : Card → Bool
is_kept k = lt kept_above k.stability

-- 16,777,216, up to which an f32 holds every whole number of days
abbrev pub farthest : Float
farthest = round binary32 false 16777216 1

abbrev pub most_lapses : ℕ
most_lapses = 4000000000

-- a date within ±16,777,216; a NaN is not
abbrev pub date_ok : Float → Bool
date_ok x = le (neg farthest) x && le x farthest

-- a last date is minus infinity, or a date with a difficulty
abbrev pub history_ok : Card → Bool
history_ok k = is_new k.last_date || (date_ok k.last_date && is_finite k.difficulty)

-- refusal 5 turns away a kept card that is not so
unfoldable pub card_ok : Card → Bool
card_ok k = is_finite k.stability &&
    (is_finite k.desired_retention && (date_ok k.due && (history_ok k && leb k.lapses most_lapses)))

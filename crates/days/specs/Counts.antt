-- A day's row of counts: learned, reviewed, correct, introduced. Definitions only.
--   saturating_suc n                                    one more, kept within a u32
--   learned_at, reviewed_at, correct_at, introduced_at     a count of day d
--   day_row learned reviewed correct introduced         the four as a row
--   add_one rows column d                               one more in a column of a day
--   add_learn rows d, add_review rows d recalled         one learning or review more on a day
--   add_introduced rows d, add_introduced_from rows m d   one introduced more on a day, and on m days from it on
--   add_event span rows new d recalled                  all counts after an event
use Rattle.std.specs.Prelude.{ℕ, zero, suc, ◌+◌, ◌-◌, Bool, cond, List, [], ◌∷◌, ltb, get_or, set}

-- one more in a u32; a law of the run says that no count comes to the top
unfoldable pub saturating_suc : ℕ → ℕ
saturating_suc n = cond (ltb n 4294967295) (n + 1) n

abbrev pub learned_at : List (List ℕ) → ℕ → ℕ
learned_at rows d = get_or (get_or rows d []) 0 0

abbrev pub reviewed_at : List (List ℕ) → ℕ → ℕ
reviewed_at rows d = get_or (get_or rows d []) 1 0

abbrev pub correct_at : List (List ℕ) → ℕ → ℕ
correct_at rows d = get_or (get_or rows d []) 2 0

abbrev pub introduced_at : List (List ℕ) → ℕ → ℕ
introduced_at rows d = get_or (get_or rows d []) 3 0

abbrev pub day_row : ℕ → ℕ → ℕ → ℕ → List ℕ
day_row learned reviewed correct introduced = learned ∷ reviewed ∷ correct ∷ introduced ∷ []

-- one more in a column of day d
unfoldable pub add_one : List (List ℕ) → ℕ → ℕ → List (List ℕ)
add_one rows column d =
    let row = get_or rows d [] in
    set rows d (set row column (saturating_suc (get_or row column 0)))

-- one more learning on day d
unfoldable pub add_learn : List (List ℕ) → ℕ → List (List ℕ)
add_learn rows d = set rows d
    (day_row (saturating_suc (learned_at rows d)) (reviewed_at rows d) (correct_at rows d) (introduced_at rows d))

-- one more review on day d, and where it was recalled one more correct
unfoldable pub add_review : List (List ℕ) → ℕ → Bool → List (List ℕ)
add_review rows d recalled =
    set rows d (day_row (learned_at rows d) (saturating_suc (reviewed_at rows d))
    (cond recalled (saturating_suc (correct_at rows d)) (correct_at rows d)) (introduced_at rows d))

-- one more introduced on day d
unfoldable pub add_introduced : List (List ℕ) → ℕ → List (List ℕ)
add_introduced rows d = set rows d
    (day_row (learned_at rows d) (reviewed_at rows d) (correct_at rows d) (saturating_suc (introduced_at rows d)))

-- and on m days from day d on
unfoldable pub add_introduced_from : List (List ℕ) → ℕ → ℕ → List (List ℕ)
add_introduced_from rows zero d = rows
add_introduced_from rows (suc m) d = add_introduced_from (add_introduced rows d) m (d + 1)

-- an event on day d: a learning counts as introduced on its day and on every later one
unfoldable pub add_event : ℕ → List (List ℕ) → Bool → ℕ → Bool → List (List ℕ)
add_event span rows new d recalled = cond new (add_introduced_from (add_learn rows d) (span - d) d)
    (add_review rows d recalled)

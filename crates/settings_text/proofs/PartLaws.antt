-- The parts of a line from a place on, by the part that the reader finds there; and the lines of a text.
use mathlib.Core.Path.{◌≡◌, refl, ◌∙◌}
use Prim.Native.Nat.{ℕ, suc, ◌+◌, ◌-◌, ◌≤◌, ◌<◌}
use native.Mathlib.Omega.{arith}
use native.Mathlib.Numerals.{add-one}
use mathlib.Core.Bool.{Bool, true, false, cond, not, ◌||◌}
use mathlib.Core.List.{List, [], ◌∷◌}
use lib.ListN.{length, drop, take, get_or, drop_of_length-le, length-drop}
use lib.Seq.{drop-cons, drop-drop}
use lib.Dec.{eqb, leb}
use borrow.Author.Tests.{leb-true, leb-false, le-leb}
use Rattle.std.specs.Prelude.{nat_eq}
use Rattle.std.specs.List.{slice_split, onto_first}
use Rattle.settings_text.specs.declared.Token.TheVariants.{Opened, Closed, Word, End}
use Rattle.settings_text.specs.Text.{opened, closed, word, blank, letter, in_line, leading, first_not, parts, longer}
use Rattle.settings_text.specs.Text.{in_word, lines, onto}
use Rattle.settings_text.specs.Places.{token_at, part_at, part_of, parts_from}
use Rattle.settings_text.proofs.Scan.{leading_le, stops}

-- blanks before a part do not matter
skipped : (s : List ℕ) → parts s ≡ parts (drop (leading blank s) s)
unfolding parts leading
skipped [] = refl
skipped (b ∷ s) = go (blank b) refl (skipped s)
  where
    go : (t : Bool) → blank b ≡ t → parts s ≡ parts (drop (leading blank s) s) → parts (b ∷ s)
        ≡ parts (drop (cond (blank b) (suc (leading blank s)) 0) (b ∷ s))
    go true e ih = rw e ih
    go false e ih = rw (e, e)

-- a byte that is no blank and no bracket is of a word
is_letter : (b : ℕ) → blank b ≡ false → eqb b 40 ≡ false → eqb b 41 ≡ false → letter b ≡ true
unfolding letter
is_letter b x y z = rw (x, y, z)

-- a byte of a word before a line
starts : (b : ℕ) (s : List ℕ) → letter b ≡ true → parts (b ∷ s) ≡ longer (in_word s) b (parts s)
unfolding parts letter
starts b s h = go (blank b) (eqb b 40) (eqb b 41) h
  where
    go : (x y z : Bool) → not (x || (y || z)) ≡ true
        → cond x (parts s) (cond y (opened ∷ parts s) (cond z (closed ∷ parts s) (longer (in_word s) b (parts s))))
        ≡ longer (in_word s) b (parts s)
    go true y z h = absurd (let k : ◌≡◌ {A = ℕ} 0 1 = cc in omega arith)
    go false true z h = absurd (let k : ◌≡◌ {A = ℕ} 0 1 = cc in omega arith)
    go false false true h = absurd (let k : ◌≡◌ {A = ℕ} 0 1 = cc in omega arith)
    go false false false h = refl

-- a run of bytes of a word is one word
pub run : (b : ℕ) (s : List ℕ) → letter b ≡ true → parts (b ∷ s) ≡ word (b ∷ take (leading letter s) s) ∷ parts
    (drop (leading letter s) s)
unfolding leading longer in_word
run b [] h = rw (starts b [] h) nil
  where
    nil : longer (in_word []) b (parts []) ≡ word (b ∷ []) ∷ parts []
    nil = refl
run b (c ∷ s) h = go (letter c) refl (run c s)
  where
    go : (t : Bool) → letter c ≡ t
        → (letter c ≡ true → parts (c ∷ s) ≡ word (c ∷ take (leading letter s) s) ∷ parts (drop (leading letter s) s))
        → parts (b ∷ c ∷ s) ≡ word (b ∷ take (cond (letter c) (suc (leading letter s)) 0) (c ∷ s)) ∷ parts
        (drop (cond (letter c) (suc (leading letter s)) 0) (c ∷ s))
    go true e ih = rw (starts b (c ∷ s) h, e, ih e)
    go false e ih = rw (starts b (c ∷ s) h, e)

found_none : (s : List ℕ) (j : ℕ) → length s ≤ j → parts (drop j s) ≡ parts_from s End
unfolding parts parts_from
found_none s j h = rw (drop_of_length-le s h)

found_opened : (s : List ℕ) (j : ℕ) → j < length s → blank (get_or s j 0) ≡ false → eqb (get_or s j 0) 40 ≡ true
    → parts (drop j s) ≡ parts_from s (Opened (j + 1))
unfolding parts parts_from
found_opened s j h nb e = rw (add-one j, drop-cons s j 0 h, nb, e)

found_closed : (s : List ℕ) (j : ℕ) → j < length s → blank (get_or s j 0) ≡ false → eqb (get_or s j 0) 40 ≡ false
    → eqb (get_or s j 0) 41 ≡ true → parts (drop j s) ≡ parts_from s (Closed (j + 1))
unfolding parts parts_from
found_closed s j h nb e f = rw (add-one j, drop-cons s j 0 h, nb, e, f)

-- the word from j on, by its places
word_at : (s : List ℕ) (j : ℕ) → j < length s → letter (get_or s j 0) ≡ true → first_not letter s j
    ≡ suc j + leading letter (drop (suc j) s)
unfolding first_not leading
word_at s j h e = rw (drop-cons s j 0 h, e) (omega arith)

part_word : (s : List ℕ) (j k : ℕ) → j < length s → suc j + k ≤ length s → part_of s j (suc j + k)
    ≡ get_or s j 0 ∷ take k (drop (suc j) s)
unfolding part_of
part_word s j k h f =
    let e : suc j + k - j ≡ suc k = omega arith in
    rw (le-leb j (suc j + k) (omega arith), le-leb (suc j + k) (length s) f, e, drop-cons s j 0 h)

found_word : (s : List ℕ) (j : ℕ) → j < length s → letter (get_or s j 0) ≡ true → parts (drop j s)
    ≡ parts_from s (Word j (first_not letter s j))
unfolding parts_from
found_word s j h e =
    let t : List ℕ = drop (suc j) s in
    let k : ℕ = leading letter t in
    let f : suc j + k ≤ length s = omega (arith, leading_le letter t, length-drop (suc j) s) in
    rw (word_at s j h e, part_word s j k h f, drop-cons s j 0 h, run (get_or s j 0) t e, drop-drop k (suc j) s)

found : (s : List ℕ) (j : ℕ) → j < length s → blank (get_or s j 0) ≡ false → (y z : Bool) → eqb (get_or s j 0) 40 ≡ y
    → eqb (get_or s j 0) 41 ≡ z
    → parts (drop j s) ≡ parts_from s (cond y (Opened (j + 1)) (cond z (Closed (j + 1)) (Word j (first_not letter s j))))
found s j h nb true z ey ez = found_opened s j h nb ey
found s j h nb false true ey ez = found_closed s j h nb ey ez
found s j h nb false false ey ez = found_word s j h (is_letter (get_or s j 0) nb ey ez)

-- the part at a place that is no blank
at_place : (s : List ℕ) (j : ℕ) → (j < length s → blank (get_or s j 0) ≡ false) → parts (drop j s)
    ≡ parts_from s (token_at s j)
unfolding token_at
at_place s j nb = go (leb (length s) j) refl
  where
    go : (x : Bool) → leb (length s) j ≡ x → parts (drop j s)
        ≡ parts_from s
        (cond x End
        (cond (eqb (get_or s j 0) 40) (Opened (j + 1))
        (cond (eqb (get_or s j 0) 41) (Closed (j + 1)) (Word j (first_not letter s j)))))
    go true e = found_none s j (leb-true (length s) j e)
    go false e =
        let h : j < length s = leb-false (length s) j e in
        found s j h (nb h) (eqb (get_or s j 0) 40) (eqb (get_or s j 0) 41) refl refl

first-place : (s : List ℕ) (i : ℕ) → parts (drop (leading blank (drop i s)) (drop i s))
    ≡ parts (drop (first_not blank s i) s)
unfolding first_not
first-place s i = rw (drop-drop (leading blank (drop i s)) i s)

-- what `part_at` finds is the first part from there on
pub parts_at : (s : List ℕ) (i : ℕ) → parts (drop i s) ≡ parts_from s (part_at s i)
unfolding part_at
parts_at s i = skipped (drop i s) ∙ first-place s i ∙ at_place s (first_not blank s i) (stops blank s i)

pub all_parts : (s : List ℕ) → parts s ≡ parts_from s (part_at s 0)
all_parts s = parts_at s 0

-- ---- lines

-- a text's lines, as the parts where it is cut at its line feeds
pub lines-cut : (s : List ℕ) → lines s ≡ slice_split (λ b. nat_eq b 10) s
unfolding lines in_line onto
lines-cut [] = refl
lines-cut (b ∷ s) = rw (lines-cut s) (go (nat_eq b 10) (slice_split (λ b. nat_eq b 10) s))
  where
    go : (t : Bool) (ls : List (List ℕ)) → cond (not t) (onto b ls) ([] ∷ ls) ≡ cond t ([] ∷ ls) (onto_first b ls)
    go true ls = refl
    go false [] = refl
    go false (l ∷ ls) = refl

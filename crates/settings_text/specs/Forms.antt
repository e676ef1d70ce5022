-- THE FORMS of a text and what they set, and the reading of a text (docs/RULES.md, P4 to P6). Definitions only.
--   name_of w, place_of n      the form's name that a word is, and its place among the names seen
--   alone, one f, all, several k   what stands behind a name up to the line's end: a word, the same as f reads it,
--                            the word all and a W, k Ws
--   takes n ps s             what the form n with those parts makes of the settings s: the table of the ten forms
--   form n ps s              the same, rejected where the name was seen before
--   line ps s                a line: blanks, or one form
--   reading text base        the settings that a text says, or refusal 11 with its line
--   number_of e, second_of e   the numbers of a text that is refused
use Rattle.settings_text.specs.Quoted.{bytes}
use Rattle.std.specs.Prelude.{ℕ, zero, suc, Bool, true, false, cond, List, [], ◌∷◌, length, get_or, set, replicate, ltb}
use Rattle.std.specs.Prelude.{Option, Some, None, option_map, option_and_then, bytes_eq}
use Rattle.std.specs.Prelude.{Ok, Err}
use Rattle.settings_text.specs.declared.Name.{Name}
use Rattle.settings_text.specs.declared.Name.TheVariants.{Parameters, Deck, Span, Seed, Learn, Review, Retention}
use Rattle.settings_text.specs.declared.Name.TheVariants.{Maxcost, First, Cost}
use Rattle.settings_text.specs.declared.Settings.{Settings}
use Rattle.settings_text.specs.declared.Reading.{Reading}
use Rattle.settings_text.specs.declared.ReadError.{ReadError}
use Rattle.settings_text.specs.declared.ReadError.TheVariants.{TooLong, Line}
use Rattle.settings_text.specs.With.{with_deck, with_span, with_seed, with_learn, with_review, with_retention, with_maxcost}
use Rattle.settings_text.specs.With.{with_first, with_cost, with_parameters, with_seen}
use Rattle.settings_text.specs.Text.{Part, opened, closed, word, parts, lines}
use Rattle.settings_text.specs.Numbers.{number64, number32, bits}

-- ---- names

unfoldable pub name_of : List ℕ → Option Name
name_of w =
    cond (bytes_eq w (bytes "parameters")) (Some Parameters)
    (cond (bytes_eq w (bytes "deck")) (Some Deck)
    (cond (bytes_eq w (bytes "span")) (Some Span)
    (cond (bytes_eq w (bytes "seed")) (Some Seed)
    (cond (bytes_eq w (bytes "learn")) (Some Learn)
    (cond (bytes_eq w (bytes "review")) (Some Review)
    (cond (bytes_eq w (bytes "retention")) (Some Retention)
    (cond (bytes_eq w (bytes "maxcost")) (Some Maxcost)
    (cond (bytes_eq w (bytes "first")) (Some First)
    (cond (bytes_eq w (bytes "cost")) (Some Cost) None)))))))))

-- a name's place among the names seen
unfoldable pub place_of : Name → ℕ
place_of Parameters = 0
place_of Deck = 1
place_of Span = 2
place_of Seed = 3
place_of Learn = 4
place_of Review = 5
place_of Retention = 6
place_of Maxcost = 7
place_of First = 8
place_of Cost = 9

-- ---- what stands behind a name, to the closing bracket and the end of the line

unfoldable pub ends : List Part → Bool
ends [] = true
ends (p ∷ ps) = false

unfoldable pub closes : List Part → Bool
closes [] = false
closes (opened ∷ ps) = false
closes (closed ∷ ps) = ends ps
closes (word w ∷ ps) = false

-- one word
unfoldable pub alone : List Part → Option (List ℕ)
alone [] = None
alone (opened ∷ ps) = None
alone (closed ∷ ps) = None
alone (word w ∷ ps) = cond (closes ps) (Some w) None

-- one word, as f reads it
unfoldable pub one : (List ℕ → Option ℕ) → List Part → Option ℕ
one f ps = option_and_then f (alone ps)

-- the word all and one W
unfoldable pub all : List Part → Option ℕ
all [] = None
all (opened ∷ ps) = None
all (closed ∷ ps) = None
all (word w ∷ ps) = cond (bytes_eq w (bytes "all")) (one bits ps) None

-- k Ws: their bits
unfoldable pub before : Option ℕ → Option (List ℕ) → Option (List ℕ)
before None vs = None
before (Some v) vs = option_map (λ ws. v ∷ ws) vs

unfoldable pub several : ℕ → List Part → Option (List ℕ)
several zero ps = cond (closes ps) (Some []) None
several (suc k) [] = None
several (suc k) (opened ∷ ps) = None
several (suc k) (closed ∷ ps) = None
several (suc k) (word w ∷ ps) = before (bits w) (several k ps)

-- one W for all 34 parameters, or each with its own
unfoldable pub all_or : Option ℕ → Option (List ℕ) → Option (List ℕ)
all_or (Some v) vs = Some (replicate 34 v)
all_or None vs = vs

-- ---- what a form sets

-- the forms: what stands behind the name, and what it sets
unfoldable pub takes : Name → List Part → Settings → Option Settings
takes Parameters ps s = option_map (λ vs. with_parameters vs s) (all_or (all ps) (several 34 ps))
takes Deck ps s = option_map (λ v. with_deck v s) (one number32 ps)
takes Span ps s = option_map (λ v. with_span v s) (one number32 ps)
takes Seed ps s = option_map (λ v. with_seed v s) (one number64 ps)
takes Learn ps s = option_map (λ v. with_learn v s) (one number32 ps)
takes Review ps s = option_map (λ v. with_review v s) (one number32 ps)
takes Retention ps s = option_map (λ v. with_retention v s) (one bits ps)
takes Maxcost ps s = option_map (λ v. with_maxcost v s) (one bits ps)
takes First ps s = option_map (λ vs. with_first vs s) (several 4 ps)
takes Cost ps s = option_map (λ v. with_cost (replicate 12 v) s) (all ps)

-- a form is wrong if one of its name stood on an earlier line
unfoldable pub form : Name → List Part → Settings → Option Settings
form n ps s =
    cond (get_or s.seen (place_of n) false) None (takes n ps (with_seen (set s.seen (place_of n) true) s))

-- and if it has none of the ten names
unfoldable pub named : List Part → Settings → Option Settings
named [] s = None
named (opened ∷ ps) s = None
named (closed ∷ ps) s = None
named (word w ∷ ps) s = option_and_then (λ n. form n ps s) (name_of w)

-- P5: a line without parts says nothing; any other has one form
unfoldable pub line : List Part → Settings → Option Settings
line [] s = Some s
line (opened ∷ ps) s = named ps s
line (closed ∷ ps) s = None
line (word w ∷ ps) s = None

-- ---- the text

unfoldable pub read_as : Settings → Reading
read_as s = record { settings = s; verdict = Ok tt }

unfoldable pub refused_as : ReadError → Settings → Reading
refused_as e s = record { settings = s; verdict = Err e }

-- lines from line n on: refused at the first that is wrong, with the settings of the lines before it
unfoldable pub read_lines : ℕ → List (List ℕ) → Settings → Reading
read_lines n [] s = read_as s
read_lines n (l ∷ ls) s = elim
    (line (parts l) s) [ None ↦ refused_as (Line n) s | Some next ↦ read_lines (suc n) ls next ]

-- 11 with line 0 over 32,768 bytes, looked at first; `base` has the values that missing forms take
unfoldable pub reading : List ℕ → Settings → Reading
reading text base =
    cond (ltb 32768 (length text)) (refused_as TooLong base) (read_lines 1 (lines text) (with_seen (replicate 10 false) base))

-- the numbers of a text that is refused: 11, and its line, 0 for one that is too long
abbrev pub number_of : ReadError → ℕ
number_of e = 11

unfoldable pub second_of : ReadError → ℕ
second_of TooLong = 0
second_of (Line n) = n

-- A form of the canonical text: what stands behind its name, its line, its name and its length.
--   hexes-words, one_word            what stands behind a name is words
--   one_back, several_back           a number and numbers behind a name read back
--   all-hexes, all_back              numbers are not `all`, and `all` with a number reads back
--   form-good, line_back             a form that is not yet seen is taken, and so is its line
--   next-line, last_line             a line that is taken leads to the next, and nothing follows the last
--   word-deck, name_deck and so on   a form's name is a word, and names the form
--   form-length, word-length, end-length, one-length, many-length   how long a form is
--   Short, text_length               lines of at most 400 bytes, and how long a text of them is
use Rattle.settings_text.specs.Quoted.{bytes}
use mathlib.Core.Path.{◌≡◌, refl, ◌∙◌}
use Prim.Native.Nat.{ℕ, suc, ◌+◌, ◌*◌, ◌≤◌, ◌<◌}
use native.Mathlib.Omega.{arith}
use mathlib.Core.Bool.{true, false}
use mathlib.Core.List.{List, [], ◌∷◌}
use lib.ListN.{length, get_or, set, length-append}
use Rattle.std.specs.Prelude.{Option, Some, None, nat_eq}
use Rattle.std.specs.Cmp.Lexicographic.{unequal}
use Rattle.settings_text.specs.declared.Name.{Name}
use Rattle.settings_text.specs.declared.Name.TheVariants.{Parameters, Deck, Span, Seed, Learn, Review, Retention, Maxcost}
use Rattle.settings_text.specs.declared.Name.TheVariants.{First, Cost}
use Rattle.settings_text.specs.declared.Settings.{Settings}
use Rattle.settings_text.specs.Text.{Part, closed, word, parts, blank, letter, in_line}
use Rattle.settings_text.specs.Numbers.{bits}
use Rattle.settings_text.specs.Forms.{name_of, place_of, ends, closes, alone, one, all, before, several, takes, form}
use Rattle.settings_text.specs.Forms.{named, line, read_as, read_lines}
use Rattle.settings_text.specs.With.{with_seen}
use Rattle.report.specs.Digits.{hex}
use Rattle.report.specs.Canonical.{spaced, form_text, text_of, hexes, AllFit}
use Rattle.report.proofs.WriteLaws.{hex-length}
use Rattle.report.proofs.DigitLaws.{bits_back}
use Rattle.report.proofs.TextLaws.{Word, solid, AllWords, words_then, hex-word, form-parts}

-- ---- what stands behind a name

pub hexes-words : (vs : List ℕ) → AllWords (hexes vs)
unfolding hexes AllWords
hexes-words [] = tt
hexes-words (v ∷ vs) = (hex-word v, hexes-words vs)

pub one_word : (w : List ℕ) → Word w → AllWords (w ∷ [])
unfolding AllWords
one_word w p = (p, tt)

pub one_back : (f : List ℕ → Option ℕ) (w : List ℕ) → one f (words_then (w ∷ [])) ≡ f w
unfolding one alone words_then closes ends
one_back f w = refl

pub several_back : (vs : List ℕ) → AllFit vs → several (length vs) (words_then (hexes vs)) ≡ Some vs
unfolding several words_then hexes closes ends before AllFit
several_back [] a = refl
several_back (v ∷ vs) a = rw (bits_back v a.0, several_back vs a.1)

pub all-hexes : (vs : List ℕ) → all (words_then (hexes vs)) ≡ None
unfolding all words_then hexes
all-hexes [] = refl
all-hexes (v ∷ vs) = rw (unequal nat_eq (hex v) (bytes "all") (λ e. omega (arith, hex-length v, e)))

one_bits' : (w : List ℕ) → one bits (word w ∷ closed ∷ []) ≡ bits w
unfolding one alone closes ends
one_bits' w = refl

pub all_back : (v : ℕ) → v < 4294967296 → all (words_then ((bytes "all") ∷ hex v ∷ [])) ≡ Some v
unfolding all words_then
all_back v h = one_bits' (hex v) ∙ bits_back v h

-- ---- a line

pub form-good : (n : Name) (ps : List Part) (st st' : Settings) → get_or st.seen (place_of n) false ≡ false
    → takes n ps (with_seen (set st.seen (place_of n) true) st) ≡ Some st' → form n ps st ≡ Some st'
unfolding form
form-good n ps st st' q e = rw q e

pub line_back : (name : List ℕ) (ws : List (List ℕ)) (n : Name) (st st' : Settings) → Word name → AllWords ws
    → name_of name ≡ Some n → form n (words_then ws) st ≡ Some st'
    → line (parts (form_text name ws)) st ≡ Some st'
unfolding line named
line_back name ws n st st' p a e f = rw (form-parts name ws p a, e) f

pub next-line : (k : ℕ) (l : List ℕ) (ls : List (List ℕ)) (st st' : Settings) → line (parts l) st ≡ Some st'
    → read_lines k (l ∷ ls) st ≡ read_lines (suc k) ls st'
unfolding read_lines
next-line k l ls st st' e = rw (e, read_lines)

pub last_line : (k : ℕ) (st : Settings) → read_lines k ([] ∷ []) st ≡ read_as st
unfolding read_lines line parts
last_line k st = refl

-- ---- names

pub word_parameters : Word (bytes "parameters")
unfolding solid letter blank in_line
word_parameters = record { whole = refl; some = omega arith }

pub name_parameters : name_of (bytes "parameters") ≡ Some Parameters
unfolding name_of
name_parameters = refl

pub word-deck : Word (bytes "deck")
unfolding solid letter blank in_line
word-deck = record { whole = refl; some = omega arith }

pub name_deck : name_of (bytes "deck") ≡ Some Deck
unfolding name_of
name_deck = refl

pub word-span : Word (bytes "span")
unfolding solid letter blank in_line
word-span = record { whole = refl; some = omega arith }

pub name_span : name_of (bytes "span") ≡ Some Span
unfolding name_of
name_span = refl

pub word_seed : Word (bytes "seed")
unfolding solid letter blank in_line
word_seed = record { whole = refl; some = omega arith }

pub name_seed : name_of (bytes "seed") ≡ Some Seed
unfolding name_of
name_seed = refl

pub word_learn : Word (bytes "learn")
unfolding solid letter blank in_line
word_learn = record { whole = refl; some = omega arith }

pub name_learn : name_of (bytes "learn") ≡ Some Learn
unfolding name_of
name_learn = refl

pub word-review : Word (bytes "review")
unfolding solid letter blank in_line
word-review = record { whole = refl; some = omega arith }

pub name_review : name_of (bytes "review") ≡ Some Review
unfolding name_of
name_review = refl

pub word-retention : Word (bytes "retention")
unfolding solid letter blank in_line
word-retention = record { whole = refl; some = omega arith }

pub name_retention : name_of (bytes "retention") ≡ Some Retention
unfolding name_of
name_retention = refl

pub word_maxcost : Word (bytes "maxcost")
unfolding solid letter blank in_line
word_maxcost = record { whole = refl; some = omega arith }

pub name_maxcost : name_of (bytes "maxcost") ≡ Some Maxcost
unfolding name_of
name_maxcost = refl

pub word_first : Word (bytes "first")
unfolding solid letter blank in_line
word_first = record { whole = refl; some = omega arith }

pub name_first : name_of (bytes "first") ≡ Some First
unfolding name_of
name_first = refl

pub word_cost : Word (bytes "cost")
unfolding solid letter blank in_line
word_cost = record { whole = refl; some = omega arith }

pub name_cost : name_of (bytes "cost") ≡ Some Cost
unfolding name_of
name_cost = refl

pub word-all : Word (bytes "all")
unfolding solid letter blank in_line
word-all = record { whole = refl; some = omega arith }

-- ---- lengths

pub form-length : (name : List ℕ) (ws : List (List ℕ))
    → length (form_text name ws) ≡ 1 + length name + length (spaced ws)
unfolding form_text
form-length name ws = omega (arith, length-append name (spaced ws))

pub word-length : (w : List ℕ) (ws : List (List ℕ)) → length (spaced (w ∷ ws)) ≡ 1 + length w + length (spaced ws)
unfolding spaced
word-length w ws = omega (arith, length-append w (spaced ws))

pub end-length : length (spaced []) ≡ 1
unfolding spaced
end-length = refl

hexes-length : (vs : List ℕ) → length (spaced (hexes vs)) ≡ 9 * length vs + 1
unfolding hexes
hexes-length [] = end-length
hexes-length (v ∷ vs) = omega (arith, word-length (hex v) (hexes vs), hex-length v, hexes-length vs)

pub one-length : (name w : List ℕ) → length w ≤ 20 → length name ≤ 10 → length (form_text name (w ∷ [])) ≤ 40
one-length name w h k = omega (arith, form-length name (w ∷ []), word-length w [], end-length)

pub many-length : (name vs : List ℕ) → length vs ≤ 34 → length name ≤ 10 → length (form_text name (hexes vs)) ≤ 400
many-length name vs h k = omega (arith, form-length name (hexes vs), hexes-length vs)

-- lines of at most 400 bytes
unfoldable pub Short : List (List ℕ) → Type 0
Short [] = Unit
Short (l ∷ ls) = (length l ≤ 400) × Short ls

pub text_length : (ls : List (List ℕ)) → Short ls → length (text_of ls) ≤ 401 * length ls
unfolding text_of Short
text_length [] a = omega arith
text_length (l ∷ ls) a = omega (arith, a.0, length-append l (10 ∷ text_of ls), text_length ls a.1)

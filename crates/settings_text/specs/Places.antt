-- Parts of a line by their places, as the reader finds them. Serves the code's contracts; `Text` has the grammar.
--   token_at s j, part_at s i     the part at a place that is no blank, and the first from a place on
--   part_of s a e                the bytes of a part
--   parts_from s t               the parts of which the first was found
--   bits_in s t, next_bits s i   the bits of a part that was found, and of the next part from i on, each with its end
use Rattle.std.specs.Prelude.{ℕ, ◌+◌, ◌-◌, cond, List, [], ◌∷◌, length, drop, take, get_or, eqb, leb}
use Rattle.std.specs.Prelude.{Option, None, option_map}
use Rattle.settings_text.specs.declared.Token.{Token}
use Rattle.settings_text.specs.declared.Token.TheVariants.{Opened, Closed, Word, End}
use Rattle.settings_text.specs.Text.{Part, opened, closed, word, parts, blank, letter, first_not}
use Rattle.settings_text.specs.Numbers.{bits}

-- the part at a place that is no blank
unfoldable pub token_at : List ℕ → ℕ → Token
token_at s j =
    cond (leb (length s) j) End
    (cond (eqb (get_or s j 0) 40) (Opened (j + 1))
    (cond (eqb (get_or s j 0) 41) (Closed (j + 1)) (Word j (first_not letter s j))))

unfoldable pub part_at : List ℕ → ℕ → Token
part_at s i = token_at s (first_not blank s i)

-- the bytes from a up to e
unfoldable pub part_of : List ℕ → ℕ → ℕ → List ℕ
part_of s a e = cond (leb a e) (cond (leb e (length s)) (take (e - a) (drop a s)) []) []

-- the parts of s of which the first was found
unfoldable pub parts_from : List ℕ → Token → List Part
parts_from s End = []
parts_from s (Opened k) = opened ∷ parts (drop k s)
parts_from s (Closed k) = closed ∷ parts (drop k s)
parts_from s (Word a e) = word (part_of s a e) ∷ parts (drop e s)

-- the bits of a part that was found, and the place behind it
unfoldable pub bits_in : List ℕ → Token → Option (ℕ × ℕ)
bits_in s (Word from to) = option_map (λ v. (v, to)) (bits (part_of s from to))
bits_in s (Opened k) = None
bits_in s (Closed k) = None
bits_in s End = None

unfoldable pub next_bits : List ℕ → ℕ → Option (ℕ × ℕ)
next_bits s i = bits_in s (part_at s i)

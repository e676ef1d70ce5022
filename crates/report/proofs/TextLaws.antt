-- The parts of a form that is written with one space between its words, and the lines of such a text.
--   solid w, Word w           bytes of a word and no line feed, and such a word that is not empty
--   decimal-word, hex-word    numbers are such words
--   AllWords ws               all are such words
--   word_then, words_then ws, form-parts   the parts of a word and what follows, of words, and of a form
--   no_feed l, no_feed-append, solid-no_feed, form-no_feed   bytes without a line feed: of two runs, a word, a form
--   none_left, line_then      the lines of no text, and of a line with what follows
--   AllLines ls, text_lines   lines without a line feed within, and the lines of their text
use mathlib.Core.Path.{◌≡◌, refl, ap, ◌∙◌}
use Prim.Native.Nat.{ℕ, zero, suc, ◌+◌, ◌/◌, ◌%◌, ◌≤◌, ◌<◌}
use native.Mathlib.Omega.{arith}
use mathlib.Core.Bool.{Bool, true, false, cond, ◌&&◌}
use mathlib.Core.List.{List, [], ◌∷◌, ◌++◌}
use lib.ListN.{length}
use lib.Seq.{take-append_seam, drop-append_seam}
use lib.Dec.{ltb}
use borrow.Author.Tests.{ne_eqb}
use Rattle.settings_text.specs.Text.{Part, opened, closed, word, blank, letter, in_line, leading, parts, in_word, lines, onto}
use Rattle.report.specs.Digits.{decimal_in, decimal, hex_byte, hex_in, hex}
use Rattle.report.specs.Canonical.{spaced, form_text, text_of}
use Rattle.settings_text.proofs.PartLaws.{run}
use Rattle.report.proofs.DigitLaws.{decimal_some}
use Rattle.report.proofs.WriteLaws.{hex-length}

-- ---- solid words: bytes of a word, no line feed

unfoldable pub solid : List ℕ → Bool
solid [] = true
solid (b ∷ w) = (letter b && in_line b) && solid w

solid-append : (a b : List ℕ) → solid a ≡ true → solid b ≡ true → solid (a ++ b) ≡ true
unfolding solid
solid-append [] b p q = q
solid-append (x ∷ a) b p q = go (letter x && in_line x) p (solid-append a b)
  where
    go : (t : Bool) → (t && solid a) ≡ true → (solid a ≡ true → solid b ≡ true → solid (a ++ b) ≡ true)
        → (t && solid (a ++ b)) ≡ true
    go true p ih = ih p q
    go false p ih = p

-- bytes from 48 to 70 are of words
solid_byte : (b : ℕ) → 48 ≤ b → solid (b ∷ []) ≡ true
unfolding solid letter in_line blank
solid_byte b h =
    rw (
      ne_eqb b 32 (λ e. omega arith),
      ne_eqb b 9 (λ e. omega arith),
      ne_eqb b 13 (λ e. omega arith),
      ne_eqb b 40
          (λ e. omega arith),
      ne_eqb b 41 (λ e. omega arith),
      ne_eqb b 10 (λ e. omega arith),
    )

decimal_solid_in : (k n : ℕ) → solid (decimal_in k n) ≡ true
unfolding decimal_in
decimal_solid_in zero n = solid_byte (48 + n % 10) (omega arith)
decimal_solid_in (suc k) n = go (ltb n 10) (decimal_solid_in k (n / 10))
  where
    go : (b : Bool) → solid (decimal_in k (n / 10)) ≡ true
        → solid (cond b ((48 + n % 10) ∷ []) (decimal_in k (n / 10) ++ ((48 + n % 10) ∷ []))) ≡ true
    go true ih = solid_byte (48 + n % 10) (omega arith)
    go false ih = solid-append (decimal_in k (n / 10)) ((48 + n % 10) ∷ []) ih (solid_byte (48 + n % 10) (omega arith))

hex_byte-high : (d : ℕ) → 48 ≤ hex_byte d
unfolding hex_byte
hex_byte-high d = go (ltb d 10)
  where
    go : (b : Bool) → 48 ≤ cond b (48 + d) (55 + d)
    go true = omega arith
    go false = omega arith

hex_solid_in : (k n : ℕ) → solid (hex_in k n) ≡ true
unfolding hex_in solid
hex_solid_in zero n = refl
hex_solid_in (suc k) n = solid-append (hex_in k (n / 16)) (hex_byte (n % 16) ∷ []) (hex_solid_in k (n / 16))
    (solid_byte (hex_byte (n % 16)) (hex_byte-high (n % 16)))

-- words of a text: solid, and not empty
pub record Word (w : List ℕ) : Type 0 where
  pub whole : solid w ≡ true
  pub some : 0 < length w

pub decimal-word : (n : ℕ) → Word (decimal n)
unfolding decimal
decimal-word n = record { whole = decimal_solid_in 19 n; some = decimal_some 19 n }

hex-solid : (n : ℕ) → solid (hex n) ≡ true
unfolding hex
hex-solid n = hex_solid_in 8 n

pub hex-word : (n : ℕ) → Word (hex n)
hex-word n = record { whole = hex-solid n; some = omega (arith, hex-length n) }

unfoldable pub AllWords : List (List ℕ) → Type 0
AllWords [] = Unit
AllWords (w ∷ ws) = Word w × AllWords ws

-- ---- parts

both : (x y : Bool) → (x && y) ≡ true → (x ≡ true) × (y ≡ true)
both true y h = (refl, h)
both false y h = absurd (let k : ◌≡◌ {A = ℕ} 0 1 = cc in omega arith)

first-solid : (b : ℕ) (w : List ℕ) → solid (b ∷ w) ≡ true → letter b ≡ true
unfolding solid
first-solid b w h = (both (letter b) (in_line b) (both (letter b && in_line b) (solid w) h).0).0

first_inline : (b : ℕ) (w : List ℕ) → solid (b ∷ w) ≡ true → in_line b ≡ true
unfolding solid
first_inline b w h = (both (letter b) (in_line b) (both (letter b && in_line b) (solid w) h).0).1

rest-solid : (b : ℕ) (w : List ℕ) → solid (b ∷ w) ≡ true → solid w ≡ true
unfolding solid
rest-solid b w h = (both (letter b && in_line b) (solid w) h).1

leading_stop : (r : List ℕ) → in_word r ≡ false → leading letter r ≡ 0
unfolding in_word leading
leading_stop [] h = refl
leading_stop (b ∷ r) h = rw h

leading-one : (b : ℕ) (t : List ℕ) → letter b ≡ true → leading letter (b ∷ t) ≡ suc (leading letter t)
unfolding leading
leading-one b t e = rw e

leading-word : (w r : List ℕ) → solid w ≡ true → in_word r ≡ false → leading letter (w ++ r) ≡ length w
leading-word [] r h s = leading_stop r s
leading-word (b ∷ w) r h s = leading-one b (w ++ r) (first-solid b w h) ∙ ap suc (leading-word w r (rest-solid b w h) s)

-- a word, and what does not go on with it
pub word_then : (w r : List ℕ) → Word w → in_word r ≡ false → parts (w ++ r) ≡ word w ∷ parts r
word_then [] r p s = absurd (omega (arith, p.some))
word_then (b ∷ w) r p s =
    let e : leading letter (w ++ r) ≡ length w = leading-word w r (rest-solid b w p.whole) s in
    run b (w ++ r) (first-solid b w p.whole) ∙ rw (e, take-append_seam w r, drop-append_seam w r)

-- words and the closing bracket
unfoldable pub words_then : List (List ℕ) → List Part
words_then [] = closed ∷ []
words_then (w ∷ ws) = word w ∷ words_then ws

spaced_stop : (ws : List (List ℕ)) → in_word (spaced ws) ≡ false
unfolding spaced in_word letter blank
spaced_stop [] = refl
spaced_stop (w ∷ ws) = refl

space_skipped : (t : List ℕ) → parts (32 ∷ t) ≡ parts t
unfolding parts blank
space_skipped t = refl

closing : parts (41 ∷ []) ≡ closed ∷ []
unfolding parts blank
closing = refl

spaced-parts : (ws : List (List ℕ)) → AllWords ws → parts (spaced ws) ≡ words_then ws
unfolding spaced words_then AllWords
spaced-parts [] a = closing
spaced-parts (w ∷ ws) a = space_skipped (w ++ spaced ws)
    ∙ (word_then w (spaced ws) a.0 (spaced_stop ws) ∙ ap (λ (ps : List Part). word w ∷ ps) (spaced-parts ws a.1))

opening : (t : List ℕ) → parts (40 ∷ t) ≡ opened ∷ parts t
unfolding parts blank
opening t = refl

-- a form's parts
pub form-parts : (name : List ℕ) (ws : List (List ℕ)) → Word name → AllWords ws → parts (form_text name ws)
    ≡ opened ∷ word name ∷ words_then ws
unfolding form_text
form-parts name ws p a = opening (name ++ spaced ws)
    ∙ rw (word_then name (spaced ws) p (spaced_stop ws), spaced-parts ws a)

-- ---- lines

unfoldable pub no_feed : List ℕ → Bool
no_feed [] = true
no_feed (b ∷ l) = in_line b && no_feed l

pub no_feed-append : (a b : List ℕ) → no_feed a ≡ true → no_feed b ≡ true → no_feed (a ++ b) ≡ true
unfolding no_feed
no_feed-append [] b p q = q
no_feed-append (x ∷ a) b p q = go (in_line x) p (no_feed-append a b)
  where
    go : (t : Bool) → (t && no_feed a) ≡ true → (no_feed a ≡ true → no_feed b ≡ true → no_feed (a ++ b) ≡ true)
        → (t && no_feed (a ++ b)) ≡ true
    go true p ih = ih p q
    go false p ih = p

no_feed-one : (b : ℕ) (w : List ℕ) → in_line b ≡ true → no_feed w ≡ true → no_feed (b ∷ w) ≡ true
unfolding no_feed
no_feed-one b w p q = rw (p, q)

no_feed_nil : no_feed [] ≡ true
unfolding no_feed
no_feed_nil = refl

pub solid-no_feed : (w : List ℕ) → solid w ≡ true → no_feed w ≡ true
solid-no_feed [] h = no_feed_nil
solid-no_feed (b ∷ w) h = no_feed-one b w (first_inline b w h) (solid-no_feed w (rest-solid b w h))

in_line_41 : in_line 41 ≡ true
unfolding in_line
in_line_41 = refl

in_line_40 : in_line 40 ≡ true
unfolding in_line
in_line_40 = refl

in_line_32 : in_line 32 ≡ true
unfolding in_line
in_line_32 = refl

spaced-no_feed : (ws : List (List ℕ)) → AllWords ws → no_feed (spaced ws) ≡ true
unfolding spaced AllWords
spaced-no_feed [] a = no_feed-one 41 [] (in_line_41) no_feed_nil
spaced-no_feed (w ∷ ws) a = no_feed-one 32 (w ++ spaced ws) in_line_32
    (no_feed-append w (spaced ws) (solid-no_feed w a.0.whole) (spaced-no_feed ws a.1))

pub form-no_feed : (name : List ℕ) (ws : List (List ℕ)) → Word name → AllWords ws → no_feed (form_text name ws) ≡ true
unfolding form_text
form-no_feed name ws p a = no_feed-one 40 (name ++ spaced ws) in_line_40
    (no_feed-append name (spaced ws) (solid-no_feed name p.whole) (spaced-no_feed ws a))

-- a line and its line feed
fed : (r : List ℕ) → lines (10 ∷ r) ≡ [] ∷ lines r
unfolding lines in_line
fed r = refl

pub none_left : lines [] ≡ [] ∷ []
unfolding lines
none_left = refl

pub line_then : (l r : List ℕ) → no_feed l ≡ true → lines (l ++ (10 ∷ r)) ≡ l ∷ lines r
unfolding no_feed lines onto
line_then [] r h = fed r
line_then (b ∷ l) r h = go (in_line b) refl h (line_then l r)
  where
    go : (t : Bool) → in_line b ≡ t → (in_line b && no_feed l) ≡ true
        → (no_feed l ≡ true → lines (l ++ (10 ∷ r)) ≡ l ∷ lines r) → lines (b ∷ (l ++ (10 ∷ r))) ≡ (b ∷ l) ∷ lines r
    go true e h ih = rw (e, ih (rw e at h))
    go false e h ih = absurd (let k : ◌≡◌ {A = ℕ} 0 1 = cc (rw e at h) in omega arith)

unfoldable pub AllLines : List (List ℕ) → Type 0
AllLines [] = Unit
AllLines (l ∷ ls) = (no_feed l ≡ true) × AllLines ls

-- the lines of a text, and the empty one behind the last line feed
pub text_lines : (ls : List (List ℕ)) → AllLines ls → lines (text_of ls) ≡ ls ++ ([] ∷ [])
unfolding text_of AllLines
text_lines [] a = none_left
text_lines (l ∷ ls) a = line_then l (text_of ls) a.0 ∙ ap (λ (k : List (List ℕ)). l ∷ k) (text_lines ls a.1)

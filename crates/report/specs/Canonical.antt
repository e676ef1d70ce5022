-- Settings as text, in one fixed form, and which settings a text can say (docs/RULES.md, P7). Definitions only.
--   form_text name ws, text_of ls   a form, and lines
--   canonical s                   all ten forms of settings
--   Expressible s                 settings that a text can say
use Rattle.settings_text.specs.Quoted.{bytes}
use Rattle.std.specs.Prelude.{ℕ, ◌<◌, ◌≡◌, List, [], ◌∷◌, ◌++◌, length, get_or, replicate}
use Rattle.settings_text.specs.declared.Settings.{Settings}
use Rattle.report.specs.Digits.{decimal, hex}

-- words, each behind one space, and the closing bracket
unfoldable pub spaced : List (List ℕ) → List ℕ
spaced [] = 41 ∷ []
spaced (w ∷ ws) = 32 ∷ (w ++ spaced ws)

-- a form without its line feed
unfoldable pub form_text : List ℕ → List (List ℕ) → List ℕ
form_text name ws = 40 ∷ (name ++ spaced ws)

-- lines, each with its line feed
unfoldable pub text_of : List (List ℕ) → List ℕ
text_of [] = []
text_of (l ∷ ls) = l ++ (10 ∷ text_of ls)

unfoldable pub hexes : List ℕ → List (List ℕ)
hexes [] = []
hexes (v ∷ vs) = hex v ∷ hexes vs

-- all ten forms
unfoldable pub forms_of : Settings → List (List ℕ)
forms_of s =
    form_text (bytes "parameters") (hexes s.parameters) ∷ form_text (bytes "deck") (decimal s.deck ∷ []) ∷ form_text
    (bytes "span") (decimal s.span ∷ [])
    ∷ form_text (bytes "seed") (decimal s.seed ∷ []) ∷ form_text (bytes "learn") (decimal s.learn ∷ []) ∷ form_text
    (bytes "review") (decimal s.review ∷ [])
    ∷ form_text (bytes "retention") (hex s.retention ∷ []) ∷ form_text (bytes "maxcost") (hex s.maxcost ∷ []) ∷
    form_text (bytes "first") (hexes s.first)
    ∷ form_text (bytes "cost") ((bytes "all") ∷ hex (get_or s.cost 0 0) ∷ []) ∷ []

unfoldable pub canonical : Settings → List ℕ
canonical s = text_of (forms_of s)

unfoldable pub AllFit : List ℕ → Type 0
AllFit [] = Unit
AllFit (v ∷ vs) = (v < 4294967296) × AllFit vs

-- numbers and lists of their types, and twelve costs that are one
pub record Expressible (s : Settings) : Type 0 where
  pub deck : s.deck < 4294967296
  pub span : s.span < 4294967296
  pub seed : s.seed < 18446744073709551616
  pub learn : s.learn < 4294967296
  pub review : s.review < 4294967296
  pub retention : s.retention < 4294967296
  pub maxcost : s.maxcost < 4294967296
  pub first : AllFit s.first
  pub four : length s.first ≡ 4
  pub parameters : AllFit s.parameters
  pub many : length s.parameters ≡ 34
  pub cost : get_or s.cost 0 0 < 4294967296
  pub same : s.cost ≡ replicate 12 (get_or s.cost 0 0)

-- N and W: a word as a number (docs/RULES.md, P3). Definitions only.
--   number base most w   one or more digits to the base that say a number of at most `most`
--   number32, number64   N
--   bits            W, as the f32's bits
use Rattle.std.specs.Prelude.{ℕ, ◌+◌, ◌-◌, ◌*◌, Bool, true, false, cond, not, ◌&&◌, List, [], ◌∷◌, length, eqb, ltb, leb}
use Rattle.std.specs.Prelude.{Option, Some, None}

-- what a digit says: 0 to 9, then the capitals A to F; 16 is none
unfoldable pub digit : ℕ → ℕ
digit b = cond (leb 48 b && leb b 57) (b - 48) (cond (leb 65 b && leb b 70) (b - 55) 16)

-- all bytes are digits to the base
unfoldable pub digits : ℕ → List ℕ → Bool
digits base [] = true
digits base (b ∷ w) = ltb (digit b) base && digits base w

-- the number that digits say, read on from v
unfoldable pub value : ℕ → ℕ → List ℕ → ℕ
value base v [] = v
value base v (b ∷ w) = value base (v * base + digit b) w

unfoldable pub empty : List ℕ → Bool
empty [] = true
empty (b ∷ w) = false

-- one or more digits that say a number of at most `most`
unfoldable pub number : ℕ → ℕ → List ℕ → Option ℕ
number base most w = cond (not (empty w) && (digits base w && leb (value base 0 w) most)) (Some (value base 0 w)) None

-- N of the seed, and of the other forms; zeros may lead
unfoldable pub number64 : List ℕ → Option ℕ
number64 w = number 10 18446744073709551615 w

unfoldable pub number32 : List ℕ → Option ℕ
number32 w = number 10 4294967295 w

-- W: a float by its bits, all eight digits written
unfoldable pub bits : List ℕ → Option ℕ
bits w = cond (eqb (length w) 8) (number 16 4294967295 w) None

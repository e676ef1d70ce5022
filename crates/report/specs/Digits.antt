-- N and W as bytes. Definitions only.
--   decimal n    N: the digits of n, no zero leading
--   hex n        W: eight hex digits, capitals
use Rattle.std.specs.Prelude.{ℕ, zero, suc, ◌+◌, ◌/◌, ◌%◌, cond, List, [], ◌∷◌, ◌++◌, ltb}

-- the digits of n, of which there are at most k + 1
unfoldable pub decimal_in : ℕ → ℕ → List ℕ
decimal_in zero n = (48 + n % 10) ∷ []
decimal_in (suc k) n = cond (ltb n 10) ((48 + n % 10) ∷ []) (decimal_in k (n / 10) ++ ((48 + n % 10) ∷ []))

-- N: no zero leads; 20 digits are enough for 64 bits
unfoldable pub decimal : ℕ → List ℕ
decimal n = decimal_in 19 n

-- a digit as a byte: 0 to 9, then the capitals
unfoldable pub hex_byte : ℕ → ℕ
hex_byte d = cond (ltb d 10) (48 + d) (55 + d)

-- k hex digits
unfoldable pub hex_in : ℕ → ℕ → List ℕ
hex_in zero n = []
hex_in (suc k) n = hex_in k (n / 16) ++ (hex_byte (n % 16) ∷ [])

-- W
unfoldable pub hex : ℕ → List ℕ
hex n = hex_in 8 n

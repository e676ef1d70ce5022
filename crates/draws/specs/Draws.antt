-- SplitMix64 (Steele, Lea and Flood 2014), and an index by weights and a recall drawn by one word of it. Definitions only.
--     advance s, mix z                    the state of the next draw, and the output of a state
--     word z          the top 32 bits of an output
--     DrawRule, split_mix                  a way to draw, and this one
--     unit w          v, the top 24 bits of a word over 2 ^ 24
--     sum_from s ws, index_above target s i p ws                 a running sum, and the index by it
--     weighted_index ws w   the index that a word chooses among weights
--     recalled chance w                   whether a word recalls
use Rattle.std.specs.Prelude.{ℕ, suc, ◌+◌, ◌*◌, ◌/◌, ◌%◌, ◌^◌, Bool, false, cond, List, [], ◌∷◌, pos, bit_xor, Float}
use Rattle.std.specs.Float.{binary32}
use Rattle.std.specs.Float.Ieee.{round, of_int, lt}
use Rattle.float32.specs.Ops.{◌+ᶠ◌, ◌*ᶠ◌, ◌/ᶠ◌}
use Rattle.float32.specs.Numbers.{0ᶠ}

-- the state of the next draw
unfoldable pub advance : ℕ → ℕ
advance s = (s + 0x9E3779B97F4A7C15) % 2 ^ 64

unfoldable pub xor_shift : ℕ → ℕ → ℕ
xor_shift k z = bit_xor z (z / 2 ^ k)

-- the output of a state
unfoldable pub mix : ℕ → ℕ
mix z = xor_shift 31 (xor_shift 27 (xor_shift 30 z * 0xBF58476D1CE4E5B9 % 2 ^ 64) * 0x94D049BB133111EB % 2 ^ 64)

-- the top 32 bits of an output
unfoldable pub word : ℕ → ℕ
word z = z / 2 ^ 32

-- HOW A RUN DRAWS: from a state of the draws, the word of the next draw and the state after it
pub record DrawRule : Type 0 where
  pub word : ℕ → ℕ
  pub after : ℕ → ℕ

abbrev pub split_mix : DrawRule
split_mix = record { word = λ s. word (mix (advance s)); after = advance }

-- v: the top 24 bits of a word, over 2 ^ 24
unfoldable pub unit : ℕ → Float
unit w = of_int binary32 (pos (w / 2 ^ 8)) /ᶠ round binary32 false (2 ^ 24) 1

unfoldable pub sum_from : Float → List Float → Float
sum_from s [] = s
sum_from s (x ∷ xs) = sum_from (s +ᶠ x) xs

-- The first index whose running sum is above the target, or the last of a positive weight if none is (0 if there is
-- none of those either). i is the index of the first weight left, s the sum before it, and p the last index before i
-- of a positive weight.
unfoldable pub index_above : Float → Float → ℕ → ℕ → List Float → ℕ
index_above target s i p [] = p
index_above target s i p (x ∷ xs) = let rest = index_above target (s +ᶠ x) (suc i) (cond (lt 0ᶠ x) i p) xs in cond
    (lt target (s +ᶠ x)) i rest

-- the index, from 0, of the weight that a word chooses
unfoldable pub weighted_index : List Float → ℕ → ℕ
weighted_index weights w = index_above (unit w *ᶠ sum_from 0ᶠ weights) 0ᶠ 0 0 weights

unfoldable pub recalled : Float → ℕ → Bool
recalled chance w = lt (unit w) chance

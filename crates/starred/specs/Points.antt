-- The starred points: what is computed, and what it must be. One row a point. Definitions only.
use Rattle.std.specs.Prelude.{ℕ, ◌+◌, ◌<◌, ◌^◌, true, false, ◌≡◌, List, [], ◌∷◌, pos, negsuc, Float}
use Rattle.std.specs.Float.{nan, inf, binary32}
use Rattle.std.specs.Float.Ieee.{of_bits}
use Rattle.float32.specs.Float32 as Float32
use Rattle.elementary.specs.Exp.{exp_of}
use Rattle.elementary.specs.Pow.{pow_of}
use Rattle.draws.specs.Draws.{advance, weighted_index}
use Rattle.cards.specs.Day.{day_of}
use Rattle.queue.specs.Key.{priority_of}
use Rattle.runs.specs.SetUp.{new_card}

abbrev bits : ℕ → Float
bits n = of_bits binary32 n

abbrev weights : ℕ → ℕ → ℕ → ℕ → List Float
weights a b c d = bits a ∷ bits b ∷ bits c ∷ bits d ∷ []

pub record Starred : Type 0 where
  -- weights 0, 0, 0, 1, every word: rating 4; a rating is one more than its index
  pub rating_4 : (word : ℕ) → word < 2 ^ 32 → weighted_index (weights 0 0 0 0x3F80_0000) word + 1 ≡ 4
  -- 1, 1, 1, 1 with word 80000000: 3
  pub rating_3 : weighted_index (weights 0x3F80_0000 0x3F80_0000 0x3F80_0000 0x3F80_0000) 0x8000_0000 + 1 ≡ 3
  -- 0, 1, 0, 0 with word 0: 2
  pub rating_2 : weighted_index (weights 0 0x3F80_0000 0 0) 0 + 1 ≡ 2
  -- difficulty 5.5: 550; minus infinity: −2147483648
  pub difficulty_550 : priority_of (bits 0x40B0_0000) ≡ pos 550
  pub difficulty_lowest : priority_of (inf true) ≡ negsuc 2147483647
  -- round 2.5 = 3, −2.5 = −3, bits 3EFFFFFF = 0
  pub round_up : Float32.round (bits 0x4020_0000) ≡ bits 0x4040_0000
  pub round_down : Float32.round (bits 0xC020_0000) ≡ bits 0xC040_0000
  pub round-zero : Float32.round (bits 0x3EFF_FFFF) ≡ bits 0
  -- seed 0, first state
  pub first_state : advance 0 ≡ 0x9E37_79B9_7F4A_7C15
  -- limit 3, new card 7: due 2
  pub new_due : (retention : Float) → (new_card retention 3 7).due ≡ bits 0x4000_0000
  -- due −5 is day 0, 3.7 day 3
  pub day_0 : day_of (bits 0xC0A0_0000) ≡ 0
  pub day_3 : day_of (bits 0x406C_CCCD) ≡ 3
  -- NaN^0 = 1
  pub nan_to_zero : pow_of nan (bits 0) ≡ bits 0x3F80_0000
  -- 1 times (1 − 2e-5) plus 1e-5 fused: 3F7FFF58
  pub fused : Float32.mul_add (bits 0x3F80_0000) (bits 0x3F7F_FEB0) (bits 0x3727_C5AC) ≡ bits 0x3F7F_FF58
  -- exp of 42B17218 and C2AEAC50
  pub exp_infinity : exp_of (bits 0x42B1_7218) ≡ inf false
  pub exp_zero : exp_of (bits 0xC2AE_AC50) ≡ bits 0

-- The cases of the definitions for |y| above 128.
--   squared_1, squared_2         squared for x below 1/4, and for x from 1/4 to 4, where it goes by squares
--   squared_3, squared_4         from 1/4 to 4 with a y too large for that: x below 1, and x from 1 up
--   squared_5                    x of 4 or more
--   arg_low, arg_mid, arg_high   large_arg, by whether the square is below 1/4, between, or 4 or more
use Rattle.std.proofs.Common.{◌≡◌, ℕ, ◌+◌, ◌-◌, ◌*◌, ◌/◌, ◌%◌, ◌^◌, ◌<◌, ◌≤◌, cond, ltb, le_trans, arith, lit≤, le-ltb, lt-ltb}
use Rattle.elementary.specs.Power.{squares, fine_log2, fine_arg, squared, large_arg}

module _ (p c : ℕ) where
  abbrev k : ℕ
  k = c % 2 ^ 31 / 2 ^ 23 - 133

  pub squared_1 : p < 157 * 2 ^ 23 → squared p c ≡ 0
  unfolding squared
  squared_1 i = simp (lt-ltb p (157 * 2 ^ 23) i)

  pub squared_2 : 157 * 2 ^ 23 ≤ p → p < 161 * 2 ^ 23 → k ≤ 24
      → squared p c ≡ squares k ((2 ^ 23 + p % 2 ^ 23) * 2 ^ (p / 2 ^ 23 - 122))
  unfolding squared
  squared_2 i j m = simp (le-ltb p (157 * 2 ^ 23) i, lt-ltb p (161 * 2 ^ 23) j, le-ltb 24 k m)

  pub squared_3 : 157 * 2 ^ 23 ≤ p → p < 159 * 2 ^ 23 → 24 < k → squared p c ≡ 0
  unfolding squared
  squared_3 i j m =
      simp (le-ltb p (157 * 2 ^ 23) i, lt-ltb p (161 * 2 ^ 23) (omega arith), lt-ltb 24 k m, lt-ltb p (159 * 2 ^ 23) j)

  pub squared_4 : 159 * 2 ^ 23 ≤ p → p < 161 * 2 ^ 23 → 24 < k → squared p c ≡ 2 ^ 62
  unfolding squared
  squared_4 i j m =
      simp (
        le-ltb p (157 * 2 ^ 23) (le_trans (lit≤ tt) i),
        lt-ltb p (161 * 2 ^ 23) j,
        lt-ltb 24 k m,
        le-ltb p
            (159 * 2 ^ 23) i,
      )

  pub squared_5 : 161 * 2 ^ 23 ≤ p → squared p c ≡ 2 ^ 62
  unfolding squared
  squared_5 i = simp (le-ltb p (157 * 2 ^ 23) (le_trans (lit≤ tt) i), le-ltb p (161 * 2 ^ 23) i)

pub arg_low : (x c : ℕ) → x < 2 ^ 58 → large_arg x c ≡ cond (ltb c (2 ^ 31)) 0 (2 ^ 56)
unfolding large_arg
arg_low x c i = simp (lt-ltb x (2 ^ 58) i)

pub arg_mid : (x c : ℕ) → 2 ^ 58 ≤ x → x < 2 ^ 62 → large_arg x c ≡ fine_arg (fine_log2 x) c
unfolding large_arg
arg_mid x c i j = simp (le-ltb x (2 ^ 58) i, lt-ltb x (2 ^ 62) j)

pub arg_high : (x c : ℕ) → 2 ^ 62 ≤ x → large_arg x c ≡ cond (ltb c (2 ^ 31)) (2 ^ 56) 0
unfolding large_arg
arg_high x c i = simp (le-ltb x (2 ^ 58) (le_trans (lit≤ tt) i), le-ltb x (2 ^ 62) i)

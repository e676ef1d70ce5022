-- What the loops over a block ask.
--   all-turn     one more place of which something holds
--   same-interval   the logarithm's interval, with the pattern counted from that of 1
--   arg_small    the exponent of 2 is that of a normal number
--   arg_from     from the logarithm
--   quick_is     by the steps of a block, powf
use Rattle.std.proofs.Common.{◌≡◌, ℕ, ◌+◌, ◌-◌, ◌*◌, ◌/◌, ◌%◌, ◌^◌, ◌<◌, ◌≤◌, sym, refl, ap, ◌∙◌, subst, arith}
use native.Mathlib.Decide.{dec_lt}
use lib.Ieee.{Float, binary32, to_bits, of_bits}
use Rattle.elementary.specs.Power.{log2_of, exp2_bits, near_bits}
use Rattle.elementary.specs.Pow.{pow_of}
use Rattle.elementary.specs.Quick.{IsBase, IsDecay, quick_arg}
use Rattle.elementary.proofs.Common.{number_of-bits}
use Rattle.elementary.proofs.power.Steps.{log_most, quick_size, arg_quick, pow_quick}
use Rattle.elementary.proofs.power.Finite.{is_near}
use Rattle.elementary.proofs.powf.Cases.{of_numbers, at_regular}

pub all-turn : (P : ℕ → Type 0) (i : ℕ) → ((j : ℕ) → j < i → P j) → P i → (j : ℕ) → j < i + 1 → P j
all-turn P i before here j h = go (dec_lt j i)
  where
    go : Dec (j < i) → P j
    go (yes k) = before j k
    go (no k) = let q : i ≡ j = omega arith in subst P q here

pub same-interval : (b : ℕ) → 0x3F800000 ≤ b → b / 2 ^ 14 % 512 ≡ (b - 0x3F800000) / 2 ^ 14 % 512
same-interval b h = omega arith

module _ (b c : ℕ) (low : 0x3F800000 ≤ b) (high : b < 0x4F800000) (d : IsDecay c) where
  l_most : log2_of (b - 0x3F800000) ≤ 2 ^ 37
  l_most = log_most (b - 0x3F800000) (omega arith)

  -- the exponent and the product add up to 126
  whole : quick_arg b c + (c % 2 ^ 23 + 2 ^ 23) * log2_of (b - 0x3F800000) / 2 ^ (399 - c / 2 ^ 23) ≡ 69269232549888
  unfolding quick_arg
  whole = go ((c % 2 ^ 23 + 2 ^ 23) * log2_of (b - 0x3F800000) / 2 ^ (399 - c / 2 ^ 23))
      (quick_size (c % 2 ^ 23 + 2 ^ 23)
      (log2_of (b - 0x3F800000)) (399 - c / 2 ^ 23) l_most (omega arith) (omega (arith, d.low, d.high))).1
    where
      go : (p : ℕ) → p ≤ 69269232549888 → 126 * 2 ^ 39 - p + p ≡ 69269232549888
      go p h = omega arith

  pub arg_small : quick_arg b c < 254 * 2 ^ 39
  arg_small = omega (arith, whole)

  pub arg_from : (l r : ℕ) → l ≡ log2_of (b - 0x3F800000)
      → r + (c % 2 ^ 23 + 2 ^ 23) * l / 2 ^ (399 - c / 2 ^ 23) ≡ 126 * 2 ^ 39 → r ≡ quick_arg b c
  arg_from l r el e =
      omega (arith, e, whole, ap (λ (z : ℕ). (c % 2 ^ 23 + 2 ^ 23) * z / 2 ^ (399 - c / 2 ^ 23)) el)

  bits_is : exp2_bits (quick_arg b c + 2 ^ 55) ≡ near_bits b c
  bits_is =
      pow_quick b c (log2_of (b - 0x3F800000)) (quick_arg b c) low refl
      (arg_quick (log2_of (b - 0x3F800000)) c (quick_arg b c) d.low d.high whole)

pub quick_is : (x y : Float) → IsBase x → IsDecay (to_bits binary32 y)
    → of_bits binary32 (exp2_bits (quick_arg (to_bits binary32 x) (to_bits binary32 y) + 2 ^ 55)) ≡ pow_of x y
quick_is x y b d =
    let c = to_bits binary32 y in
    ap (of_bits binary32) (bits_is (to_bits binary32 x) c b.low b.high d)
    ∙ sym (of_numbers x y b.number (number_of-bits y (omega (arith, d.low, d.high)))
    ∙ at_regular (to_bits binary32 x) c (omega (arith, b.low)) (omega (arith, b.high)) (omega (arith, d.low, d.high))
    ∙ ap (of_bits binary32) (is_near (to_bits binary32 x) c (omega (arith, d.low, d.high))))

-- The bit pattern of a finite float.
--     finite_bits x           below the infinity's, but for the sign
--     clear-bits x, bits_pos x    with a clear sign below the infinity's, and above 0 where x is not 0
use Rattle.std.proofs.Common.{◌≡◌, ℕ, zero, suc, ◌-◌, ◌/◌, ◌%◌, ◌^◌, ◌<◌, ◌≤◌, Bool, true, false, not, T, ◌⊎◌, sym, refl, ap, ◌∙◌, subst, inl, inr, true≢false, arith}
use lib.Ieee.{Float, nan, inf, fin, binary32, is_nan, fits, of_bits, to_bits}
use lib.Ieee.Bits.{of_bits-to_bits, to_bits-lt}
use lib.Ieee.Exact.{HasValue}
use lib.Ieee.Positive.{num}
use Rattle.series.proofs.Cuts.{lt_or_ge}
use Rattle.series.proofs.Value.{units, value-neg}
use Rattle.elementary.proofs.Common.{bits_of_number, infinity_is, minus_infinity_is, zero_is}

is_number : (x : Float) (s : Bool) (u c : ℕ) → HasValue x s u c → T (not (is_nan x))
unfolding is_nan
is_number nan s u c h = absurd h
is_number (inf t) s u c h = tt
is_number (fin t m e) s u c h = tt

one_sign : (x : Float) (u c w d : ℕ) → HasValue x false u c → HasValue x true w d → ⊥
one_sign nan u c w d h g = h
one_sign (inf t) u c w d h g = h
one_sign (fin t m e) u c w d h g = true≢false (sym g.0 ∙ h.0)

module _ (x : Float) (f : T (fits binary32 x)) where
  abbrev b : ℕ
  b = to_bits binary32 x

  under : b < 2 ^ 32
  under = to_bits-lt binary32 x f

  pub finite_bits : (s : Bool) (u c : ℕ) → HasValue x s u c → b % 2 ^ 31 < 0x7F800000
  finite_bits s u c h = go b refl under (bits_of_number x f (is_number x s u c h))
    where
      not_inf : (t : Bool) → x ≡ inf t → ⊥
      not_inf t e = subst (λ (z : Float). HasValue z s u c) e h

      is : (n m : ℕ) (t : Bool) → b ≡ n → n ≡ m → of_bits binary32 m ≡ inf t → ⊥
      is n m t e i k = not_inf t (sym (of_bits-to_bits binary32 x f) ∙ ap (of_bits binary32) (e ∙ i) ∙ k)

      go : (n : ℕ) → b ≡ n → n < 2 ^ 32 → n % 2 ^ 31 ≤ 0x7F800000 → n % 2 ^ 31 < 0x7F800000
      go n e l k = on (lt_or_ge (n % 2 ^ 31) 0x7F800000) (lt_or_ge n (2 ^ 31))
        where
          on : (n % 2 ^ 31 < 0x7F800000) ⊎ (0x7F800000 ≤ n % 2 ^ 31) → (n < 2 ^ 31) ⊎ (2 ^ 31 ≤ n)
              → n % 2 ^ 31 < 0x7F800000
          on (inl i) j = i
          on (inr i) (inl j) = absurd (is n 0x7F800000 false e (omega arith) infinity_is)
          on (inr i) (inr j) = absurd (is n 0xFF800000 true e (omega arith) minus_infinity_is)

  pub clear-bits : (u c : ℕ) → HasValue x false u c → b < 0x7F800000
  clear-bits u c h = go b refl under (finite_bits false u c h)
    where
      go : (n : ℕ) → b ≡ n → n < 2 ^ 32 → n % 2 ^ 31 < 0x7F800000 → n < 0x7F800000
      go n e l k = on (lt_or_ge n (2 ^ 31))
        where
          on : (n < 2 ^ 31) ⊎ (2 ^ 31 ≤ n) → n < 0x7F800000
          on (inl i) = omega arith
          on (inr i) =
              let w = units ((n - 2147483648) / 8388608) ((n - 2147483648) % 8388608) in
              absurd (one_sign x u c w (2 ^ 149) h
              (subst (λ (z : Float). HasValue z true w (2 ^ 149))
              (ap (of_bits binary32) (sym e) ∙ of_bits-to_bits binary32 x f) (value-neg n i (omega arith))))

  pub bits_pos : 0 < num x → 0 < b
  bits_pos h = go b refl
    where
      go : (n : ℕ) → b ≡ n → 0 < n
      go zero e = absurd (none (subst (λ (z : Float). 0 < num z)
          (sym (of_bits-to_bits binary32 x f) ∙ ap (of_bits binary32) e ∙ zero_is) h))
        where
          none : 0 < 0 → ⊥
          none k = omega arith
      go (suc n) e = omega arith

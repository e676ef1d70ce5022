-- A float from its parts: the pattern with the sign s, and below it k * 2 ^ 23 + q, is q * 2 ^ k units of the smallest
-- value.
--   odd_more                     below 2 ^ d `odd` finds no more trailing zeros after d digits
--   pack-units, pack_no_nan      the pattern's value, and that it is no NaN
--   infinity_no_nan, pack-over   an overflow: the infinity's pattern
use Rattle.std.proofs.Common.{◌≡◌, ℕ, zero, suc, ◌+◌, ◌*◌, ◌/◌, ◌%◌, ◌^◌, ◌<◌, ◌≤◌, Bool, true, false, cond, not, T, eqb, ltb, leb, ◌⊎◌, sym, refl, ap, ◌∙◌, subst, inl, inr, le_trans, le_of_eq, lt_of_lt_of_le, mul-le-mul_right, zero-lt-suc, div-lt_iff_lt-mul, eq-zero-or-pos, eq-or-lt_of_le, pow-suc, arith, ltb→lt, nltb→le, pow_mono, pow-add, shl_lt, le-ltb, lt-ltb, ne_eqb, le-leb}
use lib.Pow.{pow-lt}
use lib.Count.{count_trailing_zeros, under}
use lib.Ieee.{nan, inf, fin, binary32, odd, units, of_fields, of_bits, nan_bits, minus}
use lib.Ieee.Bits.{nan_bits_above}
use borrow.Author.Tests.{lt-leb}

half_pos : (q : ℕ) → 0 < q → q % 2 ≡ 0 → 0 < q / 2
half_pos q h e = omega arith

none_below_one : (q : ℕ) → 0 < q → q < 1 → ⊥
none_below_one q h k = omega arith

tz_more : (d q : ℕ) → 0 < q → q < 2 ^ d → count_trailing_zeros (suc d) q ≡ count_trailing_zeros d q
unfolding count_trailing_zeros
tz_more zero q h k = absurd (none_below_one q h k)
tz_more (suc d) q h k = go (q % 2) refl (λ (e : q % 2 ≡ 0). tz_more d (q / 2) (half_pos q h e)
    ((div-lt_iff_lt-mul (zero-lt-suc 1)).1 (subst (λ (x : ℕ). q < x) (pow-suc 2 d) k)))
  where
    go : (r : ℕ) → q % 2 ≡ r → (q % 2 ≡ 0 → count_trailing_zeros (suc d) (q / 2) ≡ count_trailing_zeros d (q / 2))
        → under r (count_trailing_zeros (suc d) (q / 2)) ≡ under r (count_trailing_zeros d (q / 2))
    go zero e ih = ap suc (ih e)
    go (suc r) e ih = refl

pub odd_more : (d : ℕ) (s : Bool) (q k l : ℕ) → q < 2 ^ d → odd (suc d) s q k l ≡ odd d s q k l
unfolding odd
odd_more d s zero k l h = refl
odd_more d s (suc q) k l h = ap (λ (t : ℕ). fin s (suc q / 2 ^ t) (minus (k + t) l))
    (tz_more d (suc q) (zero-lt-suc q) h)

-- 2 ^ 24 * 2 ^ k is 2 ^ 23 * 2 ^ (k + 1)
odd_top : (s : Bool) (k l : ℕ) → odd 25 s (2 ^ 24) k l ≡ odd 24 s (2 ^ 23) (suc k) l
unfolding odd count_trailing_zeros
odd_top s k l = ap (λ (i : ℕ). fin s 1 (minus i l)) go
  where
    go : k + 24 ≡ suc k + 23
    go = omega arith

of_bits_is : (b : ℕ) → of_bits binary32 b ≡ of_fields binary32 (leb (2 ^ 31) b) (b % 2 ^ 31 / 2 ^ 23) (b % 2 ^ 23)
unfolding of_bits
of_bits_is b = refl

-- the sign above a magnitude
signed : (s : Bool) (n : ℕ) → n < 2 ^ 31 → of_bits binary32 (cond s (2 ^ 31) 0 + n) ≡ of_fields binary32 s (n / 2 ^ 23)
    (n % 2 ^ 23)
signed true n h =
    let b = 2 ^ 31 + n in
    of_bits_is b
    ∙ ap (λ (z : Bool). of_fields binary32 z (b % 2 ^ 31 / 2 ^ 23) (b % 2 ^ 23)) (le-leb (2 ^ 31) b (omega arith))
    ∙ ap (λ (z : ℕ). of_fields binary32 true z (b % 2 ^ 23)) (omega arith)
    ∙ ap (λ (z : ℕ). of_fields binary32 true (n / 2 ^ 23) z) (omega arith)
signed false n h =
    let b = 0 + n in
    of_bits_is b
    ∙ ap (λ (z : Bool). of_fields binary32 z (b % 2 ^ 31 / 2 ^ 23) (b % 2 ^ 23)) (lt-leb (2 ^ 31) b (omega arith))
    ∙ ap (λ (z : ℕ). of_fields binary32 false z (b % 2 ^ 23)) (omega arith)
    ∙ ap (λ (z : ℕ). of_fields binary32 false (n / 2 ^ 23) z) (omega arith)

no_nan : (s : Bool) (n : ℕ) → n ≤ 0x7f80_0000 → T (not (nan_bits binary32 (cond s (2 ^ 31) 0 + n)))
no_nan true n h = subst (λ (b : Bool). T (not b))
    (sym (nan_bits_above binary32 (2 ^ 31 + n) ∙ le-ltb 0x7f80_0000 ((2 ^ 31 + n) % 2 ^ 31) (omega arith))) tt
no_nan false n h = subst (λ (b : Bool). T (not b))
    (sym (nan_bits_above binary32 (0 + n) ∙ le-ltb 0x7f80_0000 ((0 + n) % 2 ^ 31) (omega arith))) tt

infinity : (s : Bool) → of_bits binary32 (cond s (2 ^ 31) 0 + 0x7f80_0000) ≡ inf s
unfolding of_bits
infinity true = refl
infinity false = refl

module _ (s : Bool) (q k : ℕ) (K : k < 254) where
  abbrev n : ℕ
  n = k * 2 ^ 23 + q

  units_under : q * 2 ^ k < 2 ^ 277 → units binary32 s q k ≡ odd 25 s q k 149
  unfolding units
  units_under h = ap (λ (b : Bool). cond b (odd 25 s q k 149) (inf s)) (lt-ltb (q * 2 ^ k) (2 ^ 277) h)

  units-over : 2 ^ 277 ≤ q * 2 ^ k → units binary32 s q k ≡ inf s
  unfolding units
  units-over h = ap (λ (b : Bool). cond b (odd 25 s q k 149) (inf s)) (le-ltb (q * 2 ^ k) (2 ^ 277) h)

  small : q < 2 ^ 24 → units binary32 s q k ≡ odd 24 s q k 149
  small h = units_under (lt_of_lt_of_le (shl_lt 24 k h) (pow_mono {i = 24 + k} {j = 277} (omega arith)))
      ∙ odd_more 24 s q k 149 h

  at_zero : k ≡ 0 → q < 2 ^ 23 → of_fields binary32 s (n / 2 ^ 23) (n % 2 ^ 23) ≡ units binary32 s q k
  unfolding of_fields
  at_zero e h =
      ap (λ (z : ℕ). of_fields binary32 s z (n % 2 ^ 23)) go
      ∙ ap (λ (z : ℕ). odd 24 s z 0 149) go'
      ∙ ap (λ (z : ℕ). odd 24 s q z 149) (sym e)
      ∙ sym (small (omega arith))
    where
      go : n / 2 ^ 23 ≡ 0
      go = omega arith

      go' : n % 2 ^ 23 ≡ q
      go' = omega arith

  normal : 2 ^ 23 ≤ q → q < 2 ^ 24 → of_fields binary32 s (n / 2 ^ 23) (n % 2 ^ 23) ≡ units binary32 s q k
  unfolding of_fields
  normal g h =
      ap (λ (z : ℕ). of_fields binary32 s z (n % 2 ^ 23)) go
      ∙ ap (λ (b : Bool). cond b (cond (eqb (n % 2 ^ 23) 0) (inf s) nan) (odd 24 s (2 ^ 23 + n % 2 ^ 23) k 149))
      (ne_eqb (suc k) 255 (omega arith))
      ∙ ap (λ (z : ℕ). odd 24 s z k 149) go'
      ∙ sym (small h)
    where
      go : n / 2 ^ 23 ≡ suc k
      go = omega arith

      go' : 2 ^ 23 + n % 2 ^ 23 ≡ q
      go' = omega arith

  top_at : k ≡ 253 → q ≡ 2 ^ 24 → of_fields binary32 s (n / 2 ^ 23) (n % 2 ^ 23) ≡ units binary32 s q k
  unfolding of_fields
  top_at e g =
      ap (λ (z : ℕ). of_fields binary32 s z (n % 2 ^ 23)) go
      ∙ ap (λ (z : ℕ). of_fields binary32 s 255 z) go'
      ∙ sym (units-over (le_of_eq (sym (ap (λ (z : ℕ). z * 2 ^ k) g ∙ ap (λ (z : ℕ). 2 ^ 24 * 2 ^ z) e))))
    where
      go : n / 2 ^ 23 ≡ 255
      go = omega arith

      go' : n % 2 ^ 23 ≡ 0
      go' = omega arith

  top_under : k < 253 → q ≡ 2 ^ 24 → of_fields binary32 s (n / 2 ^ 23) (n % 2 ^ 23) ≡ units binary32 s q k
  unfolding of_fields
  top_under h g =
      ap (λ (z : ℕ). of_fields binary32 s z (n % 2 ^ 23)) go
      ∙ ap (λ (b : Bool). cond b (cond (eqb (n % 2 ^ 23) 0) (inf s) nan) (odd 24 s (2 ^ 23 + n % 2 ^ 23) (suc k) 149))
      (ne_eqb (suc (suc k)) 255 (omega arith))
      ∙ ap (λ (z : ℕ). odd 24 s z (suc k) 149) go'
      ∙ sym (odd_top s k 149)
      ∙ ap (λ (z : ℕ). odd 25 s z k 149) (sym g)
      ∙ sym (units_under (subst (λ (z : ℕ). z < 2 ^ 277) (pow-add 2 24 k ∙ ap (λ (z : ℕ). z * 2 ^ k) (sym g))
      (pow-lt {i = 24 + k} {j = 277} (omega arith))))
    where
      go : n / 2 ^ 23 ≡ suc (suc k)
      go = omega arith

      go' : 2 ^ 23 + n % 2 ^ 23 ≡ 2 ^ 23
      go' = omega arith

  fields_are : q ≤ 2 ^ 24 → (0 < k → 2 ^ 23 ≤ q) → of_fields binary32 s (n / 2 ^ 23) (n % 2 ^ 23) ≡ units binary32 s q k
  fields_are a b = go (eq-or-lt_of_le a)
    where
      least : q < 2 ^ 23 → (0 < k → 2 ^ 23 ≤ q) → k ≡ 0
      least h f = elim (eq-zero-or-pos k) [ inl e ↦ e | inr l ↦ absurd (omega (arith, f l)) ]

      below : q < 2 ^ 24 → (t : Bool) → (T t → q < 2 ^ 23) → (T (not t) → 2 ^ 23 ≤ q)
          → of_fields binary32 s (n / 2 ^ 23) (n % 2 ^ 23) ≡ units binary32 s q k
      below h true f g = at_zero (least (f tt) b) (f tt)
      below h false f g = normal (g tt) h

      last : k ≤ 253
      last = omega arith

      go : (q ≡ 2 ^ 24) ⊎ (q < 2 ^ 24) → of_fields binary32 s (n / 2 ^ 23) (n % 2 ^ 23) ≡ units binary32 s q k
      go (inl e) = elim (eq-or-lt_of_le last) [ inl f ↦ top_at f e | inr f ↦ top_under f e ]
      go (inr h) = below h (ltb q (2 ^ 23)) (ltb→lt q (2 ^ 23)) (nltb→le q (2 ^ 23))

  pub pack-units : q ≤ 2 ^ 24 → (0 < k → 2 ^ 23 ≤ q) → of_bits binary32 (cond s (2 ^ 31) 0 + (k * 2 ^ 23 + q))
      ≡ units binary32 s q k
  pack-units a b = signed s n (omega arith) ∙ fields_are a b

  pub pack_no_nan : q ≤ 2 ^ 24 → T (not (nan_bits binary32 (cond s (2 ^ 31) 0 + (k * 2 ^ 23 + q))))
  pack_no_nan a = no_nan s (k * 2 ^ 23 + q) (omega arith)

-- an overflow
pub infinity_no_nan : (s : Bool) → T (not (nan_bits binary32 (cond s (2 ^ 31) 0 + 0x7f80_0000)))
infinity_no_nan s = no_nan s 0x7f80_0000 (omega arith)

pub pack-over : (s : Bool) (q k : ℕ) → 253 < k → 2 ^ 23 ≤ q → of_bits binary32 (cond s (2 ^ 31) 0 + 0x7f80_0000)
    ≡ units binary32 s q k
unfolding units
pack-over s q k K h = infinity s
    ∙ sym (ap (λ (b : Bool). cond b (odd 25 s q k 149) (inf s))
    (le-ltb (q * 2 ^ k) (2 ^ 277) (le_trans (pow_mono {i = 277} {j = 23 + k} (omega arith))
    (le_trans (le_of_eq (pow-add 2 23 k)) (mul-le-mul_right (2 ^ k) h)))))

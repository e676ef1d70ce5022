-- powf meets IsPow.
use Rattle.std.proofs.Common.{◌≡◌, ℕ, ◌+◌, ◌%◌, ◌^◌, ◌<◌, ◌≤◌, Bool, true, false, not, T, ◌⊎◌, pos, sym, refl, ap, ◌∙◌, subst, inl, inr, zero-add, arith}
use lib.Ieee.{Float, nan, inf, fin, binary32, is_nan, of_bits, to_bits, fits}
use lib.Ieee.Bits.{of_bits-to_bits, to_bits-lt}
use Rattle.series.proofs.Cuts.{lt_or_ge}
use Rattle.elementary.specs.Pow.{zero_size, zero_bits, inf_bits, num_bits, pow_of}
use Rattle.elementary.specs.Accuracy.{sign_of, Finite, IsZero, IsOne, IsPlus, IsMinus, IsOdd, IsPow}
use Rattle.elementary.proofs.Common.{number_of-bits, bits_of_number, infinity_is, minus_infinity_is, zero_is}
use Rattle.elementary.proofs.power.Shown.{Shown}
use Rattle.elementary.proofs.power.Finite.{finite_law}
use Rattle.elementary.proofs.powf.Cases.{zero_odd, zero_even, size_plus, size_minus, inf_plus, inf_minus}
use Rattle.elementary.proofs.powf.Cases.{to_inf_low, to_inf_high, num_zero, num_inf, num_to_inf, at_zero, at_one}
use Rattle.elementary.proofs.powf.Cases.{at-below, at-num, at_regular, nan_not_one, of_nan-y, of_nan_y_one}
use Rattle.elementary.proofs.powf.Cases.{of_nan-x, of_nan_x_zero, of_numbers}
use Rattle.elementary.proofs.powf.Odd.{is_odd_lem, not_odd}

-- ---- NaN
nan_is : (x : Float) → T (is_nan x) → x ≡ nan
unfolding is_nan
nan_is nan t = refl
nan_is (inf s) t = absurd t
nan_is (fin s m e) t = absurd t

is_number : (x : Float) → is_nan x ≡ false → T (not (is_nan x))
is_number x e = subst (λ (t : Bool). T (not t)) (sym e) tt

minus_number : (y : Float) → 2 ^ 31 < to_bits binary32 y → T (not (is_nan y))
unfolding is_nan to_bits
minus_number nan h = absurd (no h)
  where
    no : 2 ^ 31 < 2143289344 → ⊥
    no h = omega arith
minus_number (inf s) h = tt
minus_number (fin s m e) h = tt

-- ---- the infinity with the sign of a zero
minus_zero_is : of_bits binary32 (2 ^ 31) ≡ fin true 0 (pos 0)
unfolding of_bits
minus_zero_is = refl

signed : (x : Float) (b : ℕ) → x ≡ of_bits binary32 b → b < 2 ^ 32 → b % 2 ^ 31 ≡ 0
    → of_bits binary32 (0x7F800000 + b) ≡ inf (sign_of x)
signed x b e l z = go (lt_or_ge b (2 ^ 31))
  where
    go : (b < 2 ^ 31) ⊎ (2 ^ 31 ≤ b) → of_bits binary32 (0x7F800000 + b) ≡ inf (sign_of x)
    go (inl i) =
        let k : b ≡ 0 = omega arith in
        ap (λ (n : ℕ). of_bits binary32 (0x7F800000 + n)) k ∙ infinity_is
        ∙ sym (ap (λ (v : Float). inf (sign_of v)) (e ∙ ap (of_bits binary32) k ∙ zero_is))
    go (inr i) =
        let k : b ≡ 2 ^ 31 = omega arith in
        ap (λ (n : ℕ). of_bits binary32 (0x7F800000 + n)) k ∙ minus_infinity_is
        ∙ sym (ap (λ (v : Float). inf (sign_of v)) (e ∙ ap (of_bits binary32) k ∙ minus_zero_is))

module _ (x y : Float) (fx : T (fits binary32 x)) (fy : T (fits binary32 y)) where
  abbrev b : ℕ
  b = to_bits binary32 x

  abbrev c : ℕ
  c = to_bits binary32 y

  x_is : x ≡ of_bits binary32 b
  x_is = sym (of_bits-to_bits binary32 x fx)

  y_is : y ≡ of_bits binary32 c
  y_is = sym (of_bits-to_bits binary32 y fy)

  b_lt : b < 2 ^ 32
  b_lt = to_bits-lt binary32 x fx

  c_lt : c < 2 ^ 32
  c_lt = to_bits-lt binary32 y fy

  -- ---- kinds of arguments
  minus_range : IsMinus y → c % 2 ^ 31 ≤ 0x7F800000
  minus_range m = bits_of_number y fy (minus_number y m)

  minus_some : IsMinus y → c % 2 ^ 31 ≡ 0 → ⊥
  minus_some m z = omega (arith, c_lt)

  plus_number : IsPlus y → T (not (is_nan y))
  plus_number p = number_of-bits y (omega (arith, p.number))

  plus_some : IsPlus y → c % 2 ^ 31 ≡ 0 → ⊥
  plus_some p z = omega (arith, p.above, p.number)

  -- ---- x is ±0
  module _ (z : IsZero x) where
    from_zero : T (not (is_nan y)) → (c % 2 ^ 31 ≡ 0 → ⊥) → pow_of x y ≡ of_bits binary32 (zero_bits b c)
    from_zero ny n =
        of_numbers x y (number_of-bits x (omega arith)) ny ∙ at-num b c n other (omega (arith, b_lt))
        ∙ ap (of_bits binary32) (num_zero b c z)
      where
        other : b ≡ 0x3F800000 → ⊥
        other e = omega arith

    zero_minus_odd : IsMinus y → IsOdd y → pow_of x y ≡ inf (sign_of x)
    zero_minus_odd m o =
        from_zero (minus_number y m) (minus_some m)
        ∙ ap (of_bits binary32) (zero_odd b c (is_odd_lem y c y_is c_lt (minus_range m) o)
        ∙ ap (λ (n : ℕ). n + b) (size_minus c (omega arith)))
        ∙ signed x b x_is b_lt z

    zero_minus : IsMinus y → (IsOdd y → ⊥) → pow_of x y ≡ inf false
    zero_minus m o =
        from_zero (minus_number y m) (minus_some m)
        ∙ ap (of_bits binary32) (zero_even b c (not_odd y c y_is c_lt (minus_range m) o) ∙ size_minus c (omega arith))
        ∙ infinity_is

    zero_plus_odd : IsPlus y → IsOdd y → pow_of x y ≡ x
    zero_plus_odd p o =
        from_zero (plus_number p) (plus_some p)
        ∙ ap (of_bits binary32) (zero_odd b c (is_odd_lem y c y_is c_lt (omega (arith, p.number)) o)
        ∙ ap (λ (n : ℕ). n + b) (size_plus c (omega (arith, p.number))) ∙ zero-add b)
        ∙ sym x_is

    zero_plus : IsPlus y → (IsOdd y → ⊥) → pow_of x y ≡ fin false 0 (pos 0)
    zero_plus p o =
        from_zero (plus_number p) (plus_some p)
        ∙ ap (of_bits binary32) (zero_even b c (not_odd y c y_is c_lt (omega (arith, p.number)) o)
        ∙ size_plus c (omega (arith, p.number)))
        ∙ zero_is

  -- ---- 1^y and x^±0
  from_one : IsOne x → pow_of x y ≡ of_bits binary32 0x3F800000
  from_one e = go (is_nan y) refl
    where
      go : (t : Bool) → is_nan y ≡ t → pow_of x y ≡ of_bits binary32 0x3F800000
      go true i = of_nan_y_one x y (nan_is y (subst T (sym i) tt)) e
      go false i = of_numbers x y (number_of-bits x (omega arith)) (is_number y i) ∙ at_one b c e

  to_zero : IsZero y → pow_of x y ≡ of_bits binary32 0x3F800000
  to_zero z = go (is_nan x) refl
    where
      ny : T (not (is_nan y))
      ny = number_of-bits y (omega arith)

      go : (t : Bool) → is_nan x ≡ t → pow_of x y ≡ of_bits binary32 0x3F800000
      go true i = of_nan_x_zero x y ny (nan_is x (subst T (sym i) tt)) z
      go false i = of_numbers x y (is_number x i) ny ∙ at_zero b c z

  -- ---- x above 0 to an infinity
  module _ (p : IsPlus x) (i : c % 2 ^ 31 ≡ 0x7F800000) where
    to_infinity : (b ≡ 0x3F800000 → ⊥) → pow_of x y ≡ of_bits binary32 (num_bits b c)
    to_infinity other =
        of_numbers x y (number_of-bits x (omega (arith, p.number))) (number_of-bits y (omega arith))
        ∙ at-num b c some other (omega (arith, p.number))
      where
        some : c % 2 ^ 31 ≡ 0 → ⊥
        some z = omega arith

    nonzero : b % 2 ^ 31 ≡ 0 → ⊥
    nonzero z = omega (arith, p.above, p.number)

    small_power : b < 0x3F800000 → pow_of x y ≡ of_bits binary32 (zero_size c)
    small_power l = to_infinity other ∙ ap (of_bits binary32) (num_to_inf b c nonzero finite i ∙ to_inf_low b c l)
      where
        other : b ≡ 0x3F800000 → ⊥
        other e = omega arith

        finite : b ≡ 0x7F800000 → ⊥
        finite e = omega arith

    large_power : 0x3F800000 < b → pow_of x y ≡ of_bits binary32 (inf_bits c)
    large_power l = to_infinity other ∙ ap (of_bits binary32) (go (lt_or_ge b 0x7F800000))
      where
        other : b ≡ 0x3F800000 → ⊥
        other e = omega arith

        less : {m n : ℕ} → m < n → m ≡ n → ⊥
        less l e = omega arith

        go : (b < 0x7F800000) ⊎ (0x7F800000 ≤ b) → num_bits b c ≡ inf_bits c
        go (inl j) = num_to_inf b c nonzero (less j) i ∙ to_inf_high b c (omega arith)
        go (inr j) = num_inf b c nonzero (omega (arith, p.number))

  -- ---- +infinity
  from_infinity : b ≡ 0x7F800000 → T (not (is_nan y)) → (c % 2 ^ 31 ≡ 0 → ⊥)
      → pow_of x y ≡ of_bits binary32 (inf_bits c)
  from_infinity e ny n =
      of_numbers x y (number_of-bits x (omega arith)) ny ∙ at-num b c n other (omega arith)
      ∙ ap (of_bits binary32) (num_inf b c nonzero e)
    where
      other : b ≡ 0x3F800000 → ⊥
      other k = omega arith

      nonzero : b % 2 ^ 31 ≡ 0 → ⊥
      nonzero z = omega arith

  -- ---- NaN, and x below 0
  from_nan : T (is_nan x) → (IsZero y → ⊥) → pow_of x y ≡ nan
  from_nan t n = go (is_nan y) refl
    where
      e : x ≡ nan
      e = nan_is x t

      go : (s : Bool) → is_nan y ≡ s → pow_of x y ≡ nan
      go true i = of_nan-y x y (nan_is y (subst T (sym i) tt)) (nan_not_one x e)
      go false i = of_nan-x x y (is_number y i) e n

  from_minus : IsMinus x → (IsZero y → ⊥) → pow_of x y ≡ nan
  from_minus m n = go (is_nan y) refl
    where
      other : b ≡ 0x3F800000 → ⊥
      other e = omega arith

      go : (s : Bool) → is_nan y ≡ s → pow_of x y ≡ nan
      go true i = of_nan-y x y (nan_is y (subst T (sym i) tt)) other
      go false i = of_numbers x y (minus_number x m) (is_number y i) ∙ at-below b c n other m

  -- ---- a finite x above 0 and a finite y
  finite_is : Finite x y → Shown x y (pow_of x y)
  finite_is f =
      subst (Shown x y) (sym (of_numbers x y (number_of-bits x (omega (arith, f.finite)))
      (number_of-bits y (omega (arith, f.number))) ∙ at_regular b c f.positive f.finite f.number))
      (finite_law x y fx fy f)

  pub pow_law : IsPow x y (pow_of x y)
  pow_law = record {
    near = λ f. (finite_is f).near;
    under = λ f. (finite_is f).under;
    over = λ f. (finite_is f).over;
    zero_to_minus_odd = zero_minus_odd;
    zero_to_minus = zero_minus;
    zero_to_odd = zero_plus_odd;
    zero_to_plus = zero_plus;
    of_one = from_one;
    to_zero = to_zero;
    small_to_minus_infinity =
        λ p l e. small_power p (omega arith) l ∙ ap (of_bits binary32) (size_minus c (omega arith)) ∙ infinity_is;
    large_to_minus_infinity =
        λ p l e. large_power p (omega arith) l ∙ ap (of_bits binary32) (inf_minus c (omega arith)) ∙ zero_is;
    small_to_infinity =
        λ p l e. small_power p (omega arith) l ∙ ap (of_bits binary32) (size_plus c (omega arith)) ∙ zero_is;
    large_to_infinity =
        λ p l e. large_power p (omega arith) l ∙ ap (of_bits binary32) (inf_plus c (omega arith)) ∙ infinity_is;
    infinity_to_minus =
        λ e m. from_infinity e (minus_number y m) (minus_some m) ∙ ap (of_bits binary32) (inf_minus c (omega arith))
        ∙ zero_is;
    infinity_to_plus =
        λ e p. from_infinity e (plus_number p) (plus_some p)
        ∙ ap (of_bits binary32) (inf_plus c (omega (arith, p.number))) ∙ infinity_is;
    of_nan = from_nan;
    to_nan = λ t n. of_nan-y x y (nan_is y t) n;
    below = from_minus;
  }

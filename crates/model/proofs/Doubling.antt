-- Sixteen doublings are enough: from 1 or more, the upper end of the bisection then stands at S_MAX, or the curve
-- there is not above the retention any more.
--     doubled_enough f r h                from h of at least 1, for any curve f
--     bisection_reaches f r top           in the bisection, whose upper end starts at 1 or more
use Rattle.std.proofs.Common.{◌≡◌, ℕ, zero, suc, ◌+◌, ◌*◌, ◌^◌, ◌<◌, ◌≤◌, Bool, true, false, cond, not, ◌&&◌, ◌||◌, T, ◌⊎◌, sym, refl, ap, ◌∙◌, subst, inl, inr, true≢false, mul_assoc, mul-one, arith, lit<, pow_pos}
use native.Mathlib.Nat.{pow-succ'}
use lib.Ieee.{Float, nan, inf, fin, binary32, of_bits, of_fields, lt, le, eq, round, is_nan}
use lib.Ieee.Exact.{HasValue}
use lib.Ieee.Back.{round_whole}
use lib.Ieee.Positive.{positive, positive_of_value, mul_at, mul_mono, le_trans_positive, between}
use Rattle.float32.specs.Float32 as Float32
use Rattle.float32.specs.Ops.{◌*ᶠ◌}
use Rattle.float32.specs.Numbers.{1ᶠ}
use Rattle.float32.proofs.Numbers.{one_is}
use Rattle.float32.proofs.Limits.{le_refl, max-ge}
use Rattle.model.specs.Constants.{s_max, two}
use Rattle.model.specs.Model.{doubled}

-- a whole number as a float
abbrev whole : ℕ → Float
whole m = round binary32 false m 1

whole_positive : (m : ℕ) → 0 < m → m ≤ 2 ^ 24 → T (positive (whole m))
whole_positive m p h = positive_of_value (whole m) m 1 (round_whole binary32 false m h) p

top_positive : T (positive s_max)
unfolding round
top_positive = tt

two-value : HasValue two false 2 1
unfolding round
two-value = (refl, refl)

two_positive : T (positive two)
two_positive = positive_of_value two 2 1 two-value (lit< tt)

lt-le : (x y : Float) → lt x y ≡ true → T (le x y)
unfolding le
lt-le x y h = go (lt x y) h
  where
    go : (a : Bool) → a ≡ true → T (a || eq x y)
    go true e = tt
    go false e = absurd (true≢false (sym e))

-- twice a number from m to S_MAX is at least 2 m
double_ge : (m : ℕ) (h : Float) → 0 < m → m ≤ 2 ^ 24 → T (le (whole m) h) → lt h s_max ≡ true
    → T (le (whole (m * 2)) (h *ᶠ two))
double_ge m h p k l t =
    let x = whole_positive m p k in
    let y : T (positive h) = between (whole m) h s_max x top_positive l (lt-le h s_max t) in
    subst (λ (z : Float). T (le z (h *ᶠ two))) (mul_at binary32 (whole m) two m 1 2 1 x two_positive (lit< tt) (lit< tt)
    (round_whole binary32 false m k) two-value)
    (mul_mono binary32 (whole m) h two two x y two_positive two_positive l (le_refl two (number two two_positive)))
  where
    number : (z : Float) → T (positive z) → is_nan z ≡ false
    number nan q = absurd q
    number (inf s) q = absurd q
    number (fin s a e) q = unfold is_nan in refl

top_stops : lt s_max s_max ≡ false
unfolding round lt
top_stops = refl

-- 65,536 is past S_MAX
past_top : T (not (le (whole 65536) s_max))
unfolding round le lt eq
past_top = tt

too_far : (h : Float) → T (le (whole 65536) h) → lt h s_max ≡ true → ⊥
too_far h l t =
    let x = whole_positive 65536 (lit< tt) (omega arith) in
    absurd_not (le (whole 65536) s_max) past_top
    (le_trans_positive (whole 65536) h s_max x (between (whole 65536) h s_max x top_positive l (lt-le h s_max t))
    top_positive l (lt-le h s_max t))
  where
    absurd_not : (b : Bool) → T (not b) → T b → ⊥
    absurd_not true p q = p
    absurd_not false p q = q

and-false : (a b : Bool) → b ≡ false → (a && b) ≡ false
and-false true b h = h
and-false false b h = refl

and_right : (a b : Bool) → (a && b) ≡ true → b ≡ true
and_right true b h = h
and_right false b h = absurd (true≢false (sym h))

bound : (m x : ℕ) → m * x ≡ 65536 → 0 < x → m ≤ 2 ^ 24
bound m (suc x) q l = go (m * x) (omega (arith, q))
  where
    go : (y : ℕ) → m + y ≡ 65536 → m ≤ 2 ^ 24
    go y e = omega arith
bound m zero q l = absurd (no l)
  where
    no : 0 < 0 → ⊥
    no l = omega arith

one_number : is_nan 1ᶠ ≡ false
unfolding of_bits of_fields is_nan
one_number = refl

-- where the doubling goes on
module _ (f : Float → Float) (r : Float) where
  abbrev on : Float → Bool
  on h = lt r (f h) && lt h s_max

  -- the upper end is m or more, or the doubling stops there
  abbrev Reached : ℕ → Float → Type 0
  Reached m h = T (le (whole m) h) ⊎ (lt h s_max ≡ false)

  step : (m : ℕ) (h : Float) → 0 < m → m ≤ 2 ^ 24 → on h ≡ true → Reached m h
      → Reached (m * 2) (Float32.min (h *ᶠ two) s_max)
  unfolding Float32.min
  step m h p k e (inr s) = absurd (true≢false (sym (and_right (lt r (f h)) (lt h s_max) e) ∙ s))
  step m h p k e (inl l) = go (is_nan (h *ᶠ two)) (lt s_max (h *ᶠ two))
    where
      go : (a b : Bool) → Reached (m * 2) (cond a s_max (cond b s_max (h *ᶠ two)))
      go true b = inr top_stops
      go false true = inr top_stops
      go false false = inl (double_ge m h p k l (and_right (lt r (f h)) (lt h s_max) e))

  at-end : (h : Float) → Reached 65536 h → on h ≡ false
  at-end h (inr s) = and-false (lt r (f h)) (lt h s_max) s
  at-end h (inl l) = go (on h) refl
    where
      go : (b : Bool) → on h ≡ b → b ≡ false
      go true e = absurd (too_far h l (and_right (lt r (f h)) (lt h s_max) e))
      go false e = refl

  enough : (n m : ℕ) (h : Float) → 0 < m → m * 2 ^ n ≡ 65536 → Reached m h → on (doubled n f r h) ≡ false
  unfolding doubled
  enough zero m h p e k = at-end h (subst (λ (z : ℕ). Reached z h) (sym (mul-one m) ∙ e) k)
  enough (suc n) m h p e k =
      go (on h) refl
      (λ (q : on h ≡ true).
      enough n (m * 2) (Float32.min (h *ᶠ two) s_max) (omega arith) (mul_assoc m 2 (2 ^ n) ∙ ap (λ (z : ℕ). m * z)
      (sym (pow-succ' 2 n)) ∙ e)
      (step m h p (bound m (2 ^ suc n) e (pow_pos (suc n))) q k))
    where
      go : (b : Bool) → on h ≡ b → (on h ≡ true → on (doubled n f r (Float32.min (h *ᶠ two) s_max)) ≡ false)
          → on (cond b (doubled n f r (Float32.min (h *ᶠ two) s_max)) h) ≡ false
      go false q g = q
      go true q g = g q

  pub doubled_enough : (h : Float) → T (le 1ᶠ h) → on (doubled 16 f r h) ≡ false
  doubled_enough h l = enough 16 1 h (lit< tt) refl (inl (subst (λ (z : Float). T (le z h)) one_is l))

  -- in the bisection, whose upper end starts at 1 or more
  pub bisection_reaches : (top : Float) → on (doubled 16 f r (Float32.max top 1ᶠ)) ≡ false
  bisection_reaches top = doubled_enough (Float32.max top 1ᶠ) (max-ge top 1ᶠ one_number)

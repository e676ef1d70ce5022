-- `Ieee.sum` by the signs and the order of its two terms, and at another denominator.
--   sum_like                         two terms of one sign
--   sum_over, sum_under, sum_level   of unlike signs, the first the larger, the smaller, or as large
--   Order, order                     two numbers are less, the same or more
--   test                             a test is true or false
--   sum_same                         the sum at another denominator
use Rattle.std.proofs.Common.{◌≡◌, ℕ, ◌+◌, ◌-◌, ◌*◌, ◌<◌, ◌≤◌, Bool, true, false, cond, not, ◌&&◌, T, ltb, sym, refl, ap, ◌∙◌, true≢false, le_of_eq, lt_of_lt_of_le, lt_of_le_of_lt, le_of_lt, add-mul, lt_of_mul-lt-mul_right, mul-lt-mul_of_pos_right, zero-mul, arith, ltb→lt, nltb→le, le-ltb, lt-ltb}
use mathlib.Core.Bool.{false≢true}
use native.Mathlib.Nat.{eq_of_mul-eq-mul_right}
use lib.Ieee.{Format, unlike, round, sum}
use lib.Ieee.Scale.{round_same}

module _ (f : Format) (a b c : ℕ) where
  pub sum_like : (s t : Bool) → unlike s t ≡ false → sum f s a t b c ≡ round f s (a + b) c
  unfolding sum
  sum_like true true h = refl
  sum_like false false h = refl
  sum_like true false h = absurd (true≢false h)
  sum_like false true h = absurd (true≢false h)

  over : (s t : Bool) → b < a → cond (ltb a b) (round f t (b - a) c) (round f (s && ltb b a) (a - b) c)
      ≡ round f (s && true) (a - b) c
  over s t l = ap (λ (z : Bool). cond z (round f t (b - a) c) (round f (s && ltb b a) (a - b) c))
      (le-ltb a b (le_of_lt l)) ∙ ap (λ (z : Bool). round f (s && z) (a - b) c) (lt-ltb b a l)

  under : (s t : Bool) → a < b → cond (ltb a b) (round f t (b - a) c) (round f (s && ltb b a) (a - b) c)
      ≡ round f t (b - a) c
  under s t l = ap (λ (z : Bool). cond z (round f t (b - a) c) (round f (s && ltb b a) (a - b) c)) (lt-ltb a b l)

  level : (s t : Bool) → a ≡ b → cond (ltb a b) (round f t (b - a) c) (round f (s && ltb b a) (a - b) c)
      ≡ round f (s && false) 0 c
  level s t l =
      ap (λ (z : Bool). cond z (round f t (b - a) c) (round f (s && ltb b a) (a - b) c)) (le-ltb a b (omega arith))
      ∙ ap (λ (z : Bool). round f (s && z) (a - b) c) (le-ltb b a (omega arith))
      ∙ ap (λ (z : ℕ). round f (s && false) z c) (omega arith)

  pub sum_over : (s t : Bool) → unlike s t ≡ true → b < a → sum f s a t b c ≡ round f s (a - b) c
  unfolding sum
  sum_over true true h l = absurd (false≢true h)
  sum_over false false h l = absurd (false≢true h)
  sum_over true false h l = over true false l
  sum_over false true h l = over false true l

  pub sum_under : (s t : Bool) → unlike s t ≡ true → a < b → sum f s a t b c ≡ round f t (b - a) c
  unfolding sum
  sum_under true true h l = absurd (false≢true h)
  sum_under false false h l = absurd (false≢true h)
  sum_under true false h l = under true false l
  sum_under false true h l = under false true l

  pub sum_level : (s t : Bool) → unlike s t ≡ true → a ≡ b → sum f s a t b c ≡ round f false 0 c
  unfolding sum
  sum_level true true h l = absurd (false≢true h)
  sum_level false false h l = absurd (false≢true h)
  sum_level true false h l = level true false l
  sum_level false true h l = level false true l

-- ---- the order of two numbers
pub data Order (a b : ℕ) : Type 0 where
  less : a < b → Order a b
  same : a ≡ b → Order a b
  more : b < a → Order a b

pub order : (a b : ℕ) → Order a b
order a b = go (ltb a b) (ltb b a) (ltb→lt a b) (nltb→le a b) (ltb→lt b a) (nltb→le b a)
  where
    eq : a ≤ b → b ≤ a → a ≡ b
    eq h k = omega arith

    go : (p q : Bool) → (T p → a < b) → (T (not p) → b ≤ a) → (T q → b < a) → (T (not q) → a ≤ b) → Order a b
    go true q f g h k = less (f tt)
    go false true f g h k = more (h tt)
    go false false f g h k = same (eq (k tt) (g tt))

pub test : (v : Bool) {X : Type 0} → (v ≡ true → X) → (v ≡ false → X) → X
test true f g = f refl
test false f g = g refl

-- ---- another denominator
sub-mul : (a b c : ℕ) → b ≤ a → (a - b) * c ≡ a * c - b * c
sub-mul a b c h = go ((a - b) * c) (b * c) (a * c) (sym (add-mul (a - b) b c) ∙ ap (λ (z : ℕ). z * c) back)
  where
    back : a - b + b ≡ a
    back = omega arith

    go : (x y z : ℕ) → x + y ≡ z → x ≡ z - y
    go x y z e = omega arith

module _ (f : Format) (s : Bool) (a : ℕ) (t : Bool) (b c a' b' c' : ℕ) (C : 0 < c) (C' : 0 < c') (p : a * c' ≡ a' * c)
    (q : b * c' ≡ b' * c) where
  less' : a < b → a' < b'
  less' l = lt_of_mul-lt-mul_right c
      (lt_of_le_of_lt (le_of_eq (sym p)) (lt_of_lt_of_le (mul-lt-mul_of_pos_right l C') (le_of_eq q)))

  more' : b < a → b' < a'
  more' l = lt_of_mul-lt-mul_right c
      (lt_of_le_of_lt (le_of_eq (sym q)) (lt_of_lt_of_le (mul-lt-mul_of_pos_right l C') (le_of_eq p)))

  same' : a ≡ b → a' ≡ b'
  same' l = eq_of_mul-eq-mul_right c C a' b' (sym p ∙ ap (λ (z : ℕ). z * c') l ∙ q)

  pub sum_same : sum f s a t b c ≡ sum f s a' t b' c'
  sum_same = test (unlike s t) (go (order a b)) like
    where
      like : unlike s t ≡ false → sum f s a t b c ≡ sum f s a' t b' c'
      like h =
          sum_like f a b c s t h
          ∙ round_same f s (a + b) c (a' + b') c' C C' (add-mul a b c' ∙ ap (λ (z : ℕ). z + b * c') p
          ∙ ap (λ (z : ℕ). a' * c + z) q ∙ sym (add-mul a' b' c))
          ∙ sym (sum_like f a' b' c' s t h)

      go : Order a b → unlike s t ≡ true → sum f s a t b c ≡ sum f s a' t b' c'
      go (less l) h =
          sum_under f a b c s t h l
          ∙ round_same f t (b - a) c (b' - a') c' C C' (sub-mul b a c' (le_of_lt l) ∙ ap (λ (z : ℕ). z - a * c') q
          ∙ ap (λ (z : ℕ). b' * c - z) p ∙ sym (sub-mul b' a' c (le_of_lt (less' l))))
          ∙ sym (sum_under f a' b' c' s t h (less' l))
      go (same l) h = sum_level f a b c s t h l ∙ round_same f false 0 c 0 c' C C' (zero-mul c' ∙ sym (zero-mul c))
          ∙ sym (sum_level f a' b' c' s t h (same' l))
      go (more l) h =
          sum_over f a b c s t h l
          ∙ round_same f s (a - b) c (a' - b') c' C C' (sub-mul a b c' (le_of_lt l) ∙ ap (λ (z : ℕ). z - b * c') p
          ∙ ap (λ (z : ℕ). a' * c - z) q ∙ sym (sub-mul a' b' c (le_of_lt (more' l))))
          ∙ sym (sum_over f a' b' c' s t h (more' l))

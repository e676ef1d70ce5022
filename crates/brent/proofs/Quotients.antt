-- The parabola's move p / q stays between the ends where its tests pass.
--   Fit i k j rat   a move from x that stays between the ends
--   fit_moves       where the tests of the parabola pass, p / q is one
--   mul_add_fits     what the parabola's p is made of fits a binary32
use mathlib.Core.Path.{◌≡◌, refl, sym, ap, ◌∙◌, subst}
use mathlib.Core.Bool.{Bool, true, false, not, beq, cond, ◌&&◌, true≢false}
use Prim.Native.Nat.{ℕ, zero, suc, ◌+◌, ◌-◌, ◌*◌, ◌^◌, ◌≤◌, ◌<◌}
use native.Mathlib.Nat.{le_trans, le_of_eq, le_of_lt, mul_comm, mul_assoc, mul-pos, zero-mul}
use native.Mathlib.Omega.{arith}
use borrow.Author.Tests.{ltb-true, ltb-false, ne_eqb}
use lib.Dec.{T, ltb, eqb}
use lib.IntN.{ℤ}
use lib.Ieee.{Float, nan, inf, fin, binary32, up, down, round, sum, mul, div, neg, lt, le, eq, fits, unlike}
use lib.Ieee.Fits.{down_pos, round-fits, cond-fits, add-fits, inf-fits, nan-fits}
use lib.Ieee.Exact.{HasValue}
use lib.Ieee.Order.{round_mono}
use lib.Ieee.Positive.{first_pos}
use Rattle.float32.specs.Float32 as Float32
use Rattle.float32.specs.Ops.{◌-ᶠ◌, ◌*ᶠ◌, ◌/ᶠ◌}
use Rattle.float32.proofs.NonNegative.{non_negative, round-clear}
use Rattle.float32.proofs.Sums.{Order, less, same, more, order}
use Rattle.brent.proofs.Values.{own-round, le-vals, below_no, round_flip, neg_value}
use Rattle.brent.proofs.Multiples.{N, At, In, rounded_in}
use Rattle.brent.proofs.Operations.{mul_at, minus_over, minus_under}

-- ---- signs
lt-neg : (x y : Float) → lt (neg x) (neg y) ≡ lt y x
unfolding lt neg
lt-neg nan nan = refl
lt-neg nan (inf t) = refl
lt-neg nan (fin t n d) = refl
lt-neg (inf s) nan = refl
lt-neg (inf true) (inf true) = refl
lt-neg (inf true) (inf false) = refl
lt-neg (inf false) (inf true) = refl
lt-neg (inf false) (inf false) = refl
lt-neg (inf s) (fin t n d) = refl
lt-neg (fin s m e) nan = refl
lt-neg (fin s m e) (inf true) = refl
lt-neg (fin s m e) (inf false) = refl
lt-neg (fin true m e) (fin true n d) = refl
lt-neg (fin true m e) (fin false n d) = refl
lt-neg (fin false m e) (fin true n d) = ap (ltb 0) (comm (m * up e * down d) (n * up d * down e))
  where
    comm : (a b : ℕ) → a + b ≡ b + a
    comm a b = omega arith
lt-neg (fin false m e) (fin false n d) = refl

neg-neg : (x : Float) → neg (neg x) ≡ x
unfolding neg
neg-neg nan = refl
neg-neg (inf true) = refl
neg-neg (inf false) = refl
neg-neg (fin true m e) = refl
neg-neg (fin false m e) = refl

unlike-not : (s t : Bool) → unlike s (not t) ≡ not (unlike s t)
unlike-not true true = refl
unlike-not true false = refl
unlike-not false true = refl
unlike-not false false = refl

infinite : (b s t : Bool) → cond b nan (inf (unlike s (not t))) ≡ neg (cond b nan (inf (unlike s t)))
unfolding neg
infinite true s t = refl
infinite false s t = ap inf (unlike-not s t)

mul-neg : (x y : Float) → mul binary32 x (neg y) ≡ neg (mul binary32 x y)
unfolding mul neg
mul-neg nan y = refl
mul-neg (inf s) nan = refl
mul-neg (inf s) (inf t) = ap inf (unlike-not s t)
mul-neg (inf s) (fin t n d) = infinite (eqb n 0) s t
mul-neg (fin s m e) nan = refl
mul-neg (fin s m e) (inf t) = infinite (eqb m 0) s t
mul-neg (fin s m e) (fin t n d) =
    ap (λ (z : Bool). round binary32 z (m * up e * (n * up d)) (down e * down d)) (unlike-not s t)
    ∙ round_flip binary32 (unlike s t) (m * up e * (n * up d)) (down e * down d)

fits_sign : (m : ℕ) (e : ℤ) → T (fits binary32 (fin true m e)) → T (fits binary32 (fin false m e))
unfolding fits
fits_sign zero e t = t
fits_sign (suc m) e t = t

-- ---- a quotient that the product's test bounds
not-over : (m : ℕ) (e : ℤ) (r z : Float) → T (non_negative r) → T (le r z) → HasValue z false (m * up e) (down e)
    → lt (fin false m e) r ≡ false
unfolding le lt eq
not-over m e nan z n h v = absurd n
not-over m e (inf true) z n h v = absurd n
not-over m e (inf false) nan n h v = absurd v
not-over m e (inf false) (inf t) n h v = absurd v
not-over m e (inf false) (fin t k g) n h v = absurd h
not-over m e (fin true k g) z n h v = absurd n
not-over m e (fin false k g) z n h v =
    below_no (fin false m e) (fin false k g) (m * up e) (down e) (k * up g) (down g) (down_pos e) (down_pos g)
    (refl, refl) (refl, refl)
    (le-vals (fin false k g) z (k * up g) (down g) (m * up e) (down e) (down_pos g) (down_pos e) (refl, refl) v h)

module _ (m : ℕ) (e : ℤ) (n : ℕ) (g : ℤ) (y : Float) (k : ℕ) (t : T (fits binary32 (fin false m e))) (v : At y k)
    (K : k < 2 ^ 24) (h : lt (fin false m e) (mul binary32 (fin false n g) y) ≡ true) where
  product_is : mul binary32 (fin false n g) y ≡ round binary32 false (n * up g * k) (down g * N)
  product_is = mul_at (fin false n g) y false false (n * up g) (down g) k N (down_pos g) (omega arith) (refl, refl) v

  -- p is below q * y exactly, as p needs no rounding
  exactly : m * up e * (down g * N) < n * up g * k * down e
  exactly = go (ltb (m * up e * (down g * N)) (n * up g * k * down e))
      (ltb-true (m * up e * (down g * N)) (n * up g * k * down e))
      (ltb-false (m * up e * (down g * N)) (n * up g * k * down e))
    where
      go : (b : Bool) → (b ≡ true → m * up e * (down g * N) < n * up g * k * down e)
          → (b ≡ false → n * up g * k * down e ≤ m * up e * (down g * N))
          → m * up e * (down g * N) < n * up g * k * down e
      go true p q = p refl
      go false p q =
          absurd (true≢false (sym h ∙ ap (lt (fin false m e)) product_is
          ∙ not-over m e (round binary32 false (n * up g * k) (down g * N)) (round binary32 false (m * up e) (down e))
          (round-clear binary32 (n * up g * k) (down g * N))
          (round_mono binary32 (n * up g * k) (down g * N) (m * up e) (down e) (mul-pos (down_pos g) (omega arith))
          (down_pos e) (q refl)) (own-round m e t)))

  divisor_pos : 0 < n * up g
  divisor_pos = first_pos (n * up g) k (first_pos (n * up g * k) (down e)
      (go (m * up e * (down g * N)) (n * up g * k * down e) exactly))
    where
      go : (a b : ℕ) → a < b → 0 < b
      go a b l = omega arith

  bounded : m * up e * down g * N ≤ k * (n * up g * down e)
  bounded = le_trans (le_of_eq (mul_assoc (m * up e) (down g) N))
      (le_trans (le_of_lt exactly) (le_of_eq (turn (n * up g) k (down e))))
    where
      turn : (a b c : ℕ) → a * b * c ≡ b * (a * c)
      turn a b c = ap (λ (z : ℕ). z * c) (mul_comm a b) ∙ mul_assoc b a c

  quotient_in : In 0 k (div binary32 (fin false m e) (fin false n g))
  unfolding div
  quotient_in =
      rw (ne_eqb n 0 (λ z. nonzero (n * up g) divisor_pos (ap (λ (w : ℕ). w * up g) z ∙ zero-mul (up g))))
      (rounded_in 0 k (m * up e * down g) (n * up g * down e) (mul-pos divisor_pos (down_pos e)) K
      (le_trans (le_of_eq (zero-mul (n * up g * down e))) (omega arith)) bounded)
    where
      nonzero : (a : ℕ) → 0 < a → a ≡ 0 → ⊥
      nonzero a p q = omega arith

quotient : (m : ℕ) (e : ℤ) (z y : Float) (k : ℕ) → T (fits binary32 (fin false m e)) → At y k → k < 2 ^ 24
    → lt (fin false m e) (mul binary32 (Float32.abs z) y) ≡ true → In 0 k (div binary32 (fin false m e) (Float32.abs z))
unfolding Float32.abs mul div lt
quotient m e nan y k t v K h = absurd (true≢false (sym h))
quotient m e (inf s) y k t v K h = record { value = (refl, refl); least = omega arith; most = omega arith }
quotient m e (fin s n g) y k t v K h = quotient_in m e n g y k t v K h

-- ---- the ends i and j, the best retention k
pub data Fit (i k j : ℕ) (rat : Float) : Type 0 where
  forth : In 0 (j - k) rat → Fit i k j rat
  hither : (r : Float) → rat ≡ neg r → In 0 (k - i) r → Fit i k j rat

under_infinity : (y : Float) → lt y (inf true) ≡ false
unfolding lt
under_infinity nan = refl
under_infinity (inf true) = refl
under_infinity (inf false) = refl
under_infinity (fin s m e) = refl

over_infinity : (y : Float) → lt (inf false) y ≡ false
unfolding lt
over_infinity nan = refl
over_infinity (inf s) = refl
over_infinity (fin s m e) = refl

clear_not_below : (r : Float) (m : ℕ) (e : ℤ) → T (non_negative r) → lt r (fin true m e) ≡ false
unfolding lt
clear_not_below nan m e t = absurd t
clear_not_below (inf true) m e t = absurd t
clear_not_below (inf false) m e t = refl
clear_not_below (fin true n g) m e t = absurd t
clear_not_below (fin false n g) m e t = refl

-- nothing negative is above q * 0
no_room : (z y : Float) (m : ℕ) (e : ℤ) → At y 0 → lt (mul binary32 (Float32.abs z) y) (fin true m e) ≡ false
unfolding Float32.abs mul lt
no_room nan y m e v = refl
no_room (inf s) nan m e v = absurd v
no_room (inf s) (inf t) m e v = absurd v
no_room (inf s) (fin true n g) m e v = absurd (true≢false v.0)
no_room (inf s) (fin false n g) m e v = go (eqb n 0)
  where
    go : (b : Bool) → lt (cond b nan (inf false)) (fin true m e) ≡ false
    go true = refl
    go false = refl
no_room (fin s n g) nan m e v = absurd v
no_room (fin s n g) (inf t) m e v = absurd v
no_room (fin s n g) (fin true l o) m e v = absurd (true≢false v.0)
no_room (fin s n g) (fin false l o) m e v =
    clear_not_below (round binary32 false (n * up g * (l * up o)) (down g * down o)) m e
    (round-clear binary32 (n * up g * (l * up o)) (down g * down o))

div-neg : (m : ℕ) (e : ℤ) (z : Float) → div binary32 (fin true m e) (Float32.abs z) ≡ neg
    (div binary32 (fin false m e) (Float32.abs z))
unfolding div neg Float32.abs
div-neg m e nan = refl
div-neg m e (inf s) = refl
div-neg m e (fin s n g) = go (eqb n 0) (eqb m 0)
  where
    go : (b c : Bool) → cond b (cond c nan (inf true)) (round binary32 true (m * up e * down g) (n * up g * down e))
        ≡ neg (cond b (cond c nan (inf false)) (round binary32 false (m * up e * down g) (n * up g * down e)))
    go true true = refl
    go true false = refl
    go false c = round_flip binary32 false (m * up e * down g) (n * up g * down e)

pub fit_moves : (a b x p z : Float) (i k j : ℕ) → At a i → At b j → At x k → i ≤ k → k ≤ j → j < 2 ^ 24
    → T (fits binary32 p)
    → lt (Float32.abs z *ᶠ (a -ᶠ x)) p ≡ true → lt p (Float32.abs z *ᶠ (b -ᶠ x)) ≡ true → Fit i k j (p /ᶠ Float32.abs z)
fit_moves a b x nan z i k j A B X ik kj J t h g = absurd (true≢false (sym g ∙ nothing (Float32.abs z *ᶠ (b -ᶠ x))))
  where
    nothing : (y : Float) → lt nan y ≡ false
    nothing y = unfold lt in refl
fit_moves a b x (inf true) z i k j A B X ik kj J t h g =
    absurd (true≢false (sym h ∙ under_infinity (Float32.abs z *ᶠ (a -ᶠ x))))
fit_moves a b x (inf false) z i k j A B X ik kj J t h g =
    absurd (true≢false (sym g ∙ over_infinity (Float32.abs z *ᶠ (b -ᶠ x))))
fit_moves a b x (fin false m e) z i k j A B X ik kj J t h g =
    forth (quotient m e z (b -ᶠ x) (j - k) t (minus_over b x j k B X kj J) (omega arith) g)
fit_moves a b x (fin true m e) z i k j A B X ik kj J t h g = go (order i k)
  where
    turned : lt (mul binary32 (Float32.abs z) (a -ᶠ x)) (fin true m e) ≡ lt (fin false m e)
        (mul binary32 (Float32.abs z) (neg (a -ᶠ x)))
    turned =
        ap (λ (w : Float). lt (mul binary32 (Float32.abs z) w) (fin true m e)) (sym (neg-neg (a -ᶠ x)))
        ∙ ap (λ (w : Float). lt w (fin true m e)) (mul-neg (Float32.abs z) (neg (a -ᶠ x)))
        ∙ ap (λ (w : Float). lt (neg (mul binary32 (Float32.abs z) (neg (a -ᶠ x)))) w) minus
        ∙ lt-neg (mul binary32 (Float32.abs z) (neg (a -ᶠ x))) (fin false m e)
      where
        minus : fin true m e ≡ neg (fin false m e)
        minus = unfold neg in refl

    go : Order i k → Fit i k j (fin true m e /ᶠ Float32.abs z)
    go (less u) =
        hither (fin false m e /ᶠ Float32.abs z) (div-neg m e z)
        (quotient m e z (neg (a -ᶠ x)) (k - i) (fits_sign m e t)
        (neg_value (a -ᶠ x) true (k - i) N (minus_under a x i k A X u (omega arith))) (omega arith)
        (sym turned ∙ h))
    go (same u) =
        absurd (true≢false (sym h ∙ no_room z (a -ᶠ x) m e
        (subst (λ (w : ℕ). At (a -ᶠ x) w) (zeroed u) (minus_over a x i k A X (omega arith) (omega arith)))))
      where
        zeroed : i ≡ k → i - k ≡ 0
        zeroed u = omega arith
    go (more u) = absurd (omega arith)

-- ---- what the parabola's p is made of
sum_fits : (s : Bool) (a : ℕ) (t : Bool) (b c : ℕ) → T (fits binary32 (sum binary32 s a t b c))
unfolding sum
sum_fits s a t b c =
    cond-fits binary32 (beq s t) _ _ (round-fits binary32 s (a + b) c)
    (cond-fits binary32 (ltb a b) _ _ (round-fits binary32 t (b - a) c) (round-fits binary32 (s && ltb b a) (a - b) c))

pub mul_add_fits : (x y z : Float) → T (fits binary32 (Float32.mul_add x y z))
unfolding Float32.mul_add
mul_add_fits nan y z = nan-fits binary32
mul_add_fits (inf s) y z = add-fits binary32 (mul binary32 (inf s) y) z
mul_add_fits (fin s m e) nan z = nan-fits binary32
mul_add_fits (fin s m e) (inf t) z = add-fits binary32 (mul binary32 (fin s m e) (inf t)) z
mul_add_fits (fin s m e) (fin t n d) nan = nan-fits binary32
mul_add_fits (fin s m e) (fin t n d) (inf u) = inf-fits binary32 u
mul_add_fits (fin s m e) (fin t n d) (fin u k g) = sum_fits (unlike s t) _ u _ _

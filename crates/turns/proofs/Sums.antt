-- Laws of sums over the numbers below n, and of the numbers 0 and 1 of a test: what counting by day and by card needs.
--   bit_le                                a test counts at most 1
--   at_same, at-eq, at_ne                 whether two numbers are equal, counted
--   and-le, and-on, and_off               a test of two parts, counted
--   lt-step, le_step, here_le             days before, reached and met, as a card goes on to a later day
--   sum_zero, sum-add, sum_same, sum-le   sums of zeros, of sums, of the same terms, of bounded terms
--   term_le, sum-at, sum_one              one term of a sum: its bound, its change, and where it stands alone
use Prim.Native.Nat.{ℕ, zero, suc, ◌+◌, ◌*◌, ◌≤◌, ◌<◌}
use native.Mathlib.Nat.{not-suc-le-zero}
use native.Mathlib.Omega.{arith}
use native.Mathlib.Decide.{ℕ_discrete, dec_lt}
use mathlib.Core.Bool.{Bool, true, false, ◌&&◌}
use mathlib.Core.Path.{◌≡◌, refl, ap}
use mathlib.Core.Logic.{◌≢◌}
use lib.Dec.{eqb, ltb, leb}
use borrow.Author.Tests.{eq-eqb, ne_eqb, lt-ltb, le-ltb, le-leb, lt-leb}
use Rattle.turns.specs.Sums.{bit, sum_to}

pub bit_le : (b : Bool) → bit b ≤ 1
bit_le true = omega arith
bit_le false = omega arith

-- the number 1 where two numbers are equal, 0 where not
pub at_same : (a : ℕ) → bit (eqb a a) ≡ 1
at_same a = ap bit (eq-eqb a a refl)

pub at-eq : (a b : ℕ) → a ≡ b → bit (eqb a b) ≡ 1
at-eq a b e = ap bit (eq-eqb a b e)

pub at_ne : (a b : ℕ) → a ≢ b → bit (eqb a b) ≡ 0
at_ne a b h = ap bit (ne_eqb a b h)

pub and-le : (a b : Bool) → bit (a && b) ≤ bit b
and-le true b = omega arith
and-le false b = omega arith

pub and-on : (a b : Bool) → a ≡ true → bit (a && b) ≡ bit b
and-on a b e = ap (λ (x : Bool). bit (x && b)) e

pub and_off : (a b : Bool) → b ≡ false → bit (a && b) ≡ 0
and_off true b e = ap bit e
and_off false b e = refl

-- what happened on day d up to and with day x happened before any later day y
pub lt-step : (d x y : ℕ) → x < y → bit (ltb d x) + bit (eqb x d) ≤ bit (ltb d y)
lt-step d x y h = go (dec_lt d x) (ℕ_discrete x d)
  where
    go : Dec (d < x) → Dec (x ≡ d) → bit (ltb d x) + bit (eqb x d) ≤ bit (ltb d y)
    go (yes a) q = omega (arith, ap bit (lt-ltb d x a), ap bit (lt-ltb d y (omega arith)), at_ne x d (omega arith))
    go (no a) (yes e) = omega
        (arith, ap bit (le-ltb d x (omega arith)), ap bit (lt-ltb d y (omega arith)), bit_le (eqb x d))
    go (no a) (no e) = omega (arith, ap bit (le-ltb d x (omega arith)), at_ne x d e)

-- who goes from day x to a later day y has now reached day y too, and every day that was reached before
pub le_step : (d x y : ℕ) → x < y → bit (leb d x) + bit (eqb y d) ≤ bit (leb d y)
le_step d x y h = go (dec_lt x d) (ℕ_discrete y d)
  where
    go : Dec (x < d) → Dec (y ≡ d) → bit (leb d x) + bit (eqb y d) ≤ bit (leb d y)
    go (yes a) (yes e) = omega (arith, ap bit (lt-leb d x a), ap bit (le-leb d y (omega arith)), bit_le (eqb y d))
    go (yes a) (no e) = omega (arith, ap bit (lt-leb d x a), at_ne y d e)
    go (no a) q = omega (arith, ap bit (le-leb d y (omega arith)), at_ne y d (omega arith), bit_le (leb d x))

pub here_le : (d x : ℕ) → bit (eqb x d) ≤ bit (leb d x)
here_le d x = go (ℕ_discrete x d)
  where
    go : Dec (x ≡ d) → bit (eqb x d) ≤ bit (leb d x)
    go (yes e) = omega (arith, ap bit (le-leb d x (omega arith)), bit_le (eqb x d))
    go (no e) = omega (arith, at_ne x d e)

pub sum_zero : (n : ℕ) → sum_to n (λ i. 0) ≡ 0
sum_zero zero = refl
sum_zero (suc n) = omega (arith, sum_zero n)

pub sum-add : (n : ℕ) (f g : ℕ → ℕ) → sum_to n (λ i. f i + g i) ≡ sum_to n f + sum_to n g
sum-add zero f g = refl
sum-add (suc n) f g = omega (arith, sum-add n f g)

pub sum_same : (n : ℕ) (f g : ℕ → ℕ) → ((i : ℕ) → i < n → f i ≡ g i) → sum_to n f ≡ sum_to n g
sum_same zero f g h = refl
sum_same (suc n) f g h = omega (arith, sum_same n f g (λ i l. h i (omega arith)), h n (omega arith))

pub sum-le : (n x : ℕ) (f : ℕ → ℕ) → ((i : ℕ) → i < n → f i ≤ x) → sum_to n f ≤ n * x
sum-le zero x f h = omega arith
sum-le (suc n) x f h = omega (arith, sum-le n x f (λ i l. h i (omega arith)), h n (omega arith))

-- one term is at most the sum
pub term_le : (n k : ℕ) (f : ℕ → ℕ) → k < n → f k ≤ sum_to n f
term_le zero k f h = absurd (not-suc-le-zero h)
term_le (suc n) k f h = go (ℕ_discrete k n) (term_le n k f)
  where
    go : Dec (k ≡ n) → (k < n → f k ≤ sum_to n f) → f k ≤ sum_to n f + f n
    go (yes e) ih = omega (arith, ap f e)
    go (no e) ih = omega (arith, ih (omega arith))

-- two functions that agree but at k: what the one sum has more is what the one has more at k
pub sum-at : (n k : ℕ) (f g : ℕ → ℕ) → k < n → ((i : ℕ) → i ≢ k → g i ≡ f i) → sum_to n g + f k ≡ sum_to n f + g k
sum-at zero k f g h o = absurd (not-suc-le-zero h)
sum-at (suc n) k f g h o = go (ℕ_discrete k n) (sum-at n k f g)
  where
    go : Dec (k ≡ n) → (k < n → ((i : ℕ) → i ≢ k → g i ≡ f i) → sum_to n g + f k ≡ sum_to n f + g k)
        → sum_to n g + g n + f k ≡ sum_to n f + f n + g k
    go (yes q) ih = omega (arith, ap f q, ap g q, sum_same n g f (λ i l. o i (omega arith)))
    go (no q) ih = omega (arith, ih (omega arith) o, o n (omega arith))

-- what stands at k alone is counted once
pub sum_one : (n k : ℕ) → k < n → sum_to n (λ i. bit (eqb k i)) ≡ 1
sum_one n k h = omega
    (arith, sum_zero n, sum-at n k (λ i. 0) (λ i. bit (eqb k i)) h (λ i q. at_ne k i (omega arith)), at_same k)

-- A state of the search in range: the ends and the best retention are within 0.70 to 0.95.
--   Ranged s           the ends and the best retention are multiples of 2^-24, in order and in range
--   r_min-at, r_max-at   0.70 and 0.95 are such multiples
--   begun-ranged       the first state is in range
--   within-at          what is in range passes the test of it
--   within_finite      what is in range is finite
use mathlib.Core.Path.{◌≡◌, refl}
use mathlib.Core.Bool.{Bool, true, false, ◌&&◌}
use Prim.Native.Nat.{ℕ, ◌≤◌}
use native.Mathlib.Nat.{mul-le-mul_right}
use native.Mathlib.Omega.{arith}
use lib.Dec.{T}
use lib.Ieee.{Float, nan, inf, fin, of_bits, of_fields, round, lt, le, eq}
use lib.Ieee.Order.{le_of_values}
use Rattle.float32.specs.Float32 as Float32
use Rattle.brent.specs.declared.Brent.{Brent}
use Rattle.brent.specs.Step.{r_min, r_max, begun, within}
use Rattle.brent.proofs.Multiples.{N, At}
use Rattle.brent.proofs.Measures.{k_min, k_max}

-- the ends and the best retention are multiples of 2^-24, in order, within 0.70 to 0.95
pub record Ranged (s : Brent) : Type 0 where
  pub i : ℕ
  pub k : ℕ
  pub j : ℕ
  pub A : At s.a i
  pub X : At s.x k
  pub B : At s.b j
  pub low : k_min ≤ i
  pub ik : i ≤ k
  pub kj : k ≤ j
  pub high : j ≤ k_max

pub r_min-at : At r_min k_min
unfolding of_bits of_fields round
r_min-at = (refl, refl)

pub r_max-at : At r_max k_max
unfolding of_bits of_fields round
r_max-at = (refl, refl)

unfoldable pub begun-ranged : (mean : Float) → Ranged (begun mean)
unfolding begun
begun-ranged mean =
    record {
      i = k_min;
      k = k_min;
      j = k_max;
      A = r_min-at;
      X = r_min-at;
      B = r_max-at;
      low = omega arith;
      ik = omega arith;
      kj = omega arith;
      high = omega arith;
    }

both : (a b : Bool) → T a → T b → T (a && b)
both true b p q = q
both false b p q = p

pub within-at : (x : Float) (k : ℕ) → At x k → k_min ≤ k → k ≤ k_max → T (within x)
unfolding within
within-at x k p l h =
    both (le r_min x) (le x r_max)
    (le_of_values r_min x k_min N k N (omega arith) (omega arith) r_min-at p (mul-le-mul_right N l))
    (le_of_values x r_max k N k_max N (omega arith) (omega arith) p r_max-at (mul-le-mul_right N h))

pub within_finite : (x : Float) → T (within x) → Float32.is_finite x ≡ true
unfolding within le lt eq Float32.is_finite of_bits of_fields round
within_finite nan h = absurd h
within_finite (inf true) h = absurd h
within_finite (inf false) h = absurd h
within_finite (fin s m e) h = refl

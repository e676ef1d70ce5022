-- How near the bucket of a stability is to its exact logarithm in steps of 0.001. Definitions only.
--     signed s n          n, or - n where s is set
--     IsLnBucket x b      b is the bit pattern of an i32 within 0.53 of 1000 ln x
use Rattle.std.specs.Prelude.{◌≡◌, Bool, true, false, ℕ, ◌+◌, ◌-◌, ◌*◌, ℤ, pos, neg_ℤ, Float}
use Rattle.elementary.specs.Accuracy.{LnGe, LnLe}
use Rattle.intervals.specs.Bucket.{pattern}

abbrev pub signed : Bool → ℕ → ℤ
signed false n = pos n
signed true n = neg_ℤ (pos n)

-- the i32 is n with a sign, and by the same sign 1000 ln x is from 0, from n - 0.53, and to n + 0.53: `LnGe s x a b` is
-- a / b ≤ ln x, or a / b ≤ - ln x where s is set
pub record IsLnBucket (x : Float) (b : ℕ) : Type 0 where
  pub sign : Bool
  pub n : ℕ
  pub is : b ≡ pattern (signed sign n)
  pub low : LnGe sign x (100 * n - 53) 100000
  pub high : LnLe sign x (100 * n + 53) 100000

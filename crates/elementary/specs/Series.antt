-- x^y once more, as e^(y ln x) by the series. What these bounds say, the whole-number powers of specs/Accuracy say too
-- (proofs/powf/Series). At a c / d that is x^y itself no series shows either bound, which is why they are not the
-- definition.
--   LogGe s t x a b, LogLe s t x a b         a / b below or above |ln x|, by the signs of y ln x and of ln x
--   SeriesGe x y c d, SeriesLe x y c d       c / d below or above e^(y ln x)
use Rattle.std.specs.Prelude.{ℕ, ◌*◌, ◌<◌, Bool, true, false, Float}
use Rattle.std.specs.Float.Ieee.{unlike}
use Rattle.std.specs.Float.Ieee.Positive.{num, den}
use Rattle.series.specs.Exp.{SignedGe, SignedLe}
use Rattle.elementary.specs.Accuracy.{sign_of, LnGe, LnLe}

-- ± ln x between fractions: |ln x| ≥ a / b or |ln x| ≤ a / b, whichever makes y ln x at least ± |y| a / b. The first
-- sign is that of y ln x, the second that of ln x
abbrev pub LogGe : Bool → Bool → Float → ℕ → ℕ → Type 0
LogGe false s x a b = LnGe s x a b
LogGe true s x a b = LnLe s x a b

abbrev pub LogLe : Bool → Bool → Float → ℕ → ℕ → Type 0
LogLe false s x a b = LnLe s x a b
LogLe true s x a b = LnGe s x a b

-- c / d ≤ e^(y ln x), and e^(y ln x) ≤ c / d, for a finite x above 0 and a finite y: some a / b with the sign s for ln
-- x shows it
pub record SeriesGe (x y : Float) (c d : ℕ) : Type 0 where
  pub s : Bool
  pub a : ℕ
  pub b : ℕ
  pub b_pos : 0 < b
  pub log : LogGe (unlike s (sign_of y)) s x a b
  pub power : SignedGe (unlike s (sign_of y)) (num y * a) (den y * b) c d

pub record SeriesLe (x y : Float) (c d : ℕ) : Type 0 where
  pub s : Bool
  pub a : ℕ
  pub b : ℕ
  pub b_pos : 0 < b
  pub log : LogLe (unlike s (sign_of y)) s x a b
  pub power : SignedLe (unlike s (sign_of y)) (num y * a) (den y * b) c d

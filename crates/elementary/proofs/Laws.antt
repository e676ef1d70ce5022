-- The bounds as laws of the definitions, for crates that speak of `ln_of` and `pow_of` where no function is called.
--     ln-bound x, powf_bound x y          the definition's value is right for ln x, and for x^y
use Rattle.std.proofs.Common.{T}
use lib.Ieee.{Float, binary32, fits}
use Rattle.elementary.specs.Ln.{ln_of}
use Rattle.elementary.specs.Pow.{pow_of}
use Rattle.elementary.specs.Accuracy.{IsLn, IsPow}
use Rattle.elementary.proofs.ln.Law.{ln_law}
use Rattle.elementary.proofs.powf.Law.{pow_law}

pub ln-bound : (x : Float) → T (fits binary32 x) → IsLn x (ln_of x)
ln-bound = ln_law

pub powf_bound : (x y : Float) → T (fits binary32 x) → T (fits binary32 y) → IsPow x y (pow_of x y)
powf_bound = pow_law

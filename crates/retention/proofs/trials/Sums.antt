-- One number more in a sum, and a sum past the list's end.
--   total-next   one number more
--   total_past   more numbers than there are: a NaN
use mathlib.Core.Path.{◌≡◌, refl, sym, ap, ◌∙◌}
use mathlib.Core.List.{List}
use Prim.Native.Nat.{ℕ, zero, suc, ◌+◌, ◌<◌}
use native.Mathlib.Omega.{arith}
use lib.Ieee.{Float, nan, inf, fin, add}
use lib.ListN.{get_or, length}
use Rattle.std.proofs.Math.ListN.{get_or-eq_default}
use Rattle.float32.specs.Ops.{◌+ᶠ◌}
use Rattle.retention.specs.Trials.{total}

total-suc : (xs : List Float) (i : ℕ) → total xs (suc i) ≡ total xs i +ᶠ get_or xs i nan
unfolding total
total-suc xs i = refl

pub total-next : (xs : List Float) (i : ℕ) (sum x : Float) → sum ≡ total xs i → x ≡ get_or xs i nan
    → sum +ᶠ x ≡ total xs (i + 1)
total-next xs i sum x e f =
    let next : suc i ≡ i + 1 = omega arith in
    rw (e, f) (sym (total-suc xs i) ∙ ap (total xs) next)

add_nan : (x : Float) → x +ᶠ nan ≡ nan
unfolding add
add_nan nan = refl
add_nan (inf s) = refl
add_nan (fin s m e) = refl

pub total_past : (xs : List Float) (n : ℕ) → length xs < n → total xs n ≡ nan
total_past xs zero h = absurd (omega (arith, h))
total_past xs (suc n) h =
    total-suc xs n ∙ ap (λ (x : Float). total xs n +ᶠ x) (get_or-eq_default xs nan (omega (arith, h))) ∙ add_nan (total xs n)

-- The retentions of a block of times are those of its times: each step reads what the one before it wrote.
use Rattle.std.proofs.Common.{◌≡◌, ℕ, ◌<◌, ◌≤◌, List, length, get_or, sym, ap, ◌∙◌, ap₂, le_trans, le_of_eq}
use lib.Ieee.{Float, nan}
use Rattle.float32.specs.Ops.{◌+ᶠ◌, ◌*ᶠ◌, ◌/ᶠ◌}
use Rattle.elementary.specs.Pow.{pow_of}
use Rattle.elementary.specs.Filled.{filled}
use Rattle.elementary.proofs.Filled.{fill_at, fill_alike, fill_length}
use Rattle.model.specs.declared.forgetting_curve.Curve.{Curve}
use Rattle.model.specs.Model.{base, time, squeezed, weighted, retention}

-- a power, where both lists were filled; k is the least of n and a block's length
power_at : (F : ℕ → Float) (y : Float) (b b₀ p : List Float) (n k i : ℕ) → k ≡ n → n ≤ length b₀ → b ≡ filled F n b₀
    → p ≡ filled (λ i. pow_of (get_or b i nan) y) k b → i < n → get_or p i nan ≡ pow_of (F i) y
power_at F y b b₀ p n k i all long eb ep h =
    let same = ap length eb ∙ fill_length F n b₀ in
    fill_at _ p b n i nan (ep ∙ ap (λ (m : ℕ). filled (λ i. pow_of (get_or b i nan) y) m b) all)
    (le_trans long (le_of_eq (sym same))) h
    ∙ ap (λ (x : Float). pow_of x y) (fill_at F b b₀ n i nan eb long h)

pub retentions_are : (c : Curve) (a r b1 b2 b1₀ b2₀ p1 p2 : List Float) (n k : ℕ) → k ≡ n → n ≤ length b1₀
    → n ≤ length b2₀
    → b1 ≡ filled (λ i. base c.factor1 (time (get_or a i nan)) c.fast) n b1₀
    → b2 ≡ filled (λ i. base c.rate2 (time (get_or a i nan)) c.stability) n b2₀
    → p1 ≡ filled (λ i. pow_of (get_or b1 i nan) c.decay1) k b1
    → p2 ≡ filled (λ i. pow_of (get_or b2 i nan) c.decay2) k b2
    → r ≡ filled (λ i. squeezed ((c.weight1 *ᶠ get_or p1 i nan +ᶠ c.weight2 *ᶠ get_or p2 i nan) /ᶠ c.total)) n a
    → r ≡ filled (λ i. retention c (get_or a i nan)) n a
unfolding retention weighted
retentions_are c a r b1 b2 b1₀ b2₀ p1 p2 n k all long1 long2 e1 e2 q1 q2 e =
    e ∙ fill_alike _ _ n a (λ i h. ap₂ (λ (x y : Float). squeezed ((c.weight1 *ᶠ x +ᶠ c.weight2 *ᶠ y) /ᶠ c.total))
    (power_at _ c.decay1 b1 b1₀ p1 n k i all long1 e1 q1 h) (power_at _ c.decay2 b2 b2₀ p2 n k i all long2 e2 q2
    h))

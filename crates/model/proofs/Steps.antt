-- One turn of each of the solver's loops, counted down.
--     newton-on, newton_off, newton_still, newton-end     a finite step, one not finite, one that changes nothing; none
--     left
--     doubled-on, doubled_off, doubled-end                a doubling, its stop, none left
--     halved_up, halved_down, halved-end                  a halving to the upper or the lower part, none left
use Rattle.std.proofs.Common.{◌≡◌, ℕ, zero, suc, ◌-◌, ◌<◌, ◌≤◌, Bool, true, false, cond, ◌&&◌, refl, ap, arith}
use lib.Ieee.{Float, lt}
use Rattle.float32.specs.Float32 as Float32
use Rattle.float32.specs.Ops.{◌+ᶠ◌, ◌*ᶠ◌}
use Rattle.float32.specs.Numbers.{0ᶠ}
use Rattle.model.specs.Constants.{s_max, half, two}
use Rattle.model.specs.Model.{newton, doubled, halved}

less_one : (n : ℕ) → n ≡ suc n - 1
less_one n = omega arith

either : (b : Bool) (x : Float) → cond b x x ≡ x
either true x = refl
either false x = refl

module _ (f : Float → Float) where
  pub newton-on : (n : ℕ) (u : Float) → 0 < n → Float32.is_finite (f u) ≡ true → newton n f u ≡ newton (n - 1) f (f u)
  unfolding newton
  newton-on zero u p h = absurd (omega arith)
  newton-on (suc n) u p h = rw h (ap (λ (k : ℕ). newton k f (f u)) (less_one n))

  pub newton_off : (n : ℕ) (u : Float) → 0 < n → Float32.is_finite (f u) ≡ false → newton n f u ≡ f u
  unfolding newton
  newton_off zero u p h = absurd (omega arith)
  newton_off (suc n) u p h = rw h

  pub newton-end : (n : ℕ) (u : Float) → n ≤ 0 → newton n f u ≡ u
  unfolding newton
  newton-end zero u p = refl
  newton-end (suc n) u p = absurd (omega arith)

  -- a step that changes nothing: nor does any further one
  pub newton_still : (n : ℕ) (u : Float) → f u ≡ u → newton n f u ≡ u
  unfolding newton
  newton_still zero u e = refl
  newton_still (suc n) u e = rw (e, newton_still n u e) (either (Float32.is_finite u) u)

  module _ (r : Float) where
    pub doubled-on : (n : ℕ) (h : Float) → 0 < n → (lt r (f h) && lt h s_max) ≡ true
        → doubled n f r h ≡ doubled (n - 1) f r (Float32.min (h *ᶠ two) s_max)
    unfolding doubled
    doubled-on zero h p e = absurd (omega arith)
    doubled-on (suc n) h p e = rw e (ap (λ (k : ℕ). doubled k f r (Float32.min (h *ᶠ two) s_max)) (less_one n))

    pub doubled_off : (n : ℕ) (h : Float) → (lt r (f h) && lt h s_max) ≡ false → doubled n f r h ≡ h
    unfolding doubled
    doubled_off zero h e = refl
    doubled_off (suc n) h e = rw e

    pub doubled-end : (n : ℕ) (h : Float) → n ≤ 0 → doubled n f r h ≡ h
    unfolding doubled
    doubled-end zero h p = refl
    doubled-end (suc n) h p = absurd (omega arith)

    abbrev middle : Float → Float → Float
    middle x y = (x +ᶠ y) *ᶠ half

    pub halved_up : (n : ℕ) (x y : Float) → 0 < n → lt r (f (middle x y)) ≡ true
        → halved n f r x y ≡ halved (n - 1) f r (middle x y) y
    unfolding halved
    halved_up zero x y p e = absurd (omega arith)
    halved_up (suc n) x y p e = rw e (ap (λ (k : ℕ). halved k f r (middle x y) y) (less_one n))

    pub halved_down : (n : ℕ) (x y : Float) → 0 < n → lt r (f (middle x y)) ≡ false
        → halved n f r x y ≡ halved (n - 1) f r x (middle x y)
    unfolding halved
    halved_down zero x y p e = absurd (omega arith)
    halved_down (suc n) x y p e = rw e (ap (λ (k : ℕ). halved k f r x (middle x y)) (less_one n))

    pub halved-end : (n : ℕ) (x y : Float) → n ≤ 0 → halved n f r x y ≡ Float32.clamp (middle x y) 0ᶠ s_max
    unfolding halved
    halved-end zero x y p = refl
    halved-end (suc n) x y p = absurd (omega arith)

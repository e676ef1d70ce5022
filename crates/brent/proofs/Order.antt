-- The order of floats.
--   asym              of two floats at most one is below the other
--   not_below_trans   x is not below y, nor y below z: then x is not below z, if y is no NaN
--   self              no float is below itself
use mathlib.Core.Path.{◌≡◌, refl, sym, ◌∙◌}
use mathlib.Core.Bool.{Bool, true, false, true≢false}
use Prim.Native.Nat.{ℕ, zero, suc, ◌+◌, ◌*◌, ◌≤◌, ◌<◌}
use native.Mathlib.Nat.{zero-mul, mul-pos}
use native.Mathlib.Omega.{arith}
use borrow.Author.Tests.{ltb-true, ltb-false, le-ltb}
use lib.Ieee.{Float, nan, inf, fin, up, down, below, lt, is_nan}
use lib.Ieee.Fits.{down_pos}
use lib.Ieee.Positive.{through}

below_asym : (s : Bool) (a : ℕ) (t : Bool) (b : ℕ) → below s a t b ≡ true → below t b s a ≡ false
below_asym false a false b e = let h = ltb-true a b e in le-ltb b a (omega arith)
below_asym false a true b e = absurd (true≢false (sym e))
below_asym true a false b e = refl
below_asym true a true b e = let h = ltb-true b a e in le-ltb a b (omega arith)

pub asym : (x y : Float) → lt x y ≡ true → lt y x ≡ false
unfolding lt
asym nan y e = absurd (true≢false (sym e))
asym (inf s) nan e = absurd (true≢false (sym e))
asym (inf true) (inf true) e = absurd (true≢false (sym e))
asym (inf true) (inf false) e = refl
asym (inf false) (inf t) e = absurd (true≢false (sym e))
asym (inf true) (fin t n d) e = refl
asym (inf false) (fin t n d) e = absurd (true≢false (sym e))
asym (fin s m e) nan h = absurd (true≢false (sym h))
asym (fin s m e) (inf true) h = absurd (true≢false (sym h))
asym (fin s m e) (inf false) h = refl
asym (fin s m e) (fin t n d) h = below_asym s (m * up e * down d) t (n * up d * down e) h

-- ---- three fractions
nil : (z q p : ℕ) → 0 < q → z * q ≤ 0 → z * p ≤ 0
nil zero q p h k = omega (arith, zero-mul p)
nil (suc z) q p h k = absurd (go (suc z * q) (mul-pos (omega arith) h) k)
  where
    go : (x : ℕ) → 0 < x → x ≤ 0 → ⊥
    go x a b = omega arith

first : (x y : ℕ) → x + y ≤ 0 → x ≤ 0
first x y h = omega arith

second : (x y : ℕ) → x + y ≤ 0 → y ≤ 0
second x y h = omega arith

both : (x y : ℕ) → x ≤ 0 → y ≤ 0 → x + y ≤ 0
both x y h k = omega arith

under : (x y z : ℕ) → x ≤ 0 → x ≤ y
under x y z h = omega arith

to_nil : (x y : ℕ) → x ≤ y → y ≤ 0 → x ≤ 0
to_nil x y h k = omega arith

-- x / p is not below y / q, nor y / q below z / r
module _ (x p y q z r : ℕ) (P : 0 < p) (Q : 0 < q) (C : 0 < r) where
  chain : (s t v : Bool) → below s (x * q) t (y * p) ≡ false → below t (y * r) v (z * q) ≡ false
      → below s (x * r) v (z * p) ≡ false
  chain false false false e f =
      le-ltb (x * r) (z * p) (through z y x r q p Q (ltb-false (y * r) (z * q) f) (ltb-false (x * q) (y * p) e))
  chain false t true e f = refl
  chain false true false e f =
      le-ltb (x * r) (z * p) (under (z * p) (x * r) 0
      (nil z q p Q (second (y * r) (z * q) (ltb-false 0 (y * r + z * q) f))))
  chain true false false e f =
      let k : x * q + y * p ≤ 0 = ltb-false 0 (x * q + y * p) e in
      le-ltb 0 (x * r + z * p) (both (x * r) (z * p) (nil x q r Q (first (x * q) (y * p) k))
      (nil z q p Q (to_nil (z * q) (y * r) (ltb-false (y * r) (z * q) f) (nil y p r P (second (x * q) (y * p) k)))))
  chain true false true e f =
      le-ltb (z * p) (x * r) (under (x * r) (z * p) 0
      (nil x q r Q (first (x * q) (y * p) (ltb-false 0 (x * q + y * p) e))))
  chain true true false e f =
      let k : y * r + z * q ≤ 0 = ltb-false 0 (y * r + z * q) f in
      le-ltb 0 (x * r + z * p) (both (x * r) (z * p)
      (nil x q r Q (to_nil (x * q) (y * p) (ltb-false (y * p) (x * q) e) (nil y r p C (first (y * r) (z * q) k))))
      (nil z q p Q (second (y * r) (z * q) k)))
  chain true true true e f =
      le-ltb (z * p) (x * r) (through x y z p q r Q (ltb-false (y * p) (x * q) e) (ltb-false (z * q) (y * r) f))

pub not_below_trans : (x y z : Float) → is_nan y ≡ false → lt x y ≡ false → lt y z ≡ false → lt x z ≡ false
unfolding lt is_nan
not_below_trans nan y z n e f = refl
not_below_trans (inf s) nan z n e f = absurd (true≢false n)
not_below_trans (inf s) (inf t) nan n e f = refl
not_below_trans (inf false) (inf t) (inf v) n e f = refl
not_below_trans (inf true) (inf false) (inf v) n e f = absurd (true≢false e)
not_below_trans (inf true) (inf true) (inf true) n e f = refl
not_below_trans (inf true) (inf true) (inf false) n e f = absurd (true≢false f)
not_below_trans (inf false) (inf t) (fin v k g) n e f = refl
not_below_trans (inf true) (inf false) (fin v k g) n e f = absurd (true≢false e)
not_below_trans (inf true) (inf true) (fin v k g) n e f = absurd (true≢false f)
not_below_trans (inf false) (fin t m d) nan n e f = refl
not_below_trans (inf false) (fin t m d) (inf v) n e f = refl
not_below_trans (inf false) (fin t m d) (fin v k g) n e f = refl
not_below_trans (inf true) (fin t m d) z n e f = absurd (true≢false e)
not_below_trans (fin s l c) nan z n e f = absurd (true≢false n)
not_below_trans (fin s l c) (inf t) nan n e f = refl
not_below_trans (fin s l c) (fin t m d) nan n e f = refl
not_below_trans (fin s l c) (inf t) (inf true) n e f = refl
not_below_trans (fin s l c) (inf true) (inf false) n e f = absurd (true≢false f)
not_below_trans (fin s l c) (inf false) (inf false) n e f = absurd (true≢false e)
not_below_trans (fin s l c) (fin t m d) (inf true) n e f = refl
not_below_trans (fin s l c) (fin t m d) (inf false) n e f = absurd (true≢false f)
not_below_trans (fin s l c) (inf true) (fin v k g) n e f = absurd (true≢false f)
not_below_trans (fin s l c) (inf false) (fin v k g) n e f = absurd (true≢false e)
not_below_trans (fin s l c) (fin t m d) (fin v k g) n e f =
    chain (l * up c) (down c) (m * up d) (down d) (k * up g) (down g) (down_pos c) (down_pos d) (down_pos g) s t v e f

pub self : (x : Float) → lt x x ≡ false
self x = go (lt x x) refl
  where
    go : (b : Bool) → lt x x ≡ b → b ≡ false
    go true e = sym e ∙ asym x x e
    go false e = refl

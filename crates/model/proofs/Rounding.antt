-- What an f32 operation on finite floats from 0 up does to their exact values: it rounds, by a factor of at most
-- 1 + 2^-24 up or down. Below 2^-126 the factor can be larger, but not once 2^-126 is added on both sides.
--     Clear x, val x          x is finite with a clear sign; its value
--     smallest, largest       2^-126 and 2^127
--     Rounded x r             r is x, rounded
--     rounded x               the kit's `round` does that, up to 2^127
--     sum-rounded x y, product-rounded x y, quotient-rounded x y, fused-rounded x y z     and so do the operations
--     rounded_most x r k      what is at most k is at most 2 k when rounded
use Rattle.std.proofs.Common.{◌≡◌, ℕ, zero, suc, ◌+◌, ◌-◌, ◌*◌, ◌/◌, ◌%◌, ◌^◌, ◌<◌, ◌≤◌, Bool, true, false, ◌⊎◌, sym, refl, ap, ◌∙◌, subst, inl, inr, true≢false, le_trans, le_of_eq, mul-le-mul_right, mod-lt, mul_assoc, mul_comm, mul-le-mul_left, mul-pos, div-add-mod', le-div_iff_mul-le, mul-one, le_of_mul-le-mul_right, arith, lit<, pow_pos, pow-add, ne_eqb}
use Prim.Native.Nat.{compare, Ordering}
use lib.Ieee.{Float, nan, inf, fin, binary32, up, down, size, nearest, round, add, mul, div}
use lib.Ieee.Digits.{size_reaches}
use lib.Ieee.Exact.{HasValue}
use lib.Ieee.Nearest.{closest, nearest-ge}
use lib.Ieee.Order.{drop, kept}
use lib.Ieee.Positive.{num, den, den_pos}
use lib.Ieee.Scale.{round_val}
use Rattle.float32.specs.Float32 as Float32
use Rattle.float32.specs.Ops.{◌+ᶠ◌, ◌*ᶠ◌, ◌/ᶠ◌}
use Rattle.float32.proofs.Sticky.{Cmp, cmp}
use Rattle.float32.proofs.Sums.{sum_like}
use Rattle.model.proofs.Fractions.{Fraction, Toward, ◌⊕◌, ◌⊗◌, quotient, ◌⊑◌}

-- ---- the nearest whole number is within a half
pub record Half (q u n : ℕ) : Type 0 where
  pub up : 2 * (q * u) ≤ 2 * n + u
  pub down : 2 * n ≤ 2 * (q * u) + u

half : (q r u : ℕ) (o : Ordering) → r < u → Cmp o (r * 2) u → Half (nearest q o) u (q * u + r)
half q r u Ordering.lt R h = record { up = omega arith; down = omega arith }
half q r u Ordering.eq R h = go (q % 2) (omega arith)
  where
    go : (w : ℕ) → w ≤ 1 → Half (q + w) u (q * u + r)
    go w W = record { up = omega (arith, mul-le-mul_right u W, h); down = omega (arith, h) }
half q r u Ordering.gt R h = record { up = omega arith; down = omega arith }

closest_half : (n u : ℕ) → 0 < u → Half (closest n u) u n
closest_half n u U =
    subst (Half (closest n u) u) (div-add-mod' n u)
    (half (n / u) (n % u) u (compare (n % u * 2) u) (mod-lt n U) (cmp (n % u * 2) u))

-- ---- n / c units of 2^-149, rounded: v 2^k units
module _ (n c : ℕ) (C : 0 < c) where
  abbrev k : ℕ
  k = drop 24 n c

  abbrev v : ℕ
  v = kept 24 n c

  unit_pos : 0 < c * 2 ^ k
  unit_pos = mul-pos C (pow_pos k)

  kept_half : Half v (c * 2 ^ k) n
  kept_half = closest_half n (c * 2 ^ k) unit_pos

  -- no digit goes, or all 24 are there
  full : (k ≡ 0) ⊎ (2 ^ 23 * (c * 2 ^ k) ≤ n)
  full = go (size (n / c)) (size_reaches (n / c))
    where
      go : (z : ℕ) → ((j : ℕ) → j < z → 2 ^ j ≤ n / c) → (z - 24 ≡ 0) ⊎ (2 ^ 23 * (c * 2 ^ (z - 24)) ≤ n)
      go z f = on (z - 24) refl
        where
          on : (j : ℕ) → z - 24 ≡ j → (j ≡ 0) ⊎ (2 ^ 23 * (c * 2 ^ j) ≤ n)
          on zero e = inl refl
          on (suc j) e =
              inr (le_trans (le_of_eq (ap (λ (x : ℕ). 2 ^ 23 * x) (mul_comm c (2 ^ suc j))
              ∙ sym (mul_assoc (2 ^ 23) (2 ^ suc j) c) ∙ ap (λ (x : ℕ). x * c) (sym (pow-add 2 23 (suc j)))))
              ((le-div_iff_mul-le C).0 (f (23 + suc j) (omega arith))))

  kept-ge : 2 ^ 23 * (c * 2 ^ k) ≤ n → 2 ^ 23 ≤ v
  kept-ge h =
      le_trans ((le-div_iff_mul-le unit_pos).1 h)
      (nearest-ge (n / (c * 2 ^ k)) (compare (n % (c * 2 ^ k) * 2) (c * 2 ^ k)))

-- ---- the same in a fraction a / c of 1, with U = 2^149, h = 2^126 and P = 2^k
grown : (a c P v U h : ℕ) → U ≡ 2 ^ 23 * h → Half v (c * P) (a * U) → (P ≡ 1) ⊎ (2 ^ 23 * (c * P) ≤ a * U)
    → (v * P * h + 1 * U) * c * 2 ^ 24 ≤ (a * h + 1 * c) * U * (2 ^ 24 + 1)
grown a c P v U h e H (inl i) =
    omega (arith, mul-le-mul_left h H.up, ap (λ (z : ℕ). c * h * z) i, ap (λ (z : ℕ). z * c) e)
grown a c P v U h e H (inr i) = omega (arith, mul-le-mul_left h H.up, mul-le-mul_left h i)

shrunk : (a c P v U h : ℕ) → U ≡ 2 ^ 23 * h → Half v (c * P) (a * U) → (P ≡ 1) ⊎ (2 ^ 23 ≤ v)
    → (a * h + 1 * c) * U * 2 ^ 24 ≤ (v * P * h + 1 * U) * c * (2 ^ 24 + 1)
shrunk a c P v U h e H (inl i) =
    omega (arith, mul-le-mul_left h H.down, ap (λ (z : ℕ). c * h * z) i, ap (λ (z : ℕ). z * c) e)
shrunk a c P v U h e H (inr i) = omega (arith, mul-le-mul_left h H.down, mul-le-mul_left (c * P * h) i)

below_top : (w c n B : ℕ) → 0 < c → 1 < B → 2 * (w * c) ≤ 3 * n + c → n ≤ B * c → w < 2 * B
below_top w c n B C D h g = go (le_of_mul-le-mul_right {k = c} (omega (arith, h, g)) C)
  where
    go : 2 * w ≤ 3 * B + 1 → w < 2 * B
    go i = omega arith

-- ---- floats: m / e is w units of 1 / U
value_up : (m e w U c a h N M : ℕ) → 0 < U → m * U ≡ w * e → (w * h + 1 * U) * c * N ≤ (a * h + 1 * c) * U * M
    → (m * h + 1 * e) * (c * h) * N ≤ (a * h + 1 * c) * (e * h) * M
value_up m e w U c a h N M K i g =
    le_of_mul-le-mul_right {k = U} (omega (arith, mul-le-mul_left (e * h) g, ap (λ (z : ℕ). z * (h * c * h * N)) i)) K

value_down : (m e w U c a h N M : ℕ) → 0 < U → m * U ≡ w * e → (a * h + 1 * c) * U * N ≤ (w * h + 1 * U) * c * M
    → (a * h + 1 * c) * (e * h) * N ≤ (m * h + 1 * e) * (c * h) * M
value_down m e w U c a h N M K i g =
    le_of_mul-le-mul_right {k = U} (omega (arith, mul-le-mul_left (e * h) g, ap (λ (z : ℕ). z * (h * c * h * M)) i)) K

normal_up : (m e v P U c a : ℕ) → 0 < U → m * U ≡ v * P * e → Half v (c * P) (a * U) → 2 ^ 23 * (c * P) ≤ a * U
    → m * c * 2 ^ 24 ≤ a * e * (2 ^ 24 + 1)
normal_up m e v P U c a K i H g =
    le_of_mul-le-mul_right {k = U}
    (omega (arith, mul-le-mul_left e H.up, mul-le-mul_left e g, ap (λ (z : ℕ). z * c) i)) K

normal_down : (m e v P U c a : ℕ) → 0 < U → m * U ≡ v * P * e → Half v (c * P) (a * U) → 2 ^ 23 ≤ v
    → a * e * 2 ^ 24 ≤ m * c * (2 ^ 24 + 1)
normal_down m e v P U c a K i H g =
    le_of_mul-le-mul_right {k = U}
    (omega (arith, mul-le-mul_left e H.down, mul-le-mul_left (e * c * P) g, ap (λ (z : ℕ). z * c) i)) K

-- the exact value of a finite float from 0 up
abbrev pub val : Float → Fraction
val x = record { top = num x; bottom = den x; positive = den_pos x }

-- finite, with a clear sign
abbrev pub Clear : Float → Type 0
Clear x = HasValue x false (num x) (den x)

-- 2^-126, the smallest normal number, and 2^127
abbrev pub smallest : Fraction
smallest = record { top = 1; bottom = 2 ^ 126; positive = pow_pos 126 }

abbrev pub largest : Fraction
largest = record { top = 2 ^ 127; bottom = 1; positive = pow_pos 0 }

-- r is x, rounded
pub record Rounded (x : Fraction) (r : Float) : Type 0 where
  pub clear : Clear r
  pub any : (b : Bool) → Toward b 1 (val r ⊕ smallest) (x ⊕ smallest)
  pub normal : smallest ⊑ x → (b : Bool) → Toward b 1 (val r) x

pub own : (r : Float) (u c : ℕ) → HasValue r false u c → Clear r
own nan u c h = h
own (inf s) u c h = h
own (fin s m e) u c h = (h.0, refl)

cross : (r : Float) (u c : ℕ) → HasValue r false u c → num r * c ≡ u * den r
cross nan u c h = absurd h
cross (inf s) u c h = absurd h
cross (fin s m e) u c h = h.1

units-le : (w q P c n : ℕ) → w ≡ q * P → 2 * (q * (c * P)) ≤ 2 * n + c * P → (P ≡ 1) ⊎ (2 ^ 23 * (c * P) ≤ n)
    → 2 * (w * c) ≤ 3 * n + c
units-le w q P c n e h (inl i) = omega (arith, h, ap (λ (z : ℕ). c * z) i, ap (λ (z : ℕ). z * c) e)
units-le w q P c n e h (inr i) = omega (arith, h, i, ap (λ (z : ℕ). z * c) e)

swapped : (y c z : ℕ) → y * c * z ≡ y * z * c
swapped y c z = omega arith

-- 2^-126 is 2^23 units
enough : (c h a : ℕ) → 1 * c ≤ a * h → 2 ^ 23 * c ≤ a * (2 ^ 23 * h)
enough c h a l = omega (arith, l)

at_one : (c P n : ℕ) → P ≡ 1 → 2 ^ 23 * c ≤ n → 2 ^ 23 * (c * P) ≤ n
at_one c P n i h = omega (arith, h, ap (λ (z : ℕ). c * z) i)

-- a / c, rounded
module _ (x : Fraction) (small : x ⊑ largest) where
  abbrev a : ℕ
  a = x.top

  abbrev c : ℕ
  c = x.bottom

  abbrev C : 0 < c
  C = x.positive

  abbrev n : ℕ
  n = a * 2 ^ 149

  abbrev P : ℕ
  P = 2 ^ k n c C

  abbrev q : ℕ
  q = v n c C

  abbrev r : Float
  r = round binary32 false a c

  either : (P ≡ 1) ⊎ (2 ^ 23 * (c * P) ≤ n)
  either = elim (full n c C) [ inl i ↦ inl (ap (λ (z : ℕ). 2 ^ z) i) | inr i ↦ inr i ]

  either-kept : (P ≡ 1) ⊎ (2 ^ 23 ≤ q)
  either-kept = elim either [ inl i ↦ inl i | inr i ↦ inr (kept-ge n c C i) ]

  fits_in : q * P < 2 ^ 277
  fits_in =
      below_top (q * P) c n (2 ^ 276) C (lit< tt) (units-le (q * P) q P c n refl (kept_half n c C).up either)
      (le_trans (mul-le-mul_right (2 ^ 149) (le_trans (le_of_eq (sym (mul-one a))) small))
      (le_of_eq (swapped (2 ^ 127) c (2 ^ 149))))

  value : HasValue r false (q * P) (2 ^ 149)
  value = round_val binary32 a c fits_in

  clear : Clear r
  clear = own r (q * P) (2 ^ 149) value

  is : num r * 2 ^ 149 ≡ q * P * den r
  is = cross r (q * P) (2 ^ 149) value

  any : (b : Bool) → Toward b 1 (val r ⊕ smallest) (x ⊕ smallest)
  any false = record {
    side = record {
      holds =
          value_up (num r) (den r) (q * P) (2 ^ 149) c a (2 ^ 126) (2 ^ 24) (2 ^ 24 + 1) (pow_pos 149) is
          (grown a c P q (2 ^ 149) (2 ^ 126) refl (kept_half n c C) either);
    };
  }
  any true = record {
    side = record {
      holds =
          value_down (num r) (den r) (q * P) (2 ^ 149) c a (2 ^ 126) (2 ^ 24) (2 ^ 24 + 1) (pow_pos 149) is
          (shrunk a c P q (2 ^ 149) (2 ^ 126) refl (kept_half n c C) either-kept);
    };
  }

  module _ (l : smallest ⊑ x) where
    all : 2 ^ 23 * (c * P) ≤ n
    all = elim either [ inl i ↦ at_one c P n i (enough c (2 ^ 126) a l) | inr i ↦ i ]

    normal : (b : Bool) → Toward b 1 (val r) x
    normal false = record {
      side = record { holds = normal_up (num r) (den r) q P (2 ^ 149) c a (pow_pos 149) is (kept_half n c C) all };
    }
    normal true = record {
      side = record {
        holds = normal_down (num r) (den r) q P (2 ^ 149) c a (pow_pos 149) is (kept_half n c C) (kept-ge n c C all);
      };
    }

  pub rounded : Rounded x r
  rounded = record { clear = clear; any = any; normal = normal }

-- ---- the operations, on floats with clear signs
pub sum-rounded : (x y : Float) → Clear x → Clear y → (val x ⊕ val y) ⊑ largest → Rounded (val x ⊕ val y) (x +ᶠ y)
unfolding add
sum-rounded nan y p o h = absurd p
sum-rounded (inf s) y p o h = absurd p
sum-rounded (fin true m e) y p o h = absurd (true≢false p.0)
sum-rounded (fin false m e) nan p o h = absurd o
sum-rounded (fin false m e) (inf t) p o h = absurd o
sum-rounded (fin false m e) (fin true l d) p o h = absurd (true≢false o.0)
sum-rounded (fin false m e) (fin false l d) p o h =
    subst (Rounded (val (fin false m e) ⊕ val (fin false l d)))
    (sym (sum_like binary32 (m * up e * down d) (l * up d * down e) (down e * down d) false false refl))
    (rounded (val (fin false m e) ⊕ val (fin false l d)) h)

pub product-rounded : (x y : Float) → Clear x → Clear y → (val x ⊗ val y) ⊑ largest → Rounded (val x ⊗ val y) (x *ᶠ y)
unfolding mul
product-rounded nan y p o h = absurd p
product-rounded (inf s) y p o h = absurd p
product-rounded (fin true m e) y p o h = absurd (true≢false p.0)
product-rounded (fin false m e) nan p o h = absurd o
product-rounded (fin false m e) (inf t) p o h = absurd o
product-rounded (fin false m e) (fin true l d) p o h = absurd (true≢false o.0)
product-rounded (fin false m e) (fin false l d) p o h =
    rounded (val (fin false m e) ⊗ val (fin false l d)) h

pub quotient-rounded : (x y : Float) → Clear x → Clear y → (Y : 0 < num y) → quotient (val x) (val y) Y ⊑ largest
    → Rounded (quotient (val x) (val y) Y) (x /ᶠ y)
unfolding div
quotient-rounded nan y p o Y h = absurd p
quotient-rounded (inf s) y p o Y h = absurd p
quotient-rounded (fin true m e) y p o Y h = absurd (true≢false p.0)
quotient-rounded (fin false m e) nan p o Y h = absurd o
quotient-rounded (fin false m e) (inf t) p o Y h = absurd o
quotient-rounded (fin false m e) (fin true l d) p o Y h = absurd (true≢false o.0)
quotient-rounded (fin false m e) (fin false l d) p o Y h =
    rw (ne_eqb l 0 (no l (up d) Y)) (rounded (quotient (val (fin false m e)) (val (fin false l d)) Y) h)
  where
    no : (i j : ℕ) → 0 < i * j → i ≡ 0 → ⊥
    no i j k z = omega (arith, k, ap (λ (t : ℕ). t * j) z)

pub fused-rounded : (x y z : Float) → Clear x → Clear y → Clear z → (val x ⊗ val y ⊕ val z) ⊑ largest
    → Rounded (val x ⊗ val y ⊕ val z) (Float32.mul_add x y z)
unfolding Float32.mul_add
fused-rounded nan y z p o i h = absurd p
fused-rounded (inf s) y z p o i h = absurd p
fused-rounded (fin true m e) y z p o i h = absurd (true≢false p.0)
fused-rounded (fin false m e) nan z p o i h = absurd o
fused-rounded (fin false m e) (inf t) z p o i h = absurd o
fused-rounded (fin false m e) (fin true l d) z p o i h = absurd (true≢false o.0)
fused-rounded (fin false m e) (fin false l d) nan p o i h = absurd i
fused-rounded (fin false m e) (fin false l d) (inf t) p o i h = absurd i
fused-rounded (fin false m e) (fin false l d) (fin true j g) p o i h = absurd (true≢false i.0)
fused-rounded (fin false m e) (fin false l d) (fin false j g) p o i h =
    subst (Rounded (val (fin false m e) ⊗ val (fin false l d) ⊕ val (fin false j g)))
    (sym (sum_like binary32 (m * up e * (l * up d) * down g) (j * up g * (down e * down d)) (down e * down d * down g)
    false false refl))
    (rounded (val (fin false m e) ⊗ val (fin false l d) ⊕ val (fin false j g)) h)

-- what is at most k is at most 2 k when rounded
doubled : (m e a c h k : ℕ) → 0 < c → 0 < h → 0 < k → a * 1 ≤ k * c
    → (m * h + 1 * e) * (c * h) * 2 ^ 24 ≤ (a * h + 1 * c) * (e * h) * (2 ^ 24 + 1) → m ≤ 2 * k * e
doubled m e a c h k C H K l g =
    let s : (m * h + e) * 2 ^ 24 ≤ (k * h + 1) * e * (2 ^ 24 + 1) =
    le_of_mul-le-mul_right {k = c * h} (omega (arith, g, mul-le-mul_left (h * e * h) l)) (mul-pos C H) in
    le_of_mul-le-mul_right {k = h} (omega (arith, s, mul-le-mul_left e (mul-pos K H))) H

pub rounded_most : (x : Fraction) (r : Float) (k : ℕ) → Rounded x r → 0 < k → x.top * 1 ≤ k * x.bottom
    → num r ≤ 2 * k * den r
rounded_most x r k i K l =
    doubled (num r) (den r) x.top x.bottom (2 ^ 126) k x.positive (pow_pos 126) K l (i.any false).side.holds

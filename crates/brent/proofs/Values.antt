-- Floats as fractions: tests, signs and rounding of floats whose values are known.
--   le-vals, below_no, below-yes   tests of two floats by their fractions
--   round_flip, neg_value          the sign of a rounded fraction, and of a value
--   abs-value, scaled              a value without its sign, and a fraction with both parts multiplied
--   Held, held                     the bounds of a binary32's digits and exponent
--   own-round                      rounding leaves a float's own value
use mathlib.Core.Path.{◌≡◌, refl, sym, ap, ◌∙◌, subst}
use mathlib.Core.Bool.{Bool, true, false, not, cond, ◌&&◌, ◌||◌, true≢false}
use Prim.Native.Nat.{ℕ, zero, suc, ◌+◌, ◌-◌, ◌*◌, ◌%◌, ◌^◌, ◌≤◌, ◌<◌}
use native.Mathlib.Nat.{le_trans, le_of_eq, le_of_lt, lt_of_lt_of_le, mul_comm, mul_assoc, mul_right_comm, zero-mul}
use native.Mathlib.Nat.{mul-one, mul-le-mul_left, mul-lt-mul_of_pos_right}
use native.Mathlib.Omega.{arith}
use borrow.Author.Tests.{leb-true, leb-false, ltb-true, ltb-false, le-ltb}
use lib.Dec.{T, ltb, leb, eqb, eqb→eq, ltb→lt, leb→le}
use lib.IntN.{ℤ, pos, negsuc}
use lib.Pow.{pow_pos, pow-add, pow_mono}
use lib.Ieee.{Float, nan, inf, fin, Format, binary32, up, down, odd, units, round, neg, lt, le, prec, emax, low}
use lib.Ieee.{fits}
use lib.Ieee.Fits.{down_pos, round_is}
use lib.Ieee.Exact.{HasValue, round_exact}
use lib.Ieee.Order.{transfer}
use Rattle.float32.specs.Float32 as Float32

-- ---- tests
lt-or-eq : (a b : ℕ) → T (ltb a b || (eqb a b && true)) → a ≤ b
lt-or-eq a b t = go (ltb a b) (ltb-true a b) (eqb a b) refl t
  where
    go : (x : Bool) → (x ≡ true → a < b) → (y : Bool) → eqb a b ≡ y → T (x || (y && true)) → a ≤ b
    go true f y e t = le_of_lt (f refl)
    go false f true e t = le_of_eq (eqb→eq a b (subst T (sym e) tt))
    go false f false e t = absurd t

pub le-vals : (x y : Float) (a c b d : ℕ) → 0 < c → 0 < d → HasValue x false a c → HasValue y false b d → T (le x y)
    → a * d ≤ b * c
unfolding le
le-vals nan y a c b d C D p q t = absurd p
le-vals (inf s) y a c b d C D p q t = absurd p
le-vals (fin true m e) y a c b d C D p q t = absurd (true≢false p.0)
le-vals (fin false m e) nan a c b d C D p q t = absurd q
le-vals (fin false m e) (inf s) a c b d C D p q t = absurd q
le-vals (fin false m e) (fin true n g) a c b d C D p q t = absurd (true≢false q.0)
le-vals (fin false m e) (fin false n g) a c b d C D p q t =
    transfer a b c d (m * up e) (n * up g) (down e) (down g) (down_pos e) (down_pos g) (sym p.1) (sym q.1)
    (lt-or-eq (m * up e * down g) (n * up g * down e) t)

pub below_no : (x y : Float) (a c b d : ℕ) → 0 < c → 0 < d → HasValue x false a c → HasValue y false b d
    → b * c ≤ a * d → lt x y ≡ false
unfolding lt
below_no nan y a c b d C D p q h = absurd p
below_no (inf s) y a c b d C D p q h = absurd p
below_no (fin true m e) y a c b d C D p q h = absurd (true≢false p.0)
below_no (fin false m e) nan a c b d C D p q h = absurd q
below_no (fin false m e) (inf s) a c b d C D p q h = absurd q
below_no (fin false m e) (fin true n g) a c b d C D p q h = absurd (true≢false q.0)
below_no (fin false m e) (fin false n g) a c b d C D p q h =
    le-ltb (m * up e * down g) (n * up g * down e)
    (transfer (n * up g) (m * up e) (down g) (down e) b a d c D C q.1 p.1 h)

pub below-yes : (x y : Float) (a c b d : ℕ) → 0 < c → 0 < d → HasValue x false a c → HasValue y false b d
    → a * d < b * c → lt x y ≡ true
unfolding lt
below-yes nan y a c b d C D p q h = absurd p
below-yes (inf s) y a c b d C D p q h = absurd p
below-yes (fin true m e) y a c b d C D p q h = absurd (true≢false p.0)
below-yes (fin false m e) nan a c b d C D p q h = absurd q
below-yes (fin false m e) (inf s) a c b d C D p q h = absurd q
below-yes (fin false m e) (fin true n g) a c b d C D p q h = absurd (true≢false q.0)
below-yes (fin false m e) (fin false n g) a c b d C D p q h =
    go (ltb (m * up e * down g) (n * up g * down e)) (ltb-false (m * up e * down g) (n * up g * down e))
  where
    clash : (x y : ℕ) → x < y → y ≤ x → ⊥
    clash x y u v = omega arith

    go : (t : Bool) → (t ≡ false → n * up g * down e ≤ m * up e * down g) → t ≡ true
    go true f = refl
    go false f =
        absurd (clash (a * d) (b * c) h (transfer b a d c (n * up g) (m * up e) (down g) (down e) (down_pos g)
        (down_pos e) (sym q.1) (sym p.1) (f refl)))

-- ---- signs
units_flip : (f : Format) (s : Bool) (q k : ℕ) → units f (not s) q k ≡ neg (units f s q k)
unfolding units neg odd
units_flip f s q k = go q (ltb (q * 2 ^ k) (2 ^ (low f + suc (emax f))))
  where
    go : (q : ℕ) (b : Bool) → cond b (odd (suc (prec f)) (not s) q k (low f)) (inf (not s)) ≡ neg
        (cond b (odd (suc (prec f)) s q k (low f)) (inf s))
    go zero true = refl
    go (suc q) true = refl
    go q false = refl

pub round_flip : (f : Format) (s : Bool) (a c : ℕ) → round f (not s) a c ≡ neg (round f s a c)
round_flip f s a c = round_is f (not s) a c ∙ units_flip f s _ _ ∙ ap neg (sym (round_is f s a c))

pub neg_value : (x : Float) (s : Bool) (a c : ℕ) → HasValue x s a c → HasValue (neg x) (not s) a c
unfolding neg
neg_value nan s a c h = h
neg_value (inf t) s a c h = h
neg_value (fin t m e) s a c h = (ap not h.0, h.1)

pub abs-value : (x : Float) (s : Bool) (a c : ℕ) → HasValue x s a c → HasValue (Float32.abs x) false a c
unfolding Float32.abs
abs-value nan s a c h = h
abs-value (inf t) s a c h = h
abs-value (fin t m e) s a c h = (refl, h.1)

pub scaled : (x : Float) (s : Bool) (a c k : ℕ) → HasValue x s a c → HasValue x s (a * k) (c * k)
scaled nan s a c k h = h
scaled (inf t) s a c k h = h
scaled (fin t m e) s a c k h =
    (h.0, sym (mul_assoc (m * up e) c k) ∙ ap (λ (z : ℕ). z * k) h.1 ∙ mul_right_comm a (down e) k)

-- ---- a format holds its own values
pub record Held (m : ℕ) (e : ℤ) : Type 0 where
  pub digits : m < 2 ^ 24
  pub fine : down e ≤ 2 ^ 149
  pub small : m * up e < 2 ^ 128 * down e

pub held : (m : ℕ) (e : ℤ) → T (fits binary32 (fin false (suc m) e)) → Held (suc m) e
unfolding fits
held m e t =
    go (eqb (suc m % 2) 1) (ltb (suc m) (2 ^ 24)) (leb (down e) (2 ^ 149)) (ltb (suc m * up e) (2 ^ 128 * down e))
    (ltb→lt (suc m) (2 ^ 24)) (leb→le (down e) (2 ^ 149)) (ltb→lt (suc m * up e) (2 ^ 128 * down e)) t
  where
    go : (a b c d : Bool) → (T b → suc m < 2 ^ 24) → (T c → down e ≤ 2 ^ 149) → (T d → suc m * up e < 2 ^ 128 * down e)
        → T (a && b && c && d) → Held (suc m) e
    go true true true true f g h t = record { digits = f tt; fine = g tt; small = h tt }
    go true true true false f g h t = absurd t
    go true true false d f g h t = absurd t
    go true false c d f g h t = absurd t
    go false b c d f g h t = absurd t

pow-le : (j k : ℕ) → 2 ^ j ≤ 2 ^ k → j ≤ k
pow-le j k h = go (leb j k) (leb-false j k) (leb-true j k)
  where
    clash : (x y z : ℕ) → x ≤ y → z ≤ x → 2 * y ≡ z → 0 < y → ⊥
    clash x y z a b c d = omega arith

    next : k < j → k + 1 ≤ j
    next l = omega arith

    go : (b : Bool) → (b ≡ false → k < j) → (b ≡ true → j ≤ k) → j ≤ k
    go true f g = g refl
    go false f g =
        absurd (clash (2 ^ j) (2 ^ k) (2 ^ (k + 1)) h (pow_mono {i = k + 1} {j = j} (next (f refl)))
        (mul_comm 2 (2 ^ k) ∙ sym (pow-add 2 k 1)) (pow_pos k))

pub own-round : (m : ℕ) (e : ℤ) → T (fits binary32 (fin false m e))
    → HasValue (round binary32 false (m * up e) (down e)) false (m * up e) (down e)
own-round zero e t =
    round_exact binary32 false (0 * up e) (down e) 0 0 (down_pos e) (pow_pos 24) (pow_pos 277)
    (ap (λ (z : ℕ). z * 2 ^ 149) (zero-mul (up e)) ∙ zero-mul (2 ^ 149) ∙ sym (zero-mul (down e)))
own-round (suc m) (pos k) t =
    let h = held m (pos k) t in
    let e : suc m * 2 ^ k * 2 ^ 149 ≡ suc m * 2 ^ (k + 149) = mul_assoc (suc m) (2 ^ k) (2 ^ 149) ∙ ap
    (λ (z : ℕ). suc m * z) (sym (pow-add 2 k 149)) in
    round_exact binary32 false (suc m * 2 ^ k) 1 (suc m) (k + 149) (down_pos (pos k)) h.digits
    (subst (λ (z : ℕ). z < 2 ^ 277) e (mul-lt-mul_of_pos_right {k = 2 ^ 149} h.small (pow_pos 149)))
    (e ∙ sym (mul-one (suc m * 2 ^ (k + 149))))
own-round (suc m) (negsuc k) t =
    let h = held m (negsuc k) t in
    let l : suc k ≤ 149 = pow-le (suc k) 149 h.fine in
    let back : 149 - suc k + suc k ≡ 149 = omega arith in
    round_exact binary32 false (suc m * 1) (2 ^ suc k) (suc m) (149 - suc k) (down_pos (negsuc k)) h.digits
    (lt_of_lt_of_le (mul-lt-mul_of_pos_right h.digits (pow_pos (149 - suc k)))
    (le_trans (mul-le-mul_left (2 ^ 24) (pow_mono {i = 149 - suc k} {j = 253} (omega arith))) (le_of_eq refl)))
    (ap (λ (z : ℕ). z * 2 ^ 149) (mul-one (suc m)) ∙ ap (λ (z : ℕ). suc m * z)
    (sym (ap (λ (z : ℕ). 2 ^ z) back) ∙ pow-add 2 (149 - suc k) (suc k)) ∙ sym
    (mul_assoc (suc m) (2 ^ (149 - suc k)) (2 ^ suc k)))

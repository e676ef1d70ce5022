-- The bucket of a stability is within 0.53 of its exact logarithm in steps of 0.001.
--     ln_bucket s         the bucket of any stability but +infinity
use mathlib.Core.Path.{◌≡◌, refl, sym, ap, ◌∙◌, subst}
use mathlib.Core.Logic.{◌⊎◌, inl, inr}
use mathlib.Core.Bool.{Bool, true, false, cond, ◌&&◌, true≢false}
use Prim.Native.Nat.{ℕ, zero, suc, ◌+◌, ◌-◌, ◌*◌, ◌/◌, ◌%◌, ◌^◌, ◌≤◌, ◌<◌, min, zero-le}
use native.Mathlib.Nat.{le_trans, le_of_eq, le_of_lt, lt_of_lt_of_le, zero-mul, mul_comm, mul-one, mul-pos, mul-le-mul}
use native.Mathlib.Nat.{mul-le-mul_right, mul-le-mul_left, mul-lt-mul_of_pos_right, le_of_mul-le-mul_right}
use native.Mathlib.Nat.{mul-div_cancel, div-mul-le_self, div-add-mod', mod-lt}
use native.Mathlib.Omega.{arith}
use borrow.Author.Tests.{le-ltb, ne_eqb}
use lib.Dec.{T, ltb, leb, eqb, lit<, lit≤, ltb→lt}
use lib.IntN.{ℤ, pos, neg_ℤ}
use lib.Pow.{pow_pos, pow-add}
use lib.Ieee as Ieee
use lib.Ieee.{Float, nan, inf, fin, binary32, up, down, neg, lt, div, fits, is_nan, to_signed}
use lib.Ieee.Exact.{HasValue, round_exact}
use lib.Ieee.Fits.{down_pos, and_r, cond-fits, round-fits}
use lib.Ieee.Positive.{num, den, den_pos}
use Rattle.float32.specs.Float32.{round, clamp, max}
use Rattle.float32.specs.Ops.{◌/ᶠ◌}
use Rattle.float32.proofs.Whole.{neg-round}
use Rattle.series.specs.Exp.{ExpGe, Step, sum, scale}
use Rattle.series.proofs.Cuts.{lt_or_ge, le_weaken, le_below, ge_above, order}
use Rattle.elementary.specs.Ln.{ln_of}
use Rattle.elementary.specs.Accuracy.{LnGe, LnLe, WithinLn}
use Rattle.elementary.proofs.Laws.{ln-bound}
use Rattle.elementary.proofs.Common.{fraction_is}
use Rattle.model.specs.Constants.{s_min}
use Rattle.model.proofs.Fractions.{Fraction, Toward, ◌⊕◌, quotient, toward_trans, toward_add, toward_quotient}
use Rattle.model.proofs.Fractions.{toward_same, toward_exact, toward_refl}
use Rattle.model.proofs.Rounding.{Clear, val, Rounded, rounded, smallest}
use Rattle.model.proofs.Patterns.{clear-bits, bits_pos}
use Rattle.model.proofs.Ranges.{stability_in_range}
use Rattle.intervals.specs.Bucket.{pattern, bucket_index, stability_bucket, log_step, lowest, highest}
use Rattle.intervals.specs.Accuracy.{signed, IsLnBucket}

-- ---- a / b is within two roundings of w / U, which is at most 89001, and 1 / h is at most 1: they are 1 / 90 apart
module _ (a b w U h : ℕ) (H : 0 < h) (most : w ≤ 89001 * U) where
  abbrev N : ℕ
  N = 2 ^ 48

  abbrev M : ℕ
  M = 2 ^ 48 + 2 ^ 25 + 1

  slack : 90 * (2 ^ 25 + 1) * (w * b * h + U * b) ≤ U * b * h * N
  slack = omega (arith, mul-le-mul_left (b * h) most, mul-le-mul_left (U * b) H)

  above : (a * h + 1 * b) * (U * h) * N ≤ (w * h + 1 * U) * (b * h) * M → 90 * (a * U) ≤ 90 * (w * b) + U * b
  above g =
      let s : (a * h + b) * U * N ≤ (w * h + U) * b * M = le_of_mul-le-mul_right {k = h} (omega (arith, g)) H in
      le_of_mul-le-mul_right {k = N * h} (omega (arith, s, slack)) (mul-pos (lit< {m = 0} {n = N} tt) H)

  slack_below : 90 * (a * U) ≤ 90 * (w * b) + U * b → 90 * (2 ^ 25 + 1) * (a * U * h + U * b) ≤ U * b * h * N
  slack_below k =
      omega (arith, mul-le-mul_left h k, mul-le-mul_left (b * h) most, mul-le-mul_left (U * b) H)

  below : (w * h + 1 * U) * (b * h) * N ≤ (a * h + 1 * b) * (U * h) * M
      → 90 * (2 ^ 25 + 1) * (a * U * h + U * b) ≤ U * b * h * N → 90 * (w * b) ≤ 90 * (a * U) + U * b
  below g k =
      let s : (w * h + U) * b * N ≤ (a * h + b) * U * M = le_of_mul-le-mul_right {k = h} (omega (arith, g)) H in
      le_of_mul-le-mul_right {k = N * h} (omega (arith, s, k)) (mul-pos (lit< {m = 0} {n = N} tt) H)

-- ---- a / b rounded to a whole number n, where a / b is near 1000 u / U: n is within 0.53 of 1000 (u ± t) / U
module _ (a b u t U n : ℕ) (B : 0 < b) (least : 2 * b * n ≤ 2 * a + b) (most : 2 * a + b ≤ 2 * b * n + 2 * b)
    (above : 90 * (a * U) ≤ 90 * (1000 * u * b) + U * b) (below : 90 * (1000 * u * b) ≤ 90 * (a * U) + U * b)
    (small : 90000 * t ≤ U) where
  low_side : (100 * n - 53) * U ≤ (u - t) * 100000
  low_side = go (100 * n - 53) (u - t) (parts (100 * n)) (omega arith)
    where
      parts : (z : ℕ) → (z - 53 ≡ 0) ⊎ (z - 53 + 53 ≡ z)
      parts z = on (lt_or_ge z 53)
        where
          on : (z < 53) ⊎ (53 ≤ z) → (z - 53 ≡ 0) ⊎ (z - 53 + 53 ≡ z)
          on (inl l) = inl (omega arith)
          on (inr l) = inr (omega arith)

      go : (y d : ℕ) → (y ≡ 0) ⊎ (y + 53 ≡ 100 * n) → u ≤ d + t → y * U ≤ d * 100000
      go y d (inl e) h = subst (λ (z : ℕ). z * U ≤ d * 100000) (sym e) (omega arith)
      go y d (inr e) h =
          le_of_mul-le-mul_right {k = b}
          (omega (
            arith,
            ap (λ (z : ℕ). z * (U * b)) e,
            mul-le-mul_left U least,
            above,
            mul-le-mul_left b h,
            mul-le-mul_left b small,
          ))
          B

  high_side : (u + t) * 100000 ≤ (100 * n + 53) * U
  high_side =
      le_of_mul-le-mul_right {k = b} (omega (arith, mul-le-mul_left U most, below, mul-le-mul_left b small)) B

-- ---- a whole number as an i32
module _ (n : ℕ) (small : n < 2 ^ 24) where
  abbrev Whole : Bool → Float → Type 0
  Whole s y = HasValue y s n 1

  inside : (m : ℕ) (e : ℤ) → m * up e * 1 ≡ n * down e → ltb (1 * 2 ^ 31 * down e) (m * up e * 1) ≡ false
  inside m e h = le-ltb (1 * 2 ^ 31 * down e) (m * up e * 1) (go (m * up e * 1) (down e) h)
    where
      go : (z d : ℕ) → z ≡ n * d → z ≤ 1 * 2 ^ 31 * d
      go z d i = omega (arith, i, mul-le-mul_right d (le_of_lt small))

  part : (m : ℕ) (e : ℤ) → m * up e * 1 ≡ n * down e → m * up e / down e ≡ n
  part m e h =
      ap (λ (z : ℕ). z / down e) (sym (mul-one (m * up e)) ∙ h) ∙ mul-div_cancel n (down_pos e)

  cut : (s : Bool) (y : Float) → Whole s y → to_signed 31 (clamp y lowest highest) ≡ signed s n
  unfolding clamp lt to_signed Ieee.round neg
  cut s nan h = absurd h
  cut s (inf t) h = absurd h
  cut false (fin true m e) h = absurd (true≢false h.0)
  cut true (fin false m e) h = absurd (true≢false (sym h.0))
  cut false (fin false m e) h = rw (inside m e h.1, part m e h.1) (ap pos (go n small))
    where
      go : (z : ℕ) → z < 2 ^ 24 → min z (2 ^ 31 - 1) ≡ z
      go z l = omega arith
  cut true (fin true m e) h = rw (inside m e h.1, part m e h.1) (ap (λ (z : ℕ). neg_ℤ (pos z)) (go n small))
    where
      go : (z : ℕ) → z < 2 ^ 24 → min z (2 ^ 31) ≡ z
      go z l = omega arith

-- ---- a float of either sign, rounded to a whole number
abbrev sized : Bool → Float → Float
sized false w = w
sized true w = neg w

round-sized : (s : Bool) (a b : ℕ) → Ieee.round binary32 s a b ≡ sized s (Ieee.round binary32 false a b)
round-sized false a b = refl
round-sized true a b = sym (neg-round binary32 a b)

-- the whole part of w + 1 / 2
abbrev nearest : Float → ℕ
nearest w = (2 * num w + den w) / (2 * den w)

rounds : (s : Bool) (w : Float) → Clear w → round (sized s w) ≡ Ieee.round binary32 s (nearest w) 1
unfolding round neg
rounds s nan h = absurd h
rounds s (inf t) h = absurd h
rounds s (fin true m e) h = absurd (true≢false h.0)
rounds false (fin false m e) h = refl
rounds true (fin false m e) h = refl

bucket_of : (s : Bool) (w : Float) → Clear w → nearest w < 2 ^ 24
    → to_signed 31 (clamp (round (sized s w)) lowest highest) ≡ signed s (nearest w)
bucket_of s w h l =
    ap (λ (y : Float). to_signed 31 (clamp y lowest highest)) (rounds s w h)
    ∙ cut (nearest w) l s (Ieee.round binary32 s (nearest w) 1)
    (round_exact binary32 s (nearest w) 1 (nearest w) 149 (lit< tt) l
    (lt_of_lt_of_le (mul-lt-mul_of_pos_right l (pow_pos 149)) (lit≤ tt))
    (sym (mul-one (nearest w * 2 ^ 149))))

-- ---- the quotient of a float of either sign by one above 0
some : (i j : ℕ) → 0 < i * j → i ≡ 0 → ⊥
some i j k z = omega (arith, k, ap (λ (t : ℕ). t * j) z)

signed_quotient : (s : Bool) (r t : Float) (u c : ℕ) → HasValue r s u c → Clear t → (P : 0 < num t)
    → r /ᶠ t ≡ sized s (Ieee.round binary32 false (num r * den t) (num t * den r))
unfolding div
signed_quotient s nan t u c h k P = absurd h
signed_quotient s (inf z) t u c h k P = absurd h
signed_quotient s (fin z m e) nan u c h k P = absurd k
signed_quotient s (fin z m e) (inf y) u c h k P = absurd k
signed_quotient s (fin z m e) (fin true l d) u c h k P = absurd (true≢false k.0)
signed_quotient false (fin true m e) (fin false l d) u c h k P = absurd (true≢false h.0)
signed_quotient true (fin false m e) (fin false l d) u c h k P = absurd (true≢false (sym h.0))
signed_quotient false (fin false m e) (fin false l d) u c h k P = rw (ne_eqb l 0 (some l (up d) P)) refl
signed_quotient true (fin true m e) (fin false l d) u c h k P =
    rw (ne_eqb l 0 (some l (up d) P)) (round-sized true (m * up e * down d) (l * up d * down e))

-- ---- a stability of at least S_MIN, but not infinite
record Positive (x : Float) : Type 0 where
  pub clear : Clear x
  pub least : den x ≤ num x * 10001
  pub held : T (fits binary32 x)

held_most : (x : Float) → T (fits binary32 x) → num x ≤ 2 ^ 128 * den x
unfolding fits
held_most nan t = lit≤ tt
held_most (inf s) t = lit≤ tt
held_most (fin s zero e) t = le_trans (le_of_eq (zero-mul (up e))) zero-le
held_most (fin s (suc m) e) t = le_of_lt (ltb→lt (suc m * up e) (2 ^ 128 * down e)
    (and_r (eqb (suc m % 2) 1 && ltb (suc m) (2 ^ 24) && leb (down e) (2 ^ 149))
    (ltb (suc m * up e) (2 ^ 128 * down e)) t))

s_min_held : T (fits binary32 s_min)
s_min_held = round-fits binary32 false 1 10000

positive : (s : Float) → T (fits binary32 s) → (s ≡ inf false → ⊥) → Positive (max s s_min)
unfolding max
positive s fs f =
    let w = stability_in_range s f in
    record {
      clear = w.number;
      least = w.least;
      held =
          cond-fits binary32 (is_nan s) s_min (cond (lt s s_min) s_min s) s_min_held
          (cond-fits binary32 (lt s s_min) s_min s s_min_held fs);
    }

steps-small : (j h : ℕ) → 2 ^ 23 * j * 1 ≤ 89 * h → 90000 * j ≤ h
steps-small j h l = omega (arith, l)

back : (u t h : ℕ) → (u - t) * 1 ≤ h → u ≤ h + t
back u t h l = omega (arith, l)

ninety : (n d u t h : ℕ) → n * h ≡ u * d → u ≤ 89 * h + t → 90000 * t ≤ h → n * h ≤ 90 * d * h
ninety n d u t h e l k = omega (arith, e, mul-le-mul_left d l, mul-le-mul_left d k)

small-quotient : (n d a b h : ℕ) → n ≤ 90 * d → b ≤ 1001 * a → 90090 ≤ h → n * b * 1 ≤ h * (a * d)
small-quotient n d a b h i j k = omega (arith, mul-le-mul i j, mul-le-mul_left (a * d) k)

thousands : (u t h : ℕ) → u ≤ 89 * h + t → 90000 * t ≤ h → 1000 * u ≤ 89001 * h
thousands u t h l k = omega (arith, l, k)

same : (u h : ℕ) → u * 1000 * h ≡ 1000 * u * (1 * h)
same u h = omega arith

whole_most : (a b : ℕ) → 0 < b → a ≤ b * (a / b) + b
whole_most a b B = go (a / b) (a % b) (div-add-mod' a b) (mod-lt a B)
  where
    go : (q r : ℕ) → q * b + r ≡ a → r < b → a ≤ b * q + b
    go q r e l = omega (arith, e)

few : (a b n z h : ℕ) → 0 < b → 0 < h → 2 * b * n ≤ 2 * a + b → 90 * (a * h) ≤ 90 * (z * b) + h * b → z ≤ 89001 * h
    → n < 89004
few a b n z h B H l k m =
    let i : a ≤ 89002 * b = le_of_mul-le-mul_right {k = h} (omega (arith, k, mul-le-mul_left b m)) H in
    let j : n ≤ 89003 =
    le_of_mul-le-mul_right {k = 2 * b} (omega (arith, l, i)) (mul-pos (lit< {m = 0} {n = 2} tt) B) in
    omega arith

ln-below : (s : Bool) (x : Float) (p q a b : ℕ) → 0 < q → 0 < b → p * b ≤ a * q → LnGe s x a b → LnGe s x p q
ln-below false x p q a b Q B h g = le_below p q a b (num x) (den x) Q B h g
ln-below true x p q a b Q B h g = le_below p q a b (den x) (num x) Q B h g

ln_above : (s : Bool) (x : Float) (p q a b : ℕ) → 0 < q → 0 < b → a * q ≤ p * b → LnLe s x a b → LnLe s x p q
ln_above false x p q a b Q B h g = ge_above p q a b (num x) (den x) Q B h g
ln_above true x p q a b Q B h g = ge_above p q a b (den x) (num x) Q B h g

-- the step is 0.001, rounded
step_clear : Clear log_step
unfolding Ieee.round
step_clear = (refl, refl)

step_pos : 0 < num log_step
unfolding Ieee.round
step_pos = lit< tt

step_most_lem : den log_step ≤ 1001 * num log_step
unfolding Ieee.round
step_most_lem = lit≤ tt

abbrev thousandth : Fraction
thousandth = record { top = 1; bottom = 1000; positive = lit< tt }

step_near : (b : Bool) → Toward b 1 thousandth (val log_step)
unfolding Ieee.round
step_near false = record { side = record { holds = lit≤ tt } }
step_near true = record { side = record { holds = lit≤ tt } }

-- ---- its logarithm is at most 89, of either sign
-- 2^128 ≤ e^89
top : ExpGe 89 1 (2 ^ 128) 1
unfolding sum scale
top = (110, lit≤ tt)

module _ (x : Float) (p : Positive x) where
  num_pos : 0 < num x
  num_pos = go (num x) (le_trans (den_pos x) p.least)
    where
      go : (n : ℕ) → 0 < n * 10001 → 0 < n
      go n h = omega arith

  ln_most : (s : Bool) (a : ℕ) → LnGe s x a (2 ^ 149) → a * 1 ≤ 89 * 2 ^ 149
  ln_most false a h =
      order a (2 ^ 149) 89 1 (2 ^ 128) 1 (pow_pos 149) (lit< tt) (pow_pos 128) (lit< tt)
      (le_weaken a (2 ^ 149) (num x) (den x) (2 ^ 128) 1 (den_pos x)
      (le_trans (le_of_eq (mul-one (num x))) (held_most x p.held)) h)
      top
  ln_most true a h =
      order a (2 ^ 149) 89 1 (2 ^ 128) 1 (pow_pos 149) (lit< tt) (pow_pos 128) (lit< tt)
      (le_weaken a (2 ^ 149) (den x) (num x) (2 ^ 128) 1 num_pos (go (num x) (den x) (2 ^ 128) p.least (lit≤ tt)) h)
      top
    where
      go : (n d h : ℕ) → d ≤ n * 10001 → 10001 ≤ h → d * 1 ≤ h * n
      go n d h i j = omega (arith, i, mul-le-mul_left n j)

  within : WithinLn x (ln_of x)
  within = (ln-bound x p.held).near (bits_pos x p.held num_pos) (clear-bits x p.held (num x) (den x) p.clear)

  abbrev s : Bool
  s = within.sign

  abbrev t : ℕ
  t = within.tolerance

  abbrev u : ℕ
  u = within.near.units

  abbrev r : Float
  r = ln_of x

  tolerance-small : 90000 * t ≤ 2 ^ 149
  tolerance-small = go t within.allowed
    where
      go : (t : ℕ) → (t ≡ 2 ^ 109) ⊎ (j : ℕ) × (t ≡ 2 ^ j) × Step (LnGe s x) j → 90000 * t ≤ 2 ^ 149
      go t (inl e) = subst (λ (z : ℕ). 90000 * z ≤ 2 ^ 149) (sym e) (lit≤ tt)
      go t (inr (j, e, i)) = subst (λ (z : ℕ). 90000 * z ≤ 2 ^ 149) (sym e) (on i)
        where
          on : Step (LnGe s x) j → 90000 * 2 ^ j ≤ 2 ^ 149
          on (inl i) = subst (λ (z : ℕ). 90000 * 2 ^ z ≤ 2 ^ 149) (sym i) (lit≤ tt)
          on (inr i) =
              steps-small (2 ^ j) (2 ^ 149)
              (subst (λ (z : ℕ). z * 1 ≤ 89 * 2 ^ 149) (pow-add 2 23 j) (ln_most s (2 ^ (23 + j)) i))

  units_most : u ≤ 89 * 2 ^ 149 + t
  units_most = back u t (89 * 2 ^ 149) (ln_most s (u - t) within.near.low)

  is : num r * 2 ^ 149 ≡ u * den r
  is = fraction_is r s u (2 ^ 149) within.near.value

  r_most : num r ≤ 90 * den r
  r_most =
      le_of_mul-le-mul_right {k = 2 ^ 149}
      (ninety (num r) (den r) u t (2 ^ 149) is units_most tolerance-small) (pow_pos 149)

  -- the quotient by the step, without its sign
  abbrev exact : Fraction
  exact = quotient (val r) (val log_step) step_pos

  abbrev w : Float
  w = Ieee.round binary32 false (num r * den log_step) (num log_step * den r)

  w-rounded : Rounded exact w
  w-rounded =
      rounded exact
      (small-quotient (num r) (den r) (num log_step) (den log_step) (2 ^ 127) r_most step_most_lem (lit≤ tt))

  -- 1000 u / 2^149
  abbrev thousandfold : Fraction
  thousandfold = record { top = 1000 * u; bottom = 2 ^ 149; positive = pow_pos 149 }

  abbrev units : Fraction
  units = record { top = u; bottom = 2 ^ 149; positive = pow_pos 149 }

  w_near : (b : Bool) → Toward b 2 (val w ⊕ smallest) (thousandfold ⊕ smallest)
  w_near b =
      toward_trans (w-rounded.any b)
      (toward_add
      (toward_exact exact exact (quotient units thousandth (lit< tt)) thousandfold refl (same u (2 ^ 149))
      (toward_quotient step_pos (lit< tt) (toward_same b 0 (val r) units is) (step_near b)))
      (toward_refl b 1 smallest))

  thousandfold_most : 1000 * u ≤ 89001 * 2 ^ 149
  thousandfold_most = thousands u t (2 ^ 149) units_most tolerance-small

  w_above : 90 * (num w * 2 ^ 149) ≤ 90 * (1000 * u * den w) + 2 ^ 149 * den w
  w_above =
      above (num w) (den w) (1000 * u) (2 ^ 149) (2 ^ 126) (pow_pos 126) thousandfold_most (w_near false).side.holds

  w-below : 90 * (1000 * u * den w) ≤ 90 * (num w * 2 ^ 149) + 2 ^ 149 * den w
  w-below =
      below (num w) (den w) (1000 * u) (2 ^ 149) (2 ^ 126) (pow_pos 126) thousandfold_most (w_near true).side.holds
      (slack_below (num w) (den w) (1000 * u) (2 ^ 149) (2 ^ 126) (pow_pos 126) thousandfold_most w_above)

  abbrev n : ℕ
  n = nearest w

  n-least : 2 * den w * n ≤ 2 * num w + den w
  n-least =
      le_trans (le_of_eq (mul_comm (2 * den w) n)) (div-mul-le_self (2 * num w + den w) (2 * den w))

  n_most : 2 * num w + den w ≤ 2 * den w * n + 2 * den w
  n_most = whole_most (2 * num w + den w) (2 * den w) (mul-pos (lit< {m = 0} {n = 2} tt) (den_pos w))

  n-small : n < 2 ^ 24
  n-small =
      lt_of_lt_of_le
      (few (num w) (den w) n (1000 * u) (2 ^ 149) (den_pos w) (pow_pos 149) n-least w_above thousandfold_most) (lit≤ tt)

  bucket_is : bucket_index r log_step ≡ signed s n
  unfolding bucket_index
  bucket_is =
      ap (λ (y : Float). to_signed 31 (clamp (round y) lowest highest))
      (signed_quotient s r log_step u (2 ^ 149) within.near.value step_clear step_pos)
      ∙ bucket_of s w w-rounded.clear n-small

  bucket : IsLnBucket x (pattern (bucket_index r log_step))
  bucket = record {
    sign = s;
    n = n;
    is = ap pattern bucket_is;
    low =
        ln-below s x (100 * n - 53) 100000 (u - t) (2 ^ 149) (lit< tt) (pow_pos 149)
        (low_side (num w) (den w) u t (2 ^ 149) n (den_pos w) n-least n_most w_above w-below tolerance-small)
        within.near.low;
    high =
        ln_above s x (100 * n + 53) 100000 (u + t) (2 ^ 149) (lit< tt) (pow_pos 149)
        (high_side (num w) (den w) u t (2 ^ 149) n (den_pos w) n-least n_most w_above w-below tolerance-small)
        within.near.high;
  }

pub ln_bucket : (s : Float) → T (fits binary32 s) → (s ≡ inf false → ⊥) → IsLnBucket (max s s_min) (stability_bucket s)
unfolding stability_bucket
ln_bucket s fs f = bucket (max s s_min) (positive s fs f)

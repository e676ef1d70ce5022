-- THE FLOAT-DAY LAWS: the whole part of a float, and how it moves on. For any format and any width of the whole number.
--   whole-ge                     a float at or above a whole number has no lesser whole part
--   later                        a whole day n and an interval of 1 or more, added in floats, come to a later day
--   in_span                      a float that is not at or past a whole number has a whole part below it
--   max_cut, day_cut             the max with 0 changes no whole part, and no card's day
--   day_later, day_in-span       the laws `later` and `in_span`, of a card's day
--   one_is                       the bits of 1
--   whole_le, bound, day-bound   with a longest interval, the next day has a bound too
--   one_in_range                 an interval of 1 is in range
--   day-next                     a card put off is due on the next day
--   in_range_used                an interval in range is not below 1
use mathlib.Core.Path.{◌≡◌, refl, sym, ap, ◌∙◌, subst}
use mathlib.Core.Bool.{Bool, true, false, not, cond, true≢false}
use Prim.Native.Nat.{ℕ, suc, ◌+◌, ◌-◌, ◌*◌, ◌/◌, ◌^◌, ◌≤◌, ◌<◌, min}
use native.Mathlib.Nat.{le_trans, le_of_eq, mul-one, one-mul, mul_comm, mul_right_comm, mul-pos, mul-le-mul_right}
use native.Mathlib.Nat.{le_of_mul-le-mul_right, lt_of_mul-lt-mul_right, zero-mul, le-div_iff_mul-le, div-lt_iff_lt-mul}
use native.Mathlib.Omega.{arith}
use borrow.Author.Tests.{le-ltb}
use lib.Dec.{T, ltb, eqb, eqb→eq, lit≤, lit<}
use lib.IntN.{ℤ, pos}
use lib.Pow.{pow_pos}
use lib.Ieee.{Float, nan, inf, fin, Format, binary32, prec, up, down, round, sum, add, of_int, of_bits, of_fields, lt, eq}
use lib.Ieee.{le, to_unsigned, is_nan}
use lib.Ieee.Fits.{down_pos, and_r}
use lib.Ieee.Exact.{HasValue}
use lib.Ieee.Order.{round_mono}
use lib.Ieee.Back.{round_whole}
use Rattle.float32.proofs.Cmp.{no, le_pos, gt_pos}
use Rattle.float32.specs.Float32.{max}
use Rattle.cards.specs.Day.{IntervalInRange, day_of, next_due}

-- a value at or above a whole number k has a whole part of k at least
min-ge : (k a b : ℕ) → k ≤ a → k ≤ b → k ≤ min a b
min-ge k a b h g = omega arith

ge_cut : (w k m n : ℕ) (e d : ℤ) → m * up e * 1 ≡ k * down e → m * up e * down d ≤ n * up d * down e → k < 2 ^ w
    → k ≤ min (n * up d / down d) (2 ^ w - 1)
ge_cut w k m n e d v h g =
    let x : k * down d * down e ≤ n * up d * down e =
    le_trans (le_of_eq (mul_right_comm k (down d) (down e)
    ∙ ap (λ (z : ℕ). z * down d) (sym v ∙ mul-one (m * up e)))) h in
    min-ge k (n * up d / down d) (2 ^ w - 1)
    ((le-div_iff_mul-le (down_pos d)).1 (le_of_mul-le-mul_right x (down_pos e))) (omega (arith, pow_pos w))

not-zero : (a : ℕ) → 0 < a → a ≡ 0 → ⊥
not-zero a h e = omega arith

pub whole-ge : (w k : ℕ) (x y : Float) → HasValue x false k 1 → 0 < k → k < 2 ^ w → T (le x y) → k ≤ to_unsigned w y
unfolding le lt eq to_unsigned
whole-ge w k nan y v p g t = absurd v
whole-ge w k (inf s) y v p g t = absurd v
whole-ge w k (fin true m e) y v p g t = absurd (true≢false v.0)
whole-ge w k (fin false m e) nan v p g t = absurd t
whole-ge w k (fin false m e) (inf true) v p g t = absurd t
whole-ge w k (fin false m e) (inf false) v p g t = omega (arith, pow_pos w)
whole-ge w k (fin false m e) (fin true n d) v p g t =
    let a : ℕ = m * up e * down d in
    let up_from : 0 < m * up e = subst (λ (z : ℕ). 0 < z) (sym v.1 ∙ mul-one (m * up e)) (mul-pos p (down_pos e)) in
    let none : a ≡ 0 = eqb→eq (m * up e * down d) 0
    (and_r (eqb (m * up e * down d) (n * up d * down e)) (eqb (m * up e * down d) 0) t) in
    absurd (not-zero a (mul-pos up_from (down_pos d)) none)
whole-ge w k (fin false m e) (fin false n d) v p g t = ge_cut w k m n e d v.1 (le_pos m e n d t) g

-- ---- n + v, for a whole n and a float v of 1 or more, is n + 1 or more
sum-ge : (f : Format) (w n : ℕ) (x : Float) (m : ℕ) (e : ℤ) → n < 2 ^ prec f → suc n < 2 ^ w → HasValue x false n 1
    → down e ≤ m * up e → suc n ≤ to_unsigned w (add f x (fin false m e))
unfolding add sum
sum-ge f w n nan m e small fit v h = absurd v
sum-ge f w n (inf s) m e small fit v h = absurd v
sum-ge f w n (fin true a b) m e small fit v h = absurd (true≢false v.0)
sum-ge f w n (fin false a b) m e small fit v h =
    let num : ℕ = a * up b * down e + m * up e * down b in
    let den : ℕ = down b * down e in
    let D : 0 < den = mul-pos (down_pos b) (down_pos e) in
    let x : a * up b ≡ n * down b = sym (mul-one (a * up b)) ∙ v.1 in
    let y : suc n * den ≤ num * 1 = cross n (a * up b) (m * up e) (down b) (down e) x h in
    whole-ge w (suc n) (round f false (suc n) 1) (round f false num den) (round_whole f false (suc n) small)
    (omega arith) fit (round_mono f (suc n) 1 num den (omega arith) D y)
  where
    cross : (n p q b e : ℕ) → p ≡ n * b → e ≤ q → suc n * (b * e) ≤ (p * e + q * b) * 1
    cross n p q b e x h = rw x (go (mul-le-mul_right b h))
      where
        go : e * b ≤ q * b → suc n * (b * e) ≤ (n * b * e + q * b) * 1
        go g = omega (arith, g)

-- 1 or more: le 1 v
one-le : (v : Float) (m : ℕ) (e : ℤ) → HasValue v false 1 1 → T (le v (fin false m e)) → down e ≤ m * up e
unfolding le lt eq
one-le nan m e h t = absurd h
one-le (inf s) m e h t = absurd h
one-le (fin true a b) m e h t = absurd (true≢false h.0)
one-le (fin false a b) m e h t =
    let x : down e * down b ≤ m * up e * down b =
    le_trans (le_of_eq (mul_comm (down e) (down b)
    ∙ ap (λ (z : ℕ). z * down e) (sym (one-mul (down b)) ∙ sym h.1 ∙ mul-one (a * up b)))) (le_pos a b m e t) in
    le_of_mul-le-mul_right x (down_pos b)

-- n + infinity
inf_ge : (f : Format) (w n : ℕ) (x : Float) → suc n < 2 ^ w → HasValue x false n 1
    → suc n ≤ to_unsigned w (add f x (inf false))
unfolding add to_unsigned
inf_ge f w n nan fit h = absurd h
inf_ge f w n (inf s) fit h = absurd h
inf_ge f w n (fin s a b) fit h = omega arith

no_neg : (one : Float) (m : ℕ) (e : ℤ) → HasValue one false 1 1 → T (le one (fin true m e)) → ⊥
unfolding le lt eq
no_neg nan m e h t = h
no_neg (inf s) m e h t = h
no_neg (fin true a b) m e h t = absurd (true≢false h.0)
no_neg (fin false a b) m e h t =
    let up_from : 0 < a * up b = subst (λ (z : ℕ). 0 < z) (sym h.1 ∙ mul-one (a * up b))
    (mul-pos (lit< tt) (down_pos b)) in
    not-zero (a * up b * down e) (mul-pos up_from (down_pos e))
    (eqb→eq (a * up b * down e) 0
    (and_r (eqb (a * up b * down e) (m * up e * down b)) (eqb (a * up b * down e) 0) t))

no_nan : (one : Float) → HasValue one false 1 1 → T (le one nan) → ⊥
unfolding le lt eq
no_nan nan h t = h
no_nan (inf s) h t = h
no_nan (fin s a b) h t = t

no_down : (one : Float) → HasValue one false 1 1 → T (le one (inf true)) → ⊥
unfolding le lt eq
no_down nan h t = h
no_down (inf s) h t = h
no_down (fin s a b) h t = t

-- THE LAW: an interval v of 1 or more, infinity too, after the whole day n is a later day
later_of : (f : Format) (w n : ℕ) (one x v : Float) → n < 2 ^ prec f → suc n < 2 ^ w → HasValue one false 1 1
    → HasValue x false n 1 → T (le one v) → n < to_unsigned w (add f x v)
later_of f w n one x nan small fit o h t = absurd (no_nan one o t)
later_of f w n one x (inf true) small fit o h t = absurd (no_down one o t)
later_of f w n one x (inf false) small fit o h t = inf_ge f w n x fit h
later_of f w n one x (fin true m e) small fit o h t = absurd (no_neg one m e o t)
later_of f w n one x (fin false m e) small fit o h t = sum-ge f w n x m e small fit h (one-le one m e o t)

pub later : (f : Format) (w n : ℕ) (v : Float) → n < 2 ^ prec f → suc n < 2 ^ w → T (le (of_int f (pos 1)) v)
    → n < to_unsigned w (add f (of_int f (pos n)) v)
unfolding of_int
later f w n v small fit t = later_of f w n (round f false 1 1) (round f false n 1) v small fit
    (round_whole f false 1 (omega (arith, pow_pos (prec f)))) (round_whole f false n (omega arith)) t

-- ---- a float that is not at or past a whole number, or that is none, has a whole part below it
lt_cut : (w k m n : ℕ) (e d : ℤ) → m * up e * 1 ≡ k * down e → n * up d * down e < m * up e * down d
    → min (n * up d / down d) (2 ^ w - 1) < k
lt_cut w k m n e d v h =
    let x : n * up d * down e < k * down d * down e = subst (λ (z : ℕ). n * up d * down e < z)
    (ap (λ (z : ℕ). z * down d) (sym (mul-one (m * up e)) ∙ v) ∙ mul_right_comm k (down e) (down d)) h in
    let y : n * up d / down d < k = (div-lt_iff_lt-mul (down_pos d)).1 (lt_of_mul-lt-mul_right (down e) x) in
    omega arith

below_of : (w k : ℕ) (x y : Float) → HasValue x false k 1 → 0 < k → T (not (le x y)) → to_unsigned w y < k
unfolding le lt eq to_unsigned
below_of w k nan y v p t = absurd v
below_of w k (inf s) y v p t = absurd v
below_of w k (fin true m e) y v p t = absurd (true≢false v.0)
below_of w k (fin false m e) nan v p t = p
below_of w k (fin false m e) (inf true) v p t = p
below_of w k (fin false m e) (inf false) v p t = absurd t
below_of w k (fin false m e) (fin true n d) v p t = p
below_of w k (fin false m e) (fin false n d) v p t = lt_cut w k m n e d v.1 (gt_pos m e n d t)

pub in_span : (f : Format) (w k : ℕ) (y : Float) → 0 < k → k ≤ 2 ^ prec f → le (of_int f (pos k)) y ≡ false
    → to_unsigned w y < k
unfolding of_int
in_span f w k y p small t = below_of w k (round f false k 1) y (round_whole f false k small) p (no t)

-- ---- the max with 0 plays no part: below it the whole part is 0 anyhow
pub max_cut : (w : ℕ) (x : Float) → to_unsigned w (max x (of_bits binary32 0)) ≡ to_unsigned w x
unfolding max is_nan to_unsigned lt of_bits of_fields
max_cut w nan = omega arith
max_cut w (inf true) = omega arith
max_cut w (inf false) = refl
max_cut w (fin true m e) = go (ltb 0 (m * up e * 1 + 0 * down e))
  where
    go : (b : Bool) → to_unsigned w (cond b (fin false 0 (pos 0)) (fin true m e)) ≡ 0
    go true = let h : min 0 (2 ^ w - 1) ≡ 0 = omega arith in h
    go false = refl
max_cut w (fin false m e) = rw (le-ltb (m * up e * 1) (0 * down e) (omega (arith, zero-mul (down e))))

-- ---- of a card's day
pub day_cut : (x : Float) → day_of x ≡ to_unsigned 32 x
unfolding day_of
day_cut x = max_cut 32 x

-- the next day after an event on day n, of an interval of 1 or more
pub day_later : (n : ℕ) (v : Float) → n < 36500 → T (le (of_int binary32 (pos 1)) v)
    → n < day_of (add binary32 (of_int binary32 (pos n)) v)
day_later n v h t = rw (day_cut (add binary32 (of_int binary32 (pos n)) v))
    (later binary32 32 n v (omega arith) (omega arith) t)

-- the day of a card that is not due past the span
pub day_in-span : (span : ℕ) (x : Float) → 0 < span → span ≤ 36500 → le (of_int binary32 (pos span)) x ≡ false
    → day_of x < span
day_in-span span x p h t = rw (day_cut x) (in_span binary32 32 span x p (omega arith) t)

pub one_is : of_bits binary32 0x3f80_0000 ≡ of_int binary32 (pos 1)
unfolding of_bits of_fields of_int round
one_is = refl

-- ---- and not too late: with an interval of K at most
le_cut : (k m n : ℕ) (e d : ℤ) → m * up e * 1 ≡ k * down e → n * up d * down e ≤ m * up e * down d
    → n * up d ≤ k * down d
le_cut k m n e d v h =
    let x : n * up d * down e ≤ k * down d * down e = le_trans h
    (le_of_eq (ap (λ (z : ℕ). z * down d) (sym (mul-one (m * up e)) ∙ v) ∙ mul_right_comm k (down e) (down d))) in
    le_of_mul-le-mul_right x (down_pos e)

div_under : (a b k : ℕ) → 0 < b → a ≤ k * b → a / b ≤ k
div_under a b k p h =
    let x : a / b < suc k = (div-lt_iff_lt-mul p).1 (go h) in
    omega arith
  where
    go : a ≤ k * b → a < suc k * b
    go h = omega (arith, h, p)

pub whole_le : (w k : ℕ) (x y : Float) → HasValue x false k 1 → T (le y x) → to_unsigned w y ≤ k
unfolding le lt eq to_unsigned
whole_le w k nan y v t = absurd v
whole_le w k (inf s) y v t = absurd v
whole_le w k (fin true m e) y v t = absurd (true≢false v.0)
whole_le w k (fin false m e) nan v t = absurd t
whole_le w k (fin false m e) (inf true) v t = omega arith
whole_le w k (fin false m e) (inf false) v t = absurd t
whole_le w k (fin false m e) (fin true n d) v t = omega arith
whole_le w k (fin false m e) (fin false n d) v t = let x = div_under (n * up d) (down d) k (down_pos d)
    (le_cut k m n e d v.1 (le_pos n d m e t)) in omega arith

sum-le : (f : Format) (w n k : ℕ) (x : Float) (m : ℕ) (e : ℤ) → n + k ≤ 2 ^ prec f → HasValue x false n 1
    → m * up e ≤ k * down e → to_unsigned w (add f x (fin false m e)) ≤ n + k
unfolding add sum
sum-le f w n k nan m e small v h = absurd v
sum-le f w n k (inf s) m e small v h = absurd v
sum-le f w n k (fin true a b) m e small v h = absurd (true≢false v.0)
sum-le f w n k (fin false a b) m e small v h =
    let num : ℕ = a * up b * down e + m * up e * down b in
    let den : ℕ = down b * down e in
    let D : 0 < den = mul-pos (down_pos b) (down_pos e) in
    let x : a * up b ≡ n * down b = sym (mul-one (a * up b)) ∙ v.1 in
    let y : num * 1 ≤ (n + k) * den = cross n k (a * up b) (m * up e) (down b) (down e) x h in
    whole_le w (n + k) (round f false (n + k) 1) (round f false num den) (round_whole f false (n + k) small)
    (round_mono f num den (n + k) 1 D (omega arith) y)
  where
    cross : (n k p q b e : ℕ) → p ≡ n * b → q ≤ k * e → (p * e + q * b) * 1 ≤ (n + k) * (b * e)
    cross n k p q b e x h = rw x (go (mul-le-mul_right b h))
      where
        go : q * b ≤ k * e * b → (n * b * e + q * b) * 1 ≤ (n + k) * (b * e)
        go g = omega (arith, g)

bound_of : (f : Format) (w n k : ℕ) (one x v top : Float) → n + k ≤ 2 ^ prec f → HasValue one false 1 1
    → HasValue x false n 1 → HasValue top false k 1 → T (le one v) → T (le v top) → to_unsigned w (add f x v) ≤ n + k
bound_of f w n k one x nan top small o h u t s = absurd (no_nan one o t)
bound_of f w n k one x (inf true) top small o h u t s = absurd (no_down one o t)
bound_of f w n k one x (inf false) top small o h u t s = absurd (no_up top k u s)
  where
    no_up : (y : Float) (k : ℕ) → HasValue y false k 1 → T (le (inf false) y) → ⊥
    no_up nan k v t = v
    no_up (inf s) k v t = v
    no_up (fin s a b) k v t = unfold le in t
bound_of f w n k one x (fin true m e) top small o h u t s = absurd (no_neg one m e o t)
bound_of f w n k one x (fin false m e) top small o h u t s = sum-le f w n k x m e small h (under top u s)
  where
    under : (y : Float) → HasValue y false k 1 → T (le (fin false m e) y) → m * up e ≤ k * down e
    under nan v t = absurd v
    under (inf s) v t = absurd v
    under (fin true a b) v t = absurd (true≢false v.0)
    under (fin false a b) v t = le_cut k a m b e v.1 (le_pos m e a b t)

pub bound : (f : Format) (w n k : ℕ) (v : Float) → n + k ≤ 2 ^ prec f → T (le (of_int f (pos 1)) v)
    → T (le v (of_int f (pos k))) → to_unsigned w (add f (of_int f (pos n)) v) ≤ n + k
unfolding of_int
bound f w n k v small t s =
    bound_of f w n k (round f false 1 1) (round f false n 1) v (round f false k 1) small
    (round_whole f false 1 (omega (arith, pow_pos (prec f)))) (round_whole f false n (omega arith))
    (round_whole f false k (omega arith)) t s

pub day-bound : (n : ℕ) (v : Float) → n < 36500 → IntervalInRange v
    → day_of (add binary32 (of_int binary32 (pos n)) v) ≤ 73000
day-bound n v h t = rw (day_cut (add binary32 (of_int binary32 (pos n)) v))
    (let x = bound binary32 32 n 36500 v (omega arith) t.least t.most in omega arith)

pub one_in_range : IntervalInRange (of_bits binary32 0x3f80_0000)
unfolding of_bits of_fields of_int round le lt eq
one_in_range = record { least = tt; most = tt }

one_le_one : T (le (of_bits binary32 0x3f80_0000) (of_int binary32 (pos 1)))
unfolding of_bits of_fields of_int round le lt eq
one_le_one = tt

-- a card put off is put off to the next day
pub day-next : (n : ℕ) → n < 16777216 → day_of (next_due n) ≡ suc n
day-next n h =
    let one = of_bits binary32 0x3f80_0000 in
    let least = later binary32 32 n one (omega arith) (omega arith) one_in_range.least in
    let most = bound binary32 32 n 1 one (omega arith) one_in_range.least one_le_one in
    rw (day_cut (next_due n)) (omega arith)

-- ---- what is 1 or more is not below 1
not_under : (one v : Float) → HasValue one false 1 1 → T (le one v) → lt v one ≡ false
not_under nan v h t = absurd h
not_under (inf s) v h t = absurd h
not_under (fin true a b) v h t = absurd (true≢false h.0)
not_under (fin false a b) nan h t = absurd (no_nan (fin false a b) h t)
not_under (fin false a b) (inf true) h t = absurd (no_down (fin false a b) h t)
not_under (fin false a b) (inf false) h t = unfold lt in refl
not_under (fin false a b) (fin true m e) h t = absurd (no_neg (fin false a b) m e h t)
not_under (fin false a b) (fin false m e) h t = unfold lt in le-ltb (m * up e * down b) (a * up b * down e)
    (le_pos a b m e t)

pub in_range_used : (v : Float) → IntervalInRange v → lt v (of_bits binary32 0x3f80_0000) ≡ false
in_range_used v f = rw one_is (not_under (of_int binary32 (pos 1)) v one_value f.least)
  where
    one_value : HasValue (of_int binary32 (pos 1)) false 1 1
    one_value = unfold of_int in round_whole binary32 false 1 (lit≤ tt)

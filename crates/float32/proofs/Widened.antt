-- x * y + z of three `f32`, in `f64`: the product is exact, so the sum is the exact value rounded once, to an `f64`.
--   widens                      a finite `f32` is an `f64`
--   fraction                    a sum is one fraction, rounded, whatever the format
--   add_at, mul_at              `add` and `mul` from the values of their operands
--   mul-exact                   the product is exact
--   wider                       a value in units of 2 ^ -149, in units of 2 ^ -1074
--   sum_64                      the sum is the exact value, rounded once
--   round_no_nan                a rounded fraction is no NaN
use Rattle.std.proofs.Common.{◌≡◌, ℕ, zero, suc, ◌+◌, ◌-◌, ◌*◌, ◌^◌, ◌<◌, ◌≤◌, Bool, true, false, cond, not, ◌&&◌, T, ltb, sym, refl, ap, ◌∙◌, subst, lt_of_lt_of_le, mul_assoc, mul_comm, mul-pos, mul-one, mul_right_comm, arith, lit≤, pow_pos, pow_mono, pow-add, shl_lt}
use lib.Ieee.{Float, nan, inf, fin, Format, binary32, binary64, up, down, prec, emax, low, odd, units, fits, unlike}
use lib.Ieee.{is_nan, round, sum, add, mul}
use lib.Ieee.Fits.{and_i, down_pos, fits_widens, round_is}
use lib.Ieee.Exact.{HasValue, round_exact}
use lib.Ieee.Scale.{round_same}
use Rattle.float32.specs.Float32.{is_finite}
use Rattle.float32.proofs.Decode.{finite_no_nan}
use Rattle.float32.proofs.Sums.{test, Order, less, same, more, order, sum_like, sum_over, sum_under, sum_level}
use Rattle.float32.proofs.Sums.{sum_same}
use Rattle.float32.proofs.Product.{left, product_lt}

-- ---- a finite `f32` is an `f64`
pub widens : (x : Float) → T (fits binary32 x) → T (is_finite x) → T (fits binary64 x && not (is_nan x))
widens x f p = and_i (fits binary64 x) (not (is_nan x)) (fits_widens x f) (finite_no_nan x p)

-- ---- a sum is one fraction, rounded, whatever the format
pub fraction : (s : Bool) (a : ℕ) (t : Bool) (b c : ℕ)
    → (v : Bool) × (num : ℕ) × ((f : Format) → sum f s a t b c ≡ round f v num c)
fraction s a t b c = test (unlike s t) (go (order a b))
    (λ (h : unlike s t ≡ false). (s, a + b, λ f. sum_like f a b c s t h))
  where
    go : Order a b → unlike s t ≡ true → (v : Bool) × (num : ℕ) × ((f : Format) → sum f s a t b c ≡ round f v num c)
    go (less l) h = (t, b - a, λ f. sum_under f a b c s t h l)
    go (same l) h = (false, 0, λ f. sum_level f a b c s t h l)
    go (more l) h = (s, a - b, λ f. sum_over f a b c s t h l)

-- ---- `add` from the values of its operands
across : (m c a e d : ℕ) → m * c ≡ a * e → m * d * c ≡ a * (e * d)
across m c a e d h = mul_right_comm m d c ∙ ap (λ (z : ℕ). z * d) h ∙ mul_assoc a e d

pub add_at : (f : Format) (x y : Float) (s t : Bool) (a b c : ℕ) → 0 < c → HasValue x s a c → HasValue y t b c
    → add f x y ≡ sum f s a t b c
unfolding add
add_at f nan y s t a b c C p q = absurd p
add_at f (inf u) y s t a b c C p q = absurd p
add_at f (fin u m e) nan s t a b c C p q = absurd q
add_at f (fin u m e) (inf v) s t a b c C p q = absurd q
add_at f (fin u m e) (fin v n d) s t a b c C p q =
    sum_same f u (m * up e * down d) v (n * up d * down e) (down e * down d) a b c (mul-pos (down_pos e) (down_pos d)) C
    (across (m * up e) c a (down e) (down d) p.1) (across (n * up d) c b (down d) (down e) q.1
    ∙ ap (λ (z : ℕ). b * z) (mul_comm (down d) (down e)))
    ∙ ap (λ (z : Bool). sum f z a v b c) p.0
    ∙ ap (λ (z : Bool). sum f s a z b c) q.0

-- ---- the product
module _ (a b i j : ℕ) where
  abbrev A : ℕ
  A = a * b * 2 ^ (i + j + 776)

  pub mul_at : (x y : Float) (s t : Bool) → HasValue x s (a * 2 ^ i) (2 ^ 149) → HasValue y t (b * 2 ^ j) (2 ^ 149)
      → mul binary64 x y ≡ round binary64 (unlike s t) A (2 ^ 1074)
  unfolding mul
  mul_at nan y s t p q = absurd p
  mul_at (inf u) y s t p q = absurd p
  mul_at (fin u m e) nan s t p q = absurd q
  mul_at (fin u m e) (inf v) s t p q = absurd q
  mul_at (fin u m e) (fin v n d) s t p q =
      let M = m * up e in
      let N = n * up d in
      round_same binary64 (unlike u v) (M * N) (down e * down d) A (2 ^ 1074) (mul-pos (down_pos e) (down_pos d))
      (pow_pos 1074)
      (ap (λ (z : ℕ). z * 2 ^ 1074) (sym (mul-one (M * N)))
      ∙ sym (left M N 0 (down e) (down d) 1 a b 0 i j 0 p.1 q.1 refl) ∙ ap (λ (z : ℕ). A * z)
      (mul-one (down e * down d)))
      ∙ ap (λ (z : Bool). round binary64 (unlike z v) A (2 ^ 1074)) p.0
      ∙ ap (λ (z : Bool). round binary64 (unlike s z) A (2 ^ 1074)) q.0

  pub mul-exact : (s : Bool) → a < 2 ^ 24 → b < 2 ^ 24 → i ≤ 253 → j ≤ 253
      → HasValue (round binary64 s A (2 ^ 1074)) s A (2 ^ 1074)
  mul-exact s g h k l =
      round_exact binary64 s A (2 ^ 1074) (a * b) (i + j + 776) (pow_pos 1074)
      (lt_of_lt_of_le (product_lt a b g h) (lit≤ tt))
      (lt_of_lt_of_le (shl_lt 48 (i + j + 776) (product_lt a b g h)) (pow_mono {i = 48 + (i + j + 776)} {j = 2098}
      (omega arith))) refl

pub wider : (z : Float) (u : Bool) (c k : ℕ) → HasValue z u (c * 2 ^ k) (2 ^ 149)
    → HasValue z u (c * 2 ^ (k + 925)) (2 ^ 1074)
wider nan u c k h = h
wider (inf v) u c k h = h
wider (fin v m e) u c k h = (
  h.0,
  sym (mul_assoc (m * up e) (2 ^ 149) (2 ^ 925))
      ∙ ap (λ (z : ℕ). z * 2 ^ 925) h.1
      ∙ mul_right_comm (c * 2 ^ k) (down e) (2 ^ 925)
      ∙ ap (λ (z : ℕ). z * down e) (mul_assoc c (2 ^ k) (2 ^ 925) ∙ ap (λ (z : ℕ). c * z) (sym (pow-add 2 k 925))),
)

pub sum_64 : (x y z : Float) (s t u : Bool) (a b c i j k : ℕ) → a < 2 ^ 24 → b < 2 ^ 24 → i ≤ 253 → j ≤ 253
    → HasValue x s (a * 2 ^ i) (2 ^ 149) → HasValue y t (b * 2 ^ j) (2 ^ 149) → HasValue z u (c * 2 ^ k) (2 ^ 149)
    → add binary64 (mul binary64 x y) z ≡ sum binary64 (unlike s t) (a * b * 2 ^ (i + j + 776)) u (c * 2 ^ (k + 925))
    (2 ^ 1074)
sum_64 x y z s t u a b c i j k g h l m p q r =
    ap (λ (w : Float). add binary64 w z) (mul_at a b i j x y s t p q)
    ∙ add_at binary64 (round binary64 (unlike s t) (a * b * 2 ^ (i + j + 776)) (2 ^ 1074)) z (unlike s t) u
    (a * b * 2 ^ (i + j + 776)) (c * 2 ^ (k + 925)) (2 ^ 1074) (pow_pos 1074)
    (mul-exact a b i j (unlike s t) g h l m) (wider z u c k r)

-- ---- a rounded fraction is no NaN
odd_no_nan : (d : ℕ) (s : Bool) (q k l : ℕ) → T (not (is_nan (odd d s q k l)))
unfolding odd is_nan
odd_no_nan d s zero k l = tt
odd_no_nan d s (suc q) k l = tt

units_no_nan : (f : Format) (s : Bool) (q k : ℕ) → T (not (is_nan (units f s q k)))
unfolding units is_nan
units_no_nan f s q k = go (ltb (q * 2 ^ k) (2 ^ (low f + suc (emax f))))
  where
    go : (b : Bool) → T (not (is_nan (cond b (odd (suc (prec f)) s q k (low f)) (inf s))))
    go true = odd_no_nan (suc (prec f)) s q k (low f)
    go false = tt

pub round_no_nan : (f : Format) (s : Bool) (num den : ℕ) → T (not (is_nan (round f s num den)))
round_no_nan f s num den = subst (λ (x : Float). T (not (is_nan x))) (sym (round_is f s num den)) (units_no_nan f s _ _)

-- ---- a pattern whose field is not all ones is finite

-- The product |y log2 x| in units of 2^-39, for |y| ≤ 128.
use Rattle.std.proofs.Common.{◌≡◌, ℕ, zero, suc, ◌+◌, ◌*◌, ◌/◌, ◌%◌, ◌^◌, ◌<◌, ◌≤◌, ◌⊎◌, sym, refl, ap, subst, inl, inr, le_trans, le_of_eq, lt_of_lt_of_le, mul-le-mul_right, mul-le-mul, mul-le-mul_left, pow-suc, le_of_mul-le-mul_right, arith, lit≤, pow_pos, pow_mono}
use native.Mathlib.Nat.{div-eq_of_lt}
use Rattle.series.proofs.Cuts.{lt_or_ge}
use Rattle.series.proofs.Value.{units}
use Rattle.elementary.specs.Power.{product}
use Rattle.elementary.proofs.log2.Law.{floor}
use Rattle.elementary.proofs.power.Order.{Sized}

-- ---- u is |y| g 2^7, cut down, with |y| = n / m
record Cut (n m g u : ℕ) : Type 0 where
  low : u * m ≤ 128 * (n * g)
  high : 128 * (n * g) < (u + 1) * m

cut_by : (k s X U n m g : ℕ) → 0 < k → 0 < m → s * k ≤ X → X < (s + 1) * k → X ≡ 2 * (U * g) → n * (k * 64) ≡ U * m
    → Cut n m g s
cut_by k s X U n m g K M lo hi e v = record {
  low = le_of_mul-le-mul_right {k = k} (omega (arith, mul-le-mul_right m lo, whole)) K;
  high = go (lt_or_ge (128 * (n * g)) ((s + 1) * m));
}
  where
    whole : X * m ≡ 128 * (n * g) * k
    whole = rw e (omega (arith, ap (λ (z : ℕ). z * (2 * g)) v))

    no : (s + 1) * m * k ≤ 128 * (n * g) * k → (X + 1) * m ≤ (s + 1) * k * m → ⊥
    no a b = omega (arith, whole)

    up : X + 1 ≤ (s + 1) * k
    up = omega arith

    go : (128 * (n * g) < (s + 1) * m) ⊎ ((s + 1) * m ≤ 128 * (n * g)) → 128 * (n * g) < (s + 1) * m
    go (inl h) = h
    go (inr h) = absurd (no (mul-le-mul_right k h) (mul-le-mul_right m up))

pub product_is : (g a : ℕ) → product g a ≡ (a % 2 ^ 23 + 2 ^ 23) * g * 2 ^ (a / 2 ^ 23) / 2 ^ 143
unfolding product
product_is g a = refl

cut_down : (n m g a : ℕ) → 0 < m → g ≤ 2 ^ 40 → n * 2 ^ 149 ≡ units (a / 2 ^ 23) (a % 2 ^ 23) * m
    → Cut n m g (product g a)
cut_down n m g a M G v = rw (product_is g a) (go (a / 2 ^ 23) (a % 2 ^ 23) (omega arith) v)
  where
    go : (f t : ℕ) → t < 2 ^ 23 → n * 2 ^ 149 ≡ units f t * m → Cut n m g ((t + 2 ^ 23) * g * 2 ^ f / 2 ^ 143)
    go zero t l v = subst (Cut n m g) (sym (div-eq_of_lt small)) (none (2 ^ 143) (pow_pos 143) (lit≤ tt) v)
      where
        product : (t + 2 ^ 23) * g ≤ 2 ^ 24 * 2 ^ 40
        product = mul-le-mul (le_of t l) G
          where
            le_of : (t : ℕ) → t < 2 ^ 23 → t + 2 ^ 23 ≤ 2 ^ 24
            le_of t l = omega arith

        small : (t + 2 ^ 23) * g * 2 ^ 0 < 2 ^ 143
        small = lt_of_lt_of_le (below ((t + 2 ^ 23) * g) product) (lit≤ tt)
          where
            below : (z : ℕ) → z ≤ 2 ^ 24 * 2 ^ 40 → z * 1 < 36893488147419103232
            below z h = omega arith

        none : (k : ℕ) → 0 < k → 36893488147419103232 ≤ k → n * (k * 64) ≡ t * 1 * m → Cut n m g 0
        none k K big e = record { low = omega arith; high = high (lt_or_ge (128 * (n * g)) m) }
          where
            no : m ≤ 128 * (n * g) → ⊥
            no h =
                let a : n * g ≤ n * 2 ^ 40 = mul-le-mul_left n G in
                let b : n * 36893488147419103232 ≤ n * k = mul-le-mul_left n big in
                let c : t * m ≤ 2 ^ 23 * m = mul-le-mul_right m (le_of t l) in
                last (n * k) (n * g) (t * m) a b c (omega (arith, e)) h
              where
                le_of : (t : ℕ) → t < 2 ^ 23 → t ≤ 2 ^ 23
                le_of t l = omega arith

                last : (x y z : ℕ) → y ≤ n * 2 ^ 40 → n * 36893488147419103232 ≤ x → z ≤ 2 ^ 23 * m → x * 64 ≡ z
                    → m ≤ 128 * y → ⊥
                last x y z a b c e h = omega arith

            high : (128 * (n * g) < m) ⊎ (m ≤ 128 * (n * g)) → 128 * (n * g) < (0 + 1) * m
            high (inl h) = omega arith
            high (inr h) = absurd (no h)
    go (suc f) t l v =
        let X = (t + 2 ^ 23) * g * 2 ^ suc f in
        let h = floor X (2 ^ 143) (pow_pos 143) in
        cut_by (2 ^ 143) (X / 2 ^ 143) X ((2 ^ 23 + t) * 2 ^ f) n m g (pow_pos 143) M h.0 h.1
        (rw (pow-suc 2 f) (same (2 ^ f))) v
      where
        same : (y : ℕ) → (t + 2 ^ 23) * g * (y * 2) ≡ 2 * ((2 ^ 23 + t) * y * g)
        same y = omega arith

pub sized : (n m g a : ℕ) → 0 < m → g ≤ 2 ^ 40 → n * 2 ^ 149 ≡ units (a / 2 ^ 23) (a % 2 ^ 23) * m
    → Sized n m (8 * g) (product g a)
sized n m g a M G v = go (product g a) (cut_down n m g a M G v)
  where
    go : (u : ℕ) → Cut n m g u → Sized n m (8 * g) u
    go u c = record { low = omega (arith, c.low); high = omega (arith, c.high) }

-- |y| ≤ 128
pub at_most : (n m a : ℕ) → a ≤ 0x43000000 → n * 2 ^ 149 ≡ units (a / 2 ^ 23) (a % 2 ^ 23) * m → n ≤ 128 * m
at_most n m a A v =
    go (2 ^ 149) (pow_pos 149) v (top (a / 2 ^ 23) (a % 2 ^ 23) (omega arith) (lt_or_ge (a / 2 ^ 23) 134)
    (omega arith))
  where
    go : (k : ℕ) → 0 < k → n * k ≡ units (a / 2 ^ 23) (a % 2 ^ 23) * m → units (a / 2 ^ 23) (a % 2 ^ 23) ≤ 128 * k
        → n ≤ 128 * m
    go k K e h =
        le_of_mul-le-mul_right {k = k} (le_trans (le_of_eq e) (le_trans (mul-le-mul_right m h) (le_of_eq (turn k)))) K
      where
        turn : (k : ℕ) → 128 * k * m ≡ 128 * m * k
        turn k = omega arith

    top : (f t : ℕ) → f * 2 ^ 23 + t ≤ 0x43000000 → (f < 134) ⊎ (134 ≤ f) → t < 2 ^ 23 → units f t ≤ 128 * 2 ^ 149
    top zero t h c l = le_trans (le_trans (le_of t) (mul-le-mul_right 1 (lt-le t l))) (lit≤ tt)
      where
        le_of : (t : ℕ) → t * 1 ≤ t * 1
        le_of t = omega arith

        lt-le : (t : ℕ) → t < 2 ^ 23 → t ≤ 2 ^ 23
        lt-le t l = omega arith
    top (suc x) t h (inl c) l =
        le_trans (mul-le-mul {n₂ = (2 ^ 24)} {m₂ = 2 ^ 132} (omega arith) (pow_mono {i = x} {j = 132} (omega arith)))
        (lit≤ tt)
    top (suc x) t h (inr c) l =
        le_trans (mul-le-mul {n₂ = (2 ^ 23)} {m₂ = 2 ^ 133} (omega arith) (pow_mono {i = x} {j = 133} (omega arith)))
        (lit≤ tt)

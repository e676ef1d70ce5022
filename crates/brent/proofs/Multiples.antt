-- Floats between two multiples of 2^-24, or of another fraction.
--   N                               2^24
--   InOf u lo hi y, rounded_in_of   a float between two multiples of 1 / u, and a rounded fraction there
--   At x k, multiple                a multiple of 2^-24, and one rounded is itself
--   In lo hi y, rounded_in          a float between two of them, and a rounded fraction there
--   Place lo hi x, placed           a multiple between two others, and a float from 1/2 to below 1 is one
--   widen, narrow                   ends further apart, and nearer
--   at_least, at_most, at_in        where a multiple lies
use mathlib.Core.Path.{◌≡◌, refl, sym, ap, ◌∙◌}
use mathlib.Core.Bool.{Bool, true, false, true≢false}
use Prim.Native.Nat.{ℕ, zero, suc, ◌+◌, ◌-◌, ◌*◌, ◌^◌, ◌≤◌, ◌<◌}
use native.Mathlib.Nat.{le_trans, le_of_eq, lt_of_lt_of_le, lt_of_le_of_lt, mul_assoc, mul-one, mul-le-mul_right}
use native.Mathlib.Nat.{mul-le-mul_left, le_of_mul-le-mul_right, mul-lt-mul_of_pos_right}
use native.Mathlib.Omega.{arith}
use borrow.Author.Tests.{leb-true, leb-false}
use lib.Dec.{T, leb}
use lib.IntN.{pos, negsuc}
use lib.Pow.{pow_pos, pow-add, pow_mono}
use lib.Ieee.{Float, nan, inf, fin, binary32, up, down, round, lt, le, eq, fits}
use lib.Ieee.Fits.{down_pos}
use lib.Ieee.Exact.{HasValue, round_exact}
use lib.Ieee.Order.{round_mono}
use lib.Ieee.Positive.{num, den, den_pos, value→cross}
use Rattle.float32.proofs.NonNegative.{non_negative, round-clear}
use Rattle.brent.proofs.Values.{le-vals, held}

-- 2^24
abbrev pub N : ℕ
N = 16777216

-- ---- between two multiples of 1 / u, where u is 2 ^ (149 - i)
pub record InOf (u lo hi : ℕ) (y : Float) : Type 0 where
  pub value : HasValue y false (num y) (den y)
  pub least : lo * den y ≤ num y * u
  pub most : num y * u ≤ hi * den y

no_infinity : (h : Float) (a c : ℕ) → HasValue h false a c → T (le (inf false) h) → ⊥
unfolding le lt eq
no_infinity nan a c v t = v
no_infinity (inf s) a c v t = v
no_infinity (fin s m e) a c v t = t

module _ (u i : ℕ) (U : 0 < u) (I : i ≤ 149) (is : 2 ^ i * u ≡ 2 ^ 149) where
  multiple_of : (k : ℕ) → k < 2 ^ 24 → HasValue (round binary32 false k u) false k u
  multiple_of k h =
      round_exact binary32 false k u k i U h
      (lt_of_lt_of_le (mul-lt-mul_of_pos_right h (pow_pos i))
      (le_trans (mul-le-mul_left (2 ^ 24) (pow_mono {i = i} {j = 253} (omega arith))) (le_of_eq refl)))
      (ap (λ (z : ℕ). k * z) (sym is) ∙ sym (mul_assoc k (2 ^ i) u))

  pub rounded_in_of : (lo hi a c : ℕ) → 0 < c → hi < 2 ^ 24 → lo * c ≤ a * u → a * u ≤ hi * c
      → InOf u lo hi (round binary32 false a c)
  rounded_in_of lo hi a c C H l m =
      go (round binary32 false a c) (round-clear binary32 a c) (round_mono binary32 lo u a c U C l)
      (round_mono binary32 a c hi u C U m)
    where
      lo_small : lo < 2 ^ 24
      lo_small = lt_of_le_of_lt (le_of_mul-le-mul_right (le_trans l m) C) H

      go : (y : Float) → T (non_negative y) → T (le (round binary32 false lo u) y)
          → T (le y (round binary32 false hi u)) → InOf u lo hi y
      go nan n p q = absurd n
      go (inf true) n p q = absurd n
      go (inf false) n p q = absurd (no_infinity (round binary32 false hi u) hi u (multiple_of hi H) q)
      go (fin true m e) n p q = absurd n
      go (fin false m e) n p q = record {
        value = (refl, refl);
        least = le-vals (round binary32 false lo u) (fin false m e) lo u (m * up e) (down e) U (down_pos e)
            (multiple_of lo lo_small) (refl, refl) p;
        most = le-vals (fin false m e) (round binary32 false hi u) (m * up e) (down e) hi u (down_pos e) U (refl, refl)
            (multiple_of hi H) q;
      }

-- ---- and of 2^-24
abbrev pub At : Float → ℕ → Type 0
At x k = HasValue x false k N

abbrev pub In : ℕ → ℕ → Float → Type 0
In lo hi y = InOf N lo hi y

pub multiple : (k : ℕ) → k < 2 ^ 24 → At (round binary32 false k N) k
multiple = multiple_of N 125 (omega arith) (omega arith) refl

pub rounded_in : (lo hi a c : ℕ) → 0 < c → hi < 2 ^ 24 → lo * c ≤ a * N → a * N ≤ hi * c
    → In lo hi (round binary32 false a c)
rounded_in = rounded_in_of N 125 (omega arith) (omega arith) refl

-- ---- a float from 1/2 below 1 is a multiple of 2^-24
pub record Place (lo hi : ℕ) (x : Float) : Type 0 where
  pub k : ℕ
  pub at : At x k
  pub least : lo ≤ k
  pub most : k ≤ hi

place-digits : (lo hi m j : ℕ) → 2 ^ 23 ≤ lo → m < 2 ^ 24 → lo * 2 ^ suc j ≤ m * 1 * N → suc j ≤ 24
place-digits lo hi m j L M h = go (leb (suc j) 24) (leb-true (suc j) 24) (leb-false (suc j) 24)
  where
    clash : (x y : ℕ) → 2 ^ 25 ≤ x → 2 ^ 23 * x ≤ y → y ≤ m * 1 * N → ⊥
    clash x y a b c = omega arith

    go : (b : Bool) → (b ≡ true → suc j ≤ 24) → (b ≡ false → 24 < suc j) → suc j ≤ 24
    go true f g = f refl
    go false f g =
        absurd (clash (2 ^ suc j) (lo * 2 ^ suc j) (pow_mono {i = 25} {j = suc j} (g refl))
        (mul-le-mul_right (2 ^ suc j) L) h)

pub placed : (lo hi : ℕ) (x : Float) → T (fits binary32 x) → 2 ^ 23 ≤ lo → hi < 2 ^ 24 → In lo hi x → Place lo hi x
placed lo hi nan t L H r = absurd r.value
placed lo hi (inf s) t L H r = absurd r.value
placed lo hi (fin true m e) t L H r = absurd (true≢false r.value.0)
placed lo hi (fin false m (pos j)) t L H r = absurd (go (m * 2 ^ j) r.least r.most)
  where
    go : (x : ℕ) → lo * 1 ≤ x * N → x * N ≤ hi * 1 → ⊥
    go x a b = omega arith
placed lo hi (fin false zero (negsuc j)) t L H r =
    absurd (go (2 ^ suc j) (pow_pos (suc j)) (le_trans (mul-le-mul_right (2 ^ suc j) L) r.least))
  where
    go : (x : ℕ) → 0 < x → 2 ^ 23 * x ≤ 0 * 1 * N → ⊥
    go x a b = omega arith
placed lo hi (fin false (suc m) (negsuc j)) t L H r =
    let h = held m (negsuc j) t in
    let d = place-digits lo hi (suc m) j L h.digits r.least in
    let back : 24 - suc j + suc j ≡ 24 = omega arith in
    let e : suc m * 1 * N ≡ suc m * 2 ^ (24 - suc j) * 2 ^ suc j = ap (λ (z : ℕ). z * N) (mul-one (suc m)) ∙ ap
    (λ (z : ℕ). suc m * z) (sym (ap (λ (z : ℕ). 2 ^ z) back) ∙ pow-add 2 (24 - suc j) (suc j)) ∙ sym
    (mul_assoc (suc m) (2 ^ (24 - suc j)) (2 ^ suc j)) in
    record {
      k = suc m * 2 ^ (24 - suc j);
      at = (refl, e);
      least = le_of_mul-le-mul_right (le_trans r.least (le_of_eq e)) (pow_pos (suc j));
      most = le_of_mul-le-mul_right (le_trans (le_of_eq (sym e)) r.most) (pow_pos (suc j));
    }

pub widen : (lo hi lo' hi' : ℕ) (y : Float) → lo' ≤ lo → hi ≤ hi' → In lo hi y → In lo' hi' y
widen lo hi lo' hi' y a b r =
    record {
      value = r.value;
      least = le_trans (mul-le-mul_right (den y) a) r.least;
      most = le_trans r.most
          (mul-le-mul_right (den y) b);
    }

pub narrow : (lo hi lo' hi' : ℕ) (y : Float) → In lo hi' y → In lo' hi y → In lo hi y
narrow lo hi lo' hi' y r q = record { value = r.value; least = r.least; most = q.most }

-- where a multiple lies
pub at_least : (lo hi k : ℕ) (y : Float) → At y k → In lo hi y → lo ≤ k
at_least lo hi k y p r = le_of_mul-le-mul_right (le_trans r.least (le_of_eq (value→cross y k N p))) (den_pos y)

pub at_most : (lo hi k : ℕ) (y : Float) → At y k → In lo hi y → k ≤ hi
at_most lo hi k y p r = le_of_mul-le-mul_right (le_trans (le_of_eq (sym (value→cross y k N p))) r.most) (den_pos y)

pub at_in : (k : ℕ) (y : Float) → At y k → In k k y
at_in k nan p = absurd p
at_in k (inf s) p = absurd p
at_in k (fin true m e) p = absurd (true≢false p.0)
at_in k (fin false m e) p = record { value = (refl, refl); least = le_of_eq (sym p.1); most = le_of_eq p.1 }

-- x = a / b squared again and again, in units of 2^-60, cut down: after i squares it is at most 2^i 2^-57 of itself too
-- low.
--   State a b i X                             X is x after i squares, and how far off
--   Result a b n X                            what n squares come to: one from 1/4 to 4, or one past these on the way
--   squares_zero, squares-low, squares-high   squares, where nothing is done
--   squares-mid                               and where x is squared
--   run                                       from a State to the Result after k more squares
--   SquareFits h l x, square_is               a square from the halves of x, in 64 bits
--   one_more                                  one square at a time
use Rattle.std.proofs.Common.{◌≡◌, ℕ, zero, suc, ◌+◌, ◌-◌, ◌*◌, ◌/◌, ◌%◌, ◌^◌, ◌<◌, ◌≤◌, ◌⊎◌, sym, refl, ap, ◌∙◌, subst, inl, inr, le_trans, le_of_eq, add-zero, mul-le-mul_right, mul_assoc, mul_comm, mul-le-mul, mul-le-mul_left, le_of_mul-le-mul_right, arith, lit<, lit≤, pow_pos, pow_mono, pow-add, le-ltb, lt-ltb}
use native.Mathlib.Nat.{two-pow-succ}
use Rattle.series.proofs.Cuts.{lt_or_ge}
use Rattle.elementary.specs.Power.{squares}
use Rattle.elementary.proofs.log2.Law.{floor}

-- ---- one square: t is 2^57, and e the error so far in units of 2^-57
low_step : (A B X Y q : ℕ) → 0 < q → Y * q ≤ X * X → X * B ≤ A * q → Y * (B * B) ≤ A * A * q
low_step A B X Y q Q y h = le_of_mul-le-mul_right {k = q} (omega (arith, mul-le-mul_right (B * B) y, mul-le-mul h h)) Q

-- (A^2) against (Y + 1) B^2 (t + e)^2
wide : (A B X Y q t e : ℕ) → 0 < q → X * X ≤ (Y + 1) * q → A * q * t ≤ X * B * (t + e)
    → A * A * q * (t * t) ≤ (Y + 1) * (B * B) * ((t + e) * (t + e))
wide A B X Y q t e Q y h =
    le_of_mul-le-mul_right {k = q}
    (le_trans (le_of_eq (one A q t)) (le_trans (mul-le-mul h h)
    (le_trans (le_of_eq (two X B (t + e))) (le_trans (mul-le-mul_right (B * B * ((t + e) * (t + e))) y)
    (le_of_eq (three (Y + 1) q (B * B) ((t + e) * (t + e)))))))) Q
  where
    one : (A q t : ℕ) → A * A * q * (t * t) * q ≡ A * q * t * (A * q * t)
    one A q t = omega arith

    two : (X B s : ℕ) → X * B * s * (X * B * s) ≡ X * X * (B * B * (s * s))
    two X B s = omega arith

    three : (y q b s : ℕ) → y * q * (b * s) ≡ y * b * s * q
    three y q b s = omega arith

-- (Y + 1) (t + e)^2 ≤ Y t (t + 2 e + 1), where Y is from 2 t on and 4 e^2 ≤ t
enough : (Y t e : ℕ) → 2 * t ≤ Y → 4 * (e * e) ≤ t → 8 * e ≤ t
    → (Y + 1) * ((t + e) * (t + e)) ≤ Y * (t * (t + (2 * e + 1)))
enough Y t e y h k =
    let a : Y * (4 * (e * e)) ≤ Y * t = mul-le-mul_left Y h in
    let b : 2 * t * t ≤ Y * t = mul-le-mul_right t y in
    let c : 8 * e * t ≤ t * t = mul-le-mul_right t k in
    let d : 4 * (e * e) ≤ t * t = le_trans (mul-le-mul_left 4 (mul-le-mul_left e (le_of e t k))) (omega arith) in
    omega arith
  where
    le_of : (e t : ℕ) → 8 * e ≤ t → e ≤ t
    le_of e t k = omega arith

high-step : (A B X Y q t e : ℕ) → 0 < q → 0 < t → X * X ≤ (Y + 1) * q → 2 * t ≤ Y → 4 * (e * e) ≤ t → 8 * e ≤ t
    → A * q * t ≤ X * B * (t + e) → A * A * q * t ≤ Y * (B * B) * (t + (2 * e + 1))
high-step A B X Y q t e Q P y l h k f =
    le_of_mul-le-mul_right {k = t}
    (le_trans (le_of_eq (one (A * A * q) t)) (le_trans (wide A B X Y q t e Q y f)
    (le_trans (le_of_eq (two (Y + 1) (B * B) ((t + e) * (t + e))))
    (le_trans (mul-le-mul_left (B * B) (enough Y t e l h k)) (le_of_eq (three (B * B) Y t (t + (2 * e + 1)))))))) P
  where
    one : (x t : ℕ) → x * t * t ≡ x * (t * t)
    one x t = omega arith

    two : (y b s : ℕ) → y * b * s ≡ b * (y * s)
    two y b s = omega arith

    three : (b y t s : ℕ) → b * (y * (t * s)) ≡ y * b * s * t
    three b y t s = omega arith

-- ---- the state after i squares: 2^60 is 1152921504606846976, 2^57 144115188075855872, 2^58 288230376151711744
pub record State (a b i X : ℕ) : Type 0 where
  pub low : X * b ^ (2 ^ i) ≤ a ^ (2 ^ i) * 2 ^ 60
  pub high : 2 ^ 58 ≤ X → (e : ℕ) → e + 1 ≡ 2 ^ i
      → a ^ (2 ^ i) * 2 ^ 60 * 2 ^ 57 ≤ X * b ^ (2 ^ i) * (2 ^ 57 + e)
  pub small : X < 2 ^ 58 → a ^ (2 ^ i) * 2 ^ 32 ≤ b ^ (2 ^ i) * 1073741825

double : (a i : ℕ) → a ^ (2 ^ suc i) ≡ a ^ (2 ^ i) * a ^ (2 ^ i)
double a i = ap (λ (n : ℕ). a ^ n) (two-pow-succ i) ∙ pow-add a (2 ^ i) (2 ^ i)

step : (a b i X : ℕ) → i ≤ 24 → 2 ^ 58 ≤ X → State a b i X → State a b (suc i) (X * X / 2 ^ 60)
step a b i X I l s =
    let q : ℕ = 2 ^ 60 in
    let t : ℕ = 2 ^ 57 in
    let Y = X * X / q in
    let A = a ^ (2 ^ i) in
    let B = b ^ (2 ^ i) in
    let f = floor (X * X) q (lit< tt) in
    let E : 2 ^ i ≤ 2 ^ 24 = pow_mono {i = i} {j = 24} I in
    let e = 2 ^ i - 1 in
    let ee : e + 1 ≡ 2 ^ i = omega (arith, pow_pos i) in
    let up : X * X ≤ (Y + 1) * q = lt-le f.1 in
    let h : A * q * t ≤ X * B * (t + e) = s.high l e ee in
    let e1 : e ≤ 2 ^ 24 = omega arith in
    let e2 : 4 * (e * e) ≤ t = le_trans (mul-le-mul_left 4 (mul-le-mul e1 e1)) (lit≤ tt) in
    record {
      low = rw (double a i, double b i) (low_step A B X Y q (lit< tt) f.0 s.low);
      high = λ k g eg. rw (double a i, double b i)
          (subst (λ (n : ℕ). A * A * q * t ≤ Y * (B * B) * (t + n)) (next e g ee eg)
          (high-step A B X Y q t e (lit< tt) (lit< tt) up k e2 (omega arith) h));
      small = λ k. rw (double a i, double b i) (last A B Y e k e1 (wide A B X Y q t e (lit< tt) up h));
    }
  where
    lt-le : {x y : ℕ} → x < y → x ≤ y
    lt-le h = omega arith

    next : (e g : ℕ) → e + 1 ≡ 2 ^ i → g + 1 ≡ 2 ^ suc i → 2 * e + 1 ≡ g
    next e g p r = omega (arith, two-pow-succ i)

    last : (A B Y e : ℕ) → Y < 2 ^ 58 → e ≤ 2 ^ 24
        → A * A * 2 ^ 60 * (2 ^ 57 * 2 ^ 57) ≤ (Y + 1) * (B * B)
        * ((2 ^ 57 + e) * (2 ^ 57 + e))
        → A * A * 2 ^ 32 ≤ B * B * 1073741825
    last A B Y e k l h =
        let y : Y + 1 ≤ 2 ^ 58 = omega arith in
        let t1 : 2 ^ 57 + e ≤ 144115188092633088 = omega arith in
        let m : (Y + 1) * (B * B) * ((2 ^ 57 + e) * (2 ^ 57 + e)) ≤ 2 ^ 58 * (B * B)
        * (144115188092633088 * 144115188092633088) = mul-le-mul (mul-le-mul_right (B * B) y) (mul-le-mul t1 t1) in
        finish (A * A) (B * B) (le_trans h m)
      where
        finish : (x y : ℕ) → x * 2 ^ 60 * (2 ^ 57 * 2 ^ 57) ≤ 2 ^ 58
            * y * (144115188092633088 * 144115188092633088) → x * 2 ^ 32 ≤ y * 1073741825
        finish x y h =
            le_of_mul-le-mul_right {k = 2 ^ 142}
            (le_trans (le_of_eq (mul_assoc x (2 ^ 32) (2 ^ 142)))
            (le_trans (le_of_eq (sym (mul_assoc x (2 ^ 60) (2 ^ 57 * 2 ^ 57))))
            (le_trans h
            (le_trans (le_of_eq (ap (λ (z : ℕ). z * (144115188092633088 * 144115188092633088))
            (mul_comm (2 ^ 58) y) ∙ mul_assoc y (2 ^ 58)
            (144115188092633088 * 144115188092633088)))
            (le_trans (mul-le-mul_left y (lit≤ tt)) (le_of_eq (sym (mul_assoc y 1073741825 (2 ^ 142)))))))))
            (pow_pos 142)

-- ---- k more squares
pub data Result (a b n X : ℕ) : Type 0 where
  kept : 2 ^ 58 ≤ X → X < 2 ^ 62 → State a b n X → Result a b n X
  above : 2 ^ 62 ≤ X → (j : ℕ) → j ≤ n → 4 * b ^ (2 ^ j) ≤ a ^ (2 ^ j) → Result a b n X
  below : X < 2 ^ 58 → (j : ℕ) → j ≤ n → a ^ (2 ^ j) * 2 ^ 32 ≤ b ^ (2 ^ j) * 1073741825
      → Result a b n X

pub squares_zero : (X : ℕ) → squares 0 X ≡ X
unfolding squares
squares_zero X = refl

pub squares-low : (k X : ℕ) → X < 2 ^ 58 → squares (suc k) X ≡ X
unfolding squares
squares-low k X h = simp (lt-ltb X (2 ^ 58) h)

pub squares-high : (k X : ℕ) → 2 ^ 62 ≤ X → squares (suc k) X ≡ X
unfolding squares
squares-high k X h = simp (le-ltb X (2 ^ 58) (le_trans (lit≤ tt) h), le-ltb X (2 ^ 62) h)

pub squares-mid : (k X : ℕ) → 2 ^ 58 ≤ X → X < 2 ^ 62
    → squares (suc k) X ≡ squares k (X * X / 2 ^ 60)
unfolding squares
squares-mid k X h l = simp (le-ltb X (2 ^ 58) h, lt-ltb X (2 ^ 62) l)

four : (a b i X : ℕ) → State a b i X → 2 ^ 62 ≤ X → 4 * b ^ (2 ^ i) ≤ a ^ (2 ^ i)
four a b i X s h = last (a ^ (2 ^ i)) (b ^ (2 ^ i)) (le_trans (mul-le-mul_right (b ^ (2 ^ i)) h) s.low)
  where
    last : (A B : ℕ) → 2 ^ 62 * B ≤ A * 2 ^ 60 → 4 * B ≤ A
    last A B h = omega arith

pub run : (a b k i X : ℕ) → i + k ≤ 25 → State a b i X → Result a b (i + k) (squares k X)
run a b zero i X I s = go (lt_or_ge X (2 ^ 58)) (lt_or_ge X (2 ^ 62))
  where
    go : (X < 2 ^ 58) ⊎ (2 ^ 58 ≤ X) → (X < 2 ^ 62) ⊎ (2 ^ 62 ≤ X)
        → Result a b (i + 0) (squares 0 X)
    go (inl l) _ = rw (squares_zero X) (below l i (omega arith) (s.small l))
    go (inr l) (inr h) = rw (squares_zero X) (above h i (omega arith) (four a b i X s h))
    go (inr l) (inl h) = rw (squares_zero X, add-zero i) (kept l h s)
run a b (suc k) i X I s =
    go (lt_or_ge X (2 ^ 58)) (lt_or_ge X (2 ^ 62))
    (λ st. run a b k (suc i) (X * X / 2 ^ 60) (omega arith) st)
  where
    turn : (i k : ℕ) → suc i + k ≡ i + suc k
    turn i k = omega arith

    go : (X < 2 ^ 58) ⊎ (2 ^ 58 ≤ X) → (X < 2 ^ 62) ⊎ (2 ^ 62 ≤ X)
        → (State a b (suc i) (X * X / 2 ^ 60)
        → Result a b (suc i + k) (squares k (X * X / 2 ^ 60)))
        → Result a b (i + suc k) (squares (suc k) X)
    go (inl l) _ more = rw (squares-low k X l) (below l i (omega arith) (s.small l))
    go (inr l) (inr h) more = rw (squares-high k X h) (above h i (omega arith) (four a b i X s h))
    go (inr l) (inl h) more =
        rw (squares-mid k X l h) (subst (λ (n : ℕ). Result a b n (squares k (X * X / 2 ^ 60))) (turn i k)
        (more (step a b i X (omega arith) l s)))

-- ---- for the code: the square in 64 bits, and one square at a time
pub record SquareFits (h l x : ℕ) : Type 0 where
  pub first : h * h ≤ 4611686014132420609
  pub middle : h * l ≤ 4611686014132420609
  pub last : l * l ≤ 4611686014132420609
  pub is : h * h * 4 + (h * l + l * l / 2 ^ 32) / 2 ^ 28 ≡ x * x / 2 ^ 60

pub square_is : (x : ℕ) → x < 2 ^ 62 → SquareFits (x / 2 ^ 31) (x % 2 ^ 31) x
square_is x X = go (x / 2 ^ 31) (x % 2 ^ 31) (omega arith) (omega arith) (omega arith)
  where
    go : (h l : ℕ) → h ≤ 2147483647 → l ≤ 2147483647 → x ≡ h * 2 ^ 31 + l → SquareFits h l x
    go h l a b e =
        record {
          first = mul-le-mul a a;
          middle = mul-le-mul a b;
          last = mul-le-mul b b;
          is = rw e
              (parts (h * h) (h * l) (l * l) ((h * 2 ^ 31 + l) * (h * 2 ^ 31 + l)) (omega arith));
        }
      where
        parts : (p q r s : ℕ) → s ≡ p * 2 ^ 62 + q * 2 ^ 32 + r
            → p * 4 + (q + r / 2 ^ 32) / 2 ^ 28 ≡ s / 2 ^ 60
        parts p q r s e = omega arith

stay_low : (k X : ℕ) → X < 2 ^ 58 → squares k X ≡ X
stay_low zero X h = squares_zero X
stay_low (suc k) X h = squares-low k X h

stay_high : (k X : ℕ) → 2 ^ 62 ≤ X → squares k X ≡ X
stay_high zero X h = squares_zero X
stay_high (suc k) X h = squares-high k X h

pub one_more : (k X : ℕ) → squares (suc k) X ≡ squares k (squares 1 X)
one_more k X = go (lt_or_ge X (2 ^ 58)) (lt_or_ge X (2 ^ 62))
  where
    go : (X < 2 ^ 58) ⊎ (2 ^ 58 ≤ X) → (X < 2 ^ 62) ⊎ (2 ^ 62 ≤ X)
        → squares (suc k) X ≡ squares k (squares 1 X)
    go (inl l) _ = squares-low k X l ∙ sym (ap (squares k) (squares-low 0 X l) ∙ stay_low k X l)
    go (inr l) (inr h) = squares-high k X h ∙ sym (ap (squares k) (squares-high 0 X h) ∙ stay_high k X h)
    go (inr l) (inl h) =
        squares-mid k X l h ∙ sym (ap (squares k) (squares-mid 0 X l h ∙ squares_zero (X * X / 2 ^ 60)))

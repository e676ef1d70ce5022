-- Sums, differences and products of floats whose values are known, and a step from a multiple of 2^-24.
--   add_at, sub_at, mul_add-at, mul_at   sums and products of known values
--   minus_over, minus_under             the difference of two multiples, by its sign
--   step_up                             a step up from a multiple, by b to c of them
--   minus_is, step_down                 a sum of two signs, and such a step down
use mathlib.Core.Path.{◌≡◌, refl, sym, ap, ◌∙◌, subst}
use mathlib.Core.Bool.{Bool, true, false, not}
use Prim.Native.Nat.{ℕ, ◌+◌, ◌-◌, ◌*◌, ◌^◌, ◌≤◌, ◌<◌}
use native.Mathlib.Nat.{le_trans, mul_comm, mul_assoc, mul_left_comm, mul_right_comm, mul-pos, add-mul}
use native.Mathlib.Nat.{mul-le-mul_right, mul-mul-mul_comm, eq_of_mul-eq-mul_right}
use native.Mathlib.Omega.{arith}
use lib.Ieee.{Float, nan, inf, fin, binary32, up, down, round, sum, add, sub, mul, neg, unlike}
use lib.Ieee.Fits.{down_pos}
use lib.Ieee.Exact.{HasValue}
use lib.Ieee.Scale.{round_same}
use Rattle.float32.specs.Float32 as Float32
use Rattle.float32.proofs.Sums.{sum_same, sum_like, sum_over, sum_under, sum_level, Order, less, same, more, order}
use Rattle.brent.proofs.Values.{round_flip, neg_value, scaled}
use Rattle.brent.proofs.Multiples.{N, At, In, multiple, rounded_in}

-- ---- operations on known values, of one denominator
cross : (m u k w a b c g d e : ℕ) → 0 < c → m * c ≡ a * d → u ≡ m * e → u * c ≡ a * (d * e)
cross m u k w a b c g d e C h q =
    ap (λ (z : ℕ). z * c) q ∙ mul_right_comm m e c ∙ ap (λ (z : ℕ). z * e) h ∙ mul_assoc a d e

pub add_at : (x y : Float) (s t : Bool) (a b c : ℕ) → 0 < c → HasValue x s a c → HasValue y t b c
    → add binary32 x y ≡ sum binary32 s a t b c
unfolding add
add_at nan y s t a b c C p q = absurd p
add_at (inf r) y s t a b c C p q = absurd p
add_at (fin s' m e) nan s t a b c C p q = absurd q
add_at (fin s' m e) (inf r) s t a b c C p q = absurd q
add_at (fin s' m e) (fin t' n g) s t a b c C p q =
    sum_same binary32 s' (m * up e * down g) t' (n * up g * down e) (down e * down g) a b c
    (mul-pos (down_pos e) (down_pos g)) C
    (cross (m * up e) (m * up e * down g) 0 0 a b c 0 (down e) (down g) C p.1 refl)
    (cross (n * up g) (n * up g * down e) 0 0 b a c 0 (down g) (down e) C q.1 refl ∙ ap (λ (z : ℕ). b * z)
    (mul_comm (down g) (down e)))
    ∙ ap (λ (z : Bool). sum binary32 z a t' b c) p.0
    ∙ ap (λ (z : Bool). sum binary32 s a z b c) q.0

pub sub_at : (x y : Float) (s t : Bool) (a b c : ℕ) → 0 < c → HasValue x s a c → HasValue y t b c
    → sub binary32 x y ≡ sum binary32 s a (not t) b c
unfolding sub
sub_at x y s t a b c C p q = add_at x (neg y) s (not t) a b c C p (neg_value y t b c q)

product : (x c a d y e b g : ℕ) → x * c ≡ a * d → y * e ≡ b * g → x * y * (c * e) ≡ a * b * (d * g)
product x c a d y e b g p q =
    mul-mul-mul_comm x y c e ∙ ap (λ (z : ℕ). z * (y * e)) p ∙ ap (λ (z : ℕ). a * d * z) q ∙ mul-mul-mul_comm a d b g

regroup : (x w h cd ab de p : ℕ) → x * cd ≡ ab * de → ab * h ≡ p * cd → x * w * h * cd ≡ p * (de * w) * cd
regroup x w h cd ab de p f q =
    let l : x * w * h * cd ≡ x * cd * (w * h) = simp (mul_assoc, mul_comm, mul_left_comm) in
    let m : ab * de * (w * h) ≡ ab * h * (de * w) = simp (mul_assoc, mul_comm, mul_left_comm) in
    let r : p * cd * (de * w) ≡ p * (de * w) * cd = simp (mul_assoc, mul_comm, mul_left_comm) in
    l ∙ ap (λ (z : ℕ). z * (w * h)) f ∙ m ∙ ap (λ (z : ℕ). z * (de * w)) q ∙ r

-- a / c * (b / d) + g / h, where a / c * (b / d) is p / h
pub mul_add-at : (x y z : Float) (s t v : Bool) (a c b d g h p : ℕ) → 0 < c → 0 < d → 0 < h → HasValue x s a c
    → HasValue y t b d → HasValue z v g h → a * b * h ≡ p * (c * d)
    → Float32.mul_add x y z ≡ sum binary32 (unlike s t) p v g h
unfolding Float32.mul_add
mul_add-at nan y z s t v a c b d g h p C D H i j k q = absurd i
mul_add-at (inf r) y z s t v a c b d g h p C D H i j k q = absurd i
mul_add-at (fin s' m e) nan z s t v a c b d g h p C D H i j k q = absurd j
mul_add-at (fin s' m e) (inf r) z s t v a c b d g h p C D H i j k q = absurd j
mul_add-at (fin s' m e) (fin t' n o) nan s t v a c b d g h p C D H i j k q = absurd k
mul_add-at (fin s' m e) (fin t' n o) (inf r) s t v a c b d g h p C D H i j k q = absurd k
mul_add-at (fin s' m e) (fin t' n o) (fin v' l w) s t v a c b d g h p C D H i j k q =
    sum_same binary32 (unlike s' t') (m * up e * (n * up o) * down w) v' (l * up w * (down e * down o))
    (down e * down o * down w) p g h
    (mul-pos (mul-pos (down_pos e) (down_pos o)) (down_pos w)) H
    (first (m * up e * (n * up o)) (down w) (down e * down o)
    (product (m * up e) c a (down e) (n * up o) d b (down o) i.1 j.1))
    (cross (l * up w) (l * up w * (down e * down o)) 0 0 g 0 h 0 (down w) (down e * down o) H k.1 refl ∙ ap
    (λ (z : ℕ). g * z) (mul_comm (down w) (down e * down o)))
    ∙ ap (λ (z : Bool). sum binary32 (unlike z t') p v' g h) i.0
    ∙ ap (λ (z : Bool). sum binary32 (unlike s z) p v' g h) j.0
    ∙ ap (λ (z : Bool). sum binary32 (unlike s t) p z g h) k.0
  where
    -- x / de is a * b / (c * d) is p / h
    first : (x dw de : ℕ) → x * (c * d) ≡ a * b * de → x * dw * h ≡ p * (de * dw)
    first x dw de f =
        eq_of_mul-eq-mul_right (c * d) (mul-pos C D) (x * dw * h) (p * (de * dw))
        (regroup x dw h (c * d) (a * b) de p f q)

pub mul_at : (x y : Float) (s t : Bool) (a c b d : ℕ) → 0 < c → 0 < d → HasValue x s a c → HasValue y t b d
    → mul binary32 x y ≡ round binary32 (unlike s t) (a * b) (c * d)
unfolding mul
mul_at nan y s t a c b d C D p q = absurd p
mul_at (inf r) y s t a c b d C D p q = absurd p
mul_at (fin s' m e) nan s t a c b d C D p q = absurd q
mul_at (fin s' m e) (inf r) s t a c b d C D p q = absurd q
mul_at (fin s' m e) (fin t' n g) s t a c b d C D p q =
    round_same binary32 (unlike s' t') (m * up e * (n * up g)) (down e * down g) (a * b) (c * d)
    (mul-pos (down_pos e) (down_pos g)) (mul-pos C D)
    (product (m * up e) c a (down e) (n * up g) d b (down g) p.1 q.1)
    ∙ ap (λ (z : Bool). round binary32 (unlike z t') (a * b) (c * d)) p.0
    ∙ ap (λ (z : Bool). round binary32 (unlike s z) (a * b) (c * d)) q.0

-- ---- differences of multiples
pub minus_over : (x y : Float) (k l : ℕ) → At x k → At y l → l ≤ k → k < 2 ^ 24 → At (sub binary32 x y) (k - l)
minus_over x y k l p q h H =
    subst (λ (z : Float). At z (k - l)) (sym (sub_at x y false false k l N (omega arith) p q ∙ go (order k l)))
    (multiple (k - l) (omega arith))
  where
    go : Order k l → sum binary32 false k true l N ≡ round binary32 false (k - l) N
    go (less u) = absurd (omega arith)
    go (same u) = sum_level binary32 k l N false true refl u ∙ ap (λ (z : ℕ). round binary32 false z N) (omega arith)
    go (more u) = sum_over binary32 k l N false true refl u

pub minus_under : (x y : Float) (k l : ℕ) → At x k → At y l → k < l → l < 2 ^ 24
    → HasValue (sub binary32 x y) true (l - k) N
minus_under x y k l p q h H =
    subst (λ (z : Float). HasValue z true (l - k) N)
    (sym (sub_at x y false false k l N (omega arith) p q ∙ sum_under binary32 k l N false true refl h
    ∙ round_flip binary32 false (l - k) N))
    (neg_value (round binary32 false (l - k) N) false (l - k) N (multiple (l - k) (omega arith)))

-- ---- a step from a multiple, up or down by at most c of them
up_low : (k d n c : ℕ) → c * d ≤ n * N → (k + c) * (d * N) ≤ (k * d + n * N) * N
up_low k d n c h =
    go (k * d) (c * d) (n * N) ((k + c) * (d * N)) h
    (sym (mul_assoc (k + c) d N) ∙ ap (λ (z : ℕ). z * N) (add-mul k c d))
  where
    go : (x y w z : ℕ) → y ≤ w → z ≡ (x + y) * N → z ≤ (x + w) * N
    go x y w z l e = omega arith

up_high : (k d n c : ℕ) → n * N ≤ c * d → (k * d + n * N) * N ≤ (k + c) * (d * N)
up_high k d n c h =
    go (k * d) (c * d) (n * N) ((k + c) * (d * N)) h
    (sym (mul_assoc (k + c) d N) ∙ ap (λ (z : ℕ). z * N) (add-mul k c d))
  where
    go : (x y w z : ℕ) → w ≤ y → z ≡ (x + y) * N → (x + w) * N ≤ z
    go x y w z l e = omega arith

pub step_up : (x y : Float) (k n d b c : ℕ) → 0 < d → At x k → HasValue y false n d → b * d ≤ n * N → n * N ≤ c * d
    → k + c < 2 ^ 24 → In (k + b) (k + c) (add binary32 x y)
step_up x y k n d b c D p q l h H =
    subst (λ (z : Float). In (k + b) (k + c) z)
    (sym (add_at x y false false (k * d) (n * N) (d * N) (mul-pos D (omega arith))
    (subst (λ (z : ℕ). HasValue x false (k * d) z) (mul_comm N d) (scaled x false k N d p)) (scaled y false n d N q)
    ∙ sum_like binary32 (k * d) (n * N) (d * N) false false refl))
    (rounded_in (k + b) (k + c) (k * d + n * N) (d * N) (mul-pos D (omega arith)) H (up_low k d n b l)
    (up_high k d n c h))

down_low : (k d n c : ℕ) → n * N ≤ c * d → c ≤ k → (k - c) * (d * N) ≤ (k * d - n * N) * N
down_low k d n c h C =
    let back : k - c + c ≡ k = omega arith in
    go ((k - c) * d) (c * d) (k * d) (n * N) ((k - c) * (d * N)) h (sym (mul_assoc (k - c) d N))
    (sym (add-mul (k - c) c d) ∙ ap (λ (z : ℕ). z * d) back)
  where
    go : (x y w v z : ℕ) → v ≤ y → z ≡ x * N → x + y ≡ w → z ≤ (w - v) * N
    go x y w v z l e f = omega arith

down_high : (k d n b : ℕ) → b * d ≤ n * N → b ≤ k → (k * d - n * N) * N ≤ (k - b) * (d * N)
down_high k d n b h B =
    let back : k - b + b ≡ k = omega arith in
    go ((k - b) * d) (b * d) (k * d) (n * N) ((k - b) * (d * N)) h (sym (mul_assoc (k - b) d N))
    (sym (add-mul (k - b) b d) ∙ ap (λ (z : ℕ). z * d) back)
  where
    go : (x y w v z : ℕ) → y ≤ v → z ≡ x * N → x + y ≡ w → (w - v) * N ≤ z
    go x y w v z l e f = omega arith

pub minus_is : (a b c : ℕ) → b ≤ a → sum binary32 false a true b c ≡ round binary32 false (a - b) c
minus_is a b c h = go (order a b)
  where
    clash : a < b → ⊥
    clash u = omega arith

    nothing : a ≡ b → 0 ≡ a - b
    nothing u = omega arith

    go : Order a b → sum binary32 false a true b c ≡ round binary32 false (a - b) c
    go (less u) = absurd (clash u)
    go (same u) = sum_level binary32 a b c false true refl u ∙ ap (λ (z : ℕ). round binary32 false z c) (nothing u)
    go (more u) = sum_over binary32 a b c false true refl u

pub step_down : (x y : Float) (k n d b c : ℕ) → 0 < d → At x k → HasValue y true n d → b * d ≤ n * N → n * N ≤ c * d
    → b ≤ c → c ≤ k → k < 2 ^ 24 → In (k - c) (k - b) (add binary32 x y)
step_down x y k n d b c D p q l h B C H =
    subst (λ (z : Float). In (k - c) (k - b) z)
    (sym (add_at x y false true (k * d) (n * N) (d * N) (mul-pos D (omega arith))
    (subst (λ (z : ℕ). HasValue x false (k * d) z) (mul_comm N d) (scaled x false k N d p)) (scaled y true n d N q)
    ∙ minus_is (k * d) (n * N) (d * N) (le_trans h (mul-le-mul_right d C))))
    (rounded_in (k - c) (k - b) (k * d - n * N) (d * N) (mul-pos D (omega arith)) (omega arith) (down_low k d n c h C)
    (down_high k d n b l (le_trans B C)))

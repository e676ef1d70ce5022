-- Where a fraction lies between two neighbours of a grid, and how it is rounded to them.
--   Cmp, cmp                             what the outcome of `compare` says
--   compare-lt, compare-gt, compare-eq   its outcome, from the order
--   closest_of                           `closest` from a quotient and a remainder
--   closest_odd                          a number between two neighbours goes where the odd one goes
--   size-gt, drop_is                     how many digits are dropped, from where the fraction lies
--   drop_under, drop-over                where the fraction lies, from how many digits are dropped
--   round-at                             `round` by `closest`, with k digits dropped
use Rattle.std.proofs.Common.{◌≡◌, ℕ, ◌+◌, ◌-◌, ◌*◌, ◌/◌, ◌%◌, ◌^◌, ◌<◌, ◌≤◌, Bool, true, false, not, T, eqb, ltb, ◌⊎◌, sym, refl, ap, ◌∙◌, subst, inl, inr, le_trans, le_of_eq, lt_of_lt_of_le, lt_of_le_of_lt, lt_irrefl, mul-le-mul_right, mod-lt, mul_assoc, mul_comm, div-lt_iff_lt-mul, add-mul, eq-zero-or-pos, mul-lt-mul_of_pos_right, mul-pos, lt_of_not-le, div-add-mod', le-div_iff_mul-le, mul_right_comm, not-le_of_lt, mul_left_comm, arith, eqb→eq, ltb→lt, leb→le, nltb→le, pow_pos, pow_mono, pow-add}
use Prim.Native.Nat.{compare, Ordering}
use lib.Dec.{is_le, compare_is_eq, nleb→lt, eqb_refl}
use lib.Arith.{lt_of_le-ne, digits_div, digits_mod}
use lib.Ieee.{Format, prec, low, size, nearest, units, round}
use lib.Ieee.Digits.{size-lt, size-le, size_reaches}
use lib.Ieee.Fits.{round_is, two, two-le_pos}
use lib.Ieee.Nearest.{closest, closest_same}

-- ---- what `compare` says, both ways
abbrev pub Cmp : Ordering → ℕ → ℕ → Type 0
Cmp Ordering.lt a b = a < b
Cmp Ordering.eq a b = a ≡ b
Cmp Ordering.gt a b = b < a

pub cmp : (a b : ℕ) → Cmp (compare a b) a b
cmp a b = go (compare a b) (leb→le a b) (nleb→lt a b) (eqb→eq a b) (λ (e : a ≡ b). subst (λ (x : ℕ). T (eqb a x)) e
    (eqb_refl a))
  where
    go : (o : Ordering) → (T (is_le o) → a ≤ b) → (T (not (is_le o)) → b < a) → (T (compare_is_eq o) → a ≡ b)
        → (a ≡ b → T (compare_is_eq o)) → Cmp o a b
    go Ordering.lt h k e n = lt_of_le-ne (h tt) n
    go Ordering.eq h k e n = e tt
    go Ordering.gt h k e n = k tt

pub compare-lt : (a b : ℕ) → a < b → compare a b ≡ Ordering.lt
compare-lt a b h = go (compare a b) (cmp a b)
  where
    go : (o : Ordering) → Cmp o a b → o ≡ Ordering.lt
    go Ordering.lt k = refl
    go Ordering.eq k = absurd (omega arith)
    go Ordering.gt k = absurd (omega arith)

pub compare-gt : (a b : ℕ) → b < a → compare a b ≡ Ordering.gt
compare-gt a b h = go (compare a b) (cmp a b)
  where
    go : (o : Ordering) → Cmp o a b → o ≡ Ordering.gt
    go Ordering.lt k = absurd (omega arith)
    go Ordering.eq k = absurd (omega arith)
    go Ordering.gt k = refl

pub compare-eq : (a b : ℕ) → a ≡ b → compare a b ≡ Ordering.eq
compare-eq a b h = go (compare a b) (cmp a b)
  where
    go : (o : Ordering) → Cmp o a b → o ≡ Ordering.eq
    go Ordering.lt k = absurd (omega arith)
    go Ordering.eq k = refl
    go Ordering.gt k = absurd (omega arith)

-- ---- `closest` from a quotient and a remainder
pub closest_of : (n u q r : ℕ) → n ≡ q * u + r → r < u → closest n u ≡ nearest q (compare (r * 2) u)
closest_of n u q r e h =
    ap (λ (z : ℕ). closest z u) e
    ∙ ap (λ (z : ℕ). nearest z (compare ((q * u + r) % u * 2) u)) (digits_div q h)
    ∙ ap (λ (z : ℕ). nearest q (compare (z * 2) u)) (digits_mod q h)

-- ---- between two neighbours
module _ (n v O p : ℕ) (P : 0 < p) (o : O % 2 ≡ 1) (lo : (O - 1) * v < n) (hi : n < (O + 1) * v) where
  abbrev U : ℕ
  U = 4 * p

  abbrev q : ℕ
  q = O / U

  abbrev r : ℕ
  r = O % U

  U_pos : 0 < U
  U_pos = omega arith

  r-lt : r < U
  r-lt = mod-lt O U_pos

  split : q * U + r ≡ O
  split = div-add-mod' O U

  r_odd : r % 2 ≡ 1
  r_odd = go (q * p) r (ap (λ (z : ℕ). z + r) (sym (mul_left_comm q 4 p)) ∙ split)
    where
      go : (x y : ℕ) → 4 * x + y ≡ O → y % 2 ≡ 1
      go x y e = omega arith

  regroup : (x : ℕ) → (q * U + x) * v ≡ q * (v * U) + x * v
  regroup x = add-mul (q * U) x v ∙ ap (λ (z : ℕ). z + x * v) (mul_assoc q U v ∙ ap (λ (z : ℕ). q * z) (mul_comm U v))

  low-is : (O - 1) * v ≡ q * (v * U) + (r - 1) * v
  low-is = ap (λ (z : ℕ). z * v) (go (q * U) r split r_odd) ∙ regroup (r - 1)
    where
      go : (x y : ℕ) → x + y ≡ O → y % 2 ≡ 1 → O - 1 ≡ x + (y - 1)
      go x y e f = omega arith

  high_is : (O + 1) * v ≡ q * (v * U) + (r + 1) * v
  high_is = ap (λ (z : ℕ). z * v) (go (q * U) r split) ∙ regroup (r + 1)
    where
      go : (x y : ℕ) → x + y ≡ O → O + 1 ≡ x + (y + 1)
      go x y e = omega arith

  over : (r - 1) * v < n - q * (v * U)
  over = go (q * (v * U)) ((r - 1) * v) ((O - 1) * v) low-is lo
    where
      go : (b x y : ℕ) → y ≡ b + x → y < n → x < n - b
      go b x y e h = omega arith

  under : n - q * (v * U) < (r + 1) * v
  under = go (q * (v * U)) ((r + 1) * v) ((O + 1) * v) ((r - 1) * v) high_is hi over
    where
      go : (b x y z : ℕ) → y ≡ b + x → n < y → z < n - b → n - b < x
      go b x y z e h k = omega arith

  is_rest : n ≡ q * (v * U) + (n - q * (v * U))
  is_rest = go (q * (v * U)) ((r - 1) * v) over
    where
      go : (b x : ℕ) → x < n - b → n ≡ b + (n - b)
      go b x h = omega arith

  rest_lt : n - q * (v * U) < v * U
  rest_lt = lt_of_lt_of_le under (le_trans (mul-le-mul_right v (go r r-lt)) (le_of_eq (mul_comm U v)))
    where
      go : (y : ℕ) → y < U → y + 1 ≤ U
      go y h = omega arith

  first : closest n (v * U) ≡ nearest q (compare ((n - q * (v * U)) * 2) (v * U))
  first = closest_of n (v * U) q (n - q * (v * U)) is_rest rest_lt

  second : closest O U ≡ nearest q (compare (r * 2) U)
  second = closest_of O U q r (sym split) r-lt

  -- r is below half of U, and so is the rest; or both are above
  vU : v * U ≡ 2 * p * v * 2
  vU = mul_comm v U ∙ ap (λ (z : ℕ). z * v) (go p) ∙ mul_right_comm (2 * p) 2 v
    where
      go : (x : ℕ) → 4 * x ≡ 2 * x * 2
      go x = omega arith

  below_half : r < 2 * p → (n - q * (v * U)) * 2 < v * U
  below_half h = go (n - q * (v * U)) ((r + 1) * v) (2 * p * v) (v * U) under (mul-le-mul_right v (less r h)) vU
    where
      less : (y : ℕ) → y < 2 * p → y + 1 ≤ 2 * p
      less y k = omega arith

      go : (x a b c : ℕ) → x < a → a ≤ b → c ≡ b * 2 → x * 2 < c
      go x a b c f g e = omega arith

  above_half : 2 * p ≤ r → v * U < (n - q * (v * U)) * 2
  above_half h = go (n - q * (v * U)) ((r - 1) * v) (2 * p * v) (v * U) over (mul-le-mul_right v (more r r_odd h)) vU
    where
      more : (y : ℕ) → y % 2 ≡ 1 → 2 * p ≤ y → 2 * p ≤ y - 1
      more y f k = omega arith

      go : (x a b c : ℕ) → a < x → b ≤ a → c ≡ b * 2 → c < x * 2
      go x a b c f g e = omega arith

  same : compare ((n - q * (v * U)) * 2) (v * U) ≡ compare (r * 2) U
  same = go (ltb r (2 * p)) (ltb→lt r (2 * p)) (nltb→le r (2 * p))
    where
      less : (y : ℕ) → y < 2 * p → y * 2 < U
      less y h = omega arith

      more : (y : ℕ) → y % 2 ≡ 1 → 2 * p ≤ y → U < y * 2
      more y f h = omega arith

      go : (b : Bool) → (T b → r < 2 * p) → (T (not b) → 2 * p ≤ r) → compare ((n - q * (v * U)) * 2) (v * U)
          ≡ compare (r * 2) U
      go true h k = compare-lt ((n - q * (v * U)) * 2) (v * U) (below_half (h tt))
          ∙ sym (compare-lt (r * 2) U (less r (h tt)))
      go false h k = compare-gt ((n - q * (v * U)) * 2) (v * U) (above_half (k tt))
          ∙ sym (compare-gt (r * 2) U (more r r_odd (k tt)))

  pub closest_odd : closest n (v * U) ≡ closest O U
  closest_odd = first ∙ ap (λ (z : Ordering). nearest q z) same ∙ sym second

-- ---- how many digits `round` drops, from where the fraction n / den lies among the powers of two
pub size-gt : (n j : ℕ) → 2 ^ j ≤ n → j < size n
size-gt n j h = lt_of_not-le (λ (g : size n ≤ j). not-le_of_lt (lt_of_lt_of_le (size-lt n) (pow_mono g)) h)

pub drop_is : (p n den k : ℕ) → 0 < p → 0 < den → n < 2 ^ (p + k) * den → (0 < k → 2 ^ (p + k - 1) * den ≤ n)
    → size (n / den) - p ≡ k
drop_is p n den k P D h g = go (eq-zero-or-pos k) (size-le (n / den) (p + k) ((div-lt_iff_lt-mul D).1 h))
  where
    none : (z : ℕ) → k ≡ 0 → z ≤ p + k → z - p ≡ k
    none z e a = omega arith

    some : (z : ℕ) → 0 < k → z ≤ p + k → p + k - 1 < z → z - p ≡ k
    some z e a b = omega arith

    go : (k ≡ 0) ⊎ (0 < k) → size (n / den) ≤ p + k → size (n / den) - p ≡ k
    go (inl e) a = none (size (n / den)) e a
    go (inr e) a = some (size (n / den)) e a (size-gt (n / den) (p + k - 1) ((le-div_iff_mul-le D).1 (g e)))

module _ (p n den : ℕ) (P : 0 < p) (D : 0 < den) where
  abbrev k : ℕ
  k = size (n / den) - p

  pub drop_under : n < 2 ^ (p + k) * den
  drop_under = (div-lt_iff_lt-mul D).0 (lt_of_lt_of_le (size-lt (n / den)) (pow_mono (go (size (n / den)))))
    where
      go : (z : ℕ) → z ≤ p + (z - p)
      go z = omega arith

  pub drop-over : 0 < k → 2 ^ (p + k - 1) * den ≤ n
  drop-over h = (le-div_iff_mul-le D).0 (size_reaches (n / den) (p + k - 1) (go (size (n / den)) h))
    where
      go : (z : ℕ) → 0 < z - p → p + (z - p) - 1 < z
      go z e = omega arith

pub round-at : (f : Format) (s : Bool) (num den k : ℕ) → 0 < den → num * 2 ^ low f < 2 ^ (prec f + k) * den
    → (0 < k → 2 ^ (prec f + k - 1) * den ≤ num * 2 ^ low f)
    → round f s num den ≡ units f s (closest (num * 2 ^ low f) (den * 2 ^ k)) k
round-at f s num den k D h g =
    round_is f s num den
    ∙ ap (λ (z : ℕ). units f s (closest (num * 2 ^ low f) (den * 2 ^ z)) z) (drop_is (prec f) (num * 2 ^ low f) den k
    (two-le_pos (prec f) (two f)) D h g)

pow_lt_back : (i j : ℕ) → 2 ^ i < 2 ^ j → i < j
pow_lt_back i j h = lt_of_not-le (λ (g : j ≤ i). lt_irrefl (2 ^ i) (lt_of_lt_of_le h (pow_mono g)))

-- ---- The sticky rule. num / den lies strictly between (O - 1) * 2 ^ a / 2 ^ b and (O + 1) * 2 ^ a / 2 ^ b, for an odd
-- O that has two digits more than the format keeps. Then it rounds as O * 2 ^ a / 2 ^ b does.
module _ (f : Format) (s : Bool) (num den O a b : ℕ) (D : 0 < den) (o : O % 2 ≡ 1) (big : 2 ^ (prec f + 1) ≤ O)
    (lo : (O - 1) * 2 ^ a * den < num * 2 ^ b) (hi : num * 2 ^ b < (O + 1) * 2 ^ a * den) where
  abbrev p : ℕ
  p = prec f

  abbrev l : ℕ
  l = low f

  p_pos : 0 < p
  p_pos = two-le_pos (prec f) (two f)

  abbrev n₁ : ℕ
  n₁ = num * 2 ^ l

  abbrev n₂ : ℕ
  n₂ = O * 2 ^ a * 2 ^ l

  abbrev B : ℕ
  B = 2 ^ b

  abbrev W : ℕ
  W = 2 ^ (a + l)

  abbrev j : ℕ
  j = size (n₂ / B) - p

  n₂_is : n₂ ≡ O * W
  n₂_is = mul_assoc O (2 ^ a) (2 ^ l) ∙ ap (λ (z : ℕ). O * z) (sym (pow-add 2 a l))

  n₂_under : O * W < 2 ^ (p + j) * B
  n₂_under = lt_of_le_of_lt (le_of_eq (sym n₂_is)) (drop_under p n₂ B p_pos (pow_pos b))

  reach : a + l + 2 ≤ j + b
  reach =
      go (pow_lt_back (p + 1 + (a + l)) (p + j + b)
      (lt_of_le_of_lt (le_of_eq (pow-add 2 (p + 1) (a + l)))
      (lt_of_le_of_lt (mul-le-mul_right W big) (lt_of_lt_of_le n₂_under (le_of_eq (sym (pow-add 2 (p + j) b)))))))
    where
      go : p + 1 + (a + l) < p + j + b → a + l + 2 ≤ j + b
      go h = omega arith

  abbrev i : ℕ
  i = j + b - (a + l + 2)

  abbrev u : ℕ
  u = 4 * 2 ^ i

  Wu : W * u ≡ B * 2 ^ j
  Wu = ap (λ (z : ℕ). W * z) (sym (pow-add 2 2 i)) ∙ sym (pow-add 2 (a + l) (2 + i)) ∙ ap (λ (z : ℕ). 2 ^ z) go
      ∙ pow-add 2 b j
    where
      go : a + l + (2 + i) ≡ b + j
      go = omega (arith, reach)

  abbrev v : ℕ
  v = W * den

  u_pos : 0 < u
  u_pos = go (2 ^ i) (pow_pos i)
    where
      go : (x : ℕ) → 0 < x → 0 < 4 * x
      go x h = omega arith

  of_O : closest n₂ (B * 2 ^ j) ≡ closest O u
  of_O =
      closest_same n₂ (B * 2 ^ j) O u (mul-pos (pow_pos b) (pow_pos j)) u_pos
      (ap (λ (z : ℕ). z * u) n₂_is ∙ mul_assoc O W u ∙ ap (λ (z : ℕ). O * z) Wu)

  vu : v * u ≡ B * 2 ^ j * den
  vu = mul_right_comm W den u ∙ ap (λ (z : ℕ). z * den) Wu

  scaled : closest n₁ (den * 2 ^ j) ≡ closest (n₁ * B) (v * u)
  scaled =
      closest_same n₁ (den * 2 ^ j) (n₁ * B) (v * u) (mul-pos D (pow_pos j))
      (mul-pos (mul-pos (pow_pos (a + l)) D) u_pos)
      (ap (λ (z : ℕ). n₁ * z) vu ∙ simp (mul_assoc, mul_comm, mul_left_comm))

  scale : (x : ℕ) → x * 2 ^ a * den * 2 ^ l ≡ x * v
  scale x =
      mul_right_comm (x * 2 ^ a) den (2 ^ l) ∙ ap (λ (z : ℕ). z * den) (mul_assoc x (2 ^ a) (2 ^ l)
      ∙ ap (λ (z : ℕ). x * z) (sym (pow-add 2 a l))) ∙ mul_assoc x W den

  lo' : (O - 1) * v < n₁ * B
  lo' = lt_of_le_of_lt (le_of_eq (sym (scale (O - 1)))) (lt_of_lt_of_le (mul-lt-mul_of_pos_right lo (pow_pos l))
      (le_of_eq (mul_right_comm num B (2 ^ l))))

  hi' : n₁ * B < (O + 1) * v
  hi' = lt_of_le_of_lt (le_of_eq (mul_right_comm num (2 ^ l) B))
      (lt_of_lt_of_le (mul-lt-mul_of_pos_right hi (pow_pos l)) (le_of_eq (scale (O + 1))))

  both : closest n₁ (den * 2 ^ j) ≡ closest n₂ (B * 2 ^ j)
  both = scaled ∙ closest_odd (n₁ * B) v O (2 ^ i) (pow_pos i) o lo' hi' ∙ sym of_O

  -- ---- the same number of digits is dropped
  top_is : 2 ^ (p + j) * B ≡ 2 ^ p * u * W
  top_is = ap (λ (z : ℕ). z * B) (pow-add 2 p j) ∙ mul_assoc (2 ^ p) (2 ^ j) B ∙ ap (λ (z : ℕ). 2 ^ p * z)
      (mul_comm (2 ^ j) B ∙ sym Wu ∙ mul_comm W u) ∙ sym (mul_assoc (2 ^ p) u W)

  abbrev E : ℕ
  E = 2 ^ p * (2 * 2 ^ i)

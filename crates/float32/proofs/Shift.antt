-- A shift that rounds: m / 2 ^ sh to the nearest, a tie to the even one, from h = m / 2 ^ (sh - 1), whose last digit is
-- the one that is rounded off.
--   two-pow                           2 ^ k is twice 2 ^ (k - 1)
--   shift-even, shift_tie, shift_up   that digit is 0; it is 1 with nothing below it; it is 1 with more below it
--   back_up                           the shift back up loses nothing
--   shift_out, shift_none             all digits go, and more; none goes
--   size-leading                      how many digits a word has, from its leading zeros
use Rattle.std.proofs.Common.{◌≡◌, ℕ, zero, suc, ◌+◌, ◌-◌, ◌*◌, ◌/◌, ◌%◌, ◌^◌, ◌<◌, ◌≤◌, sym, ap, ◌∙◌, le_trans, le_of_eq, lt_of_lt_of_le, lt_of_le_of_lt, mod-lt, mod-eq_of_lt, zero-lt-suc, mul_assoc, add-mul, lt_of_not-le, div-add-mod', not-le_of_lt, div-mul-le_self, arith, pow_mono, pow-add}
use Prim.Native.Nat.{Ordering}
use lib.Count.{count_leading_zeros, leading_length}
use lib.Ieee.{nearest, size}
use lib.Ieee.Digits.{size-lt, size-le}
use lib.Ieee.Nearest.{closest}
use Rattle.float32.proofs.Sticky.{closest_of, compare-lt, compare-gt, compare-eq}

pub two-pow : (k : ℕ) → 0 < k → 2 ^ k ≡ 2 * 2 ^ (k - 1)
two-pow k h = ap (λ (z : ℕ). 2 ^ z) go ∙ pow-add 2 1 (k - 1)
  where
    go : k ≡ 1 + (k - 1)
    go = omega arith

module _ (m p : ℕ) (P : 0 < p) where
  abbrev h : ℕ
  h = m / p

  abbrev q : ℕ
  q = m / p / 2

  rest_lt : m % p < p
  rest_lt = mod-lt m P

  -- m is q * 2 p, the last digit of h times p, and what is below
  parts : (d : ℕ) → h % 2 ≡ d → m ≡ q * (2 * p) + (d * p + m % p)
  parts d e =
      sym (div-add-mod' m p)
      ∙ ap (λ (z : ℕ). z * p + m % p) (go (m / p) e)
      ∙ ap (λ (z : ℕ). z + m % p) (add-mul (q * 2) d p ∙ ap (λ (z : ℕ). z + d * p) (mul_assoc q 2 p))
      ∙ assoc (q * (2 * p)) (d * p) (m % p)
    where
      go : (x : ℕ) → x % 2 ≡ d → x ≡ x / 2 * 2 + d
      go x f = omega arith

      assoc : (a b c : ℕ) → a + b + c ≡ a + (b + c)
      assoc a b c = omega arith

  pub shift-even : h % 2 ≡ 0 → q ≡ closest m (2 * p)
  shift-even e =
      sym (closest_of m (2 * p) q (0 * p + m % p) (parts 0 e) (omega (arith, rest_lt))
      ∙ ap (λ (z : Ordering). nearest q z) (compare-lt ((0 * p + m % p) * 2) (2 * p) (omega (arith, rest_lt))))

  pub shift_tie : h % 2 ≡ 1 → h * p ≡ m → q + q % 2 ≡ closest m (2 * p)
  shift_tie e f =
      let z : m % p ≡ 0 = go (h * p) (m % p) (div-add-mod' m p) f in
      sym (closest_of m (2 * p) q (1 * p + m % p) (parts 1 e) (omega (arith, rest_lt))
      ∙ ap (λ (z : Ordering). nearest q z) (compare-eq ((1 * p + m % p) * 2) (2 * p) (omega arith)))
    where
      go : (a b : ℕ) → a + b ≡ m → a ≡ m → b ≡ 0
      go a b x y = omega arith

  pub shift_up : h % 2 ≡ 1 → (h * p ≡ m → ⊥) → q + 1 ≡ closest m (2 * p)
  shift_up e f =
      let z : 0 < m % p = go (h * p) (m % p) (div-add-mod' m p) f in
      sym (closest_of m (2 * p) q (1 * p + m % p) (parts 1 e) (omega (arith, rest_lt))
      ∙ ap (λ (z : Ordering). nearest q z) (compare-gt ((1 * p + m % p) * 2) (2 * p) (omega arith))
      ∙ one q)
    where
      go : (a b : ℕ) → a + b ≡ m → (a ≡ m → ⊥) → 0 < b
      go a b x y = omega (arith, y)

      one : (x : ℕ) → suc x ≡ x + 1
      one x = omega arith

  -- the shift back up loses nothing
  pub back_up : (w : ℕ) → m < 2 ^ w → h * p % 2 ^ w ≡ h * p
  back_up w l = mod-eq_of_lt (lt_of_le_of_lt (div-mul-le_self m p) l)

-- below a half
pub shift_out : (m sh : ℕ) → m < 2 ^ 64 → 64 < sh → 0 ≡ closest m (2 ^ sh)
shift_out m sh l g =
    let r : m * 2 < 2 ^ sh = lt_of_lt_of_le (go m l) (pow_mono {i = 65} {j = sh} g) in
    sym (closest_of m (2 ^ sh) 0 m (zero (2 ^ sh)) (less (2 ^ sh) r) ∙ ap (λ (z : Ordering). nearest 0 z)
    (compare-lt (m * 2) (2 ^ sh) r))
  where
    go : (x : ℕ) → x < 2 ^ 64 → x * 2 < 2 ^ 65
    go x h = omega arith

    zero : (x : ℕ) → m ≡ 0 * x + m
    zero x = omega arith

    less : (x : ℕ) → m * 2 < x → m < x
    less x h = omega arith

pub shift_none : (m : ℕ) → m ≡ closest m 1
shift_none m = sym (closest_of m 1 m 0 (omega arith) (omega arith) ∙ ap (λ (z : Ordering). nearest m z)
    (compare-lt (0 * 2) 1 (omega arith)))

-- ---- how many digits a machine word has
size-gt : (n j : ℕ) → 2 ^ j ≤ n → j < size n
size-gt n j h = lt_of_not-le (λ (g : size n ≤ j). not-le_of_lt (lt_of_lt_of_le (size-lt n) (pow_mono g)) h)

pub size-leading : (w m : ℕ) → m < 2 ^ w → w - count_leading_zeros w m ≡ size m
size-leading w m h =
    let t = leading_length w m h in
    go t.0 (count_leading_zeros w m) t.1 (size-le m t.0 t.2) t.3
  where
    half : (x : ℕ) → 2 * x ≤ 2 * m + 1 → x ≤ m
    half x k = omega arith

    end : (j z l : ℕ) → l + j ≡ w → z ≤ j → (0 < j → j - 1 < z) → w - l ≡ z
    end zero z l e a f = omega arith
    end (suc j) z l e a f = omega (arith, f (zero-lt-suc j))

    go : (j l : ℕ) → l + j ≡ w → size m ≤ j → 2 ^ j ≤ 2 * m + 1 → w - l ≡ size m
    go j l e a k = end j (size m) l e a
        (λ (p : 0 < j). size-gt m (j - 1) (half (2 ^ (j - 1)) (le_trans (le_of_eq (sym (two-pow j p))) k)))

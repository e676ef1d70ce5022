-- What is written for a number reads back as the number.
use mathlib.Core.Path.{◌≡◌, refl, ◌∙◌}
use Prim.Native.Nat.{ℕ, zero, suc, ◌+◌, ◌*◌, ◌/◌, ◌%◌, ◌≤◌, ◌<◌}
use native.Mathlib.Omega.{arith}
use native.Mathlib.Nat.{div-lt_iff_lt-mul}
use mathlib.Core.Bool.{Bool, true, false, cond, ◌&&◌}
use mathlib.Core.List.{List, [], ◌∷◌, ◌++◌, append_assoc, append-nil}
use lib.ListN.{length, length-append}
use lib.Dec.{ltb, eqb}
use borrow.Author.Tests.{ltb-true, ltb-false, lt-ltb, le-leb, lt-leb, eq-eqb, ne_eqb}
use Rattle.std.specs.Prelude.{Some}
use Rattle.settings_text.specs.Numbers.{digit, digits, value, number, number32, number64, bits}
use Rattle.std.specs.Fmt.{digits as digits_text, digits_onto}
use Rattle.report.specs.Digits.{decimal_in, decimal, hex_byte, hex_in, hex}
use Rattle.settings_text.proofs.NumberLaws.{number_is}
use Rattle.report.proofs.WriteLaws.{hex-length, hex_length_in}

-- ---- one digit

digit-decimal : (d : ℕ) → d < 10 → digit (48 + d) ≡ d
unfolding digit
digit-decimal d h = rw (le-leb 48 (48 + d) (omega arith), le-leb (48 + d) 57 (omega arith)) (omega arith)

digit-letter : (d : ℕ) → 10 ≤ d → d < 16 → digit (55 + d) ≡ d
unfolding digit
digit-letter d l h = rw (
  le-leb 48 (55 + d) (omega arith),
  lt-leb (55 + d) 57 (omega arith),
  le-leb 65 (55 + d)
      (omega arith),
  le-leb (55 + d) 70 (omega arith),
) (omega arith)

digit-hex : (d : ℕ) → d < 16 → digit (hex_byte d) ≡ d
unfolding hex_byte
digit-hex d h = go (ltb d 10) refl
  where
    go : (b : Bool) → ltb d 10 ≡ b → digit (cond (ltb d 10) (48 + d) (55 + d)) ≡ d
    go true e = rw e (digit-decimal d (ltb-true d 10 e))
    go false e = rw e (digit-letter d (ltb-false d 10 e) h)

-- ---- digits one behind the other

digits_append : (base : ℕ) (a b : List ℕ) → digits base a ≡ true → digits base b ≡ true → digits base (a ++ b) ≡ true
unfolding digits
digits_append base [] b p q = q
digits_append base (x ∷ a) b p q = go (ltb (digit x) base) p (digits_append base a b)
  where
    go : (t : Bool) → (t && digits base a) ≡ true → (digits base a ≡ true → digits base b ≡ true → digits base (a ++ b)
        ≡ true) → (t && digits base (a ++ b)) ≡ true
    go true p ih = ih p q
    go false p ih = p

value-append : (base v : ℕ) (a b : List ℕ) → value base v (a ++ b) ≡ value base (value base v a) b
unfolding value
value-append base v [] b = refl
value-append base v (x ∷ a) b = value-append base (v * base + digit x) a b

one_value : (base v b d : ℕ) → digit b ≡ d → value base v (b ∷ []) ≡ v * base + d
unfolding value
one_value base v b d e = rw e

one-digits : (base b d : ℕ) → digit b ≡ d → d < base → digits base (b ∷ []) ≡ true
unfolding digits
one-digits base b d e h = rw (e, lt-ltb d base h)

-- ---- N

-- 10 to the k + 1
unfoldable tens : ℕ → ℕ
tens zero = 10
tens (suc k) = tens k * 10

last-decimal : (n : ℕ) → digit (48 + n % 10) ≡ n % 10
last-decimal n = digit-decimal (n % 10) (omega arith)

decimal-digits : (k n : ℕ) → digits 10 (decimal_in k n) ≡ true
unfolding decimal_in
decimal-digits zero n = one-digits 10 (48 + n % 10) (n % 10) (last-decimal n) (omega arith)
decimal-digits (suc k) n = go (ltb n 10) (decimal-digits k (n / 10))
  where
    last : digits 10 ((48 + n % 10) ∷ []) ≡ true
    last = one-digits 10 (48 + n % 10) (n % 10) (last-decimal n) (omega arith)

    go : (b : Bool) → digits 10 (decimal_in k (n / 10)) ≡ true
        → digits 10 (cond b ((48 + n % 10) ∷ []) (decimal_in k (n / 10) ++ ((48 + n % 10) ∷ []))) ≡ true
    go true ih = last
    go false ih = digits_append 10 (decimal_in k (n / 10)) ((48 + n % 10) ∷ []) ih last

decimal-value : (k n : ℕ) → n < tens k → value 10 0 (decimal_in k n) ≡ n
unfolding decimal_in tens
decimal-value zero n h = one_value 10 0 (48 + n % 10) (n % 10) (last-decimal n) ∙ omega arith
decimal-value (suc k) n h = go (ltb n 10) refl (decimal-value k (n / 10) ((div-lt_iff_lt-mul (omega arith)).1 h))
  where
    go : (b : Bool) → ltb n 10 ≡ b → value 10 0 (decimal_in k (n / 10)) ≡ n / 10
        → value 10 0 (cond b ((48 + n % 10) ∷ []) (decimal_in k (n / 10) ++ ((48 + n % 10) ∷ []))) ≡ n
    go true e ih =
        let as32 : n < 10 = ltb-true n 10 e in
        one_value 10 0 (48 + n % 10) (n % 10) (last-decimal n) ∙ omega arith
    go false e ih =
        value-append 10 0 (decimal_in k (n / 10)) ((48 + n % 10) ∷ [])
        ∙ (one_value 10 (value 10 0 (decimal_in k (n / 10))) (48 + n % 10) (n % 10) (last-decimal n)
        ∙ rw ih (omega arith))

pub decimal_some : (k n : ℕ) → 0 < length (decimal_in k n)
unfolding decimal_in
decimal_some zero n = omega arith
decimal_some (suc k) n = go (ltb n 10)
  where
    go : (b : Bool) → 0 < length (cond b ((48 + n % 10) ∷ []) (decimal_in k (n / 10) ++ ((48 + n % 10) ∷ [])))
    go true = omega arith
    go false = omega (arith, length-append (decimal_in k (n / 10)) ((48 + n % 10) ∷ []))

enough : (n : ℕ) → n < 18446744073709551616 → n < tens 19
unfolding tens
enough n h = omega arith

-- the decimal digits that std writes are the same
decimal_onto : (j k n : ℕ) (acc : List ℕ) → n < tens j → j ≤ k → digits_onto (suc k) 10 false n acc
    ≡ decimal_in j n ++ acc
unfolding decimal_in tens
decimal_onto zero k n acc h l =
    let z : n / 10 ≡ 0 = omega arith in
    let d : n % 10 < 10 = omega arith in
    rw (z, lt-ltb (n % 10) 10 d)
decimal_onto (suc j) zero n acc h l = absurd (omega arith)
decimal_onto (suc j) (suc k) n acc h l =
    go (ltb n 10) refl (decimal_onto j k (n / 10) ((48 + n % 10) ∷ acc) ((div-lt_iff_lt-mul (omega arith)).1 h) (omega arith))
  where
    d : ltb (n % 10) 10 ≡ true
    d = lt-ltb (n % 10) 10 (omega arith)

    go : (b : Bool) → ltb n 10 ≡ b
        → digits_onto (suc k) 10 false (n / 10) ((48 + n % 10) ∷ acc) ≡ decimal_in j (n / 10) ++ ((48 + n % 10) ∷ acc)
        → digits_onto (suc (suc k)) 10 false n acc
        ≡ cond b ((48 + n % 10) ∷ []) (decimal_in j (n / 10) ++ ((48 + n % 10) ∷ [])) ++ acc
    go true e ih =
        let z : n / 10 ≡ 0 = omega (arith, ltb-true n 10 e) in
        rw (z, d)
    go false e ih =
        let z : eqb (n / 10) 0 ≡ false = ne_eqb (n / 10) 0 (λ q. omega (arith, ltb-false n 10 e, q)) in
        rw (append_assoc (decimal_in j (n / 10)) ((48 + n % 10) ∷ []) acc, z, d) ih

pub decimal_text : (n : ℕ) → n < 4294967296 → digits_text 10 false n ≡ decimal n
unfolding decimal tens digits_text
decimal_text n h = decimal_onto 19 63 n [] (omega (arith, enough n (omega arith))) (omega arith) ∙ append-nil (decimal_in 19 n)

-- what is written for N is read as N
pub number64_back : (n : ℕ) → n < 18446744073709551616 → number64 (decimal n) ≡ Some n
unfolding number64 decimal
number64_back n h = number_is 10 18446744073709551615 (decimal_in 19 n) n (decimal_some 19 n) (decimal-digits 19 n)
    (decimal-value 19 n (enough n h)) (omega arith)

pub number32_back : (n : ℕ) → n < 4294967296 → number32 (decimal n) ≡ Some n
unfolding number32 decimal
number32_back n h = number_is 10 4294967295 (decimal_in 19 n) n (decimal_some 19 n) (decimal-digits 19 n)
    (decimal-value 19 n (enough n (omega arith))) (omega arith)

-- ---- W

unfoldable sixteens : ℕ → ℕ
sixteens zero = 1
sixteens (suc k) = sixteens k * 16

last-hex : (n : ℕ) → digit (hex_byte (n % 16)) ≡ n % 16
last-hex n = digit-hex (n % 16) (omega arith)

hex-digits : (k n : ℕ) → digits 16 (hex_in k n) ≡ true
unfolding hex_in digits
hex-digits zero n = refl
hex-digits (suc k) n = digits_append 16 (hex_in k (n / 16)) (hex_byte (n % 16) ∷ []) (hex-digits k (n / 16))
    (one-digits 16 (hex_byte (n % 16)) (n % 16) (last-hex n) (omega arith))

hex-value : (k n : ℕ) → n < sixteens k → value 16 0 (hex_in k n) ≡ n
unfolding hex_in sixteens value
hex-value zero n h = omega arith
hex-value (suc k) n h =
    value-append 16 0 (hex_in k (n / 16)) (hex_byte (n % 16) ∷ [])
    ∙ (one_value 16 (value 16 0 (hex_in k (n / 16))) (hex_byte (n % 16)) (n % 16) (last-hex n)
    ∙ rw (hex-value k (n / 16) ((div-lt_iff_lt-mul (omega arith)).1 h)) (omega arith))

fits_eight : (n : ℕ) → n < 4294967296 → n < sixteens 8
unfolding sixteens
fits_eight n h = h

hex-number : (n : ℕ) → n < 4294967296 → number 16 4294967295 (hex n) ≡ Some n
unfolding hex
hex-number n h = number_is 16 4294967295 (hex_in 8 n) n (omega (arith, hex_length_in 8 n)) (hex-digits 8 n)
    (hex-value 8 n (fits_eight n h)) (omega arith)

-- what is written for W is read as W
pub bits_back : (n : ℕ) → n < 4294967296 → bits (hex n) ≡ Some n
unfolding bits
bits_back n h = rw (eq-eqb (length (hex n)) 8 (hex-length n)) (hex-number n h)

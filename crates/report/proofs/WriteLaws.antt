-- Bytes stored one after the other, digits written from the last on, and how long lines are.
--   sets_append                      stores of two runs, one behind the other
--   hex-start, hex-on, hex-end       hex digits: the start, one more, the end
--   decimal-length, decimal-short, hex_length_in, hex-length   how long numbers are
--   day-short, forecast-short, refused-short, cheapest-short   how long each line is at most
--   written-length, written-before   the list keeps its length, and the bytes before a line stay
use mathlib.Core.Path.{◌≡◌, refl, sym, ap, ◌∙◌}
use Prim.Native.Nat.{ℕ, zero, suc, ◌+◌, ◌-◌, ◌/◌, ◌%◌, ◌≤◌, ◌<◌}
use native.Mathlib.Omega.{arith}
use native.Mathlib.Nat.{add-zero}
use mathlib.Core.Bool.{Bool, true, false, cond}
use mathlib.Core.List.{List, [], ◌∷◌, ◌++◌, append_assoc, append-nil}
use lib.ListN.{length, drop, take, set, length-append, drop_of_length-le}
use lib.Seq.{sets, sets-eq, length-sets, set_split, drop_at, take_at}
use lib.Seq.{length-take-le}
use lib.Dec.{ltb, leb}
use borrow.Author.Tests.{leb-true}
use Rattle.report.specs.Digits.{decimal_in, decimal, hex_byte, hex_in, hex}
use Rattle.report.specs.Lines.{written, day_line, forecast_line, refused_line, cheapest_line}
use lib.Ieee.{Float, binary32, to_bits}
use Rattle.report.specs.declared.Day.{Day}

-- ---- stores

pub sets_append : (l : List ℕ) (i : ℕ) (a b : List ℕ) → sets l i (a ++ b) ≡ sets (sets l i a) (i + length a) b
sets_append l i [] b = rw (add-zero i)
sets_append l i (x ∷ a) b =
    let e : i + suc (length a) ≡ suc i + length a = omega arith in
    rw e (sets_append (set l i x) (suc i) a b)

drop-set : (l : List ℕ) (i v : ℕ) → i < length l → drop i (set l i v) ≡ v ∷ drop (suc i) l
drop-set l i v h = rw (set_split l i v h) (drop_at (take i l) (v ∷ drop (suc i) l) i (length-take-le i l (omega arith)))

-- ---- hex digits from the last on

hex-step : (i m : ℕ) → hex_in (suc i) m ≡ hex_in i (m / 16) ++ (hex_byte (m % 16) ∷ [])
unfolding hex_in
hex-step i m = refl

hex-none : (m : ℕ) → hex_in 0 m ≡ []
unfolding hex_in
hex-none m = refl

pub hex-start : (n : ℕ) (bytes : List ℕ) → length bytes ≡ 8 → hex n ≡ hex_in 8 n ++ drop 8 bytes
unfolding hex
hex-start n bytes h = rw (drop_of_length-le bytes {i = 8} (omega arith)) (sym (append-nil (hex_in 8 n)))

pub hex-on : (bytes : List ℕ) (m i : ℕ) (x : List ℕ) → 0 < i → i ≤ length bytes → x ≡ hex_in i m ++ drop i bytes
    → x ≡ hex_in (i - 1) (m / 16) ++ drop (i - 1) (set bytes (i - 1) (hex_byte (m % 16)))
hex-on bytes m zero x p l inv = absurd (omega arith)
hex-on bytes m (suc i) x p l inv =
    let e : suc i - 1 ≡ i = omega arith in
    rw (e, drop-set bytes i (hex_byte (m % 16)) l)
    (inv ∙ rw (hex-step i m, append_assoc (hex_in i (m / 16)) (hex_byte (m % 16) ∷ []) (drop (suc i) bytes)))

pub hex-end : (bytes : List ℕ) (m i : ℕ) (x : List ℕ) → i ≤ 0 → x ≡ hex_in i m ++ drop i bytes → bytes ≡ x
hex-end bytes m i x h inv =
    let e : i ≡ 0 = omega arith in
    sym (inv ∙ rw (e, hex-none m))

-- ---- lengths, whatever the number

pub decimal-length : (k n : ℕ) → length (decimal_in k n) ≤ k + 1
unfolding decimal_in
decimal-length zero n = omega arith
decimal-length (suc k) n = go (ltb n 10) (decimal-length k (n / 10))
  where
    go : (b : Bool) → length (decimal_in k (n / 10)) ≤ k + 1
        → length (cond b ((48 + n % 10) ∷ []) (decimal_in k (n / 10) ++ ((48 + n % 10) ∷ []))) ≤ suc k + 1
    go true h = omega arith
    go false h = omega (arith, length-append (decimal_in k (n / 10)) ((48 + n % 10) ∷ []))

pub decimal-short : (n : ℕ) → length (decimal n) ≤ 20
unfolding decimal
decimal-short n = decimal-length 19 n

pub hex_length_in : (k n : ℕ) → length (hex_in k n) ≡ k
unfolding hex_in
hex_length_in zero n = refl
hex_length_in (suc k) n = rw (length-append (hex_in k (n / 16)) (hex_byte (n % 16) ∷ []), hex_length_in k (n / 16))
    (omega arith)

pub hex-length : (n : ℕ) → length (hex n) ≡ 8
unfolding hex
hex-length n = hex_length_in 8 n

-- ---- what a caller may use: no line is longer than this, whatever its numbers

pub day-short : (d : Day) → length (day_line d) ≤ 183
unfolding day_line
day-short d = simp length-append
    (omega (
      arith,
      decimal-short d.day,
      decimal-short d.learn,
      decimal-short d.review,
      decimal-short
          d.correct,
      decimal-short d.introduced,
      hex-length (to_bits binary32 d.cost),
      hex-length
          (to_bits binary32 d.held),
    ))

pub forecast-short : (span turns cards : ℕ) → length (forecast_line span turns cards) ≤ 90
unfolding forecast_line
forecast-short span turns cards = simp length-append
    (omega (arith, decimal-short span, decimal-short turns, decimal-short cards))

pub refused-short : (number second : ℕ) → length (refused_line number second) ≤ 52
unfolding refused_line
refused-short number second = simp length-append (omega (arith, decimal-short number, decimal-short second))

pub cheapest-short : (retention : Float) (rounds : ℕ) (mean : Float) → length (cheapest_line retention rounds mean) ≤ 90
unfolding cheapest_line
cheapest-short retention rounds mean =
    simp length-append
    (omega (arith, decimal-short rounds, hex-length (to_bits binary32 retention), hex-length (to_bits binary32 mean)))

-- the list keeps its length, and the bytes before the line stay
pub written-length : (out line : List ℕ) (at : ℕ) → length (written out at line) ≡ length out
unfolding written
written-length out line at = go (leb (at + length line) (length out)) refl
  where
    go : (b : Bool) → leb (at + length line) (length out) ≡ b
        → length (cond b (take at out ++ line ++ drop (at + length line) out) out) ≡ length out
    go true e = sym (ap length (sets-eq line out at (leb-true (at + length line) (length out) e)))
        ∙ length-sets out at line
    go false e = refl

pub written-before : (out line : List ℕ) (at : ℕ) → take at (written out at line) ≡ take at out
unfolding written
written-before out line at = go (leb (at + length line) (length out)) refl
  where
    go : (b : Bool) → leb (at + length line) (length out) ≡ b
        → take at (cond b (take at out ++ line ++ drop (at + length line) out) out) ≡ take at out
    go true e =
        let h : at + length line ≤ length out = leb-true (at + length line) (length out) e in
        rw (append_assoc (take at out) line (drop (at + length line) out))
        (take_at (take at out) (line ++ drop (at + length line) out) at (length-take-le at out (omega arith)))
    go false e = refl

-- The value of a finite float from the fields of its bit pattern, in either format.
--   finite_no_nan          a finite float is no NaN
--   significand-lt         a significand has no more digits than the format
--   normal                 above the lowest exponent it has all of them
--   Decoded f b x, decode  x is the float of the fields of b; a finite float is that of its own pattern
use Rattle.std.proofs.Common.{◌≡◌, ℕ, zero, suc, ◌+◌, ◌-◌, ◌*◌, ◌/◌, ◌%◌, ◌^◌, ◌<◌, ◌≤◌, Bool, true, false, cond, not, T, eqb, leb, sym, refl, ap, ◌∙◌, subst, true≢false, mod-lt, arith, lit<, ne_eqb}
use lib.Dec.{eqb-suc-zero, eqb_refl}
use lib.Pow.{field}
use lib.Ieee.{Float, nan, inf, fin, Format, binary32, binary64, prec, low, hid, ones, top, odd, fits, is_nan, of_fields}
use lib.Ieee.{of_bits, to_bits}
use lib.Ieee.Bits.{is_true, of_bits-to_bits}
use lib.Ieee.Exact.{HasValue, odd_sign}
use Rattle.float32.specs.Float32.{is_finite}
use Rattle.float32.specs.Encoding.{significand, exponent}

pub finite_no_nan : (x : Float) → T (is_finite x) → T (not (is_nan x))
unfolding is_finite is_nan
finite_no_nan nan h = absurd h
finite_no_nan (inf s) h = absurd h
finite_no_nan (fin s m e) h = tt

at_top : (a b s : Bool) (v : Float) → T (is_finite (cond a (cond b (inf s) nan) v)) → a ≡ false
unfolding is_finite
at_top true true s v p = absurd p
at_top true false s v p = absurd p
at_top false b s v p = refl

pred-suc : (j : ℕ) → suc j - 1 ≡ j
pred-suc j = omega arith

under : (x j : ℕ) → suc j < suc x → (suc j ≡ x → ⊥) → suc j - 1 ≤ x - 2
under x j h k = omega (arith, k)

double : (f : Format) → hid f + hid f ≡ 2 ^ prec f
double binary32 = refl
double binary64 = refl

hid_pos : (f : Format) → 0 < hid f
hid_pos binary32 = lit< tt
hid_pos binary64 = lit< tt

ones_pos : (f : Format) → 0 < suc (ones f)
ones_pos binary32 = lit< tt
ones_pos binary64 = lit< tt

field_is : (f : Format) (b : ℕ) → b % top f / hid f ≡ b / hid f % suc (ones f)
field_is binary32 b = field b 8 23
field_is binary64 b = field b 11 52

module _ (f : Format) where
  abbrev lead : ℕ → ℕ → ℕ
  lead x t = cond (eqb x 0) t (hid f + t)

  -- what a sign, a field and digits are read as, where that is finite
  abbrev Read : Bool → ℕ → ℕ → Float → Type 0
  Read s x t v = HasValue v s (lead x t * 2 ^ (x - 1)) (2 ^ low f) × (x - 1 ≤ ones f - 2)

  read : (s : Bool) (x t : ℕ) → x < suc (ones f) → T (is_finite (of_fields f s x t)) → Read s x t (of_fields f s x t)
  unfolding of_fields
  read s zero t X p = (odd_sign (prec f) s t 0 (low f), omega arith)
  read s (suc j) t X p =
      let v = odd (prec f) s (hid f + t) j (low f) in
      let u = cond (eqb t 0) (inf s) nan in
      let n : eqb (suc j) (ones f) ≡ false = at_top (eqb (suc j) (ones f)) (eqb t 0) s v p in
      let is : cond (eqb (suc j) (ones f)) u v ≡ v = ap (λ (b : Bool). cond b u v) n in (
        subst (λ (z : Float). HasValue z s (lead (suc j) t * 2 ^ (suc j - 1)) (2 ^ low f)) (sym is)
            (subst (λ (b : Bool). HasValue v s (cond b t (hid f + t) * 2 ^ (suc j - 1)) (2 ^ low f))
            (sym (eqb-suc-zero j))
            (subst (λ (i : ℕ). HasValue v s ((hid f + t) * 2 ^ i) (2 ^ low f)) (sym (pred-suc j))
            (odd_sign (prec f) s (hid f + t) j (low f)))),
        under (ones f) j X (λ (k : suc j ≡ ones f). true≢false
            (sym (is_true (eqb (suc j) (ones f)) (subst (λ (i : ℕ). T (eqb (suc j) i)) k (eqb_refl (suc j)))) ∙ n)),
      )

  lead-lt : (x t : ℕ) → t < hid f → lead x t < 2 ^ prec f
  lead-lt x t h = go (hid f) (2 ^ prec f) (double f) h (eqb x 0)
    where
      go : (a p : ℕ) → a + a ≡ p → t < a → (b : Bool) → cond b t (a + t) < p
      go a p e h true = omega arith
      go a p e h false = omega arith

  pub significand-lt : (b : ℕ) → significand f b < 2 ^ prec f
  unfolding significand
  significand-lt b = lead-lt (b / hid f % suc (ones f)) (b % hid f) (mod-lt b (hid_pos f))

  pub normal : (b : ℕ) → 0 < exponent f b → hid f ≤ significand f b
  unfolding significand exponent
  normal b h =
      subst (λ (z : Bool). hid f ≤ cond z (b % hid f) (hid f + b % hid f))
      (sym (ne_eqb (b / hid f % suc (ones f)) 0 (λ (e : b / hid f % suc (ones f) ≡ 0). omega arith)))
      (go (hid f) (b % hid f))
    where
      go : (x y : ℕ) → x ≤ x + y
      go x y = omega arith

  of_bits_is : (b : ℕ) → of_bits f b ≡ of_fields f (leb (top f) b) (b % top f / hid f) (b % hid f)
  unfolding of_bits
  of_bits_is b = refl

  abbrev pub Decoded : ℕ → Float → Type 0
  Decoded b x = HasValue x (leb (top f) b) (significand f b * 2 ^ exponent f b) (2 ^ low f)
      × (exponent f b ≤ ones f - 2)

  decode_bits : (b : ℕ) → T (is_finite (of_bits f b)) → Decoded b (of_bits f b)
  unfolding significand exponent
  decode_bits b p =
      let s = leb (top f) b in
      let t = b % hid f in
      let x = b / hid f % suc (ones f) in
      let e : of_bits f b ≡ of_fields f s x t = of_bits_is b ∙ ap (λ (i : ℕ). of_fields f s i t) (field_is f b) in
      subst (λ (v : Float). Read s x t v) (sym e) (read s x t (mod-lt (b / hid f) (ones_pos f))
      (subst (λ (v : Float). T (is_finite v)) e p))

  pub decode : (x : Float) → T (fits f x) → T (is_finite x) → Decoded (to_bits f x) x
  decode x F p =
      let b = to_bits f x in
      let e : of_bits f b ≡ x = of_bits-to_bits f x F in
      subst (λ (v : Float). Decoded b v) e (decode_bits b (subst (λ (v : Float). T (is_finite v)) (sym e) p))

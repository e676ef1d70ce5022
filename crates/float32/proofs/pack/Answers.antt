use Rattle.std.proofs.Common.{◌≡◌, ℕ, ◌+◌, ◌-◌, ◌*◌, ◌^◌, ◌<◌, ◌≤◌, sym, ap, ◌∙◌, subst, arith}
use lib.Ieee.{binary32, size, units}
use lib.Ieee.Digits.{size-le}
use lib.Ieee.Nearest.{closest}
use Rattle.float32.proofs.Rescale.{x_under, q-le, q-ge, packed, packed_zero}
use Rattle.float32.proofs.pack.Goals as goal

size_64 : (m : ℕ) → m < 2 ^ 64 → size m ≤ 64
size_64 m h = size-le m 64 h

-- the places of the branch for an m that is not 0
module _ (c : goal.After-saturating_sub-k) where
  abbrev m : ℕ
  m = c.args.m

  abbrev e : ℕ
  e = c.args.e

  some : 0 < m
  some = omega (arith, c.if-m-eq0.false)

  k_is : c.saturating_sub-k.result ≡ size m + e - 949
  k_is = c.saturating_sub-k.ensures ∙ ap (λ (z : ℕ). z + c.from-e.result - 949)
      c.bit_length.ensures ∙ ap (λ (z : ℕ). size m + z - 949)
      c.from-e.ensures

  asked : (m * 2 ^ c.from-e.result < 2 ^ (949 + c.saturating_sub-k.result)) × (c.saturating_sub-k.result < 2 ^ 60)
  asked = (
    subst (λ (i : ℕ). m * 2 ^ i < 2 ^ (949 + c.saturating_sub-k.result)) (sym c.from-e.ensures)
        (subst (λ (i : ℕ). m * 2 ^ e < 2 ^ (949 + i)) (sym k_is) (x_under m e some)),
    omega (arith, k_is, size_64 m c.ranges.m.fits, c.ranges.e.fits),
  )

module _ (c : goal.After-scaled) where
  abbrev b : goal.After-saturating_sub-k
  b = c.before

  q_is : c.scaled.result ≡ closest (m b * 2 ^ e b) (2 ^ (925 + (size (m b) + e b - 949)))
  q_is = c.scaled.ensures ∙ ap (λ (i : ℕ). closest (m b * 2 ^ i) (2 ^ (925 + c.saturating_sub-k.result)))
      c.from-e.ensures ∙ ap (λ (i : ℕ). closest (m b * 2 ^ e b) (2 ^ (925 + i))) (k_is b)

pub overflow_add-bit_length : goal.overflow_add-bit_length
overflow_add-bit_length c =
    omega (arith, size_64 c.args.m c.ranges.m.fits, c.bit_length.ensures, c.from-e.ensures, c.ranges.e.fits)

pub scaled-requires : goal.scaled-requires
scaled-requires c = record { m_nonzero = some c; e_bound = (asked c).0; k_bound = (asked c).1 }

pub from_units-requires-else-m-eq0 : goal.from_units-requires-else-m-eq0
from_units-requires-else-m-eq0 c = record {
  q_bound = subst (λ (z : ℕ). z ≤ 2 ^ 24) (sym (q_is c)) (q-le (m c.before) (e c.before) (some c.before));
  full = λ h. subst (λ (z : ℕ). 2 ^ 23 ≤ z) (sym (q_is c)) (q-ge (m c.before) (e c.before) (some c.before)
      (subst (λ (z : ℕ). 0 < z) (k_is c.before) h));
}

pub returns-then-m-eq0 : goal.returns-then-m-eq0
returns-then-m-eq0 c = c.from_units.ensures ∙ packed_zero c.args.negative c.args.m
    c.args.e c.if-m-eq0.true

pub returns-else-m-eq0 : goal.returns-else-m-eq0
returns-else-m-eq0 c =
    let s = c.args.negative in
    c.from_units-else-m-eq0.ensures
    ∙ ap (λ (z : ℕ). units binary32 s z c.saturating_sub-k.result) (q_is c.before)
    ∙ ap (λ (z : ℕ). units binary32 s (closest (m c.before.before * 2 ^ e c.before.before) (2 ^ (925 + (size (m c.before.before) + e c.before.before - 949)))) z) (k_is c.before.before)
    ∙ packed (m c.before.before) (e c.before.before) (some c.before.before) s

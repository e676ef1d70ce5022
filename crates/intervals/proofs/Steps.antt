-- One step of the search, and that each place of a search is a place of the table.
--     home-lt, next-lt                    places of the table; next_wrap, next-on: the place after the last one, and
--     after another
--     step_free, step_here, step-on, step-none                  a search of suc m places, by its first one
--     probe_free, probe_here, probe-on    the same of m, above 0
--     lookup-none, lookup-probe           the whole search as one of all places
use mathlib.Core.Path.{◌≡◌, refl, ◌∙◌, ap}
use mathlib.Core.Bool.{Bool, true, false}
use Prim.Native.Nat.{ℕ, zero, suc, ◌+◌, ◌-◌, ◌*◌, ◌<◌, ◌≤◌, min}
use native.Mathlib.Nat.{mod-lt, min-le_left, min-le_right, mul-le-mul_left, mul-lt-mul_of_pos_right, div-lt_iff_lt-mul}
use native.Mathlib.Omega.{arith}
use borrow.Author.Tests.{eqb-false, eq-eqb, ne_eqb}
use lib.Dec.{eqb}
use Rattle.intervals.specs.declared.Entry.TheVariants.{Found, Free, Full}
use Rattle.intervals.specs.Table.{Table, places, mix_of, home_of, next_of, free_at, key_at, value_at, probe}
use Rattle.intervals.specs.Table.{lookup_in}

mix-lt : (s r : ℕ) → mix_of s r < 4294967296
unfolding mix_of
mix-lt s r = mod-lt _ (omega arith)

-- the product in `home` does not wrap
pub share_fits : (n s r m k : ℕ) → m ≡ mix_of s r → k ≡ min n 4294967296 → m * k < 18446744073709551616
share_fits n s r m k p q =
    let h : m < 4294967296 = rw p (mix-lt s r) in
    let l : k ≤ 4294967296 = rw q (min-le_right n 4294967296) in
    omega (arith, mul-le-mul_left m l)

pub home-lt : (n s r : ℕ) → 0 < n → home_of n s r < n
unfolding home_of
home-lt n s r h =
    let below : mix_of s r * n < 4294967296 * n = mul-lt-mul_of_pos_right (mix-lt s r) h in
    let reach : mix_of s r * min n 4294967296 ≤ mix_of s r * n = mul-le-mul_left (mix_of s r) (min-le_left n 4294967296) in
    (div-lt_iff_lt-mul {k = 4294967296} {x = mix_of s r * min n 4294967296} {y = n} (omega arith)).1 (omega arith)

next_lt_cases : (n p : ℕ) (b : Bool) → eqb (p + 1) n ≡ b → p < n → next_of n p < n
unfolding next_of
next_lt_cases n p true e h = rw e (omega arith)
next_lt_cases n p false e h = let ne : (p + 1 ≡ n → ⊥) = eqb-false (p + 1) n e in rw e (omega arith)

pub next-lt : (n p : ℕ) → p < n → next_of n p < n
next-lt n p h = next_lt_cases n p (eqb (p + 1) n) refl h

-- the place after, by cases
pub next_wrap : (n p : ℕ) → p + 1 ≡ n → next_of n p ≡ 0
unfolding next_of
next_wrap n p e = rw (eq-eqb (p + 1) n e)

pub next-on : (n p : ℕ) → p + 1 < n → next_of n p ≡ p + 1
unfolding next_of
next-on n p h = let ne : (p + 1 ≡ n → ⊥) = λ e. omega arith in rw (ne_eqb (p + 1) n ne)

module _ (t : Table) (s r : ℕ) where
  -- the search at a free place, at the key's place, at another, and over no place
  pub step_free : (m q : ℕ) → free_at t q ≡ true → probe t s r (suc m) q ≡ Free q
  unfolding probe
  step_free m q f = rw f

  pub step_here : (m q : ℕ) → free_at t q ≡ false → key_at t q s r ≡ true → probe t s r (suc m) q ≡ Found q (value_at t q)
  unfolding probe
  step_here m q f k = rw (f, k)

  pub step-on : (m q : ℕ) → free_at t q ≡ false → key_at t q s r ≡ false
      → probe t s r (suc m) q ≡ probe t s r m (next_of (places t) q)
  unfolding probe
  step-on m q f k = rw (f, k)

  pub step-none : (q : ℕ) → probe t s r zero q ≡ Full
  unfolding probe
  step-none q = refl

  -- the same over the code's count of places left
  pub probe_free : (m q : ℕ) → 0 < m → free_at t q ≡ true → probe t s r m q ≡ Free q
  probe_free zero q h f = absurd (omega arith)
  probe_free (suc m) q h f = step_free m q f

  pub probe_here : (m q : ℕ) → 0 < m → free_at t q ≡ false → key_at t q s r ≡ true
      → probe t s r m q ≡ Found q (value_at t q)
  probe_here zero q h f k = absurd (omega arith)
  probe_here (suc m) q h f k = step_here m q f k

  pub probe-on : (m q : ℕ) → 0 < m → free_at t q ≡ false → key_at t q s r ≡ false
      → probe t s r m q ≡ probe t s r (m - 1) (next_of (places t) q)
  probe-on zero q h f k = absurd (omega arith)
  probe-on (suc m) q h f k = let e : suc m - 1 ≡ m = omega arith in rw e (step-on m q f k)

  pub lookup-none : places t ≡ 0 → lookup_in t s r ≡ Full
  unfolding lookup_in
  lookup-none e = ap (λ (m : ℕ). probe t s r m (home_of (places t) s r)) e ∙ step-none _

  pub lookup-probe : (q : ℕ) → q ≡ home_of (places t) s r → probe t s r (places t) q ≡ lookup_in t s r
  unfolding lookup_in
  lookup-probe q e = ap (λ (z : ℕ). probe t s r (places t) z) e

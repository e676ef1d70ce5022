-- The order of keys is that of day, reviews before new cards, and priority.
--   widened                                  an i32 is itself at 64 bits
--   shifted-lt, shifted_sum, shifted_order   a shifted i32 fits 32 bits, is the sum that the code takes, keeps order
--   packed_order, packed-day                 the order of keys by their parts, and what it says of the days
--   priority_in, priority_day                a priority fits an i32, and what two cards' keys say of their days
use mathlib.Core.Path.{◌≡◌, refl, ap}
use mathlib.Core.Bool.{Bool, true, false}
use mathlib.Core.Logic.{inl, inr, ◌↔◌}
use Prim.Native.Nat.{ℕ, suc, ◌+◌, ◌-◌, ◌*◌, ◌^◌, ◌<◌, ◌≤◌, min}
use native.Mathlib.Decide.{dec_lt}
use native.Mathlib.Omega.{arith}
use borrow.Author.Tests.{le-ltb}
use lib.Dec.{T, leb→le, le→leb}
use lib.IntN.{ℤ, pos, negsuc, ◌+ℤ◌}
use lib.Signed.{mag, le_z}
use lib.Ieee.{Float}
use lib.Ieee.Casts.{to_signed_in}
use mir.Syntax.{w32, w64}
use mir.Val.{to_z, of_z}
use mir.ValLaws.{to_z-of_z}
use Rattle.turns.specs.Sums.{bit}
use Rattle.queue.specs.Key.{shifted, priority_of, packed, card_priority, NoLater}

-- an i32 is itself at 64 bits
pub widened : (z : ℤ) → mag z < 2 ^ 31 → to_z w64 (of_z w64 (to_z w32 (of_z w32 z))) ≡ z
widened z h = rw (to_z-of_z w32 z (record { sfits = h })) (to_z-of_z w64 z (record { sfits = omega arith }))

pub shifted-lt : (z : ℤ) → mag z < 2 ^ 31 → shifted z < 2 ^ 32
unfolding shifted
shifted-lt (pos n) h = omega arith
shifted-lt (negsuc n) h = omega arith

pub shifted_sum : (z : ℤ) → mag z < 2 ^ 31 → z +ℤ pos 2147483648 ≡ pos (shifted z)
unfolding shifted
shifted_sum (pos n) h = refl
shifted_sum (negsuc n) h = rw (le-ltb 2147483648 (suc n) (omega arith))

pub shifted_order : (p p' : ℤ) → mag p < 2 ^ 31 → mag p' < 2 ^ 31 → (shifted p ≤ shifted p') ↔ T (le_z p p')
unfolding shifted
shifted_order (pos a) (pos b) h h' = (λ l. le→leb a b (omega arith), λ t. let l = leb→le a b t in omega arith)
shifted_order (pos a) (negsuc b) h h' = (λ l. absurd (omega arith), λ t. absurd t)
shifted_order (negsuc a) (pos b) h h' = (λ l. tt, λ t. omega arith)
shifted_order (negsuc a) (negsuc b) h h' = (λ l. le→leb b a (omega arith), λ t. let l = leb→le b a t in omega arith)

bit_le : (b : Bool) → bit b ≤ 1
bit_le true = omega arith
bit_le false = omega arith

bit-same : (a b : Bool) → bit a ≡ bit b → a ≡ b
bit-same true true e = refl
bit-same true false e = absurd (omega arith)
bit-same false true e = absurd (omega arith)
bit-same false false e = refl

module _ (d d' : ℕ) (n n' : Bool) (p p' : ℤ) (h : mag p < 2 ^ 31) (h' : mag p' < 2 ^ 31) where
  -- THE KEY'S ORDER
  pub packed_order : (packed d n p ≤ packed d' n' p') ↔ NoLater d n p d' n' p'
  unfolding packed
  packed_order = (there, back)
    where
      there : packed d n p ≤ packed d' n' p' → NoLater d n p d' n' p'
      there l = at (dec_lt d d') (dec_lt (bit n) (bit n'))
        where
          u : shifted p < 2 ^ 32
          u = shifted-lt p h

          u' : shifted p' < 2 ^ 32
          u' = shifted-lt p' h'

          at : Dec (d < d') → Dec (bit n < bit n') → NoLater d n p d' n' p'
          at (yes x) y = inl x
          at (no x) (yes y) = inr (omega (arith, l, u, u', bit_le n, bit_le n'), inl y)
          at (no x) (no y) =
              let e : bit n ≡ bit n' = omega (arith, l, u, u', bit_le n, bit_le n') in
              inr (
                omega (arith, l, u, u', bit_le n, bit_le n'),
                inr (bit-same n n' e, (shifted_order p p' h h').0 (omega (arith, l, u, u', bit_le n, bit_le n'))),
              )

      back : NoLater d n p d' n' p' → packed d n p ≤ packed d' n' p'
      back (inl x) = omega (arith, shifted-lt p h, bit_le n, bit_le n')
      back (inr (e, inl y)) = omega (arith, shifted-lt p h, bit_le n, bit_le n')
      back (inr (e, inr (f, t))) = omega (arith, (shifted_order p p' h h').1 t, ap bit f)

  -- a card no later in the queue is due on an earlier day, or on the same and is no new card before a review
  pub packed-day : packed d n p ≤ packed d' n' p' → 2 * d + bit n ≤ 2 * d' + bit n'
  unfolding packed
  packed-day l = omega (arith, l, shifted-lt p h, shifted-lt p' h', bit_le n, bit_le n')

pub priority_in : (difficulty : Float) → mag (priority_of difficulty) < 2 ^ 31
unfolding priority_of
priority_in difficulty = to_signed_in 31 _

-- the order of two cards' keys, where both days fit an i32
pub priority_order : (d d' : ℕ) (n n' : Bool) (x x' : Float) → d < 2 ^ 31 → d' < 2 ^ 31
    → (card_priority d n x ≤ card_priority d' n' x') ↔ NoLater d n (priority_of x) d' n' (priority_of x')
unfolding card_priority
priority_order d d' n n' x x' h h' =
    let e : min d (2 ^ 31 - 1) ≡ d = omega (arith, h) in
    let e' : min d' (2 ^ 31 - 1) ≡ d' = omega (arith, h') in
    rw (e, e') (packed_order d d' n n' (priority_of x) (priority_of x') (priority_in x) (priority_in x'))

-- and what it says of the days
pub priority_day : (d d' : ℕ) (n n' : Bool) (x x' : Float) → d < 2 ^ 31 → d' < 2 ^ 31
    → card_priority d n x ≤ card_priority d' n' x' → 2 * d + bit n ≤ 2 * d' + bit n'
unfolding card_priority
priority_day d d' n n' x x' h h' l =
    omega (
      arith,
      packed-day (min d (2 ^ 31 - 1)) (min d' (2 ^ 31 - 1)) n n' (priority_of x) (priority_of x')
          (priority_in x) (priority_in x') l,
    )

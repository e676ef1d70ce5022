-- What a comparison of two finite floats of one sign says of their sizes.
--   yes, no          a test that is true, and one that is false
--   le_pos, gt_pos   two floats with a clear sign: the sizes are in their order
--   le-neg, gt-neg   two with the sign set: the sizes are in the other order
use Rattle.std.proofs.Common.{◌≡◌, ℕ, ◌*◌, ◌<◌, ◌≤◌, Bool, true, false, not, ◌&&◌, ◌||◌, T, eqb, ltb, ℤ, sym, subst, arith, eqb→eq, ltb→lt, nltb→le}
use lib.Ieee.{fin, up, down, lt, eq, le}
use lib.Ieee.Fits.{eq→eqb}

pub yes : {b : Bool} → b ≡ true → T b
yes h = subst T (sym h) tt

pub no : {b : Bool} → b ≡ false → T (not b)
no h = subst (λ (a : Bool). T (not a)) (sym h) tt

-- a ≤ b, from the two tests that `le` makes, and b < a where both fail
le_from : (p q : Bool) (a b : ℕ) → (T p → a < b) → (T q → a ≡ b) → T (p || (q && true)) → a ≤ b
le_from true q a b f g t = let h : a < b = f tt in omega arith
le_from false true a b f g t = let h : a ≡ b = g tt in omega arith
le_from false false a b f g t = absurd t

gt-from : (p q : Bool) (a b : ℕ) → (T (not p) → b ≤ a) → (a ≡ b → T q) → T (not (p || (q && true))) → b < a
gt-from true q a b f g t = absurd t
gt-from false true a b f g t = absurd t
gt-from false false a b f g t = let h : b ≤ a = f tt in omega (arith, g)

module _ (m : ℕ) (e : ℤ) (n : ℕ) (d : ℤ) where
  abbrev a : ℕ
  a = m * up e * down d

  abbrev b : ℕ
  b = n * up d * down e

  pub le_pos : T (le (fin false m e) (fin false n d)) → a ≤ b
  unfolding le lt eq
  le_pos t = le_from (ltb a b) (eqb a b) a b (ltb→lt a b) (eqb→eq a b) t

  pub gt_pos : T (not (le (fin false m e) (fin false n d))) → b < a
  unfolding le lt eq
  gt_pos t = gt-from (ltb a b) (eqb a b) a b (nltb→le a b) eq→eqb t

  pub le-neg : T (le (fin true m e) (fin true n d)) → b ≤ a
  unfolding le lt eq
  le-neg t = le_from (ltb b a) (eqb a b) b a (ltb→lt b a) (λ (h : T (eqb a b)). sym (eqb→eq a b h)) t

  pub gt-neg : T (not (le (fin true m e) (fin true n d))) → a < b
  unfolding le lt eq
  gt-neg t = gt-from (ltb b a) (eqb a b) b a (nltb→le b a) (λ (h : b ≡ a). eq→eqb (sym h)) t

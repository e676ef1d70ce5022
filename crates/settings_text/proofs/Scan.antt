-- Laws of `first_not`: the first place from i on whose byte does not pass a test.
--   leading_is   how many bytes pass, as the search for the first that fails
--   leading_le   no more bytes pass than there are
--   after, within   the place is not before i, and not past the end
--   passed, stops   why it is the first: before it every byte passes, and its own does not
use mathlib.Core.Path.{◌≡◌, refl, sym, ◌∙◌}
use Prim.Native.Nat.{ℕ, zero, suc, ◌+◌, ◌≤◌, ◌<◌}
use native.Mathlib.Omega.{arith}
use mathlib.Core.Bool.{Bool, true, false, cond, not}
use mathlib.Core.List.{List, [], ◌∷◌}
use lib.ListN.{length, drop, get_or, length-drop}
use lib.Seq.{get_or-drop}
use Rattle.std.specs.Prelude.{Option, Some, None, position, unwrap_or, nat_lt}
use Rattle.std.specs.List.{position_or_len}
use Rattle.std.proofs.lemmas.Bool.Decides.{nat_tests}
use Rattle.std.proofs.lemmas.List.Recursion.{is_position_or_len}
use Rattle.std.proofs.lemmas.List.Sums.{prefix_len-le-length}
use Rattle.settings_text.specs.Text.{leading, first_not}

-- as the search for the first byte that fails the test
found_or : (n l : ℕ) → n ≤ l → unwrap_or (cond (nat_lt n l) (Some n) None) l ≡ n
found_or n l h = grind (arith, nat_tests)

leading_place : (p : ℕ → Bool) (s : List ℕ) → leading p s ≡ position_or_len (λ b. not (p b)) s
unfolding leading
leading_place p s = is_position_or_len (leading p) (λ b. not (p b)) refl (λ b t. go (p b) (leading p t)) s
  where
    go : (x : Bool) (n : ℕ) → cond x (suc n) 0 ≡ cond (not x) 0 (1 + n)
    go true n = omega arith
    go false n = omega arith

pub leading_is : (p : ℕ → Bool) (s : List ℕ) (r : Option ℕ) → r ≡ position (λ b. not (p b)) s → unwrap_or r (length s)
    ≡ leading p s
leading_is p s r e =
    rw e (found_or (position_or_len (λ b. not (p b)) s) (length s) (prefix_len-le-length (λ b. not (not (p b))) s))
    ∙ sym (leading_place p s)

pub leading_le : (p : ℕ → Bool) (s : List ℕ) → leading p s ≤ length s
unfolding leading
leading_le p [] = omega arith
leading_le p (b ∷ s) = go (p b) (leading_le p s)
  where
    go : (t : Bool) → leading p s ≤ length s → cond t (suc (leading p s)) 0 ≤ suc (length s)
    go true h = omega arith
    go false h = omega arith

pub after : (p : ℕ → Bool) (s : List ℕ) (i : ℕ) → i ≤ first_not p s i
unfolding first_not
after p s i = omega arith

pub within : (p : ℕ → Bool) (s : List ℕ) (i : ℕ) → i ≤ length s → first_not p s i ≤ length s
unfolding first_not
within p s i h = omega (arith, leading_le p (drop i s), length-drop i s)

passed_in : (p : ℕ → Bool) (s : List ℕ) (k : ℕ) → k < leading p s → p (get_or s k 0) ≡ true
unfolding leading
passed_in p [] k h = absurd (omega arith)
passed_in p (b ∷ s) zero h = go (p b) refl h
  where
    go : (t : Bool) → p b ≡ t → 0 < cond (p b) (suc (leading p s)) 0 → p b ≡ true
    go true e h = e
    go false e h = absurd (omega (arith, rw e at h))
passed_in p (b ∷ s) (suc k) h = go (p b) refl h (passed_in p s k)
  where
    go : (t : Bool) → p b ≡ t → suc k < cond (p b) (suc (leading p s)) 0 → (k < leading p s → p (get_or s k 0) ≡ true)
        → p (get_or s k 0) ≡ true
    go true e h ih = ih (omega (arith, rw e at h))
    go false e h ih = absurd (omega (arith, rw e at h))

pub passed : (p : ℕ → Bool) (s : List ℕ) (i k : ℕ) → i + k < first_not p s i → p (get_or s (i + k) 0) ≡ true
unfolding first_not
passed p s i k h = rw (get_or-drop i s k 0) at (passed_in p (drop i s) k (omega arith))

-- the byte where a list's first run ends does not pass
stops_in : (p : ℕ → Bool) (s : List ℕ) → leading p s < length s → p (get_or s (leading p s) 0) ≡ false
unfolding leading
stops_in p [] h = absurd (omega arith)
stops_in p (b ∷ s) h = go (p b) refl (stops_in p s)
  where
    go : (t : Bool) → p b ≡ t → (leading p s < length s → p (get_or s (leading p s) 0) ≡ false)
        → p (get_or (b ∷ s) (cond (p b) (suc (leading p s)) 0) 0) ≡ false
    go true e ih = rw e (ih (omega (arith, rw e at h)))
    go false e ih = rw e e

pub stops : (p : ℕ → Bool) (s : List ℕ) (i : ℕ) → first_not p s i < length s → p (get_or s (first_not p s i) 0) ≡ false
unfolding first_not
stops p s i h = rw (get_or-drop i s (leading p (drop i s)) 0) at (stops_in p (drop i s) (omega (arith, length-drop i s)))

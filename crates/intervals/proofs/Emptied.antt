-- An emptied table is sound, holds nothing and has no key.
--   clear-places              it is as long as it was
--   clear_sound, clear_held   it is sound, and nothing is held
--   clear-count               no key is held
use mathlib.Core.Path.{◌≡◌, refl, ◌∙◌, ap}
use mathlib.Core.Bool.{true}
use mathlib.Core.Option.{none}
use Prim.Native.Nat.{ℕ, zero, suc, ◌<◌, ◌≤◌}
use native.Mathlib.Omega.{arith}
use lib.Ieee.{nan, lt, of_bits, of_fields}
use lib.ListN.{length, length-replicate, get_or-replicate}
use Rattle.float32.specs.Numbers.{0ᶠ}
use Rattle.intervals.specs.Table.{Table, places, is_free, free_at, clear_in, held_to, count_to, held_in, count_in, Sound}
use Rattle.intervals.proofs.Probe.{true_false}
use Rattle.intervals.proofs.Held.{held_free, held_zero}
use Rattle.intervals.proofs.Used.{count_free, count_zero}

zero_free : is_free 0ᶠ ≡ true
unfolding lt of_bits of_fields
zero_free = refl

module _ (t : Table) where
  clear_free : (p : ℕ) → p < places t → free_at (clear_in t) p ≡ true
  clear_free p h = ap is_free (get_or-replicate (length t.intervals) p 0ᶠ nan (omega arith)) ∙ zero_free

  pub clear-places : places (clear_in t) ≡ places t
  clear-places = rw (length-replicate (length t.intervals) 0ᶠ)

  pub clear_sound : Sound (clear_in t)
  clear_sound = record {
    found = λ s r p w. absurd (true_false (clear_free p (rw clear-places at w.within))
        w.used);
  }

  clear-held_to : (s r m : ℕ) → m ≤ places t → held_to (clear_in t) s r m ≡ none
  clear-held_to s r zero h = held_zero (clear_in t) s r
  clear-held_to s r (suc m) h = held_free (clear_in t) s r m (clear_free m (omega arith)) ∙ clear-held_to s r m
      (omega arith)

  clear-count_to : (m : ℕ) → m ≤ places t → count_to (clear_in t) m ≡ 0
  clear-count_to zero h = count_zero (clear_in t)
  clear-count_to (suc m) h = count_free (clear_in t) m (clear_free m (omega arith)) ∙ clear-count_to m (omega arith)

  pub clear_held : (s r : ℕ) → held_in (clear_in t) s r ≡ none
  clear_held s r = clear-held_to s r (places (clear_in t)) (omega (arith, clear-places))

  pub clear-count : count_in (clear_in t) ≡ 0
  clear-count = clear-count_to (places (clear_in t)) (omega (arith, clear-places))

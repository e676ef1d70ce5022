-- Lent lists are equal when each of them is.
use mathlib.Core.Path.{◌≡◌}
use Prim.Native.Nat.{ℕ}
use mathlib.Core.List.{List}
use lib.Ieee.{Float}
use Rattle.runs.specs.State.{Lent, lent}

pub record Lists {C : Type 0} (l l' : Lent C) : Type 0 where
  pub cards_are : l.cards ≡ l'.cards
  pub counts_are : l.counts ≡ l'.counts
  pub rows_are : l.queue_rows ≡ l'.queue_rows
  pub days_are : l.days ≡ l'.days
  pub costs_are : l.costs ≡ l'.costs
  pub memorized_are : l.memorized ≡ l'.memorized
  pub due_are : l.due ≡ l'.due
  pub keys_are : l.keys ≡ l'.keys
  pub intervals_are : l.intervals ≡ l'.intervals

fields : {C : Type 0} {a a' : List (List Float)} {b b' c c' d d' : List
    (List ℕ)} {e e' : List C} {f f' : List Float} {g g' : List ℕ} {h h' : List (List ℕ)} {i i' : List Float}
    → a ≡ a' → b ≡ b' → c ≡ c' → d ≡ d' → e ≡ e' → f ≡ f' → g ≡ g' → h ≡ h' → i ≡ i'
    → lent a b c d e f g h i ≡ lent a' b' c' d' e' f' g' h' i'
fields p q r s t u v w x = rw (p, q, r, s, t, u, v, w, x)

pub same_lists : {C : Type 0} {l l' : Lent C} → Lists l l' → l ≡ l'
same_lists p =
    fields p.cards_are p.counts_are p.rows_are p.days_are p.costs_are p.memorized_are p.due_are
    p.keys_are p.intervals_are

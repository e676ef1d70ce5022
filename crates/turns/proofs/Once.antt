-- Along any chain of moves no card has two turns on one day.
use Prim.Native.Nat.{ℕ, suc, ◌≤◌}
use native.Mathlib.Omega.{arith}
use native.Mathlib.Decide.{ℕ_discrete}
use mathlib.Core.Bool.{Bool, true, ◌&&◌}
use mathlib.Core.List.{List, ◌∷◌}
use mathlib.Core.Logic.{◌≢◌}
use mathlib.Core.Path.{◌≡◌, refl, sym, ap, ◌∙◌}
use lib.Dec.{eqb, ltb}
use borrow.Author.Tests.{eq-eqb, ne_eqb}
use Rattle.turns.specs.Sums.{bit}
use Rattle.turns.proofs.Sums.{bit_le, and-le, and-on, lt-step}
use Rattle.turns.specs.Turns.{Turn, count, is_event, handled_on}
use Rattle.turns.proofs.Counting.{count_under}
use Rattle.turns.proofs.Chain.{Chain, start, more}
use Rattle.turns.proofs.Moves.{View, Moves, MoveSteps, onward}

module _ {E : Type 0} where
  -- the turns of card c on day d
  abbrev pub turns_on : ℕ → ℕ → List (Turn E) → ℕ
  turns_on c d ts = count (λ t. eqb t.card c && eqb t.day d) ts

module _ {E S : Type 0} (v : View S) where
  -- at most one; while the card is queued, none unless its day is later
  record OnceOn (c d : ℕ) (ts : List (Turn E)) (s : S) : Type 0 where
    all : turns_on c d ts ≤ 1
    queued : v.queued s c ≡ true → turns_on c d ts ≤ bit (ltb d (v.day s c))

  module _ {cards span : ℕ} (d : ℕ) (ts : List (Turn E)) {s : S} {t : Turn E} {s' : S}
      (m : Moves v cards span s t s') where
    adds_own : bit (eqb t.card t.card && eqb t.day d) ≡ bit (eqb t.day d)
    adds_own = and-on _ _ (eq-eqb t.card t.card refl)

    adds_other : (c : ℕ) → c ≢ t.card → bit (eqb t.card c && eqb t.day d) ≡ 0
    adds_other c h = ap (λ (x : Bool). bit (x && eqb t.day d)) (ne_eqb t.card c (omega arith))

    before-own : OnceOn t.card d ts s → turns_on t.card d ts ≤ bit (ltb d t.day)
    before-own u = rw (← m.is_day) (u.queued m.is_queued)

    once_own : OnceOn t.card d ts s → OnceOn t.card d (t ∷ ts) s'
    once_own u = record {
      all = omega (
        arith,
        adds_own,
        before-own u,
        lt-step d t.day (suc t.day) (omega arith),
        bit_le (ltb d (suc t.day)),
      );
      queued = λ q. omega (arith, adds_own, before-own u, lt-step d t.day (v.day s' t.card) (onward v m q).1);
    }

    once_other : (c : ℕ) → c ≢ t.card → OnceOn c d ts s → OnceOn c d (t ∷ ts) s'
    once_other c h u = record {
      all = omega (arith, adds_other c h, u.all);
      queued = λ q. rw (m.others c h).same-day
          (omega (arith, adds_other c h, u.queued (sym (m.others c h).same-queued ∙ q)));
    }

  once : {cards span : ℕ} {s₀ : S} (c d : ℕ) {ts : List (Turn E)} {s : S} → Chain (MoveSteps v cards span) s₀ ts s
      → OnceOn c d ts s
  once c d start = record { all = omega arith; queued = λ q. omega arith }
  once c d (more {ts = ts} {s = s} {t = t} {s' = s'} r m) = go (ℕ_discrete c t.card) (once c d r)
    where
      go : Dec (c ≡ t.card) → OnceOn c d ts s → OnceOn c d (t ∷ ts) s'
      go (yes e) u = rw e (once_own d ts m (rw e at u))
      go (no e) u = once_other d ts m c e u

  pub one_turn_a_day : {cards span : ℕ} {s₀ : S} (c d : ℕ) {ts : List (Turn E)} {s : S}
      → Chain (MoveSteps v cards span) s₀ ts s → turns_on c d ts ≤ 1
  one_turn_a_day c d r = (once c d r).all

  pub one_event_a_day : {cards span : ℕ} {s₀ : S} (c d : ℕ) {ts : List (Turn E)} {s : S}
      → Chain (MoveSteps v cards span) s₀ ts s → handled_on c d ts ≤ 1
  one_event_a_day c d {ts = ts} r =
      omega (
        arith,
        count_under (λ t. is_event t.kind && (eqb t.card c && eqb t.day d))
            (λ t. eqb t.card c && eqb t.day d)
            (λ t. and-le (is_event t.kind) (eqb t.card c && eqb t.day d)) ts,
        one_turn_a_day c d r,
      )

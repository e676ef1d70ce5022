-- When a turn is within the limits, after the turns before it, and what follows for the whole list. Only lists of turns
-- are spoken of: no state.
-- A putting off and a retiring need no reason here, so that a further reason to put off changes nothing.
--   First t before                               nothing was learned before a review on its day
--   Allowed b l kind d ts, Within b l t before   what a turn needs of the turns before it
--   DayOK b l d ts, days_ok                      a day keeps its limits
--   costs_within                                    at no event was the cost of its day so far above the maximum
use Prim.Native.Nat.{ℕ, ◌+◌, ◌≤◌, ◌<◌}
use native.Mathlib.Omega.{arith}
use native.Mathlib.Decide.{ℕ_discrete}
use mathlib.Core.Bool.{true, false, ◌&&◌, false≢true}
use mathlib.Core.List.{List, [], ◌∷◌}
use mathlib.Core.Path.{◌≡◌, refl}
use mathlib.Core.Logic.{◌≢◌}
use lib.Dec.{eqb}
use borrow.Author.Tests.{ne_eqb}
use Rattle.turns.specs.Sums.{bit}
use Rattle.turns.proofs.Sums.{bit_le, and_off}
use Rattle.turns.specs.Turns.{Kind, learn, review, put_off, retire, Turn, Each, is_learn, is_review, is_event}
use Rattle.turns.specs.Turns.{learned_on, reviewed_on, CostRule, cost_on, Limits}
use Rattle.turns.proofs.Counting.{each_map}

-- nothing was learned before a review on its day
abbrev pub First : {E : Type 0} → Turn E → List (Turn E) → Type 0
First t before = is_review t.kind ≡ true → learned_on t.day before ≡ 0

module _ {E C : Type 0} (b : CostRule E C) (l : Limits C) where
  -- what a turn of each kind on day d needs of the turns before it
  abbrev pub Allowed : Kind E → ℕ → List (Turn E) → Type 0
  Allowed (learn e) d ts = (learned_on d ts < l.learns d)
      × (l.learns_count_as_reviews d ≡ true → learned_on d ts + reviewed_on d ts < l.reviews d) × (l.is_over d (cost_on b d ts) ≡ false)
  Allowed (review r e) d ts = (reviewed_on d ts < l.reviews d) × (l.is_over d (cost_on b d ts) ≡ false)
  Allowed put_off d ts = Unit {0}
  Allowed retire d ts = Unit {0}

  abbrev pub Within : Turn E → List (Turn E) → Type 0
  Within t before = Allowed t.kind t.day before

  -- day d keeps its limits
  pub record DayOK (d : ℕ) (ts : List (Turn E)) : Type 0 where
    pub learned : learned_on d ts ≤ l.learns d
    pub reviewed : reviewed_on d ts ≤ l.reviews d
    pub both : l.learns_count_as_reviews d ≡ true → learned_on d ts + reviewed_on d ts ≤ l.reviews d

  day_same : (k : Kind E) (c d : ℕ) (ts : List (Turn E)) → Allowed k d ts → (is_review k ≡ true → learned_on d ts ≡ 0)
      → DayOK d ts → DayOK d (record { card = c; day = d; kind = k } ∷ ts)
  day_same (learn e) c d ts a f o = record {
    learned = omega (arith, bit_le (eqb d d));
    reviewed = omega (arith, o.reviewed);
    both = λ q. omega (arith, a.1 q, bit_le (eqb d d));
  }
  day_same (review r e) c d ts a f o = record {
    learned = omega (arith, o.learned);
    reviewed = omega (arith, bit_le (eqb d d));
    both = λ q. omega (arith, f refl, bit_le (eqb d d));
  }
  day_same put_off c d ts a f o = record {
    learned = omega (arith, o.learned);
    reviewed = omega (arith, o.reviewed);
    both = λ q. omega (arith, o.both q);
  }
  day_same retire c d ts a f o = record {
    learned = omega (arith, o.learned);
    reviewed = omega (arith, o.reviewed);
    both = λ q. omega (arith, o.both q);
  }

  day_other : (d : ℕ) (t : Turn E) (ts : List (Turn E)) → t.day ≢ d → DayOK d ts → DayOK d (t ∷ ts)
  day_other d t ts h o =
      let x : bit (is_learn t.kind && eqb t.day d)
      ≡ 0 = and_off (is_learn t.kind) (eqb t.day d) (ne_eqb t.day d h) in
      let y : bit (is_review t.kind && eqb t.day d)
      ≡ 0 = and_off (is_review t.kind) (eqb t.day d) (ne_eqb t.day d h) in
      record {
        learned = omega (arith, o.learned);
        reviewed = omega (arith, o.reviewed);
        both = λ q. omega (arith, o.both q);
      }

  pub days_ok : (d : ℕ) (ts : List (Turn E)) → Each Within ts → Each First ts → DayOK d ts
  days_ok d [] w f = record { learned = omega arith; reviewed = omega arith; both = λ q. omega arith }
  days_ok d (t ∷ ts) w f = go (ℕ_discrete t.day d) (days_ok d ts w.1 f.1)
    where
      go : Dec (t.day ≡ d) → DayOK d ts → DayOK d (t ∷ ts)
      go (yes e) o = rw (← e) (day_same t.kind t.card t.day ts w.0 f.0 (rw (← e) at o))
      go (no e) o = day_other d t ts e o

  pub costs_within : (ts : List (Turn E)) → Each Within ts
      → Each (λ t before. is_event t.kind ≡ true → l.is_over t.day (cost_on b t.day before) ≡ false) ts
  costs_within = each_map (λ t ts. go t.kind t.day ts)
    where
      go : (k : Kind E) (d : ℕ) (ts : List (Turn E)) → Allowed k d ts → is_event k ≡ true
          → l.is_over d (cost_on b d ts) ≡ false
      go (learn e) d ts a q = a.2
      go (review r e) d ts a q = a.1
      go put_off d ts a q = absurd (false≢true q)
      go retire d ts a q = absurd (false≢true q)

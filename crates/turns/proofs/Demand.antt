-- What a run has to show of each of its turns, from the state before it and the state after it alone; and that demand 3
-- follows, of the whole list of turns.
--   demand                              demand 3 of a chain in the queue's order and within the limits
--   Tests k l kind d s                  the tests that a turn passes, on the rows of the state
--   Step v k b l cards span ts s t s'   what a run shows of a turn
--   run_demand, run-rows                demand 3 of a chain of such turns, and what is claimed of its rows
use Prim.Native.Nat.{ℕ, ◌+◌, ◌<◌}
use mathlib.Core.Bool.{true, false}
use mathlib.Core.List.{List}
use mathlib.Core.Path.{◌≡◌, sym, ap, ◌∙◌}
use native.Mathlib.Omega.{arith}
use Rattle.turns.specs.Turns.{Turn, Each, is_review, learned_on, CostRule, Limits, Demand, Kind, learn, review}
use Rattle.turns.specs.Turns.{put_off, retire, cost_on, Rows}
use Rattle.turns.specs.Sums.{sum_to}
use Rattle.turns.proofs.Chain.{Chain, chain_map, chain_each, chain_all}
use Rattle.turns.proofs.Moves.{View, Moves, MoveSteps, turns_within, event_in_span, Does}
use Rattle.turns.proofs.Once.{one_event_a_day}
use Rattle.turns.proofs.Order.{Least, Orderly, days_never_fall, reviews_come_first}
use Rattle.turns.proofs.Within.{Within, days_ok, costs_within, Allowed}
use Rattle.turns.proofs.Columns.{Columns, Writes, SetUp, Keeps, rows, cost_row}

module _ {E S C : Type 0} (v : View S) (cards span : ℕ) (b : CostRule E C)
    (l : Limits C) {s₀ : S} {ts : List (Turn E)} {s : S} where
  -- The state's part and the limits' part, taken apart: a run that goes on under other limits keeps the first as it is
  pub demand : Chain (Orderly v cards span) s₀ ts s → Each (Within b l) ts → Demand cards span b l ts
  demand r w =
      let m : Chain (MoveSteps v cards span) s₀ ts s = chain_map (λ ts s t s' o. o.moves) r in
      let f : Each (λ t before. is_review t.kind ≡ true
      → learned_on t.day before ≡ 0) ts = reviews_come_first v r in
      record {
        learned_within = λ d. (days_ok b l d ts w f).learned;
        reviewed_within = λ d. (days_ok b l d ts w f).reviewed;
        both_within = λ d. (days_ok b l d ts w f).both;
        reviews_first = f;
        once = λ c d. one_event_a_day v c d m;
        cost_within = costs_within b l ts w;
        in_span = chain_all (λ ts s t s' x q. event_in_span v x q) m;
        days_rise = days_never_fall v r;
        turns_within = turns_within v cards span m;
      }

-- the tests that a turn of each kind on day d passes, on the rows of the state
abbrev pub Tests : {E S C : Type 0} → Columns S C → Limits C → Kind E → ℕ → S → Type 0
Tests k l (learn e) d s = ((k.rows s).learned d < l.learns d)
    × (l.learns_count_as_reviews d ≡ true → (k.rows s).learned d + (k.rows s).reviewed d < l.reviews d) × (l.is_over d ((k.rows s).cost d) ≡ false)
Tests k l (review r e) d s = ((k.rows s).reviewed d < l.reviews d) × (l.is_over d ((k.rows s).cost d) ≡ false)
Tests k l put_off d s = Unit {0}
Tests k l retire d s = Unit {0}

module _ {E S C : Type 0} (v : View S) (k : Columns S C) (b : CostRule E C) (l : Limits C) (cards span : ℕ) where
  pub record Step (ts : List (Turn E)) (s : S) (t : Turn E) (s' : S) : Type 0 where
    pub moves : Moves v cards span s t s'
    pub least : Least v s t.card
    pub writes : Writes k b span s t s'
    pub tests : Tests k l t.kind t.day s

module _ {E S C : Type 0} (v : View S) (k : Columns S C) (b : CostRule E C) (l : Limits C)
    (cards span introduced₀ : ℕ) {s₀ : S} (z : SetUp k b span introduced₀ s₀) where
  keeps : {ts : List (Turn E)} {s : S} → Chain (Step v k b l cards span) s₀ ts s
      → Chain (Keeps v k b cards span introduced₀) s₀ ts s
  keeps = chain_map (λ ts s t s' x. (x.moves, x.writes))

  -- the rows are the counts, so the tests are the rules
  within_step : (ts : List (Turn E)) (s : S) (t : Turn E) (s' : S) → Chain (Step v k b l cards span) s₀ ts s
      → Step v k b l cards span ts s t s' → Within b l t ts
  within_step ts s t s' r x = go t.kind x.tests x.moves.does
    where
      w : Rows span introduced₀ (sum_to cards (k.lapses s₀)) (sum_to cards (k.lapses s)) b (k.rows s) ts
      w = rows v k b cards span introduced₀ z (keeps r)

      paid : t.day < span → l.is_over t.day ((k.rows s).cost t.day) ≡ false
          → l.is_over t.day (cost_on b t.day ts) ≡ false
      paid h q = ap (l.is_over t.day) (sym (cost_row v k b cards span introduced₀ z (keeps r) t.day h)) ∙ q

      go : (κ : Kind E) → Tests k l κ t.day s → Does v span κ t.card t.day s s' → Allowed b l κ t.day ts
      go (learn e) y m = (
        omega (arith, y.0, w.learned_is t.day m.2.0),
        λ q. omega (arith, y.1 q, w.learned_is t.day m.2.0, w.reviewed_is t.day m.2.0),
        paid m.2.0 y.2,
      )
      go (review p e) y m = (omega (arith, y.0, w.reviewed_is t.day m.2.0), paid m.2.0 y.1)
      go put_off y m = tt
      go retire y m = tt

  pub run_demand : {ts : List (Turn E)} {s : S} → Chain (Step v k b l cards span) s₀ ts s → Demand cards span b l ts
  run_demand r = demand v cards span b l (chain_map (λ ts s t s' x. record { moves = x.moves; least = x.least }) r)
      (chain_each within_step r)

  pub run-rows : {ts : List (Turn E)} {s : S} → Chain (Step v k b l cards span) s₀ ts s
      → Rows span introduced₀ (sum_to cards (k.lapses s₀)) (sum_to cards (k.lapses s)) b (k.rows s) ts
  run-rows r = rows v k b cards span introduced₀ z (keeps r)

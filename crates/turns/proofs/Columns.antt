-- The rows and the lapses that a run writes, turn by turn, are counts of its turns.
--   Columns S C                    where a state has its rows and its lapses
--   Writes k b span s t s'         what a turn writes
--   SetUp k b span introduced₀ s   the rows as a run is set up
--   Keeps                          a step of a run, as far as the rows go
--   cost_row                       the cost of a day is the sum over its events
--   rows                           all rows are what is claimed of them
use Prim.Native.Nat.{ℕ, suc, ◌+◌, ◌<◌}
use native.Mathlib.Omega.{arith}
use mathlib.Core.Bool.{true, false, ◌&&◌, cond}
use mathlib.Core.List.{List}
use mathlib.Core.Logic.{◌≢◌}
use mathlib.Core.Path.{◌≡◌, refl, sym, ap, ◌∙◌}
use lib.Dec.{eqb, ltb}
use Rattle.turns.specs.Sums.{bit, sum_to}
use Rattle.turns.proofs.Sums.{sum_same, sum-at}
use Rattle.turns.specs.Turns.{Kind, learn, review, put_off, retire, Turn, count, is_learn, is_review, is_correct}
use Rattle.turns.specs.Turns.{is_lapse, is_event, learned_on, reviewed_on, correct_on, DayRows, Rows, CostRule, cost_on}
use Rattle.turns.proofs.Counting.{count-below, count-all, count_split}
use Rattle.turns.proofs.Chain.{Steps, Chain, start, more, chain_all, tally}
use Rattle.turns.proofs.Moves.{View, Moves, event_in_span}

-- where a state has its rows by day and its lapses by card
pub record Columns (S C : Type 0) : Type 0 where
  pub rows : S → DayRows C
  pub lapses : S → ℕ → ℕ

module _ {E S C : Type 0} (k : Columns S C) (b : CostRule E C) where
  -- what a turn writes: a learning counts as introduced on its day and on every later one
  pub record Writes (span : ℕ) (s : S) (t : Turn E) (s' : S) : Type 0 where
    pub learns : (d : ℕ) → d < span → (k.rows s').learned d ≡ (k.rows s).learned d + bit (is_learn t.kind && eqb t.day d)
    pub reviews : (d : ℕ) → d < span → (k.rows s').reviewed d ≡ (k.rows s).reviewed d + bit (is_review t.kind && eqb t.day d)
    pub corrects : (d : ℕ) → d < span → (k.rows s').correct d ≡ (k.rows s).correct d + bit (is_correct t.kind && eqb t.day d)
    pub introduces : (d : ℕ) → d < span
        → (k.rows s').introduced d ≡ (k.rows s).introduced d + bit (is_learn t.kind && ltb t.day (suc d))
    pub lapse : k.lapses s' t.card ≡ k.lapses s t.card + bit (is_lapse t.kind)
    pub other_lapses : (c : ℕ) → c ≢ t.card → k.lapses s' c ≡ k.lapses s c
    pub pays : (d : ℕ) → d < span
        → (k.rows s').cost d ≡ cond (is_event t.kind && eqb t.day d) (b.plus ((k.rows s).cost d) (b.cost t)) ((k.rows s).cost d)

-- as a run is set up
pub record SetUp {E S C : Type 0} (k : Columns S C) (b : CostRule E C) (span introduced₀ : ℕ) (s : S) : Type 0 where
  pub learned_none : (d : ℕ) → d < span → (k.rows s).learned d ≡ 0
  pub reviewed_none : (d : ℕ) → d < span → (k.rows s).reviewed d ≡ 0
  pub correct_none : (d : ℕ) → d < span → (k.rows s).correct d ≡ 0
  pub introduced_is : (d : ℕ) → d < span → (k.rows s).introduced d ≡ introduced₀
  pub cost_none : (d : ℕ) → d < span → (k.rows s).cost d ≡ b.none

review-kinds : {E : Type 0} (x : Kind E) → bit (is_review x) ≡ bit (is_correct x) + bit (is_lapse x)
review-kinds (learn e) = refl
review-kinds (review true e) = refl
review-kinds (review false e) = refl
review-kinds put_off = refl
review-kinds retire = refl

review_event : {E : Type 0} (x : Kind E) → is_review x ≡ true → is_event x ≡ true
review_event (learn e) q = refl
review_event (review r e) q = refl
review_event put_off q = q
review_event retire q = q

correct_event : {E : Type 0} (x : Kind E) → is_correct x ≡ true → is_event x ≡ true
correct_event (learn e) q = refl
correct_event (review r e) q = refl
correct_event put_off q = q
correct_event retire q = q

module _ {E S C : Type 0} (v : View S) (k : Columns S C) (b : CostRule E C) (cards span introduced₀ : ℕ) where
  abbrev pub Keeps : Steps (Turn E) S
  Keeps ts s t s' = Moves v cards span s t s' × Writes k b span s t s'

  -- the day's cost as the run keeps it is the sum over the day's events
  pub cost_row : {s₀ : S} {ts : List (Turn E)} {s : S} → SetUp k b span introduced₀ s₀ → Chain Keeps s₀ ts s → (d : ℕ)
      → d < span → (k.rows s).cost d ≡ cost_on b d ts
  cost_row z start d h = z.cost_none d h
  cost_row z (more {ts = ts} {s = s} {t = t} {s' = s'} r x) d h = x.1.pays d h
      ∙ ap (λ (c : C). cond (is_event t.kind && eqb t.day d) (b.plus c (b.cost t)) c) (cost_row z r d h)

  pub rows : {s₀ : S} {ts : List (Turn E)} {s : S} → SetUp k b span introduced₀ s₀ → Chain Keeps s₀ ts s
      → Rows span introduced₀ (sum_to cards (k.lapses s₀)) (sum_to cards (k.lapses s)) b (k.rows s) ts
  rows {s₀ = s₀} {ts = ts} {s = s} z r = record {
    learned_is = learned;
    reviewed_is = reviewed;
    correct_is = correct;
    introduced_is = λ d h. introduced d h
        ∙ ap (λ (x : ℕ). introduced₀ + x)
        (sym (sum_same (suc d) (k.rows s).learned (λ i. learned_on i ts) (λ i l. learned i (omega arith))
        ∙ count-below (λ t. is_learn t.kind) (λ t. t.day) (suc d) ts));
    cost_is = cost_row z r;
    lapses_are = omega (
      arith,
      lapses,
      count_split (λ t. is_review t.kind) (λ t. is_correct t.kind) (λ t. is_lapse t.kind)
          (λ t. review-kinds t.kind) ts,
      sum_same span (k.rows s).reviewed (λ d. reviewed_on d ts) reviewed,
      sum_same span (k.rows s).correct (λ d. correct_on d ts) correct,
      count-all (λ t. is_review t.kind) (λ t. t.day) span ts
          (chain_all (λ ts s t s' x q. event_in_span v x.0 (review_event t.kind q)) r),
      count-all (λ t. is_correct t.kind) (λ t. t.day) span ts
          (chain_all (λ ts s t s' x q. event_in_span v x.0 (correct_event t.kind q)) r),
    );
  }
    where
      learned : (d : ℕ) → d < span → (k.rows s).learned d ≡ learned_on d ts
      learned d h = omega (
        arith,
        z.learned_none d h,
        tally (λ s. (k.rows s).learned d) (λ t. is_learn t.kind && eqb t.day d) (λ ts s t s' x. x.1.learns d h) r,
      )

      reviewed : (d : ℕ) → d < span → (k.rows s).reviewed d ≡ reviewed_on d ts
      reviewed d h = omega (
        arith,
        z.reviewed_none d h,
        tally (λ s. (k.rows s).reviewed d) (λ t. is_review t.kind && eqb t.day d) (λ ts s t s' x. x.1.reviews d h) r,
      )

      correct : (d : ℕ) → d < span → (k.rows s).correct d ≡ correct_on d ts
      correct d h = omega (
        arith,
        z.correct_none d h,
        tally (λ s. (k.rows s).correct d) (λ t. is_correct t.kind && eqb t.day d)
            (λ ts s t s' x. x.1.corrects d h) r,
      )

      introduced : (d : ℕ) → d < span
          → (k.rows s).introduced d ≡ introduced₀ + count (λ t. is_learn t.kind && ltb t.day (suc d)) ts
      introduced d h = omega (
        arith,
        z.introduced_is d h,
        tally (λ s. (k.rows s).introduced d) (λ t. is_learn t.kind && ltb t.day (suc d))
            (λ ts s t s' x. x.1.introduces d h) r,
      )

      lapses : sum_to cards (k.lapses s) ≡ sum_to cards (k.lapses s₀) + count (λ t. is_lapse t.kind) ts
      lapses = tally (λ s. sum_to cards (k.lapses s)) (λ t. is_lapse t.kind)
          (λ ts s t s' x. omega (
            arith,
            sum-at cards t.card (k.lapses s) (k.lapses s') x.0.is_card x.1.other_lapses,
            x.1.lapse,
          )) r

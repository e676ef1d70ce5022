-- Every turn of `next` is a step of the theory and keeps the state good; so demand 3 holds of the whole list of turns
-- of a run, and the run comes to its end or to a refusal within cards × (span + 1) turns. Of the model one law is
-- asked: an interval is 1 to 36,500.
--   law                        a turn is a step, and keeps the state good
--   keeps                      so the state is good after any number of turns
--   turns_demand, turns_rows   demand 3 of the turns, and what is claimed of the rows
--   ends                       the run stops within the bound
use mathlib.Core.Path.{◌≡◌, refl}
use mathlib.Core.Bool.{Bool, true, false, cond, ◌&&◌}
use mathlib.Core.List.{List, []}
use Prim.Native.Nat.{ℕ, suc, ◌+◌, ◌<◌}
use native.Mathlib.Omega.{arith}
use borrow.Author.Tests.{eqb-false, leb-false}
use lib.Dec.{leb, eqb}
use Rattle.turns.specs.Sums.{sum_to}
use Rattle.turns.specs.Turns.{Turn, put_off, turn_bound, Demand, Rows}
use Rattle.turns.specs.Run.{takes, stops, run}
use Rattle.turns.proofs.Chain.{Chain, start, chain_map}
use Rattle.turns.proofs.Moves.{turns_within}
use Rattle.turns.proofs.Columns.{SetUp}
use Rattle.turns.proofs.Demand.{Step, run_demand, run-rows}
use Rattle.turns.proofs.Loop.{Lawful, lawful_keeps, run_chain, run_keeps, run_ends}
use Rattle.cards.specs.declared.card.Card.{Card}
use Rattle.cards.specs.Day.{IntervalInRange, is_new}
use Rattle.cards.specs.Cards.{card_at}
use Rattle.cards.specs.Choices.{retires, blocked, limited, choose, today, choice_of}
use Rattle.days.specs.Counts.{learned_at, reviewed_at}
use Rattle.days.specs.Sums.{cost_at}
use Rattle.days.specs.Due.{none_due}
use Rattle.events.specs.declared.Memory.{Memory}
use Rattle.std.specs.Prelude.{Option, Some, None}
use Rattle.intervals.specs.declared.Slot.{Slot}
use Rattle.intervals.specs.declared.Slot.TheVariants as slot
use Rattle.intervals.specs.Schedule.{is_full, interval_of}
use Rattle.events.specs.Drawn.{Drawn}
use Rattle.entry.specs.declared.RunRefusal.TheVariants as refusal
use Rattle.runs.specs.Turn.{Stop}
use Rattle.runs.specs.Turn.{first}
use Rattle.runs.specs.declared.First.{First}
use Rattle.std.specs.Prelude.{Ok}
use Rattle.runs.specs.State.{State}
use Rattle.runs.specs.Turn.{refuses, turn_as, event_turn, after_put_off, after_event, event_with_slot, event_with_draw, event_on, act, turn_of, next}
use Rattle.runs.specs.Rules.{Rules}
use Rattle.runs.specs.Invariant.{RunBounds, StateInvariant}
use Rattle.runs.proofs.turn.Views.{view, columns}
use Rattle.runs.proofs.turn.Slots.{Slots}
use Rattle.runs.proofs.turn.Invariant.{in_span, step-put, good-put, step_retire, good_retire}
use Rattle.runs.proofs.turn.Events.{step_learn, good_learn, step-review, good-review}
use Rattle.turns.proofs.Logic.{or_left, or_right, and_right}

module _ {C : Type 0} (R : Rules C) (cards : ℕ) (fine : RunBounds R.span cards) (laws : Slots R.model) where
  abbrev Steps : List (Turn Drawn) → State C → Turn Drawn → State C → Type 0
  Steps = Step view (columns R.costs.none) R.costs R.limits cards R.span

  abbrev Fit : State C → Type 0
  Fit = StateInvariant cards R.span

  module _ (ts : List (Turn Drawn)) (s : State C) (good : Fit s) (some : 0 < s.queue.len) where
    abbrev f : First
    f = first s

    abbrev k : Card
    k = f.card

    abbrev d : ℕ
    d = f.day

    abbrev l : ℕ
    l = learned_at s.days d

    abbrev r : ℕ
    r = reviewed_at s.days d

    abbrev x : C
    x = cost_at R.costs.none s.costs d

    -- an event that is not refused is a step, where it is one with any interval that is given
    law_slot : (new : Bool) (y : Memory) (t : Slot) → (is_full t ≡ false → IntervalInRange (interval_of t))
        → (IntervalInRange (interval_of t)
        → Steps ts s (event_turn R s f new y) (after_event R s f new y t)
        × Fit (after_event R s f new y t))
        → Lawful Steps Fit ts s (event_with_slot R s f new y t)
    law_slot new y slot.Full z h = tt
    law_slot new y (slot.Keep v) z h = h (z refl)
    law_slot new y (slot.Enter p a b v) z h = h (z refl)

    law_event : (new : Bool)
        → ((y : Memory) (t : Slot) → IntervalInRange (interval_of t)
        → Steps ts s (event_turn R s f new y) (after_event R s f new y t) × Fit (after_event R s f new y t))
        → Lawful Steps Fit ts s (event_on R s f new)
    unfolding event_on
    law_event new h = go (R.model.event R.draw k new d s.draws)
      where
        go : (e : Option Memory) → Lawful Steps Fit ts s (event_with_draw R s f new e)
        go None = tt
        go (Some y) =
            let r = k.desired_retention in
            law_slot new y (R.model.slot s.table y.stability r)
            (laws.fair s.table good.table y.stability r)
            (h y (R.model.slot s.table y.stability r))

    law_learn : retires R.span R.lapse_limit k ≡ false → blocked R.limits d true (today l r x) ≡ false
        → is_new k.last_date ≡ true → Lawful Steps Fit ts s (event_on R s f true)
    unfolding blocked card_at
    law_learn e₁ e₂ e₃ = law_event true (λ y t z. (
      step_learn R cards fine ts s good some true y t z h e₃ refl learns both pays,
      good_learn R cards fine ts s good some true y t z h e₃ refl learns both pays,
    ))
      where
        h : d < R.span
        h = in_span R cards fine ts s good some e₁

        a : limited R.limits d true (today l r x) ≡ false
        a = or_right (R.limits.is_over d x) (limited R.limits d true (today l r x)) e₂

        learns : l < R.limits.learns d
        learns = leb-false (R.limits.learns d) l
            (or_left (leb (R.limits.learns d) l) (R.limits.learns_count_as_reviews d && leb (R.limits.reviews d) (l + r)) a)

        both : R.limits.learns_count_as_reviews d ≡ true → l + r < R.limits.reviews d
        both j =
            leb-false (R.limits.reviews d) (l + r)
            (and_right (R.limits.learns_count_as_reviews d) (leb (R.limits.reviews d) (l + r)) j
            (or_right (leb (R.limits.learns d) l) (R.limits.learns_count_as_reviews d && leb (R.limits.reviews d) (l + r)) a))

        pays : R.limits.is_over d x ≡ false
        pays = or_left (R.limits.is_over d x) (limited R.limits d true (today l r x)) e₂

    law_review : retires R.span R.lapse_limit k ≡ false → blocked R.limits d false (today l r x) ≡ false
        → is_new k.last_date ≡ false → Lawful Steps Fit ts s (event_on R s f false)
    unfolding blocked card_at
    law_review e₁ e₂ e₃ = law_event false (λ y t z. (
      step-review R cards fine ts s good some false y t z h e₃ refl a pays,
      good-review R cards fine ts s good some false y t z h e₃ refl a pays,
    ))
      where
        h : d < R.span
        h = in_span R cards fine ts s good some e₁

        a : r < R.limits.reviews d
        a = leb-false (R.limits.reviews d) r (or_right (R.limits.is_over d x) (limited R.limits d false (today l r x)) e₂)

        pays : R.limits.is_over d x ≡ false
        pays = or_left (R.limits.is_over d x) (limited R.limits d false (today l r x)) e₂

    law_as : (a b n : Bool) → retires R.span R.lapse_limit k ≡ a → blocked R.limits d n (today l r x) ≡ b
        → is_new k.last_date ≡ n → Lawful Steps Fit ts s (act R s f (choose a b n))
    law_as true b n e₁ e₂ e₃ = (step_retire R cards fine ts s good some, good_retire R cards fine ts s good some)
    law_as false true n e₁ e₂ e₃ = go (none_due s.due (is_new k.last_date) d)
      where
        go : (y : Bool) → Lawful Steps Fit ts s
            (cond y (refuses (refusal.DueCount f.place)) (takes (turn_as f put_off) (after_put_off R s f)))
        go true = tt
        go false = (step-put R cards fine ts s good some e₁, good-put R cards fine ts s good some e₁)
    law_as false false true e₁ e₂ e₃ = law_learn e₁ e₂ e₃
    law_as false false false e₁ e₂ e₃ = law_review e₁ e₂ e₃

    law_turn : Lawful Steps Fit ts s (turn_of R s f)
    unfolding choice_of
    law_turn = law_as (retires R.span R.lapse_limit k) (blocked R.limits d (is_new k.last_date) (today l r x))
        (is_new k.last_date) refl refl refl

  pub law : (ts : List (Turn Drawn)) (s : State C) → Fit s → Lawful Steps Fit ts s (next R s)
  unfolding next
  law ts s good = go (eqb s.queue.len 0) refl
    where
      go : (b : Bool) → eqb s.queue.len 0 ≡ b
          → Lawful Steps Fit ts s
          (cond b (stops (Ok tt))
          (turn_of R s (first s)))
      go true e = tt
      go false e = let ne = eqb-false s.queue.len 0 e in law_turn ts s good (omega (arith, ne))

  -- the state stays good
  pub keeps : (s₀ : State C) → Fit s₀ → (n : ℕ) → Fit (run (next R) n [] s₀).state
  keeps s₀ good n = run_keeps (next R) Fit (λ s h. lawful_keeps Steps Fit [] s (next R s) (law [] s h)) n [] s₀ good

  -- DEMAND 3, of n turns from a state as set up
  module _ (introduced_before : ℕ) (s₀ : State C)
      (z : SetUp (columns R.costs.none) R.costs R.span introduced_before s₀) (good : Fit s₀) (n : ℕ) where
    run-steps : Chain Steps s₀ (run (next R) n [] s₀).turns (run (next R) n [] s₀).state
    run-steps = run_chain (next R) Steps Fit law n start good

    pub turns_demand : Demand cards R.span R.costs R.limits (run (next R) n [] s₀).turns
    turns_demand = run_demand view (columns R.costs.none) R.costs R.limits cards
        R.span introduced_before z run-steps

    pub turns_rows : (let k = columns R.costs.none in let r = run (next R) n [] s₀ in
        Rows R.span introduced_before (sum_to cards (k.lapses s₀)) (sum_to cards (k.lapses r.state))
        R.costs (k.rows r.state) r.turns)
    turns_rows = run-rows view (columns R.costs.none) R.costs R.limits cards
        R.span introduced_before z run-steps

  -- the bound on turns never shows
  pub ends : (s₀ : State C) → Fit s₀
      → (y : Stop) × (next R (run (next R) (suc (turn_bound cards R.span)) [] s₀).state ≡ stops y)
  ends s₀ good = run_ends (next R) Steps Fit law s₀ (turn_bound cards R.span) good
      (λ ts s ch. turns_within view cards R.span (chain_map (λ ts s t s' y. y.moves) ch))

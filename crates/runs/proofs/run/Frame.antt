-- A RUN IN LONGER LISTS, and from lists with other contents: the frame. Its own places come out as from lists of just
-- these, the places behind them stay as lent; so of two calls with equal inputs the second, with a table as long or
-- longer, has the same run.
--   run_own       a run of `extended s b` is the run of s, with b behind
--   longer_table, lists_free   two calls: the same run, where the first ends Ok or the tables are equally long
--   cards_are     one call: its cards are those kept and those created
--   beyond_same   one call: the places behind those that it needs are as they were lent
--   lengths_same  one call: each list keeps its length
use mathlib.Core.Path.{◌≡◌, refl, sym, ap, ◌∙◌, subst}
use mathlib.Core.Bool.{true}
use mathlib.Core.List.{List, [], ◌++◌}
use mathlib.Core.Option.{some}
use mathlib.Core.Logic.{inl, inr}
use Prim.Native.Nat.{ℕ, suc, ◌+◌, ◌≤◌}
use native.Mathlib.Omega.{arith}
use lib.ListN.{length, drop, length-append, length-drop}
use lib.Seq.{take_at, drop_at}
use Rattle.turns.specs.Turns.{Turn, turn_bound}
use Rattle.turns.specs.Run.{Next, takes, stops, run}
use Rattle.turns.proofs.Loop.{Follows, Same, run_follows}
use Rattle.days.specs.Due.{due_days}
use Rattle.intervals.specs.Table.{Table, places}
use Rattle.intervals.proofs.Emptied.{clear-places}
use Rattle.intervals.proofs.Longer.{same-clear}
use Rattle.events.specs.Drawn.{Drawn}
use Rattle.entry.specs.Entry.{passed}
use Rattle.runs.specs.Turn.{Stop}
use Rattle.std.specs.Prelude.{Ok}
use Rattle.runs.specs.State.{State, Lent, lists_of, with_table}
use Rattle.runs.specs.Rules.{Rules}
use Rattle.runs.specs.Turn.{next}
use Rattle.entry.specs.Entry.{Inputs, check_settings}
use Rattle.runs.specs.Checked.{lists_ok, checked}
use Rattle.runs.specs.SetUp.{kept_count, new_card_count}
use Rattle.runs.specs.Simulate.{progress, answer_of, fuel, run_from, result_from, simulated_by}
use Rattle.runs.specs.Invariant.{RunBounds, StateInvariant}
use Rattle.runs.specs.Frame.{first_places, beyond, extended, SameLengths}
use Rattle.runs.specs.Demands.{start_of, cards_of, end_of, turns_of, LongerTable, SameRun}
use Rattle.runs.proofs.Accepted.{accepted}
use Rattle.runs.proofs.turn.Slots.{Slots}
use Rattle.runs.proofs.turn.Lawful.{law}
use Rattle.runs.proofs.turn.Frame.{Exact, Framed, framed}
use Rattle.runs.proofs.set_up.Frame.{own_state, kept_few, new_few, StartsAlike, starts_alike}
use Rattle.runs.proofs.run.Suits.{Suits}
use Rattle.runs.proofs.run.Table.{end_lengths}
use Rattle.runs.proofs.run.DemandThree.{run_bounds, start-good, has_stopped, stops_so}
use Rattle.runs.proofs.run.Tables.{Alike, Shared, run_alike}

-- ---- the places of a state with others behind them
module _ {C : Type 0} (cards span : ℕ) (s : State C) (b : Lent C) (ex : Exact cards span s) where
  first-own : first_places cards span (extended s b) ≡ s
  first-own =
      rw (
        take_at s.cards b.cards cards ex.cards_are,
        take_at s.counts b.counts cards ex.counts_are,
        take_at s.queue.rows b.queue_rows cards ex.rows_are,
        take_at s.days b.days span ex.days_are,
        take_at s.costs b.costs span ex.costs_are,
        take_at s.memorized b.memorized span ex.memorized_are,
        take_at s.due b.due (due_days span) ex.due_are,
      )

  beyond-own : (z : State C) → b ≡ beyond cards span z → beyond cards span (extended s b) ≡ beyond cards span z
  beyond-own z e =
      rw (
        drop_at s.cards b.cards cards ex.cards_are,
        drop_at s.counts b.counts cards ex.counts_are,
        drop_at s.queue.rows b.queue_rows cards ex.rows_are,
        drop_at s.days b.days span ex.days_are,
        drop_at s.costs b.costs span ex.costs_are,
        drop_at s.memorized b.memorized span ex.memorized_are,
        drop_at s.due b.due (due_days span) ex.due_are,
      ) (rw e)

-- ---- a run
module _ {C : Type 0} (R : Rules C) (cards : ℕ) (fine : RunBounds R.span cards) (laws : Slots R.model)
    (b : Lent C) where
  -- w is s with b behind
  pub record InFront (w s : State C) : Type 0 where
    pub whole : w ≡ extended s b
    pub exact : Exact cards R.span s
    pub good : StateInvariant cards R.span w

  abbrev Any : Stop → Type 0
  Any x = Unit {0}

  own_follows : (w s : State C) → InFront w s → Follows InFront Any (next R w) (next R s)
  own_follows w s p = rw p.whole (go (next R s) (framed R cards fine s b good p.exact))
    where
      good : StateInvariant cards R.span (extended s b)
      good = rw p.whole at p.good

      kept : (t : Turn Drawn) (s'' : State C) → next R (extended s b) ≡ takes t s'' → StateInvariant cards R.span s''
      kept t s'' e = (rw e at (law R cards fine laws [] (extended s b) good)).1

      go : (x : Next (Turn Drawn) (State C) Stop) → Framed R cards fine s b good p.exact x (next R (extended s b))
          → Follows InFront Any (next R (extended s b)) x
      go (takes t s') q = rw q.0 (refl, record { whole = refl; exact = q.1; good = kept t (extended s' b) q.0 })
      go (stops x) q = rw q (λ z. refl)

  pub run_own : (n : ℕ) (w s : State C) → InFront w s → (x : Stop) → next R (run (next R) n [] w).state ≡ stops x
      → Same InFront (next R) (run (next R) n [] w) (run (next R) n [] s) x
  run_own n w s p x e = run_follows InFront Any (next R) own_follows n [] [] refl w s p x tt e

-- ---- two calls
same_stop : {C : Type 0} (n : Next (Turn Drawn) (State C) Stop) (x y : Stop) → n ≡ stops x → n ≡ stops y → x ≡ y
same_stop n x y e q = cc

same_answer : (x : Stop) {a a' b b' n n' c c' : ℕ} → a ≡ a' → b ≡ b' → n ≡ n' → c ≡ c'
    → some (answer_of x (progress a b n c)) ≡ some (answer_of x (progress a' b' n' c'))
same_answer x p q m r = rw (p, q, m, r)

module _ {C : Type 0} (R : Rules C) (i : Inputs) (fit : Suits R i) (s s' : State C) (e : checked i s ≡ passed)
    (e' : checked i s' ≡ passed) where
  abbrev none : C
  none = R.costs.none

  alike : StartsAlike none i s s'
  alike = starts_alike none i s s' (accepted i s e) (accepted i s' e')

  abbrev cards : ℕ
  cards = alike.own.queue.len

  -- the run's own places, with the first call's table and with the second's
  abbrev f : State C
  f = own_state none i alike.own s.table

  abbrev f' : State C
  f' = own_state none i alike.own s'.table

  cards_here : cards_of R i s ≡ cards
  cards_here = ap (λ (z : State C). z.queue.len) alike.here

  cards_there : cards_of R i s' ≡ cards
  cards_there = ap (λ (z : State C). z.queue.len) alike.there

  fine : RunBounds R.span cards
  fine = subst (λ (z : ℕ). RunBounds R.span z) cards_here (run_bounds R i s (accepted i s e) fit)

  front_here : InFront R cards fine fit.slots (beyond cards R.span s) (start_of R i s) f
  front_here = record {
    whole = subst (λ (z : ℕ). start_of R i s ≡ extended f (beyond cards z s)) fit.span_is alike.here;
    exact = subst (λ (z : ℕ). Exact cards z f) fit.span_is (alike.exact s.table);
    good = subst (λ (z : ℕ). StateInvariant z R.span (start_of R i s)) cards_here
        (start-good R i s (accepted i s e) fit);
  }

  front_there : InFront R cards fine fit.slots (beyond cards R.span s') (start_of R i s') f'
  front_there = record {
    whole = subst (λ (z : ℕ). start_of R i s' ≡ extended f' (beyond cards z s')) fit.span_is alike.there;
    exact = subst (λ (z : ℕ). Exact cards z f') fit.span_is (alike.exact s'.table);
    good = subst (λ (z : ℕ). StateInvariant z R.span (start_of R i s')) cards_there
        (start-good R i s' (accepted i s' e') fit);
  }

  -- each run is that of the own places
  abbrev steps : ℕ
  steps = suc (turn_bound cards R.span)

  own_here : (x : Stop) → next R (end_of R i s) ≡ stops x
      → Same (InFront R cards fine fit.slots (beyond cards R.span s)) (next R) (run_from R (start_of R i s))
      (run (next R) steps [] f) x
  unfolding run_from
  own_here x q =
      let b : fuel R (start_of R i s) ≡ steps = ap (λ (z : ℕ). suc (turn_bound z R.span)) cards_here in
      subst (λ (n : ℕ). Same (InFront R cards fine fit.slots (beyond cards R.span s)) (next R)
      (run (next R) n [] (start_of R i s)) (run (next R) steps [] f) x) (sym b)
      (run_own R cards fine fit.slots (beyond cards R.span s) steps (start_of R i s) f front_here x
      (subst (λ (n : ℕ). next R (run (next R) n [] (start_of R i s)).state ≡ stops x) b q))

  own_there : (x : Stop) → next R (end_of R i s') ≡ stops x
      → Same (InFront R cards fine fit.slots (beyond cards R.span s')) (next R) (run_from R (start_of R i s'))
      (run (next R) steps [] f') x
  unfolding run_from
  own_there x q =
      let b : fuel R (start_of R i s') ≡ steps = ap (λ (z : ℕ). suc (turn_bound z R.span)) cards_there in
      subst (λ (n : ℕ). Same (InFront R cards fine fit.slots (beyond cards R.span s')) (next R)
      (run (next R) n [] (start_of R i s')) (run (next R) steps [] f') x) (sym b)
      (run_own R cards fine fit.slots (beyond cards R.span s') steps (start_of R i s') f' front_there x
      (subst (λ (n : ℕ). next R (run (next R) n [] (start_of R i s')).state ≡ stops x) b q))

  module _ (E : Type 0) (longer : places s.table ≤ places s'.table)
      (even : E → places s.table ≡ places s'.table) (x : Stop) (shared : Shared E x)
      (q : next R (end_of R i s) ≡ stops x) where
    tables : Alike E f f'
    tables = record {
      same = refl;
      entries = same-clear s.table s'.table longer;
      even = λ z. omega (arith, even z, clear-places s.table, clear-places s'.table);
    }

    both : Same (Alike E) (next R) (run (next R) steps [] f) (run (next R) steps [] f') x
    both = run_alike E R fit.slots steps f f' tables x shared (own_here x q).stop

    same_run : SameRun R i s s'
    unfolding simulated_by result_from
    same_run =
        let h = has_stopped R i s' (accepted i s' e') fit in
        let one = own_here x q in
        let two = own_there h.0 h.1 in
        let y : h.0 ≡ x = same_stop (next R (run (next R) steps [] f').state) h.0 x two.stop both.stop in
        let here = stops_so R i s (accepted i s e) fit x q in
        let there = stops_so R i s' (accepted i s' e') fit x (h.1 ∙ ap stops y) in
        let turns : turns_of R i s' ≡ turns_of R i s = two.turns ∙ sym both.turns ∙ sym one.turns in
        let first : first_places cards R.span (end_of R i s)
        ≡ (run (next R) steps [] f).state = ap (first_places cards R.span) one.states.whole
        ∙ first-own cards R.span _ (beyond cards R.span s) one.states.exact in
        let second : first_places cards R.span (end_of R i s')
        ≡ (run (next R) steps [] f').state = ap (first_places cards R.span) two.states.whole
        ∙ first-own cards R.span _ (beyond cards R.span s') two.states.exact in
        let table : (end_of R i s).table
        ≡ (run (next R) steps [] f).state.table = ap (λ (z : State C). z.table) one.states.whole in
        let table' : (end_of R i s').table
        ≡ (run (next R) steps [] f').state.table = ap (λ (z : State C). z.table) two.states.whole in
        let draws : (end_of R i s').draws ≡ (end_of R i s).draws =
        ap (λ (z : State C). z.draws) two.states.whole ∙ ap (λ (z : State C). z.draws) both.states.same
        ∙ sym (ap (λ (z : State C). z.draws) one.states.whole) in
        let queued : (end_of R i s').queue.len ≡ (end_of R i s).queue.len =
        ap (λ (z : State C). z.queue.len) two.states.whole ∙ ap (λ (z : State C). z.queue.len)
        both.states.same
        ∙ sym (ap (λ (z : State C). z.queue.len) one.states.whole) in
        record {
          answers = rw (e, e')
              (rw (here, there) (same_answer x (ap (λ (z : List (Turn Drawn)). length z) turns)
              (cards_there ∙ sym cards_here) queued draws));
          turns_are = turns;
          places_are = subst (λ (n : ℕ). first_places n R.span (end_of R i s')
              ≡ with_table (end_of R i s').table (first_places n R.span (end_of R i s))) (sym cards_here)
              (second ∙ both.states.same
              ∙ ap (λ (t : Table). with_table t (run (next R) steps [] f).state) (sym table')
              ∙ ap (with_table (end_of R i s').table) (sym first));
          intervals_are = λ a b. rw (table, table') (sym (both.states.entries.held a b));
        }

-- ---- the second call passes the entry too, and its table has as many places or more
pub passes_too : {C : Type 0} (i : Inputs) (s s' : State C) → checked i s ≡ passed → lists_ok i s' ≡ true
    → checked i s' ≡ passed
unfolding check_settings
passes_too i s s' e l = rw l (rw (accepted i s e).lists_pass at e)

-- THE LONGER TABLE: a run that ends Ok has the same run with any lists that are long enough and a table that is as long
-- or longer
pub longer_table : {C : Type 0} (R : Rules C) (i : Inputs) → Suits R i → (s s' : State C) → checked i s ≡ passed
    → LongerTable i s s' → next R (end_of R i s) ≡ stops (Ok tt) → SameRun R i s s'
longer_table R i fit s s' e l q =
    let e' = passes_too i s s' e l.lists_pass in
    same_run R i fit s s' e e' ⊥ (omega (arith, l.longer, (accepted i s e).table_even, (accepted i s' e').table_even))
    (λ z. absurd z) (Ok tt) (inl refl) q

-- WHATEVER THE LISTS HELD: with a table equally long every call has the same run
pub lists_free : {C : Type 0} (R : Rules C) (i : Inputs) → Suits R i → (s s' : State C) → checked i s ≡ passed
    → lists_ok i s' ≡ true → length s'.table.keys ≡ length s.table.keys → SameRun R i s s'
lists_free R i fit s s' e l k =
    let e' = passes_too i s s' e l in
    let h = has_stopped R i s (accepted i s e) fit in
    let p : places s.table
    ≡ places s'.table = omega (arith, k, (accepted i s e).table_even, (accepted i s' e').table_even) in
    same_run R i fit s s' e e' (Unit {0}) (omega (arith, p)) (λ z. p) h.0 (inr tt) h.1

-- ---- one call
-- the run's cards: the existing ones that are kept, and those created
pub cards_are : {C : Type 0} (R : Rules C) (i : Inputs) (s : State C) → checked i s ≡ passed
    → (let kept = kept_count i.existing i.existing_counts (length i.existing) in cards_of R i s
    ≡ kept + new_card_count i.settings.config kept)
cards_are R i s e =
    let a = starts_alike R.costs.none i s s (accepted i s e) (accepted i s e) in
    ap (λ (z : State _). z.queue.len) a.here ∙ a.count

pub beyond_same : {C : Type 0} (R : Rules C) (i : Inputs) (fit : Suits R i) (s : State C)
    (e : checked i s ≡ passed)
    → beyond (cards_of R i s) R.span (end_of R i s) ≡ beyond (cards_of R i s) R.span s
beyond_same R i fit s e =
    let h = has_stopped R i s (accepted i s e) fit in
    let r = own_here R i fit s s e e h.0 h.1 in
    let n = cards R i fit s s e e in
    subst (λ (z : ℕ). beyond z R.span (end_of R i s) ≡ beyond z R.span s) (sym (cards_here R i fit s s e e))
    (ap (beyond n R.span) r.states.whole
    ∙ beyond-own n R.span _ (beyond n R.span s) r.states.exact s refl)

-- a list's own places in front of the others are as many as it had
own-length : {A : Type 0} (own l : List A) (n : ℕ) → length own ≡ n → n ≤ length l → length (own ++ drop n l) ≡ length l
own-length own l n e h = omega (arith, length-append own (drop n l), length-drop n l, e, h)

own_lengths : {C : Type 0} (n span : ℕ) (x s : State C) → Exact n span x → n ≤ length s.cards → n ≤ length s.counts
    → n ≤ length s.queue.rows → span ≤ length s.days → span ≤ length s.costs → span ≤ length s.memorized
    → due_days span ≤ length s.due → length x.table.keys ≡ length s.table.keys
    → length x.table.intervals ≡ length s.table.intervals
    → SameLengths (lists_of s) (lists_of (extended x (beyond n span s)))
own_lengths n span x s ex a b c d e f g h k = record {
  cards = own-length x.cards s.cards n ex.cards_are a;
  counts = own-length x.counts s.counts n ex.counts_are b;
  queue_rows = own-length x.queue.rows s.queue.rows n ex.rows_are c;
  days = own-length x.days s.days span ex.days_are d;
  costs = own-length x.costs s.costs span ex.costs_are e;
  memorized = own-length x.memorized s.memorized span ex.memorized_are f;
  due = own-length x.due s.due (due_days span) ex.due_are g;
  keys = h;
  intervals = k;
}

pub lengths_same : {C : Type 0} (R : Rules C) (i : Inputs) (fit : Suits R i) (s : State C)
    (e : checked i s ≡ passed) → SameLengths (lists_of s) (lists_of (end_of R i s))
lengths_same {C = C} R i fit s e =
    let ok = accepted i s e in
    let h = has_stopped R i s ok fit in
    let front = (own_here R i fit s s e e h.0 h.1).states in
    let n = cards R i fit s s e e in
    let own = (run (next R) (steps R i fit s s e e) [] (f R i fit s s e e)).state in
    let table = end_lengths R i s in
    let same = ap (λ (z : State C). z.table) front.whole in
    let kept = kept_count i.existing i.existing_counts (length i.existing) in
    let kept_in : kept ≤ i.settings.config.deck_size =
    omega (arith, kept_few i.existing i.existing_counts (length i.existing), ok.existing_few) in
    let few : n ≤ i.settings.config.deck_size =
    omega (arith, cards_are R i s e, cards_here R i fit s s e e, new_few i.settings.config kept kept_in) in
    subst (λ (z : State C). SameLengths (lists_of s) (lists_of z)) (sym front.whole)
    (own_lengths n R.span own s front.exact (omega (arith, few, ok.cards_long))
    (omega (arith, few, ok.counts_long)) (omega (arith, few, ok.queue_long)) (omega (
      arith,
      fit.span_is,
      ok.days_long,
    ))
    (omega (arith, fit.span_is, ok.costs_long)) (omega (arith, fit.span_is, ok.memorized_long))
    (subst (λ (z : ℕ). due_days z ≤ length s.due) fit.span_is ok.due_long)
    (ap (λ (z : Table). length z.keys) (sym same) ∙ table.0)
    (ap (λ (z : Table). length z.intervals) (sym same) ∙ table.1))

-- What a call that the entry accepts has, and what its tests look at.
--   Accepted, accepted       what an accepted call has
--   setting_ok               it has passed the test of its own setting
--   lists_and_span           its lists are long enough, and it has a day or more
--   same_tests, same_check   the tests do not look at the draws; nor at the retention but for whether it is finite
use mathlib.Core.Path.{◌≡◌, ap, ◌∙◌}
use mathlib.Core.Bool.{Bool, true, false, not, ◌&&◌, false≢true}
use Prim.Native.Nat.{ℕ, ◌≤◌, ◌<◌}
use native.Mathlib.Omega.{arith}
use borrow.Author.Tests.{eqb-true, leb-true, ltb-false}
use lib.Dec.{ltb}
use lib.ListN.{length}
use Rattle.float32.specs.Float32.{is_finite}
use Rattle.cards.specs.Cards.{card_at, is_kept, card_ok}
use Rattle.cards.specs.Config.{config_ok}
use Rattle.days.specs.Due.{due_days}
use lib.Ieee.{Float}
use Rattle.float32.specs.Numbers.{0ᶠ}
use Rattle.entry.specs.Entry.{Check, passed, inputs}
use Rattle.runs.specs.State.{State, with_draws}
use Rattle.entry.proofs.FirstWhere.{none_before}
use Rattle.entry.proofs.Tests.{passes, settings_passed, lengths_pass}
use Rattle.entry.specs.Entry.{most_cards, most_days, Inputs, first_where, not_ok, check_cards}
use Rattle.runs.specs.Checked.{lists_ok, checked_with, checked, lengths_of}
use Rattle.turns.proofs.Logic.{not-false}

pub record Accepted {C : Type 0} (i : Inputs) (s : State C) : Type 0 where
  pub parameters_long : 34 ≤ length i.parameters
  pub deck_some : 0 < i.settings.config.deck_size
  pub deck_most : i.settings.config.deck_size ≤ most_cards
  pub span_some : 0 < i.settings.config.learn_span
  pub span_most : i.settings.config.learn_span ≤ most_days
  pub config_passes : config_ok i.settings.config ≡ true
  pub retention_ok : is_finite i.settings.retention ≡ true
  pub lists_pass : lists_ok i s ≡ true
  pub existing_even : length i.existing ≡ length i.existing_counts
  pub table_even : length s.table.keys ≡ length s.table.intervals
  pub cards_even : length s.cards ≡ length s.counts
  pub cards_long : i.settings.config.deck_size ≤ length s.cards
  pub counts_long : i.settings.config.deck_size ≤ length s.counts
  pub queue_long : i.settings.config.deck_size ≤ length s.queue.rows
  pub days_long : i.settings.config.learn_span ≤ length s.days
  pub costs_long : i.settings.config.learn_span ≤ length s.costs
  pub memorized_long : i.settings.config.learn_span ≤ length s.memorized
  pub due_long : due_days i.settings.config.learn_span ≤ length s.due
  pub existing_few : length i.existing ≤ i.settings.config.deck_size
  pub cards_ok : (j : ℕ) → j < length i.existing → is_kept (card_at i.existing i.existing_counts j) ≡ true
      → card_ok (card_at i.existing i.existing_counts j) ≡ true

kept-ok : (a b : Bool) → (a && not b) ≡ false → a ≡ true → b ≡ true
kept-ok true b e k = not-false b e
kept-ok false b e k = absurd (false≢true k)

pub accepted : {C : Type 0} (i : Inputs) (s : State C) → checked i s ≡ passed → Accepted i s
unfolding check_cards
accepted i s e =
    let g = i.settings.config in
    let n = length i.existing in
    let p = settings_passed (is_finite i.settings.retention) (lists_ok i s) i.parameters g n _ e in
    let c = passes (ltb (first_where (not_ok i.existing i.existing_counts) n 0) n) _ _ p.next_passes in
    let l = lengths_pass g n (length i.existing_counts) (lengths_of s) p.lists_pass in
    let even = eqb-true (length s.cards) (length s.counts) l.1.1.0 in
    let cards_long = leb-true g.deck_size (length s.cards) l.1.1.1.0 in
    record {
      parameters_long = p.parameters_long;
      deck_some = p.deck_some;
      deck_most = p.deck_most;
      span_some = p.span_some;
      span_most = p.span_most;
      config_passes = p.config_passes;
      retention_ok = p.setting_ok;
      lists_pass = p.lists_pass;
      existing_even = eqb-true n (length i.existing_counts) l.0;
      table_even = eqb-true (length s.table.keys) (length s.table.intervals) l.1.0;
      cards_even = even;
      cards_long = cards_long;
      counts_long = omega (arith, even, cards_long);
      queue_long = leb-true g.deck_size (length s.queue.rows) l.1.1.1.1.0;
      days_long = leb-true g.learn_span (length s.days) l.1.1.1.1.1.0;
      costs_long = leb-true g.learn_span (length s.costs) l.1.1.1.1.1.1.0;
      due_long = leb-true (due_days g.learn_span) (length s.due) l.1.1.1.1.1.1.1.1.0;
      memorized_long = leb-true g.learn_span (length s.memorized) l.1.1.1.1.1.1.1.0;
      existing_few = p.existing_few;
      cards_ok = λ j l k. kept-ok (is_kept (card_at i.existing i.existing_counts j))
          (card_ok (card_at i.existing i.existing_counts j))
          (none_before (not_ok i.existing i.existing_counts) n 0 j
          (let h = ltb-false (first_where (not_ok i.existing i.existing_counts) n 0) n c.0 in omega
          (arith, h)) (omega arith) (omega arith)) k;
    }

-- a call that passes has passed the test of its own setting
pub setting_ok : {C : Type 0} (ok : Bool) (i : Inputs) (s : State C) → checked_with ok i s ≡ passed → ok ≡ true
setting_ok ok i s e =
    (settings_passed ok (lists_ok i s) i.parameters i.settings.config (length i.existing) _ e).setting_ok

-- a run that passes has lists that are long enough, and a day or more
pub lists_and_span : {C : Type 0} (i : Inputs) (s : State C) → checked i s ≡ passed
    → (lists_ok i s ≡ true) × (0 < i.settings.config.learn_span)
lists_and_span i s e = let ok = accepted i s e in (ok.lists_pass, ok.span_some)

module _ (i : Inputs) (s : State Float) where
  -- the entry's tests do not look at the draws
  pub same_tests : (ok : Bool) {c : Check}
      → c ≡ checked_with ok i (with_draws 0 s) → c ≡ checked_with ok i s
  same_tests ok e = e

  -- those of a run
  pub same_check : (ok : Bool) {c : Check} → ok ≡ is_finite i.settings.retention
      → c ≡ checked_with ok i (with_draws 0 s) → c ≡ checked i s
  same_check ok f e = same_tests ok e ∙ ap (λ (b : Bool). checked_with b i s) f

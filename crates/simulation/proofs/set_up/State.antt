-- What the calls of set-up leave, put together over plain lists: the state of `set_up`.
use mathlib.Core.Path.{◌≡◌, ◌∙◌}
use mathlib.Core.List.{List}
use Prim.Native.Nat.{ℕ}
use lib.ListN.{length, replicate}
use lib.Ieee.{Float, of_bits, binary32}
use Rattle.cards.specs.declared.configuration.SimulatorConfig.{SimulatorConfig}
use Rattle.days.specs.Counts.{day_row}
use Rattle.days.specs.Due.{due_days}
use Rattle.runs.specs.State.{State, lent, state}
use Rattle.entry.specs.Entry.{Inputs, settings, inputs}
use Rattle.runs.specs.SetUp.{deck, add_existing_cards, introduced_before, add_new_cards, new_card_count, empty_deck, add_all_cards, set_up, filled_with}

module _ (g : SimulatorConfig) (w : List Float) (retention : Float) (seed : ℕ) (es : List (List Float))
    (ns : List (List ℕ))
    (cards : List (List Float)) (counts rows days : List (List ℕ)) (costs memorized : List Float) (due : List ℕ)
    (keys : List (List ℕ)) (intervals : List Float)
    {due₁ : List ℕ} (e₁ : due₁ ≡ filled_with 0 (due_days g.learn_span) due)
    {c₂ : List (List Float)} {n₂ r₂ : List (List ℕ)} {due₂ : List ℕ} {kept : ℕ}
    (e₂ : deck c₂ n₂ r₂ due₂ kept
    ≡ add_existing_cards g.learn_span es ns (length es) (deck cards counts rows due₁ 0))
    {more : ℕ} (e₃ : more ≡ new_card_count g kept)
    {c₄ : List (List Float)} {n₄ r₄ : List (List ℕ)} {due₄ : List ℕ} {len : ℕ}
    (e₄ : deck c₄ n₄ r₄ due₄ len ≡ add_new_cards retention g.learn_limit more (deck c₂ n₂ r₂ due₂ kept))
    {k : ℕ} (ek : k ≡ introduced_before es ns (length es)) {days' : List (List ℕ)}
    (e₅ : days' ≡ filled_with (day_row 0 0 0 k) g.learn_span days)
    {costs' : List Float} (e₆ : costs' ≡ filled_with (of_bits binary32 0) g.learn_span costs)
    {memorized' : List Float} (e₇ : memorized' ≡ filled_with (of_bits binary32 0) g.learn_span memorized)
    {intervals' : List Float} (e₈ : intervals' ≡ replicate (length intervals) (of_bits binary32 0))
    {keys' : List (List ℕ)} (e₉ : keys' ≡ keys) where
  abbrev i : Inputs
  i = inputs (settings g retention seed) w es ns

  abbrev s : State Float
  s = state (lent cards counts rows days costs memorized due keys intervals) 0 seed

  dealt_is : deck c₄ n₄ r₄ due₄ len ≡ add_all_cards i (empty_deck i s)
  unfolding add_all_cards empty_deck
  dealt_is =
      let a : deck c₂ n₂ r₂ due₂ kept
      ≡ add_existing_cards g.learn_span es ns (length es)
      (deck cards counts rows (filled_with 0 (due_days g.learn_span) due) 0) = e₂ ∙ rw e₁ in
      e₄ ∙ rw (e₃, ← a)

  pub set_up_is : state (lent c₄ n₄ r₄ days' costs' memorized' due₄ keys' intervals') len seed
      ≡ set_up (of_bits binary32 0) i s
  unfolding set_up
  set_up_is = rw (← dealt_is, e₅, ek, e₆, e₇, e₈, e₉)

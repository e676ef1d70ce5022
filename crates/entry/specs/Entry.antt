-- The entry's tests, in their order (docs/RULES.md, E1 to E9). Definitions only.
--   most_cards, most_days              the largest deck and the longest span
--   Inputs, settings, inputs, with_parameters   what a run is given besides the lists that it writes
--   Check, passed                     what a test says: it is passed, or why not
--   first_where p n i                 the first number that passes a test
--   is_bad k                          whether refusal 5 turns a card away
--   first_refusal table next          of a table of tests and refusals, the first that fails
--   parameter_tests w, check_parameters w next   refusal 1
--   length_tests g n m x              the tests of refusal 6
--   first_failing i tests             the number of the first that fails
--   short_list g n m x, lengths_ok g n m x   which list refusal 6 is about, and that it is about none
--   check_cards cards counts n        refusal 5
--   setting_tests ok lists g n        the tests between those of the parameters and that of the cards
--   check_settings ok lists w g n next   all tests before that of the cards
--   check_entry ok i x                all tests, in their order, by the lists' lengths
use Rattle.std.specs.Prelude.{ℕ, zero, suc, ◌+◌, Bool, true, false, not, ◌&&◌, ◌||◌, cond, List, [], ◌∷◌, eqb, leb, ltb, length, get_or, Float, Result, Ok, Err}
use Rattle.std.specs.Float.{nan}
use Rattle.float32.specs.Float32.{is_finite}
use Rattle.cards.specs.declared.configuration.SimulatorConfig.{SimulatorConfig}
use Rattle.cards.specs.declared.card.Card.{Card}
use Rattle.cards.specs.Cards.{card_at, is_kept, card_ok}
use Rattle.cards.specs.Config.{config_ok}
use Rattle.days.specs.Due.{due_days}
use Rattle.entry.specs.declared.Refusal.{Refusal}
use Rattle.entry.specs.declared.Refusal.TheVariants as refusal
use Rattle.entry.specs.declared.lists.Lengths.{Lengths}
use Rattle.entry.specs.declared.lists.Settings.{Settings}

-- the largest deck, and the longest span
abbrev pub most_cards : ℕ
most_cards = 65536

abbrev pub most_days : ℕ
most_days = 36500

-- What a run is given besides the lists that it writes
pub record Inputs : Type 0 where
  pub settings : Settings
  pub parameters : List Float
  pub existing : List (List Float)
  pub existing_counts : List (List ℕ)

abbrev pub settings : SimulatorConfig → Float → ℕ → Settings
settings config retention seed = record { config = config; retention = retention; seed = seed }

abbrev pub inputs : Settings → List Float → List (List Float) → List (List ℕ) → Inputs
inputs set w existing counts = record {
  settings = set;
  parameters = w;
  existing = existing;
  existing_counts = counts;
}

-- the same inputs with other parameters
abbrev pub with_parameters : List Float → Inputs → Inputs
with_parameters w i = inputs i.settings w i.existing i.existing_counts

-- what the entry's tests say: all are passed, or the first that is not
abbrev pub Check : Type 0
Check = Result (Unit {0}) Refusal

abbrev pub passed : Check
passed = Ok tt

-- the first of the n numbers from i on that passes the test p, or i + n
unfoldable pub first_where : (ℕ → Bool) → ℕ → ℕ → ℕ
first_where p zero i = i
first_where p (suc n) i = let rest = first_where p n (i + 1) in cond (p i) i rest

-- parameter i is not finite
abbrev pub not_finite : List Float → ℕ → Bool
not_finite w i = not (is_finite (get_or w i nan))

-- a card is kept and not as refusal 5 asks; so is existing card i
abbrev pub is_bad : Card → Bool
is_bad k = is_kept k && not (card_ok k)

abbrev pub not_ok : List (List Float) → List (List ℕ) → ℕ → Bool
not_ok cards counts i = is_bad (card_at cards counts i)

abbrev pub fail_if : Bool → Refusal → Check → Check
fail_if true r next = Err r
fail_if false r next = next

-- of a table of tests in their order, whether each fails and its refusal, the first that fails; where none does, what
-- follows
abbrev pub first_refusal : List (Bool × Refusal) → Check → Check
first_refusal [] next = next
first_refusal (t ∷ ts) next = fail_if t.0 t.1 (first_refusal ts next)

-- 1: too few parameters, or one that is not finite
abbrev pub parameter_tests : List Float → List (Bool × Refusal)
parameter_tests w =
    let i = first_where (not_finite w) 34 0 in
    (ltb (length w) 34, refusal.Parameters 34)
    ∷ (ltb i 34, refusal.Parameters i)
    ∷ []

unfoldable pub check_parameters : List Float → Check → Check
check_parameters w next = first_refusal (parameter_tests w) next

-- the tests of 6 in their order, whether each is passed: lists that belong together are as long as each other, and
-- written lists are long enough; `n` and `m` are the lengths of the existing cards and of their counts
abbrev pub length_tests : SimulatorConfig → ℕ → ℕ → Lengths → List Bool
length_tests g n m x =
    let deck = g.deck_size in
    let span = g.learn_span in
    eqb n m
    ∷ eqb x.keys x.intervals
    ∷ eqb x.cards x.counts
    ∷ leb deck x.cards
    ∷ leb deck x.queue_rows
    ∷ leb span x.days
    ∷ leb span x.costs
    ∷ leb span x.memorized
    ∷ leb (due_days span) x.due
    ∷ []

-- the number of the first test that is not passed, counted from i on; 0 where all are
abbrev pub first_failing : ℕ → List Bool → ℕ
first_failing i [] = 0
first_failing i (b ∷ bs) = let rest = first_failing (suc i) bs in cond b rest i

-- which list 6 is about, by the number of its test
unfoldable pub short_list : SimulatorConfig → ℕ → ℕ → Lengths → ℕ
short_list g n m x = first_failing 1 (length_tests g n m x)

-- 6 is about none
unfoldable pub lengths_ok : SimulatorConfig → ℕ → ℕ → Lengths → Bool
lengths_ok g n m x = eqb (short_list g n m x) 0

-- 5: each kept one of the first n existing cards
unfoldable pub check_cards : List (List Float) → List (List ℕ) → ℕ → Check
check_cards cards counts n =
    let i = first_where (not_ok cards counts) n 0 in
    fail_if (ltb i n) (refusal.ExistingCard i) passed

-- 2, 3, 4, 6 and 2 again: the tests between those of the parameters and that of the cards, of which n exist; `ok` is the
-- test of what a run and a search each have of their own: a retention, rounds; `lists` is that of 6
abbrev pub setting_tests : Bool → Bool → SimulatorConfig → ℕ → List (Bool × Refusal)
setting_tests ok lists g n =
    (eqb g.deck_size 0 || ltb most_cards g.deck_size, refusal.DeckSize)
    ∷ (eqb g.learn_span 0 || ltb most_days g.learn_span, refusal.LearnSpan)
    ∷ (not (config_ok g && ok), refusal.Config)
    ∷ (not lists, refusal.Lists)
    ∷ (ltb g.deck_size n, refusal.TooManyCards)
    ∷ []

-- all tests before that of the cards, and then `next`
unfoldable pub check_settings : Bool → Bool → List Float → SimulatorConfig → ℕ → Check → Check
check_settings ok lists w g n next = check_parameters w (first_refusal (setting_tests ok lists g n) next)

-- all tests
abbrev pub check_entry : Bool → Inputs → Lengths → Check
check_entry ok i x =
    let n = length i.existing in
    check_settings ok (lengths_ok i.settings.config n (length i.existing_counts) x) i.parameters i.settings.config n
    (check_cards i.existing i.existing_counts n)

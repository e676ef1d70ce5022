-- The tests before that of the cards pass on what follows them, or fail whatever follows.
--   PassesOn f        what f does with the tests that follow; first_on has it of any list of tests
--   goes_on, stays    what passes with nothing behind it, and what fails
--   parameters_pass, parameters_fail, settings_pass, settings_fail   so for these tests
--   raised            a refusal that `?` passes on is the same
--   passes            one test that passes
--   SettingsOk, settings_passed   what tests that pass say
--   lengths_pass      where refusal 6 is about no list, each of its tests passes
use mathlib.Core.Path.{◌≡◌, refl, sym, ap, ◌∙◌, subst}
use mathlib.Core.Bool.{Bool, true, false, not}
use mathlib.Core.List.{List, [], ◌∷◌}
use Prim.Native.Nat.{ℕ, suc, ◌≤◌, ◌<◌}
use native.Mathlib.Omega.{arith}
use borrow.Author.Tests.{eqb-true, eqb-false, ltb-false, lt-ltb, le-ltb}
use lib.Dec.{eqb, ltb}
use lib.ListN.{length, take}
use lib.Ieee.{Float}
use Rattle.cards.specs.declared.configuration.SimulatorConfig.{SimulatorConfig}
use Rattle.cards.specs.Config.{config_ok}
use Rattle.entry.specs.declared.Refusal.{Refusal}
use Rattle.entry.specs.declared.Refusal.TheVariants as refusal
use Rattle.std.specs.Prelude.{Ok, Err, IsErrAnd, Option, Some, None, MatchOption}
use Rattle.std.specs.List.{AllWithin, HoldsAt}
use Rattle.std.specs.Float.{nan}
use Rattle.std.proofs.lemmas.List.{get_or-take, length-take}
use Rattle.float32.specs.Float32.{is_finite}
use Rattle.entry.proofs.FirstWhere.{first_found, first_none, Found}
use Rattle.entry.specs.declared.lists.Lengths.{Lengths}
use Rattle.entry.specs.Entry.{Check, passed, not_finite, fail_if, first_refusal, parameter_tests}
use Rattle.entry.specs.Entry.{check_parameters, length_tests, first_failing, short_list, lengths_ok, check_cards, not_ok}
use Rattle.entry.specs.Entry.{most_cards, most_days, setting_tests, check_settings}
use Rattle.turns.specs.Turns.{All}
use Rattle.turns.proofs.Logic.{not-one, both, neither, not-false}

-- what a test, or a chain of tests, does with the tests that follow
data PassesOn (f : Check → Check) : Type 0 where
  passing : ((c : Check) → f c ≡ c) → PassesOn f
  failing : (r : Refusal) → ((c : Check) → f c ≡ Err r) → PassesOn f

fail_on : (b : Bool) (r : Refusal) → PassesOn (fail_if b r)
fail_on true r = failing r (λ c. refl)
fail_on false r = passing (λ c. refl)

infixr 20 ◌then◌
◌then◌ : {f g : Check → Check} → PassesOn f → PassesOn g → PassesOn (λ c. f (g c))
(passing p) then (passing q) = passing (λ c. p _ ∙ q c)
(passing p) then (failing r q) = failing r (λ c. p _ ∙ q c)
(failing r p) then q = failing r (λ c. p _)

first_on : (ts : List (Bool × Refusal)) → PassesOn (first_refusal ts)
first_on [] = passing (λ c. refl)
first_on (t ∷ ts) = fail_on t.0 t.1 then first_on ts

not_passed : (r : Refusal) → passed ≡ Err r → ⊥
not_passed r e = not-one cc

same_refusal : (r r' : Refusal) → (let x : Check = Err r in x ≡ Err r') → r ≡ r'
same_refusal r r' e = cc

goes_on : {f : Check → Check} → PassesOn f → f passed ≡ passed → (next : Check) → f next ≡ next
goes_on (passing p) e next = p next
goes_on (failing r p) e next = absurd (not_passed r (sym e ∙ p passed))

stays : {f : Check → Check} → PassesOn f → (r : Refusal) → f passed ≡ Err r → (next : Check) → f next ≡ Err r
stays (passing p) r e next = absurd (not_passed r (sym (p passed) ∙ e))
stays (failing r' p) r e next = p next ∙ ap (λ (x : Refusal). Err x) (same_refusal r' r (sym (p passed) ∙ e))

parameters_on : (w : List Float) → PassesOn (check_parameters w)
unfolding check_parameters
parameters_on w = first_on (parameter_tests w)

-- a refusal that `?` passes on is the same
pub raised : (r : Check) (e : Refusal) → IsErrAnd r (λ x. x ≡ e) → r ≡ Err e
raised (Ok x) e h = absurd h
raised (Err x) e h = ap (λ (z : Refusal). Err z) h

pub passes : (b : Bool) (r : Refusal) (next : Check) → fail_if b r next ≡ passed
    → (b ≡ false) × (next ≡ passed)
passes true r next e = absurd (not-one cc)
passes false r next e = (refl, e)

-- tests that are passed, and what follows them
all_passed : (ts : List (Bool × Refusal)) (next : Check) → first_refusal ts next ≡ passed
    → All (λ t. t.0 ≡ false) ts × (next ≡ passed)
all_passed [] next e = (tt, e)
all_passed (t ∷ ts) next e =
    let p = passes t.0 t.1 (first_refusal ts next) e in
    let q = all_passed ts next p.1 in
    ((p.0, q.0), q.1)

module _ (ok lists : Bool) (w : List Float) (g : SimulatorConfig) (n : ℕ) where
  settings_on : PassesOn (check_settings ok lists w g n)
  unfolding check_settings
  settings_on = parameters_on w then first_on (setting_tests ok lists g n)

  pub settings_pass : check_settings ok lists w g n passed ≡ passed → (next : Check)
      → check_settings ok lists w g n next ≡ next
  settings_pass e next = goes_on settings_on e next

  pub settings_fail : (r : Refusal) → check_settings ok lists w g n passed ≡ Err r → (next : Check)
      → check_settings ok lists w g n next ≡ Err r
  settings_fail r e next = stays settings_on r e next

  pub parameters_fail : (r : Refusal) → check_parameters w passed ≡ Err r → check_settings ok lists w g n passed ≡ Err r
  unfolding check_settings
  parameters_fail r e = stays (parameters_on w) r e _

  -- where the parameters pass, the tests behind them decide
  pub parameters_pass : check_parameters w passed ≡ passed
      → check_settings ok lists w g n passed ≡ first_refusal (setting_tests ok lists g n) passed
  unfolding check_settings
  parameters_pass e = goes_on (parameters_on w) e _

  -- what the tests ask, one after the other, and that those which follow pass
  pub record SettingsOk (next : Check) : Type 0 where
    pub parameters_long : 34 ≤ length w
    pub deck_some : 0 < g.deck_size
    pub deck_most : g.deck_size ≤ most_cards
    pub span_some : 0 < g.learn_span
    pub span_most : g.learn_span ≤ most_days
    pub config_passes : config_ok g ≡ true
    pub setting_ok : ok ≡ true
    pub lists_pass : lists ≡ true
    pub existing_few : n ≤ g.deck_size
    pub next_passes : next ≡ passed

  pub settings_passed : (next : Check) → check_settings ok lists w g n next ≡ passed → SettingsOk next
  unfolding check_settings check_parameters
  settings_passed next e =
      let p = all_passed (parameter_tests w) (first_refusal (setting_tests ok lists g n) next) e in
      let s = all_passed (setting_tests ok lists g n) next p.1 in
      let deck = neither (eqb g.deck_size 0) (ltb most_cards g.deck_size) s.0.0 in
      let span = neither (eqb g.learn_span 0) (ltb most_days g.learn_span) s.0.1.0 in
      let config = both (config_ok g) ok (not-false _ s.0.1.1.0) in
      record {
        parameters_long = ltb-false (length w) 34 p.0.0;
        deck_some = positive g.deck_size deck.0;
        deck_most = ltb-false most_cards g.deck_size deck.1;
        span_some = positive g.learn_span span.0;
        span_most = ltb-false most_days g.learn_span span.1;
        config_passes = config.0;
        setting_ok = config.1;
        lists_pass = not-false lists s.0.1.1.1.0;
        existing_few = ltb-false g.deck_size n s.0.1.1.1.1.0;
        next_passes = s.1;
      }
    where
      positive : (m : ℕ) → eqb m 0 ≡ false → 0 < m
      positive m h = omega (arith, eqb-false m 0 h)

-- ---- what the searches of the parameters and of the cards say
pub parameters_bad : (w : List Float) (i : ℕ) → 34 ≤ length w → Found (not_finite w) 34 (Some i)
    → check_parameters w passed ≡ Err (refusal.Parameters i)
unfolding check_parameters
parameters_bad w i l f =
    let e = first_found (not_finite w) 34 i f.1 f.2 (λ k h. f.3 k (omega arith) h) in
    rw (le-ltb (length w) 34 l, e, lt-ltb i 34 f.1)

pub parameters_ok : (w : List Float) → 34 ≤ length w → Found (not_finite w) 34 None → check_parameters w passed ≡ passed
unfolding check_parameters
parameters_ok w l f =
    let e = first_none (not_finite w) 34 (λ k h. f k (omega arith) h) in
    rw (le-ltb (length w) 34 l, e)

-- a search of the first n parameters themselves
pub finite_in : (w : List Float) (n : ℕ) (r : Option ℕ) → n ≤ length w
    → MatchOption r (AllWithin (λ x. not (is_finite x) ≡ false) (take n w) 0 (length (take n w)))
    (λ i. (i < length (take n w)) × HoldsAt (λ x. not (is_finite x) ≡ true) (take n w) i
    × AllWithin (λ x. not (is_finite x) ≡ false) (take n w) 0 i)
    → Found (not_finite w) n r
finite_in w n None l h = λ k _ u.
    let e : length (take n w) ≡ n = omega (arith, length-take n w) in
    subst (λ (x : Float). not (is_finite x) ≡ false) (get_or-take n w k nan u) (h k nan (omega arith) (omega arith))
finite_in w n (Some i) l h =
    let e : length (take n w) ≡ n = omega (arith, length-take n w) in
    let u : i < n = omega (arith, h.0) in (
      omega arith,
      u,
      subst (λ (x : Float). not (is_finite x) ≡ true) (get_or-take n w i nan u) (h.1 nan),
      λ k _ v. subst (λ (x : Float). not (is_finite x) ≡ false) (get_or-take n w k nan (omega arith))
          (h.2 k nan (omega arith) v),
    )

pub cards_bad : (es : List (List Float)) (ns : List (List ℕ)) (n i : ℕ) → Found (not_ok es ns) n (Some i)
    → check_cards es ns n ≡ Err (refusal.ExistingCard i)
unfolding check_cards
cards_bad es ns n i f =
    let e = first_found (not_ok es ns) n i f.1 f.2 (λ k h. f.3 k (omega arith) h) in
    rw (e, lt-ltb i n f.1)

pub cards_ok : (es : List (List Float)) (ns : List (List ℕ)) (n : ℕ) → Found (not_ok es ns) n None
    → check_cards es ns n ≡ passed
unfolding check_cards
cards_ok es ns n f =
    let e = first_none (not_ok es ns) n (λ k h. f k (omega arith) h) in
    rw (e, le-ltb n n (omega arith))

-- none fails: each passes
all_pass : (i : ℕ) (bs : List Bool) → first_failing (suc i) bs ≡ 0 → All (λ b. b ≡ true) bs
all_pass i [] e = tt
all_pass i (true ∷ bs) e = (refl, all_pass (suc i) bs e)
all_pass i (false ∷ bs) e = absurd (omega (arith, e))

pub lengths_pass : (g : SimulatorConfig) (n m : ℕ) (x : Lengths) → lengths_ok g n m x ≡ true
    → All (λ b. b ≡ true) (length_tests g n m x)
unfolding lengths_ok short_list
lengths_pass g n m x e = all_pass 0 (length_tests g n m x) (eqb-true _ 0 e)

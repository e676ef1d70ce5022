-- WHAT A CALL OVER RECORDS COMES TO: from what its parts say of numbers and rows to its contract.
--   good, tests                the records that pass from the first on, and what the tests say
--   rows_in, counts_in         the room after the copy
--   tests_are                  the tests are the core's, with the room in refusal 6
--   room_enough                where there is room they are the core's own
--   room_told                  what the test of refusal 6 says of the room
--   copied_few, all_copied, none_copied   what is copied
--   when_passed, when_failed   the contract
use mathlib.Core.Path.{◌≡◌, refl, sym, ap, ◌∙◌, subst}
use mathlib.Core.Bool.{Bool, true, false, ◌&&◌}
use mathlib.Core.List.{List, [], ◌∷◌, ◌++◌, map, append_assoc}
use Prim.Native.Nat.{ℕ, zero, suc, ◌≤◌, ◌<◌}
use native.Mathlib.Omega.{arith}
use borrow.Author.Tests.{leb-true}
use lib.Dec.{ltb, leb}
use lib.Ieee.{Float}
use lib.ListN.{length, get_or, take, drop, length-map, get_or-map}
use lib.Seq.{take-suc, take-length, take_at, drop-cons, set_at, length-take-le}
use Rattle.turns.proofs.Logic.{both, not-one}
use Rattle.float32.specs.Float32.{is_finite}
use Rattle.elementary.specs.Filled.{filled}
use Rattle.cards.specs.declared.card.Card.{Card}
use Rattle.cards.specs.Cards.{card_at, floats_of, counts_of}
use Rattle.entry.specs.declared.Refusal.{Refusal}
use Rattle.entry.specs.declared.Refusal.TheVariants as refusal
use Rattle.std.specs.Prelude.{Ok, Err, OnOk}
use Rattle.runs.specs.declared.Progress.{Progress}
use Rattle.runs.specs.State.{State, Lent, state, lists_of}
use Rattle.entry.specs.declared.lists.Settings.{Settings}
use Rattle.entry.specs.Entry.{Check, passed, Inputs, inputs, first_where, not_ok, fail_if, lengths_ok}
use Rattle.entry.specs.Entry.{check_settings, check_cards}
use Rattle.runs.specs.Checked.{lengths_of, lists_ok, checked}
use Rattle.runs.specs.Simulate.{Answer, finished, refused, IsResult, progress, rules_for, after_check, simulated_by}
use Rattle.runs.specs.Demands.{RunContract}
use Rattle.entry.proofs.Tests.{SettingsOk, settings_passed}
use Rattle.card_records.specs.Records.{blank, floats_at, counts_at, float_rows, count_rows, record_bad, has_room}
use Rattle.card_records.specs.Records.{checked_records, copied, laid, record_inputs, RecordsContract}
use Rattle.card_records.proofs.Laws.{fill_none, first_alike}

-- ---- the rows of the first records, written over a list
module _ {A : Type 0} (f : Card → A) (cs : List Card) where
  map_snoc : (xs : List Card) (x : Card) → map f (xs ++ (x ∷ [])) ≡ map f xs ++ (f x ∷ [])
  map_snoc [] x = refl
  map_snoc (y ∷ ys) x = ap (λ (l : List A). f y ∷ l) (map_snoc ys x)

  filled_is : (l : List A) (i : ℕ) → i ≤ length cs → length cs ≤ length l
      → filled (λ (j : ℕ). f (get_or cs j blank)) i l ≡ map f (take i cs) ++ drop i l
  unfolding filled
  filled_is l zero h room = refl
  filled_is l (suc i) h room =
      let x : Card = get_or cs i blank in
      let p : List A = map f (take i cs) in
      let lp : length p ≡ i = length-map (take i cs) f ∙ length-take-le i cs (omega arith) in
      rw (filled_is l i (omega arith) room, drop-cons l i (f x) (omega arith))
      (set_at p (get_or l i (f x)) (drop (suc i) l) (f x) i lp
      ∙ sym (append_assoc p (f x ∷ []) (drop (suc i) l))
      ∙ ap (λ (q : List A). q ++ drop (suc i) l)
      (sym (ap (map f) (take-suc cs i blank (omega arith)) ∙ map_snoc (take i cs) x)))

  pub all-filled : (l : List A) → length cs ≤ length l
      → filled (λ (j : ℕ). f (get_or cs j blank)) (length cs) l ≡ map f cs ++ drop (length (map f cs)) l
  all-filled l room = filled_is l (length cs) (omega arith) room
      ∙ rw (take-length, length-map)

  pub rows_taken : (l : List A) → length cs ≤ length l
      → take (length cs) (filled (λ (j : ℕ). f (get_or cs j blank)) (length cs) l) ≡ map f cs
  rows_taken l room = ap (take (length cs)) (all-filled l room)
      ∙ take_at (map f cs) (drop (length (map f cs)) l) (length cs) (length-map cs f)

-- ---- a record is the card of its rows
row_is : (cs : List Card) (j : ℕ) → card_at (float_rows cs) (count_rows cs) j ≡ get_or cs j blank
unfolding card_at blank
row_is cs j = rw (get_or-map floats_of cs j blank, get_or-map counts_of cs j blank)

and-true : (b : Bool) → (b && true) ≡ b
and-true true = refl
and-true false = refl

-- where there is room, each call is refused as the core refuses it: the same test, number and second number
pub room_enough : (i : Inputs) (s : State Float) (floats counts : ℕ)
    → has_room (length i.existing) floats counts ≡ true → checked_records i s floats counts ≡ checked i s
unfolding checked_records
room_enough i s floats counts e = rw (e, and-true (lists_ok i s))

-- what the test of refusal 6 says of the room
pub room_told : (long : Bool) (n floats counts : ℕ) → (long && has_room n floats counts) ≡ true
    → (n ≤ floats) × (n ≤ counts)
room_told long n floats counts e =
    let h = (both long (has_room n floats counts) e).1 in
    let k = both (leb n floats) (leb n counts) h in
    (leb-true _ _ k.0, leb-true _ _ k.1)

-- ---- of the records the first n are copied: all of them, or none where a test fails
pub copied_few : (t : Check) (cs : List Card) (floats counts : ℕ)
    → OnOk t ((length cs < 4294967296) × (length cs ≤ floats) × (length cs ≤ counts))
    → (n : ℕ) → n ≡ copied t (length cs) → length (take n cs) < 4294967296
copied_few (Ok x) cs floats counts h n e = rw (e, take-length) h.0
copied_few (Err r) cs floats counts h n e = rw e (omega arith)

module _ {A : Type 0} (F : List Card → ℕ → A) (cs : List Card) (n : ℕ) (l : List A) where
  pub all_copied : n ≡ length cs → filled (F (take n cs)) (length (take n cs)) l ≡ filled (F cs) (length cs) l
  all_copied e = rw (e, take-length)

  pub none_copied : n ≡ 0 → filled (F (take n cs)) (length (take n cs)) l ≡ l
  none_copied e = rw e (fill_none (F []) l)

not_finished : (x : Refusal) (p q : Progress) → refused x p ≡ finished q → ⊥
not_finished x p q e = not-one cc

-- ---- a call
module _ (w : List Float) (cs : List Card) (set : Settings) (l : Lent Float) (room : List (List Float))
    (room-counts : List (List ℕ)) where
  abbrev pub start : State Float
  start = state l 0 set.seed

  abbrev pub given : Inputs
  given = record_inputs w cs set

  abbrev pub good : ℕ
  good = first_where (record_bad cs) (length cs) 0

  abbrev pub long : Bool
  long = lengths_ok set.config (length cs) (length cs) (lengths_of start)

  abbrev pub tests : Check
  tests = check_settings (is_finite set.retention) (long && has_room (length cs) (length room) (length room-counts)) w
      set.config (length cs) (fail_if (ltb good (length cs)) (refusal.ExistingCard good) passed)

  abbrev pub rows_in : List (List Float)
  rows_in = filled (floats_at cs) (length cs) room

  abbrev pub counts_in : List (List ℕ)
  counts_in = filled (counts_at cs) (length cs) room-counts

  tests_are : tests ≡ checked_records given start (length room) (length room-counts)
  unfolding checked_records check_cards
  tests_are = rw (
    length-map cs floats_of,
    length-map cs counts_of,
    first_alike (not_ok (float_rows cs) (count_rows cs))
        (record_bad cs) (λ j. rw (row_is cs j)) (length cs) 0,
  )

  module _ (e : tests ≡ passed) where
    settings : SettingsOk (is_finite set.retention) (long && has_room (length cs) (length room) (length room-counts)) w
        set.config (length cs) (fail_if (ltb good (length cs)) (refusal.ExistingCard good) passed)
    settings = settings_passed (is_finite set.retention) (long && has_room (length cs) (length room) (length room-counts))
        w set.config (length cs) (fail_if (ltb good (length cs)) (refusal.ExistingCard good) passed) e

    room_long : (length cs ≤ length room) × (length cs ≤ length room-counts)
    room_long = room_told long (length cs) (length room) (length room-counts) settings.lists_pass

    is_passed : checked_records given start (length room) (length room-counts) ≡ passed
    is_passed = sym tests_are ∙ e

    -- the core's own tests pass too
    core_passes : checked given start ≡ passed
    unfolding checked_records
    core_passes =
        let n = length (float_rows cs) in
        let lists = lists_ok given start in
        let fits = has_room n (length room) (length room-counts) in
        let cards = check_cards (float_rows cs) (count_rows cs) n in
        let t = (settings_passed (is_finite set.retention) (lists && fits) w set.config n cards is_passed).lists_pass in
        sym (ap (λ (b : Bool). check_settings (is_finite set.retention) b w set.config n cards)
        (t ∙ sym (both lists fits t).0))
        ∙ is_passed

    pub when_passed : {r : Answer} {l' : Lent Float}
        → RunContract (inputs set w (take (length cs) rows_in)
        (take (length cs) counts_in)) start r l'
        → RecordsContract given start room room-counts r l' rows_in counts_in
    unfolding simulated_by
    when_passed {r} {l'} said =
        let h = room_long in
        let rows : take (length cs) rows_in ≡ float_rows cs = rows_taken floats_of cs room h.0 in
        let counts : take (length cs) counts_in ≡ count_rows cs = rows_taken counts_of cs room-counts h.1 in
        let run : RunContract given start r l' =
        subst (λ (z : List (List Float)). RunContract (inputs set w z (count_rows cs)) start
        r l') rows
        (subst (λ (z : List (List ℕ)). RunContract (inputs set w (take (length cs) rows_in)
        z) start r l') counts said) in
        record {
          result = subst (λ (c : Check). IsResult (after_check (rules_for given) given c start) r l')
              (core_passes ∙ sym is_passed) run.result;
          demand_three = run.demand_three;
          floats_left = all-filled floats_of cs room h.0
              ∙ sym (ap (λ (c : Check). laid c (float_rows cs) room) is_passed);
          counts_left = all-filled counts_of cs room-counts h.1
              ∙ sym (ap (λ (c : Check). laid c (count_rows cs) room-counts) is_passed);
        }

  pub when_failed : (x : Refusal) → tests ≡ Err x
      → RecordsContract given start room room-counts (refused x (progress 0 0 0 set.seed)) (lists_of start) room
      room-counts
  unfolding simulated_by
  when_failed x e =
      let q : checked_records given start (length room) (length room-counts) ≡ Err x = sym tests_are ∙ e in
      record {
        result = subst (λ (c : Check). IsResult (after_check (rules_for given) given c start)
            (refused x (progress 0 0 0 set.seed)) (lists_of start)) (sym q)
            (record { answer = refl; numbers = refl; lists = refl });
        demand_three = λ p ok. absurd (not_finished x (progress 0 0 0 set.seed) p ok);
        floats_left = sym (ap (λ (c : Check). laid c (float_rows cs) room) q);
        counts_left = sym (ap (λ (c : Check). laid c (count_rows cs) room-counts) q);
      }

-- The loops of set-up follow its definitions, turn by turn, over plain lists.
--   filled_is, filled_all      a list whose first places are filled
--   filled_next                one place more
--   joined_none, joined_then   nothing joins, and what joins after others have
--   deck_is                    a deck is that of its four lists
--   dropped_is, kept_joins     an existing card that is not kept, and one that is
--   retain_next, create_next   one more existing card, and one more new card
--   known_next, known_le       the count of cards with a last date, one card on, and its bound
use mathlib.Core.Path.{◌≡◌, refl, sym, ap, ◌∙◌}
use mathlib.Core.Bool.{Bool, true, false, not, ◌&&◌}
use mathlib.Core.List.{List, [], ◌∷◌, ◌++◌}
use Prim.Native.Nat.{ℕ, zero, suc, min, ◌+◌, ◌/◌, ◌≤◌, ◌<◌}
use Rattle.std.specs.Prelude.{Option, Some, None, SomeIff, unwrap_or}
use native.Mathlib.Numerals.{add-one}
use native.Mathlib.Omega.{arith}
use native.Mathlib.Nat.{div-zero}
use lib.ListN.{length, set, replicate, drop}
use lib.Ieee.{Float}
use mir.Val.{bool_byte}
use Rattle.turns.specs.Sums.{bit}
use Rattle.turns.proofs.Sums.{bit_le}
use Rattle.cards.specs.declared.card.Card.{Card}
use Rattle.cards.specs.Day.{day_of, is_new}
use Rattle.cards.specs.Cards.{card_at, is_kept}
use Rattle.runs.specs.SetUp.{Deck, deck, new_card, add_card, add_kept_card, add_existing_card, add_existing_cards, introduced_before, add_new_cards, filled_with}
use Rattle.days.specs.Due.{add_due}
use Rattle.queue.specs.Queue.{Queue}
use Rattle.simulation.specs.Steps.{deck_of, Joined}
use Rattle.entry.specs.declared.lists.Lists.{Lists}
use Rattle.entry.proofs.Lent.{same_lists, same_then}

-- ---- a list whose first places are filled
filled_none : {A : Type 0} (x : A) (n : ℕ) → filled_with x n [] ≡ []
unfolding filled_with
filled_none x zero = refl
filled_none x (suc n) = rw (filled_none x n)

filled_more : {A : Type 0} (x a : A) (n : ℕ) (l : List A) → filled_with x (suc n) (a ∷ l) ≡ x ∷ filled_with x n l
unfolding filled_with
filled_more x a zero l = refl
filled_more x a (suc n) l = ap (λ (z : List _). set z (suc n) x) (filled_more x a n l)

pub filled_is : {A : Type 0} (x : A) (n m : ℕ) (l : List A) → m ≡ min (length l) n
    → filled_with x n l ≡ replicate m x ++ drop m l
filled_is x n m l e = rw e (go n l)
  where
    none : (k : ℕ) → min k 0 ≡ 0
    none k = omega arith

    short : (k : ℕ) → min 0 k ≡ 0
    short k = omega arith

    both : (k m : ℕ) → min (suc k) (suc m) ≡ suc (min k m)
    both k m = omega arith

    go : (n : ℕ) (l : List _) → filled_with x n l ≡ replicate (min (length l) n) x ++ drop (min (length l) n) l
    go zero [] = filled_none x 0
    go zero (a ∷ l) = rw (none (length (a ∷ l))) (unfold filled_with in refl)
    go (suc n) [] = rw (short (suc n)) (filled_none x (suc n))
    go (suc n) (a ∷ l) = rw (both (length l) n) (filled_more x a n l ∙ ap (λ (z : List _). x ∷ z) (go n l))

-- and no place past its end
pub filled_all : {A : Type 0} (x : A) (n m : ℕ) (l : List A) → m ≡ min n (length l) → filled_with x m l ≡ filled_with x n l
filled_all x n m l e =
    filled_is x m m l (omega (arith, e)) ∙ sym (filled_is x n m l (omega (arith, e)))

pub filled_next : {A : Type 0} (x : A) (i : ℕ) (l₀ : List A) → set (filled_with x i l₀) i x ≡ filled_with x (i + 1) l₀
filled_next x i l₀ = rw (add-one i) (unfold filled_with in refl)

-- ---- the lists of cards
pub joined_none : (x : Lists) (len : ℕ) → Joined (deck_of x len) x len x
joined_none x len = record {
  same = same_lists x;
  deck_is = refl;
  days_are = refl;
  costs_are = refl;
  memorized_are = refl;
  keys_are = refl;
  intervals_are = refl;
}

pub joined_then : {d d' e : Deck} {x y z : Lists} {n m : ℕ} → Joined d x n y → Joined d' y m z → d' ≡ e
    → Joined e x m z
joined_then p q h = record {
  same = same_then p.same q.same;
  deck_is = q.deck_is ∙ h;
  days_are = q.days_are ∙ p.days_are;
  costs_are = q.costs_are ∙ p.costs_are;
  memorized_are = q.memorized_are ∙ p.memorized_are;
  keys_are = q.keys_are ∙ p.keys_are;
  intervals_are = q.intervals_are ∙ p.intervals_are;
}

-- a deck is that of its four lists
pub deck_is : {a a' : List (List Float)} {b b' : List (List ℕ)} {q q' : Queue} {d d' : List ℕ}
    → a ≡ a' → b ≡ b' → q ≡ q' → d ≡ d'
    → (let x : Deck = record { cards = a; counts = b; queue = q; due = d } in x)
    ≡ record { cards = a'; counts = b'; queue = q'; due = d' }
deck_is e f g h = rw (e, f, g, h)

-- an existing card that is not kept does not join, and one that is is counted on its day
pub dropped_is : (span : ℕ) (s : Deck) (k : Card) → is_kept k ≡ false → add_existing_card span s k ≡ s
unfolding add_existing_card
dropped_is span s k e = rw e

pub kept_joins : (span : ℕ) (s : Deck) (k : Card) {cards : List (List Float)} {counts rows : List (List ℕ)} {due due' : List ℕ}
    {n : ℕ} → is_kept k ≡ true → deck cards counts rows due n ≡ add_card s k → due' ≡ add_due span due (day_of k.due)
    → deck cards counts rows due' n ≡ add_existing_card span s k
unfolding add_existing_card add_kept_card add_card
kept_joins span s k e j h = rw (e, h) (ap (λ (z : Deck). (let x : Deck = record { cards = z.cards; counts = z.counts; queue = z.queue; due = add_due span z.due (day_of k.due) } in x)) j)

pub retain_next : (span : ℕ) (es : List (List Float)) (ns : List (List ℕ)) (i : ℕ) (s₀ s s' : Deck) (k : Card)
    → s ≡ add_existing_cards span es ns i s₀ → k ≡ card_at es ns i → s' ≡ add_existing_card span s k
    → s' ≡ add_existing_cards span es ns (i + 1) s₀
retain_next span es ns i s₀ s s' k e ek h = rw (add-one i) (unfold add_existing_cards in (h ∙ rw (e, ek)))

pub create_next : (retention : Float) (limit i : ℕ) (s₀ s s' : Deck) (k : Card) → s ≡ add_new_cards retention limit i s₀
    → k ≡ new_card retention limit i → s' ≡ add_card s k → s' ≡ add_new_cards retention limit (i + 1) s₀
create_next retention limit i s₀ s s' k e ek h = rw (add-one i) (unfold add_new_cards in (h ∙ rw (e, ek)))

-- what a division by 0 has in its place is the quotient
pub quotient_is : (i limit : ℕ) (q : Option ℕ) → SomeIff q (0 < limit) (i / limit) → unwrap_or q 0 ≡ i / limit
quotient_is i limit None h = go limit h
  where
    go : (n : ℕ) → (0 < n → ⊥) → 0 ≡ i / n
    go zero k = sym (div-zero i)
    go (suc n) k = absurd (k (omega arith))
quotient_is i limit (Some x) h = h.1

-- a bool as a number is its bit
pub bit_is : (b : Bool) → bool_byte b ≡ bit b
bit_is true = refl
bit_is false = refl

pub known_next : (es : List (List Float)) (ns : List (List ℕ)) (i n n' : ℕ) (k : Card) (b : Bool)
    → n ≡ introduced_before es ns i → k ≡ card_at es ns i → b ≡ (is_kept k && not (is_new k.last_date))
    → n' ≡ n + bit b → n' ≡ introduced_before es ns (i + 1)
known_next es ns i n n' k b e ek eb h = rw (add-one i) (unfold introduced_before in (h ∙ rw (e, eb, ek)))

pub known_le : (i n n' : ℕ) (b : Bool) → n ≤ i → n' ≡ n + bit b → n' ≤ i + 1
known_le i n n' b h e = omega (arith, bit_le b)

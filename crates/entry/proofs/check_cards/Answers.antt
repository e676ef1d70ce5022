-- The search of the cards finds the first that is not as it must be.
use mathlib.Core.Path.{◌≡◌, sym}
use mathlib.Core.Bool.{true, false}
use Rattle.std.proofs.Common.{rules, arith}
use Rattle.std.proofs.lemmas.Iterator.{first_from_Range}
use Rattle.entry.specs.Entry.{not_ok}
use Rattle.entry.proofs.Tests.{cards_bad, cards_ok}
use Rattle.entry.proofs.check_cards.Goals as goal

pub returns-in-Some : goal.returns-in-Some
returns-in-Some c =
    let es = c.args.learner.existing.now in
    let ns = c.args.learner.existing_counts.now in
    let found = first_from_Range _ _ _ _ (λ i. not_ok es ns i ≡ true) (λ i. not_ok es ns i ≡ false) c.find.ensures.ran
    (λ x q k. search rules)
    (λ x q k. (search rules, grind arith)) in
    sym (cards_bad es ns c.args.n c.in-Some.i (rw c.in-Some.is at found))

pub returns-in-None : goal.returns-in-None
returns-in-None c =
    let es = c.args.learner.existing.now in
    let ns = c.args.learner.existing_counts.now in
    let found = first_from_Range _ _ _ _ (λ i. not_ok es ns i ≡ true) (λ i. not_ok es ns i ≡ false) c.find.ensures.ran
    (λ x q k. grind arith)
    (λ x q k. (search rules, grind arith)) in
    sym (cards_ok es ns c.args.n (rw c.in-None.is at found))

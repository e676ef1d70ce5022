-- The tests are those of the contract; where they pass, all records are copied, and the run is the core's on the rows;
-- where one fails, none is.
use mathlib.Core.Path.{sym, ap, ◌∙◌}
use Rattle.entry.specs.Entry.{Check}
use lib.ListN.{length}
use Rattle.runs.specs.State.{lent_of}
use Rattle.card_records.specs.Records.{floats_at, counts_at, copied}
use Rattle.card_records.proofs.Call.{when_failed, when_passed, copied_few, all_copied, none_copied}
use Rattle.card_records.proofs.simulate.Goals as goal

pub copy-requires : goal.copy-requires
copy-requires c = copied_few c.check_records-tests.result c.args.records.now (length c.args.existing.now)
    (length c.args.existing_counts.now) c.check_records-tests.ensures.fits c.to_copy-n.result c.to_copy-n.ensures

pub returns-in-Err-clause-run : goal.returns-in-Err-clause-run
returns-in-Err-clause-run c =
    let a = c.args in
    let tests = rw c.lengths.ensures at c.check_records-tests.ensures.tests in
    let none = c.to_copy-n.ensures ∙ ap (λ (t : Check). copied t (length a.records.now)) c.in-Err.is in
    rw (
      c.at_entry.ensures,
      c.copy.ensures.floats ∙ none_copied floats_at a.records.now c.to_copy-n.result a.existing.now none,
      c.copy.ensures.counts ∙ none_copied counts_at a.records.now c.to_copy-n.result a.existing_counts.now none,
    )
    (when_failed a.parameters.now a.records.now a.settings (lent_of a.lists.now)
    a.existing.now a.existing_counts.now c.in-Err.refusal (sym tests ∙ c.in-Err.is))

pub returns-clause-run : goal.returns-clause-run
returns-clause-run c =
    let a = c.args in
    let tests = rw c.lengths.ensures at c.check_records-tests.ensures.tests in
    let all = c.to_copy-n.ensures ∙ ap (λ (t : Check). copied t (length a.records.now)) c.in_default.is in
    let floats = c.copy.ensures.floats ∙ all_copied floats_at a.records.now c.to_copy-n.result a.existing.now all in
    let counts = c.copy.ensures.counts ∙ all_copied counts_at a.records.now c.to_copy-n.result a.existing_counts.now all in
    rw (floats, counts) (when_passed a.parameters.now a.records.now a.settings
    (lent_of a.lists.now) a.existing.now a.existing_counts.now (sym tests ∙ c.in_default.is)
    (rw (floats, counts) at c.simulate.ensures.run))

-- A call that an entry test fails is turned away as it came; any other is searched.
use mathlib.Core.Path.{sym, ◌∙◌}
use Rattle.std.proofs.lemmas.Result.{err_from_is_err_and}
use Rattle.runs.specs.State.{lent_of}
use Rattle.entry.specs.Lists.{inputs_of}
use Rattle.retention.proofs.Entry.{entry_is, rounds_few, search-refused, search_passed}
use Rattle.retention.proofs.Laws.{search_contract}
use Rattle.retention.proofs.optimal_retention.Goals as goal

pub returns-in_err-check_entry-clause-search : goal.returns-in_err-check_entry-clause-search
returns-in_err-check_entry-clause-search c =
    let a = c.args in
    let i = inputs_of a.learner a.settings in
    let l = lent_of a.lists.now in
    let p = err_from_is_err_and c.from_residual.result c.from_residual.ensures.1 in
    rw (p.1, p.2) (search_contract i a.rounds l (search-refused i a.rounds l _
    (sym (entry_is i a.rounds l c.rounds_ok.result c.rounds_ok.ensures (rw c.lengths.ensures at c.check_entry.ensures))
    ∙ c.in_err-check_entry.was)))

pub search-requires : goal.search-requires
search-requires c =
    let a = c.args in
    let i = inputs_of a.learner a.settings in
    let l = lent_of a.lists.now in
    rounds_few i a.rounds l (sym (entry_is i a.rounds l c.rounds_ok.result c.rounds_ok.ensures (rw c.lengths.ensures at c.check_entry.ensures))
    ∙ c.in_ok-check_entry.was)

pub returns-clause-search : goal.returns-clause-search
returns-clause-search c =
    let a = c.args in
    let i = inputs_of a.learner a.settings in
    let l = lent_of a.lists.now in
    search_contract i a.rounds l (search_passed i a.rounds l
    (sym (entry_is i a.rounds l c.rounds_ok.result c.rounds_ok.ensures (rw c.lengths.ensures at c.check_entry.ensures))
    ∙ c.in_ok-check_entry.was) c.search.ensures.searched)

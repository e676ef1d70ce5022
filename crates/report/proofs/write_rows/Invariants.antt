-- The invariant: what is written from day d on, from `at` on in the list as it is, is what is to be written.
use Rattle.std.proofs.Common.{◌≡◌, ◌-◌}
use Rattle.report.specs.Rows.{days_placed, days_written}
use Rattle.report.proofs.write_rows.Given as goal

abbrev pub invariant-loop-d : goal.invariant-loop-d
invariant-loop-d l = record {
  placed : days_placed l.rows.days.now l.rows.costs.now l.rows.memorized.now 0 l.span l.initial.out l.from
      ≡ days_placed l.rows.days.now l.rows.costs.now l.rows.memorized.now l.d (l.span - l.d) l.out l.at;
  written : days_written l.rows.days.now l.rows.costs.now l.rows.memorized.now 0 l.span l.initial.out l.from
      ≡ days_written l.rows.days.now l.rows.costs.now l.rows.memorized.now l.d (l.span - l.d) l.out l.at;
}

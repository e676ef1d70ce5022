use Rattle.std.proofs.Common.{◌∙◌, sym, arith}
use Rattle.report.proofs.RowLaws.{rows_start, rows_start_bytes, rows_on, rows-full, rows_end, rows_end_bytes}
use Rattle.report.proofs.write_rows.Goals as goal

pub loop-d-init : goal.loop-d-init
loop-d-init c =
    let a = c.args in
    record {
      placed = rows_start a.rows.days.now a.rows.costs.now a.rows.memorized.now a.span a.from a.out.now;
      written = rows_start_bytes a.rows.days.now a.rows.costs.now a.rows.memorized.now a.span a.from a.out.now;
    }

pub loop-d-preserved : goal.loop-d-preserved
loop-d-preserved c =
    let a = c.args in
    let p = rows_on a.rows.days.now a.rows.costs.now a.rows.memorized.now c.loop-d.d a.span c.loop-d.at c.loop-d.out
    c.write_day.new.out c.day.result c.write_day.result c.day.ensures c.write_day.ensures.0 c.write_day.ensures.1
    c.in_ok-at.at (omega arith) c.in_ok-at.was in
    record { placed = c.loop-d.invariant.placed ∙ p.0; written = c.loop-d.invariant.written ∙ p.1 }

pub returns-in_err-at : goal.returns-in_err-at
returns-in_err-at c =
    let a = c.args in
    let p = rows-full a.rows.days.now a.rows.costs.now a.rows.memorized.now c.loop-d.d a.span c.loop-d.at c.loop-d.out
    c.write_day.new.out c.day.result c.write_day.result c.day.ensures c.write_day.ensures.0 c.write_day.ensures.1
    (omega arith) c.in_err-at.was in
    rw c.from_residual.ensures (p.0 ∙ sym c.loop-d.invariant.placed, p.1 ∙ sym c.loop-d.invariant.written)

pub returns : goal.returns
returns c =
    let a = c.args in (
      rows_end a.rows.days.now a.rows.costs.now a.rows.memorized.now c.loop-d.d a.span c.loop-d.at c.loop-d.out (omega arith) (omega arith)
          ∙ sym c.loop-d.invariant.placed,
      rows_end_bytes a.rows.days.now a.rows.costs.now a.rows.memorized.now c.loop-d.d a.span c.loop-d.at c.loop-d.out (omega arith)
          (omega arith)
          ∙ sym c.loop-d.invariant.written,
    )

use Rattle.std.proofs.Common.{◌∙◌, sym, arith, drop, length-set}
use Rattle.std.proofs.lemmas.List.{length-replicate}
use Rattle.settings_text.specs.Text.{parts}
use Rattle.settings_text.specs.Forms.{several}
use Rattle.settings_text.proofs.SeveralLaws.{words-start, words-on, words_off, words-end}
use Rattle.settings_text.proofs.values.words.Goals as goal

pub loop-value-init : goal.loop-value-init
loop-value-init g c = record {
  room = length-replicate g.row.K 0;
  read = words-start g.row.K (parts (drop c.args.i c.args.s.now));
}

pub returns-in_err-w : goal.returns-in_err-w
returns-in_err-w g c =
    c.from_residual.ensures ∙ words_off c.args.s.now g.row.K c.loop-value.value-index c.loop-value.at c.loop-value.value-items
    (several g.row.K (parts (drop c.args.i c.args.s.now))) c.loop-value.invariant.read (omega arith)
    (sym c.next_bits.ensures ∙ c.in_err-w.was)

pub loop-value-preserved : goal.loop-value-preserved
loop-value-preserved g c = record {
  room = length-set c.loop-value.value-items c.loop-value.value-index _ ∙ c.loop-value.invariant.room;
  read = words-on c.args.s.now g.row.K c.loop-value.value-index c.loop-value.at c.loop-value.value-items
      (several g.row.K (parts (drop c.args.i c.args.s.now))) c.loop-value.invariant.read
      _ _ (omega arith) (omega arith) (sym c.next_bits.ensures ∙ c.in_ok-w.was);
}

pub returns-then-closes_at : goal.returns-then-closes_at
returns-then-closes_at g c =
    rw (← c.closes_at.ensures, c.if-closes_at.true) at (words-end c.args.s.now g.row.K c.loop-value.value-index c.loop-value.at c.loop-value.value-items
    (several g.row.K (parts (drop c.args.i c.args.s.now))) c.loop-value.invariant.read (omega arith) c.loop-value.invariant.room)

pub returns-else-closes_at : goal.returns-else-closes_at
returns-else-closes_at g c =
    rw (← c.closes_at.ensures, c.if-closes_at.false) at (words-end c.args.s.now g.row.K c.loop-value.value-index c.loop-value.at c.loop-value.value-items
    (several g.row.K (parts (drop c.args.i c.args.s.now))) c.loop-value.invariant.read (omega arith) c.loop-value.invariant.room)

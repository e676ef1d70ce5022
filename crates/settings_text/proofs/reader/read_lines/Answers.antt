use Rattle.std.proofs.Common.{◌∙◌, sym, rules, tests, arith, of_calls, length, length-append}
use Rattle.std.proofs.lemmas.Iterator.Consumers.{YieldsList-at, YieldsList-turn, YieldsList-end}
use Rattle.std.proofs.lemmas.List.FromFn.{length-enumerate_from}
use Rattle.settings_text.specs.Text.{lines}
use Rattle.settings_text.specs.Forms.{read_as, refused_as}
use Rattle.settings_text.proofs.LineLaws.{lines-yield, line_at, read_wrong, read-on, read-end}
use Rattle.settings_text.proofs.reader.read_lines.Goals as goal

pub returns-in_default : goal.returns-in_default
unfolding refused_as
returns-in_default c =
    let ls = lines c.args.text.now in
    let turn = YieldsList-turn
    (YieldsList-at c.into_iter-i-iterator.ensures.into_iter_gives
    (lines-yield _ c.args.text.now c.enumerate-i-items.ensures.source c.enumerate-i-items.ensures.count
    c.split.ensures.rest c.split.ensures.done c.split.ensures.closure (λ x b q k. search (rules, tests))))
    c.loop-i.yielded _ c.loop-i.yielded_by _ _ (c.in-Some.i, c.in-Some.line) c.in-Some.is c.next.ensures.steps in
    let at = line_at ls (length c.loop-i.yielded) c.in-Some.i c.in-Some.line.now turn.0 turn.1 in
    rw at.0 (sym (c.loop-i.invariant.read
    ∙ read_wrong ls (length c.loop-i.yielded) c.loop-i.settings c.in-Some.line.now at.1.0 at.1.1
    (sym c.read_line.ensures ∙ c.in_default.is)))

pub loop-i-preserved : goal.loop-i-preserved
loop-i-preserved c =
    let ls = lines c.args.text.now in
    let turn = YieldsList-turn
    (YieldsList-at c.into_iter-i-iterator.ensures.into_iter_gives
    (lines-yield _ c.args.text.now c.enumerate-i-items.ensures.source c.enumerate-i-items.ensures.count
    c.split.ensures.rest c.split.ensures.done c.split.ensures.closure (λ x b q k. search (rules, tests))))
    c.loop-i.yielded _ c.loop-i.yielded_by _ _ (c.in-Some.i, c.in-Some.line) c.in-Some.is c.next.ensures.steps in
    let at = line_at ls (length c.loop-i.yielded) c.in-Some.i c.in-Some.line.now turn.0 turn.1 in
    record {
      can = search of_calls;
      finite = search (rules, tests);
      read = rw length-append (c.loop-i.invariant.read
          ∙ read-on ls (length c.loop-i.yielded) c.loop-i.settings c.in-Some.line.now at.1.0 at.1.1
          c.in-Some-read_line.next (sym c.read_line.ensures ∙ c.in-Some-read_line.is));
    }

pub returns : goal.returns
unfolding read_as
returns c =
    let ls = lines c.args.text.now in
    let all = YieldsList-end
    (YieldsList-at c.into_iter-i-iterator.ensures.into_iter_gives
    (lines-yield _ c.args.text.now c.enumerate-i-items.ensures.source c.enumerate-i-items.ensures.count
    c.split.ensures.rest c.split.ensures.done c.split.ensures.closure (λ x b q k. search (rules, tests))))
    c.loop-i.yielded _ c.loop-i.yielded_by _ _ c.in-None.is c.next.ensures.steps in
    sym (c.loop-i.invariant.read
    ∙ read-end ls (length c.loop-i.yielded) c.loop-i.settings (omega (arith, all.1, length-enumerate_from 0 ls)))

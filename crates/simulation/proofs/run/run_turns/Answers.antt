use Rattle.entry.proofs.Lent.{same_lists, same_then}
use Rattle.std.specs.Prelude.{Ok, Err}
use Rattle.runs.specs.Rules.{rules_as}
use Rattle.runs.specs.State.{state_at}
use Rattle.simulation.proofs.run.Loop.{going_start, going_on, going_stops, going_cut}
use Rattle.simulation.proofs.run.run_turns.Goals as goal

pub loop-turns-init : goal.loop-turns-init
loop-turns-init c = record { going = going_start (rules_as c.args.rules) c.args.fuel _; same = same_lists _ }

pub returns-in-Ok-None-clause-run : goal.returns-in-Ok-None-clause-run
returns-in-Ok-None-clause-run c =
    going_stops (rules_as c.args.rules) (state_at c.args.lists.now c.args.from) c.args.fuel c.loop-turns.invariant.going
    c.turn.ensures.turn c.loop-turns-test.true (Ok tt) (rw c.in-Ok-None.field-0-is at c.in-Ok-None.is)

pub returns-in-Err-clause-run : goal.returns-in-Err-clause-run
returns-in-Err-clause-run c =
    going_stops (rules_as c.args.rules) (state_at c.args.lists.now c.args.from) c.args.fuel c.loop-turns.invariant.going
    c.turn.ensures.turn c.loop-turns-test.true (Err c.in-Err.refusal) c.in-Err.is

pub loop-turns-preserved : goal.loop-turns-preserved
loop-turns-preserved c = record {
  going = going_on (rules_as c.args.rules) (state_at c.args.lists.now c.args.from) c.args.fuel
      c.loop-turns.invariant.going c.turn.ensures.turn c.loop-turns-test.true c.in-Ok-Some.next
      (rw c.in-Ok-Some.field-0-is at c.in-Ok-Some.is);
  same = same_then c.loop-turns.invariant.same c.turn.ensures.same;
}

pub returns-clause-run : goal.returns-clause-run
returns-clause-run c =
    going_cut (rules_as c.args.rules) (state_at c.args.lists.now c.args.from) c.args.fuel c.loop-turns.invariant.going
    c.loop-turns-test.false

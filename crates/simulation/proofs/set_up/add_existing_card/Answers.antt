use mathlib.Core.Path.{sym, ◌∙◌}
use Rattle.simulation.proofs.set_up.Loops.{joined_none, kept_joins, dropped_is}
use Rattle.simulation.proofs.set_up.add_existing_card.Goals as goal

pub returns-then-not-is_kept : goal.returns-then-not-is_kept
returns-then-not-is_kept c =
    record { joined = rw (dropped_is _ _ _ (sym c.is_kept.ensures ∙ c.if-not-is_kept.true)) (joined_none _ _) }

pub returns : goal.returns
returns c =
    let j = c.add_card-more.ensures.joined in
    record {
      joined = record {
        same = record {
          cards = j.same.cards;
          counts = j.same.counts;
          queue_rows = j.same.queue_rows;
          days = j.same.days;
          costs = j.same.costs;
          memorized = j.same.memorized;
          due = j.same.due;
          keys = j.same.keys;
          intervals = j.same.intervals;
        };
        deck_is = kept_joins c.args.span _ _ (sym c.is_kept.ensures ∙ c.if-not-is_kept.false) j.deck_is
            (rw (← c.day_of.ensures) c.add_due.ensures);
        days_are = j.days_are;
        costs_are = j.costs_are;
        memorized_are = j.memorized_are;
        keys_are = j.keys_are;
        intervals_are = j.intervals_are;
      };
    }

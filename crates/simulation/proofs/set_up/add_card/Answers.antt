use mathlib.Core.Path.{refl}
use Rattle.runs.specs.SetUp.{add_card}
use Rattle.simulation.proofs.set_up.Loops.{deck_is}
use Rattle.simulation.proofs.set_up.add_card.Goals as goal

pub returns : goal.returns
unfolding add_card
returns c = record {
  joined = record {
    same = record {
      cards = refl;
      counts = refl;
      queue_rows = refl;
      days = refl;
      costs = refl;
      memorized = refl;
      due = refl;
      keys = refl;
      intervals = refl;
    };
    deck_is = deck_is c.write_floats.ensures c.write_counts.ensures (rw (← c.key_of-key.ensures) c.push.ensures) refl;
    days_are = refl;
    costs_are = refl;
    memorized_are = refl;
    keys_are = refl;
    intervals_are = refl;
  };
}

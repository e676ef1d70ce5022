use native.Mathlib.Omega.{arith}
use mathlib.Core.Path.{◌∙◌}
use Rattle.days.proofs.Laws.{saturated}
use Rattle.runs.specs.Turn.{card_after_event}
use Rattle.turn.proofs.event_card.Goals as goal

pub returns : goal.returns
unfolding card_after_event
returns c =
    rw (c.lapses_after.ensures, c.saturating_add.ensures ∙ saturated _ (omega arith), c.from_u32-last_date.ensures)

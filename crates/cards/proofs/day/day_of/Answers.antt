use mathlib.Core.Path.{sym, ◌∙◌}
use Rattle.cards.proofs.Later.{day_cut}
use Rattle.cards.proofs.day.day_of.Goals as goal

pub returns : goal.returns
returns c = c.to_u32.ensures ∙ sym (day_cut c.args.due)

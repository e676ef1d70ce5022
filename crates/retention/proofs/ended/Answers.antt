-- By the verdict of the method.
use mathlib.Core.Logic.{inl, inr}
use Rattle.brent.specs.Stepping.{told}
use Rattle.retention.proofs.ended.Goals as goal

pub returns-in-Found : goal.returns-in-Found
unfolding told
returns-in-Found c = rw (← c.answer.ensures, c.in-Found.is)

pub returns-in-NotFound : goal.returns-in-NotFound
unfolding told
returns-in-NotFound c =
    elim c.in-NotFound.is [ inl e ↦ rw (← c.answer.ensures, e) | inr e ↦ rw (← c.answer.ensures, e) ]

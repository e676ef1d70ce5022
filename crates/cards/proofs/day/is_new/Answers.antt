use lib.Ieee.{of_bits, of_fields, div, neg, eq}
use mathlib.Core.Path.{refl}
use Rattle.cards.specs.Day.{is_new}
use Rattle.cards.proofs.day.is_new.Goals as goal

pub returns : goal.returns
unfolding is_new eq of_bits of_fields div neg
returns c = refl

use mathlib.Core.Path.{◌≡◌, refl}
use mathlib.Core.Bool.{Bool, true, false}
use lib.Ieee.{of_bits, of_fields, round}
use mir.Syntax.{w32}
use mir.Val.{bool_byte}
use mir.ValLaws.{to_z-of_z}
use Rattle.turns.specs.Sums.{bit}
use Rattle.queue.proofs.Keys.{priority_in}
use Rattle.queue.specs.Key.{card_priority, packed, priority_of}
use Rattle.queue.proofs.card_priority.Goals as goal

byte_is_bit : (b : Bool) → bool_byte b ≡ bit b
byte_is_bit true = refl
byte_is_bit false = refl

pub returns : goal.returns
unfolding card_priority packed priority_of of_bits of_fields round
returns c = rw (
  c.from.ensures,
  c.min.ensures,
  c.from-2.ensures,
  byte_is_bit c.args.new,
  c.shifted-priority.ensures.0,
  c.to_i32.ensures,
  to_z-of_z w32 (priority_of c.args.difficulty) (record { sfits = priority_in c.args.difficulty }),
)

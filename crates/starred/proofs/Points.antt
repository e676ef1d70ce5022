-- THE STARRED POINTS hold.
use mathlib.Core.Path.{◌≡◌, refl, ap}
use Prim.Native.Nat.{ℕ, ◌+◌}
use lib.Ieee.{of_bits, of_fields, neg, of_int, round, mul, sum, lt, is_nan}
use lib.Ieee.{to_signed, to_unsigned}
use Rattle.float32.specs.Float32 as Float32
use Rattle.elementary.proofs.Points as elementary
use Rattle.draws.specs.Draws.{advance}
use Rattle.draws.proofs.Points as draws
use Rattle.cards.specs.Day.{day_of}
use Rattle.queue.specs.Key.{priority_of}
use Rattle.runs.specs.SetUp.{new_card}
use Rattle.starred.specs.Points.{Starred}

one_more : (i n : ℕ) → i ≡ n → i + 1 ≡ n + 1
one_more i n e = ap (λ (z : ℕ). z + 1) e

pub starred : Starred
unfolding Float32.round Float32.mul_add Float32.max of_bits of_fields of_int round mul sum lt is_nan to_signed to_unsigned neg
    day_of priority_of new_card advance
starred = record {
  rating_4 = λ word h. one_more _ 3 (draws.fourth word);
  rating_3 = one_more _ 2 draws.third;
  rating_2 = one_more _ 1 draws.second;
  difficulty_550 = refl;
  difficulty_lowest = refl;
  round_up = refl;
  round_down = refl;
  round-zero = refl;
  first_state = refl;
  new_due = λ r. refl;
  day_0 = refl;
  day_3 = refl;
  nan_to_zero = elementary.nan_to_zero;
  fused = refl;
  exp_infinity = elementary.exp_first_infinity;
  exp_zero = elementary.exp_first_zero;
}

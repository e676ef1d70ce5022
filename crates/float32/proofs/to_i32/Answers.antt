-- `float32::to_i32` meets its contract: `proofs/Casts.antt` has each range of x.
use Rattle.std.proofs.Common.{◌≡◌, ℤ, sym, ap, ◌∙◌, subst, w32, w64, SFits, to_z, of_z}
use lib.Ieee.{Float, of_bits, neg, to_signed}
use lib.Ieee.Casts.{to_signed_in}
use mir.ValLaws.{to_z-of_z}
use Rattle.float32.proofs.Cmp.{yes, no}
use Rattle.float32.proofs.Casts.{Middle, top_signed, middle, bottom_signed, nan_signed}
use Rattle.float32.proofs.to_i32.Goals as goal

between : (c : goal.Then-x-2) → Middle c.args.x
unfolding of_bits neg
between c = middle c.args.x (yes c.if-x-2.true) (no c.if-x.false)

is : (c : goal.After-truncating_f32_to_i64) → to_z w64 (of_z w64 c.truncating_f32_to_i64.result)
    ≡ to_signed 31 c.args.x
is c =
    let x = c.args.x in
    ap (λ (z : ℤ). to_z w64 (of_z w64 z)) c.truncating_f32_to_i64.ensures ∙ to_z-of_z w64 (to_signed 63 x)
    (record { sfits = to_signed_in 63 x }) ∙ (between c.before).2

narrow : (x : Float) → SFits w32 (to_signed 31 x)
narrow x = record { sfits = to_signed_in 31 x }

pub truncating_f32_to_i64-requires : goal.truncating_f32_to_i64-requires
truncating_f32_to_i64-requires c = record { lower_bound = (between c).0; upper_bound = (between c).1 }

pub overflow_cast-result : goal.overflow_cast-result
overflow_cast-result c = subst (λ (z : ℤ). SFits w32 z) (sym (is c)) (narrow c.args.x)

pub returns-then-x : goal.returns-then-x
unfolding of_bits
returns-then-x c = top_signed 31 c.args.x (yes c.if-x.true)

pub returns-then-x-2 : goal.returns-then-x-2
returns-then-x-2 c =
    let x = c.args.x in
    ap (λ (z : ℤ). to_z w32 (of_z w32 z)) (is c) ∙ to_z-of_z w32 (to_signed 31 x) (narrow x)

pub returns-then-x-3 : goal.returns-then-x-3
unfolding of_bits neg
returns-then-x-3 c = bottom_signed c.args.x (no c.if-x-2.false) (yes c.if-x-3.true)

pub returns-else-x-3 : goal.returns-else-x-3
unfolding of_bits neg
returns-else-x-3 c = nan_signed c.args.x (no c.if-x-2.false) (no c.if-x-3.false)

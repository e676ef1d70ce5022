-- By which of the two is a NaN, and by the other being 1 or ±0.
use Rattle.std.proofs.Common.{◌≡◌, sym, ◌∙◌}
use lib.Ieee.{nan}
use Rattle.elementary.proofs.Common.{nan_is, number_is}
use Rattle.elementary.proofs.powf.Cases.{of_nan-y, of_nan_y_one, of_nan-x, of_nan_x_zero, nan_not_one}
use Rattle.elementary.proofs.powf.of_nan.Goals as goal
use Rattle.elementary.proofs.powf.of_nan.Goals.{else-not-is_nan-via-then-not-is_nan+else-x-eq1065353216, else-not-is_nan-via-else-not-is_nan}

pub returns-then-x-eq1065353216 : goal.returns-then-x-eq1065353216
returns-then-x-eq1065353216 c =
    sym (of_nan_y_one c.args.x c.args.y (nan_is c.args.y _ c.is_nan.ensures.value c.if-is_nan.true)
    c.if-x-eq1065353216.true)

pub returns-else-not-is_nan : goal.returns-else-not-is_nan
returns-else-not-is_nan c =
    let ey : c.args.y ≡ nan = nan_is c.args.y _ c.is_nan.ensures.value c.if-is_nan.true in
    elim c.else-not-is_nan.branch [
      | else-not-is_nan-via-then-not-is_nan+else-x-eq1065353216 w ↦ ey
          ∙ sym (of_nan-y c.args.x c.args.y ey w.if-x-eq1065353216.false)
      | else-not-is_nan-via-else-not-is_nan w ↦ ey
          ∙ sym (of_nan-y c.args.x c.args.y ey (nan_not_one c.args.x
          (nan_is c.args.x _ c.is_nan-then-is_nan.ensures.value w.if-not-is_nan.false)))
    ]

pub returns-then-zero : goal.returns-then-zero
returns-then-zero c =
    let n = number_is c.args.y _ c.is_nan.ensures.value c.if-is_nan.false in
    sym (of_nan_x_zero c.args.x c.args.y n (c.requires n) c.if-zero.true)

pub returns-else-zero : goal.returns-else-zero
returns-else-zero c =
    let n = number_is c.args.y _ c.is_nan.ensures.value c.if-is_nan.false in
    let ex : c.args.x ≡ nan = c.requires n in
    ex ∙ sym (of_nan-x c.args.x c.args.y n ex c.if-zero.false)

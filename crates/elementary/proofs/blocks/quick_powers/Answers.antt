-- The steps' lists, place by place: each step reads what the one before it wrote.
use Rattle.std.proofs.Common.{ℕ, ◌+◌, ◌^◌, T, get_or, sym, ap, ◌∙◌, subst, le_of_eq, lt_of_le_of_lt, arith}
use lib.Ieee.{nan, binary32, to_bits, of_bits}
use Rattle.elementary.specs.Power.{exp2_bits}
use Rattle.elementary.proofs.Common.{number_of-bits}
use Rattle.elementary.proofs.Filled.{fill_at, fill_alike}
use Rattle.elementary.proofs.powf.Law.{pow_law}
use Rattle.elementary.proofs.blocks.Laws.{arg_small, quick_is}
use Rattle.elementary.proofs.blocks.quick_powers.Goals as goal

pub float_to_bits-y : goal.float_to_bits-y
float_to_bits-y c =
    number_of-bits c.args.y (omega (arith, c.requires.1.low, c.requires.1.high))

pub args-requires : goal.args-requires
args-requires c =
    let n = c.requires.0 in (
      n,
      c.requires.1,
      λ i h. (
        c.requires.2 i h,
        fill_at _ _ _ _ i 0 c.intervals.ensures.lines n h,
        fill_at _ _ _ _ i 0 c.intervals.ensures.curvatures n h,
      ),
    )

pub values-requires : goal.values-requires
values-requires c =
    let n = c.requires.0 in (
      n,
      λ i h. (
        let b = c.requires.2 i h in
            lt_of_le_of_lt (le_of_eq (fill_at _ _ _ _ i 0 c.args-2.ensures (omega (arith, c.intervals.array_long)) h))
            (arg_small (to_bits binary32 (get_or c.args.x.now i nan)) (to_bits binary32 c.args.y) b.low b.high c.requires.1),
        fill_at _ _ _ _ i 0 c.powers.ensures (omega (arith, c.intervals.array_long2)) h,
      ),
    )

pub returns : goal.returns
returns c =
    let x = c.args.x.now in
    let y = c.args.y in
    record {
      value = c.values.ensures
          ∙ fill_alike _ _ c.args.n x (λ i h. ap (λ (z : ℕ). of_bits binary32 (exp2_bits (z + 2 ^ 55)))
          (fill_at _ _ _ _ i 0 c.args-2.ensures (omega (arith, c.intervals.array_long)) h)
          ∙ quick_is (get_or x i nan) y (c.requires.2 i h) c.requires.1);
      bound = λ i h. pow_law (get_or x i nan) y (c.requires.2 i h).single (subst T (sym c.well_formed.1.0.1) tt);
    }

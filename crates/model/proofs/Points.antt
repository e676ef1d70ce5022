-- The range of the bound on a retention holds a curve that a run meets: all parameters 0.5, a card of stability 0.5 and
-- difficulty 5, on its tenth day (`tenth_day`).
use Rattle.std.proofs.Common.{◌≡◌, ◌*◌, ◌^◌, ◌≤◌, false, List, replicate, refl, subst, lit≤}
use lib.Ieee.{Float, inf, of_bits, of_fields, to_bits, round, sub, mul, div, neg, lt, is_nan}
use lib.Ieee.Positive.{den}
use Rattle.float32.specs.Float32 as Float32
use Rattle.elementary.specs.Exp.{exp_of}
use Rattle.elementary.specs.Ln.{ln_of}
use Rattle.elementary.specs.Pow.{pow_of}
use Rattle.model.specs.declared.forgetting_curve.MemoryState.{MemoryState}
use Rattle.model.specs.declared.forgetting_curve.Curve.{Curve}
use Rattle.model.specs.Constants.{half, ten}
use Rattle.model.specs.Model.{curve_of, of_stability, decay1, decay2, factor1, factor2, d_timescale, weight1}
use Rattle.model.specs.Model.{weight2}
use Rattle.model.specs.Model.{time}
use Rattle.model.specs.Accuracy.{parts, Days, Factor, InRange}
use Rattle.model.proofs.Rounding.{Clear}
use Rattle.model.proofs.Ranges.{curve_in_range}

abbrev pub halves : List Float
halves = replicate 34 half

abbrev pub state : MemoryState
state = of_stability half

abbrev c : Curve
c = curve_of halves state

not_infinite : half ≡ inf false → ⊥
unfolding round
not_infinite e = subst Clear e (refl, refl)

number1 : is_nan c.decay1 ≡ false
unfolding curve_of of_stability decay1 pow_of sub round mul neg Float32.max Float32.clamp lt is_nan of_bits of_fields to_bits
number1 = refl

number2 : is_nan c.decay2 ≡ false
unfolding curve_of of_stability decay2 round neg Float32.clamp lt is_nan
number2 = refl

days : Days (time ten)
unfolding Float32.max is_nan lt round of_bits of_fields
days = record { number = (refl, refl); most = lit≤ tt }

factor1_in : Factor c.factor1
unfolding curve_of of_stability decay1 factor1 pow_of exp_of ln_of sub round mul div neg Float32.max Float32.min
    Float32.clamp lt is_nan of_bits of_fields to_bits
factor1_in = record { number = (refl, refl); most = lit≤ tt }

rate2_in : Factor c.rate2
unfolding curve_of of_stability decay2 factor2 d_timescale pow_of exp_of sub round mul div neg Float32.max Float32.clamp lt
    is_nan of_bits of_fields to_bits
rate2_in = record { number = (refl, refl); most = lit≤ tt }

weight1-clear : Clear c.weight1
unfolding curve_of of_stability weight1 pow_of round mul neg Float32.max lt is_nan of_bits of_fields to_bits
weight1-clear = (refl, refl)

weight2-clear : Clear c.weight2
unfolding curve_of of_stability weight2 pow_of exp_of sub round mul Float32.max Float32.clamp lt is_nan of_bits of_fields
    to_bits
weight2-clear = (refl, refl)

sum_least : den c.weight1 * den c.weight2 ≤ parts c * 2 ^ 100
unfolding curve_of of_stability weight1 weight2 pow_of exp_of sub round mul neg Float32.max Float32.clamp lt is_nan of_bits
    of_fields to_bits
sum_least = lit≤ tt

sum_most : parts c ≤ 2 ^ 100 * (den c.weight1 * den c.weight2)
unfolding curve_of of_stability weight1 weight2 pow_of exp_of sub round mul neg Float32.max Float32.clamp lt is_nan of_bits
    of_fields to_bits
sum_most = lit≤ tt

pub tenth_day : InRange (curve_of halves state) ten
unfolding of_stability
tenth_day =
    curve_in_range halves state ten not_infinite not_infinite number1 number2 days factor1_in rate2_in weight1-clear
    weight2-clear sum_least sum_most

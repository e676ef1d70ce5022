use Rattle.std.proofs.Common.{◌≡◌, ℕ, ◌+◌, ◌*◌, ◌<◌, ◌∙◌, sym, rules, tests, arith, drop, get_or}
use Rattle.settings_text.specs.Numbers.{digit}
use Rattle.settings_text.proofs.NumberLaws.{digits_off, value_on, value-ge}
use Rattle.settings_text.proofs.NumberLaws.{number_digits, number-over, goes_over}
use Rattle.settings_text.proofs.numbers.number_of.Goals as goal
use Rattle.settings_text.proofs.numbers.number_of.Goals.{then-base-d-via-then-base-d, then-base-d-via-else-base-d+then-most-d}

pub returns-then-base-d-clause-is : goal.returns-then-base-d-clause-is
returns-then-base-d-clause-is c =
    let a = c.args in
    let e : c.in_ok-d.d ≡ digit (get_or a.w.now c.loop-b.b-index 0) = search (rules, tests) in
    elim c.then-base-d.branch [
      | then-base-d-via-then-base-d w ↦
          sym (number_digits a.base a.most a.w.now (c.loop-b.invariant.digits
          ∙ digits_off a.base a.w.now c.loop-b.b-index c.loop-b-test.true
          (rw e at w.if-base-d.true)))
      | then-base-d-via-else-base-d+then-most-d w ↦
          let d : ℕ = digit (get_or a.w.now c.loop-b.b-index 0) in
          let past : a.most < c.loop-b.v * a.base + d = goes_over a.base a.most c.loop-b.v d
          (omega arith) (omega (arith, e))
          (rw e at w.if-most-d.true) in
          sym (number-over a.base a.most a.w.now
          (omega (
            arith,
            past,
            c.loop-b.invariant.value,
            value_on a.base c.loop-b.v a.w.now
                c.loop-b.b-index c.loop-b-test.true,
            value-ge a.base (c.loop-b.v * a.base + d)
                (drop (c.loop-b.b-index + 1) a.w.now) (omega arith),
          )))
    ]

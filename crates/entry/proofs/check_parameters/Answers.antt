-- The search of the first 34 parameters finds the first that is not finite.
use mathlib.Core.Path.{◌≡◌, sym}
use mathlib.Core.Bool.{true, false, not}
use native.Mathlib.Omega.{arith}
use Rattle.std.proofs.Common.{rules}
use Rattle.std.proofs.lemmas.Iterator.{IsFirst-from_position, YieldsList-from_slice}
use Rattle.float32.specs.Float32.{is_finite}
use Rattle.entry.proofs.Tests.{finite_in, parameters_bad, parameters_ok}
use Rattle.entry.proofs.check_parameters.Goals as goal

pub overflow_cast-result : goal.overflow_cast-result
overflow_cast-result c =
    let w = c.args.w.now in
    let found = finite_in w 34 c.position.result c.if-w-lt34.false
    (IsFirst-from_position _ _ _ (λ x. not (is_finite x) ≡ true) (λ x. not (is_finite x) ≡ false) c.position.ensures.ran
    (YieldsList-from_slice _ c.iter.ensures.rest) (λ x q k. search rules) (λ x q k. search rules)) in
    let first = rw c.in-Some.is at found in
    omega (arith, first.1)

pub returns-in-Some : goal.returns-in-Some
returns-in-Some c =
    let w = c.args.w.now in
    let found = finite_in w 34 c.position.result c.if-w-lt34.false
    (IsFirst-from_position _ _ _ (λ x. not (is_finite x) ≡ true) (λ x. not (is_finite x) ≡ false) c.position.ensures.ran
    (YieldsList-from_slice _ c.iter.ensures.rest) (λ x q k. search rules) (λ x q k. search rules)) in
    sym (parameters_bad w c.in-Some.i c.if-w-lt34.false (rw c.in-Some.is at found))

pub returns-in-None : goal.returns-in-None
returns-in-None c =
    let w = c.args.w.now in
    let found = finite_in w 34 c.position.result c.if-w-lt34.false
    (IsFirst-from_position _ _ _ (λ x. not (is_finite x) ≡ true) (λ x. not (is_finite x) ≡ false) c.position.ensures.ran
    (YieldsList-from_slice _ c.iter.ensures.rest) (λ x q k. search rules) (λ x q k. search rules)) in
    sym (parameters_ok w c.if-w-lt34.false (rw c.in-None.is at found))

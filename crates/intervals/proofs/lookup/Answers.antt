use mathlib.Core.Path.{◌≡◌, sym, ◌∙◌, ap}
use Prim.Native.Nat.{ℕ, ◌+◌, ◌-◌}
use native.Mathlib.Omega.{arith}
use Rattle.intervals.specs.Table.{table, home_of, next_of, probe, key_at}
use Rattle.intervals.proofs.Steps.{home-lt, next-lt, probe_free, probe_here, probe-on, step-none, lookup-none}
use Rattle.intervals.proofs.Steps.{lookup-probe}
use Rattle.intervals.proofs.Held.{looked}
use Rattle.std.proofs.Math.Nat.{sub-zero}
use Rattle.intervals.proofs.lookup.Goals as goal

pub returns-then-n-eq0 : goal.returns-then-n-eq0
returns-then-n-eq0 c = looked (table c.args.keys.now c.args.intervals.now) _ _ (sym (lookup-none (table c.args.keys.now
    c.args.intervals.now) c.args.s
    c.args.r (sym c.min-n.ensures ∙ c.if-n-eq0.true)))

pub loop-init : goal.loop-init
loop-init c = record {
  place = omega (arith, c.home-p.ensures, home-lt c.min-n.result c.args.s c.args.r (omega arith));
  size = c.min-n.ensures;
  rest = ap (λ (m : ℕ). probe (table c.args.keys.now c.args.intervals.now) c.args.s c.args.r m c.home-p.result)
      (sub-zero c.min-n.result ∙ c.min-n.ensures)
      ∙ lookup-probe (table c.args.keys.now c.args.intervals.now) c.args.s c.args.r c.home-p.result
      (c.home-p.ensures ∙ ap (λ (m : ℕ). home_of m c.args.s c.args.r) c.min-n.ensures);
}

pub returns-then-v : goal.returns-then-v
returns-then-v c =
    looked (table c.args.keys.now c.args.intervals.now) c.args.s c.args.r (sym
    (probe_free (table c.args.keys.now c.args.intervals.now) c.args.s c.args.r
    (c.min-n.result - c.loop.counter) c.loop.p (omega arith) c.if-v.true)
    ∙ c.loop.invariant.rest)

pub returns-then-is_key : goal.returns-then-is_key
returns-then-is_key c =
    let t = table c.args.keys.now c.args.intervals.now in
    let key : key_at t c.loop.p c.args.s c.args.r ≡ c.is_key.result = sym c.is_key.ensures in
    looked t c.args.s c.args.r (sym
    (probe_here t c.args.s c.args.r
    (c.min-n.result - c.loop.counter) c.loop.p (omega arith) c.if-v.false (key ∙ c.if-is_key.true))
    ∙ c.loop.invariant.rest)

pub loop-preserved : goal.loop-preserved
loop-preserved c =
    let t = table c.args.keys.now c.args.intervals.now in
    let key : key_at t c.loop.p c.args.s c.args.r ≡ c.is_key.result = sym c.is_key.ensures in
    let fewer : c.min-n.result - (c.loop.counter + 1) ≡ c.min-n.result - c.loop.counter - 1 = omega arith in
    record {
      place = omega (arith, c.after-p.ensures, next-lt c.min-n.result c.loop.p (omega arith));
      size = c.loop.invariant.size;
      rest = ap (λ (m : ℕ). probe t c.args.s c.args.r m c.after-p.result) fewer
          ∙ ap (λ (q : ℕ). probe t c.args.s c.args.r (c.min-n.result - c.loop.counter - 1) q)
          (c.after-p.ensures ∙ ap (λ (m : ℕ). next_of m c.loop.p) c.loop.invariant.size)
          ∙ sym (probe-on t c.args.s c.args.r (c.min-n.result - c.loop.counter) c.loop.p (omega arith)
          c.if-v.false (key ∙ c.if-is_key.false))
          ∙ c.loop.invariant.rest;
    }

pub returns : goal.returns
returns c =
    let z : c.min-n.result - c.loop.counter ≡ 0 = omega arith in
    looked (table c.args.keys.now c.args.intervals.now) c.args.s c.args.r (sym
    (step-none (table c.args.keys.now c.args.intervals.now) c.args.s c.args.r
    c.loop.p) ∙
    (rw z at c.loop.invariant.rest))

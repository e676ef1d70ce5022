use Rattle.std.proofs.Common.{◌-◌, ◌∙◌, refl, arith, length-set}
use Rattle.std.specs.Prelude.{replicate}
use Rattle.report.specs.Digits.{hex}
use Rattle.report.proofs.WriteLaws.{hex-start, hex-on, hex-end}
use Rattle.report.proofs.digits.hex_of.Goals as goal

pub loop-i-init : goal.loop-i-init
loop-i-init c = record { room = refl; says = hex-start c.args.n (replicate 8 0) refl }

pub loop-i-preserved : goal.loop-i-preserved
loop-i-preserved c = record {
  room = length-set c.loop-i.bytes (c.loop-i.i - 1) c.hex_byte.result ∙ c.loop-i.invariant.room;
  says = rw c.hex_byte.ensures (hex-on c.loop-i.bytes c.loop-i.m c.loop-i.i (hex c.args.n) (omega arith) (omega arith)
      c.loop-i.invariant.says);
}

pub returns : goal.returns
returns c = hex-end c.loop-i.bytes c.loop-i.m c.loop-i.i (hex c.args.n) (omega arith) c.loop-i.invariant.says

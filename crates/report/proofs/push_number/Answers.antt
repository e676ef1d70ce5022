use Rattle.std.proofs.Common.{arith, append_assoc}
use Rattle.report.proofs.DigitLaws.{decimal_text}
use Rattle.report.proofs.push_number.Goals as goal

pub returns-clause-says : goal.returns-clause-says
returns-clause-says c =
    rw (
      c.push_text-2.ensures,
      c.push_text.ensures,
      c.as_bytes.ensures.value,
      c.format.ensures.text,
      decimal_text c.args.n (omega arith),
      append_assoc,
    )

use borrow.Author.Tests.{lt-ltb, le-ltb, le-leb, lt-leb}
use Rattle.retention.specs.SampleSize.{sample_size}
use Rattle.retention.proofs.sizes.sample_size.Goals as goal

pub returns-then-span-le30 : goal.returns-then-span-le30
unfolding sample_size
returns-then-span-le30 c = rw (le-leb _ _ c.if-span-le30.true)

pub returns-then-span-lt365 : goal.returns-then-span-lt365
unfolding sample_size
returns-then-span-lt365 c =
    rw (
      lt-leb _ _ c.if-span-le30.false,
      lt-ltb _ _ c.if-span-lt365.true,
      c.sampled_by.ensures,
      c.from_u32.ensures,
    )

pub returns-else-span-lt365 : goal.returns-else-span-lt365
unfolding sample_size
returns-else-span-lt365 c = rw (lt-leb _ _ c.if-span-le30.false, le-ltb _ _ c.if-span-lt365.false)

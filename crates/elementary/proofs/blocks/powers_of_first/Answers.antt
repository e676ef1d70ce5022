use Rattle.elementary.proofs.blocks.powers_of_first.Goals as goal

pub quick_powers-requires : goal.quick_powers-requires
quick_powers-requires c = (
  c.requires,
  c.is_decay.ensures c.if-is_decay.true,
  λ i h. c.are_bases.ensures c.if-are_bases.true i h,
)

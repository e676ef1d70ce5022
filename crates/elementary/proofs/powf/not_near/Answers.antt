-- A finite x above 0 and a finite y that are not near have |y| above 128; what is left is special.
use Rattle.std.proofs.Common.{ℕ, ◌%◌, ◌^◌, ◌<◌, ◌≤◌, ◌⊎◌, sym, ap, ◌∙◌, inl, inr, arith}
use lib.Ieee.{binary32, of_bits}
use Rattle.series.proofs.Cuts.{lt_or_ge}
use Rattle.elementary.specs.Quick.{Near}
use Rattle.elementary.proofs.power.Finite.{is_large}
use Rattle.elementary.proofs.powf.Cases.{at_regular}
use Rattle.elementary.proofs.powf.not_near.Goals as goal

above : (b c : ℕ) → (Near b c → ⊥) → 0 < b → b < 0x7F800000 → 0x43000001 ≤ c % 2 ^ 31
above b c n p f = go (lt_or_ge (c % 2 ^ 31) 0x43000001)
  where
    go : (c % 2 ^ 31 < 0x43000001) ⊎ (0x43000001 ≤ c % 2 ^ 31) → 0x43000001 ≤ c % 2 ^ 31
    go (inl i) = absurd (n record { positive = p; finite = f; small = omega arith })
    go (inr i) = i

pub returns-then-b-ne1065353216 : goal.returns-then-b-ne1065353216
returns-then-b-ne1065353216 c =
    let p = c.if-b-gt0.true in
    let f = c.if-b-lt2139095040.true in
    c.large_pow.ensures
    ∙ sym (at_regular c.args.b c.args.c p f c.if-c-lt2139095040.true
    ∙ ap (of_bits binary32) (is_large c.args.b c.args.c (above c.args.b c.args.c c.requires.2 p f)
    c.if-b-ne1065353216.true))

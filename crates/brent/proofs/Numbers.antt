-- The numbers of the method as the code's literals: `literals`, for the tactic.
use mathlib.Core.Path.{◌≡◌, refl}
use lib.Ieee.{binary32, of_bits, of_fields, round}
use Rattle.brent.specs.Step.{r_min, r_max, half, two, tol, min_tol, cg}

pub r_min-bits : of_bits binary32 0x3F333333 ≡ r_min
unfolding of_bits of_fields round
r_min-bits = refl

pub r_max-bits : of_bits binary32 0x3F733333 ≡ r_max
unfolding of_bits of_fields round
r_max-bits = refl

pub half-bits : of_bits binary32 0x3F000000 ≡ half
unfolding of_bits of_fields round
half-bits = refl

pub two-bits : of_bits binary32 0x40000000 ≡ two
unfolding of_bits of_fields round
two-bits = refl

pub tol-bits : of_bits binary32 0x3C23D70A ≡ tol
unfolding of_bits of_fields round
tol-bits = refl

pub min_tol-bits : of_bits binary32 0x2EDBE6FF ≡ min_tol
unfolding of_bits of_fields round
min_tol-bits = refl

pub cg-bits : of_bits binary32 0x3EC3910C ≡ cg
unfolding of_bits of_fields round
cg-bits = refl

pub ruleset literals = (r_min-bits, r_max-bits, half-bits, two-bits, tol-bits, min_tol-bits, cg-bits)

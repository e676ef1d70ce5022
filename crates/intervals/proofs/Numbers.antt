-- The numbers of the buckets and of the certificates as the code's literals: `literals`, for the tactic.
use mathlib.Core.Path.{◌≡◌, refl}
use lib.Ieee.{binary32, of_bits, of_fields, round}
use Rattle.model.specs.Constants.{half}
use Rattle.intervals.specs.Bucket.{log_step, retention_step}
use Rattle.intervals.specs.Schedule.{one_and_half, margin}

pub log_step-bits : of_bits binary32 0x3A83126F ≡ log_step
unfolding of_bits of_fields round
log_step-bits = refl

pub retention_step-bits : of_bits binary32 0x3A03126F ≡ retention_step
unfolding of_bits of_fields round
retention_step-bits = refl

pub one_and_half-bits : of_bits binary32 0x3FC00000 ≡ one_and_half
unfolding of_bits of_fields round
one_and_half-bits = refl

pub margin-bits : of_bits binary32 0x3D4CCCCD ≡ margin
unfolding of_bits of_fields round
margin-bits = refl

pub half-bits : of_bits binary32 0x3F000000 ≡ half
unfolding of_bits of_fields round
half-bits = refl

pub ruleset literals = (log_step-bits, retention_step-bits, one_and_half-bits, margin-bits, half-bits)

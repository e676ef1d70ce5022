-- The model's numbers as the code's literals: `literals`, for the tactic. Equal numbers stand once: `dr_min` is `s_min`,
-- `decay_min` is `init_share`, `ten` is `d_max`.
use mathlib.Core.Path.{◌≡◌, refl}
use mathlib.Core.Bool.{false}
use lib.Ieee.{nan, binary32, of_bits, of_fields, round, sub, neg}
use Rattle.model.specs.Constants.{s_min, s_max, d_max, dr_max, min_t, init_share, current_share, again_shift, growth_shift, decay_max, power_shift, factor_most, inner, edge, weight_min, step_most, tolerance, half, two, three, five, nine, eleven, slope_most}

pub s_min-bits : of_bits binary32 0x38D1B717 ≡ s_min
unfolding of_bits of_fields round
s_min-bits = refl

pub s_max-bits : of_bits binary32 0x470E9400 ≡ s_max
unfolding of_bits of_fields round
s_max-bits = refl

pub d_max-bits : of_bits binary32 0x41200000 ≡ d_max
unfolding of_bits of_fields round
d_max-bits = refl

pub dr_max-bits : of_bits binary32 0x3F7FF972 ≡ dr_max
unfolding of_bits of_fields round
dr_max-bits = refl

pub min_t-bits : of_bits binary32 0x37422E45 ≡ min_t
unfolding of_bits of_fields round
min_t-bits = refl

pub init_share-bits : of_bits binary32 0x3C23D70A ≡ init_share
unfolding of_bits of_fields round
init_share-bits = refl

pub current_share-bits : of_bits binary32 0x3F7D70A4 ≡ current_share
unfolding of_bits of_fields round
current_share-bits = refl

pub again_shift-bits : of_bits binary32 0x3DCCCCCD ≡ again_shift
unfolding of_bits of_fields round
again_shift-bits = refl

pub growth_shift-bits : of_bits binary32 0x3FC00000 ≡ growth_shift
unfolding of_bits of_fields round
growth_shift-bits = refl

pub decay_max-bits : of_bits binary32 0x3F733333 ≡ decay_max
unfolding of_bits of_fields round
decay_max-bits = refl

pub power_shift-bits : of_bits binary32 0x3E99999A ≡ power_shift
unfolding of_bits of_fields round
power_shift-bits = refl

pub factor_most-bits : of_bits binary32 0x42700000 ≡ factor_most
unfolding of_bits of_fields round
factor_most-bits = refl

pub inner-bits : of_bits binary32 0x3F7FFEB0 ≡ inner
unfolding of_bits of_fields round sub
inner-bits = refl

pub edge-bits : of_bits binary32 0x3727C5AC ≡ edge
unfolding of_bits of_fields round
edge-bits = refl

pub weight_min-bits : of_bits binary32 0x3089705F ≡ weight_min
unfolding of_bits of_fields round
weight_min-bits = refl

pub step_most-bits : of_bits binary32 0x40800000 ≡ step_most
unfolding of_bits of_fields round
step_most-bits = refl

pub tolerance-bits : of_bits binary32 0x3A83126F ≡ tolerance
unfolding of_bits of_fields round
tolerance-bits = refl

pub half-bits : of_bits binary32 0x3F000000 ≡ half
unfolding of_bits of_fields round
half-bits = refl

pub two-bits : of_bits binary32 0x40000000 ≡ two
unfolding of_bits of_fields round
two-bits = refl

pub three-bits : of_bits binary32 0x40400000 ≡ three
unfolding of_bits of_fields round
three-bits = refl

pub five-bits : of_bits binary32 0x40A00000 ≡ five
unfolding of_bits of_fields round
five-bits = refl

pub nine-bits : of_bits binary32 0x41100000 ≡ nine
unfolding of_bits of_fields round
nine-bits = refl

pub eleven-bits : of_bits binary32 0x41300000 ≡ eleven
unfolding of_bits of_fields round
eleven-bits = refl

pub nan-bits : of_bits binary32 0x7FC00000 ≡ nan
unfolding of_bits of_fields
nan-bits = refl

pub millionth-bits : of_bits binary32 0x358637BD ≡ round binary32 false 1 1000000
unfolding of_bits of_fields round
millionth-bits = refl

pub slope_most-bits : neg (of_bits binary32 0x2B8CBCCC) ≡ slope_most
unfolding of_bits of_fields round neg
slope_most-bits = refl

pub ruleset literals = (s_min-bits, s_max-bits, d_max-bits, dr_max-bits, min_t-bits, init_share-bits, current_share-bits, again_shift-bits, growth_shift-bits, decay_max-bits, power_shift-bits, factor_most-bits, inner-bits, edge-bits, weight_min-bits, step_most-bits, tolerance-bits, half-bits, two-bits, three-bits, five-bits, nine-bits, eleven-bits, nan-bits, millionth-bits, slope_most-bits)

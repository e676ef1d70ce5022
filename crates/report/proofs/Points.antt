-- The lines of the scope's case, and a NaN, written by computation from the definitions.
use mathlib.Core.Path.{◌≡◌, refl}
use lib.Ieee.{nan, binary32, to_bits, of_bits, of_fields}
use Rattle.settings_text.specs.Quoted.{bytes}
use Rattle.report.specs.Digits.{decimal_in, decimal, hex_byte, hex_in, hex}
use Rattle.report.specs.Lines.{day_line, forecast_line, refused_line, cheapest_line}

case_forecast : forecast_line 1 4 2 ≡ bytes "(forecast 1 (turns 4) (cards 2))\n"
unfolding decimal_in decimal forecast_line
case_forecast = refl

case_day : day_line
    (record {
      day = 0;
      learn = 2;
      review = 0;
      correct = 0;
      introduced = 2;
      cost = of_bits binary32 0x41800000;
      held = of_bits binary32 0x3FFFFF58;
    })
    ≡ bytes "(day 0 (learn 2) (review 0) (correct 0) (introduced 2) (cost 41800000) (held 3FFFFF58))\n"
unfolding decimal_in decimal hex_byte hex_in hex day_line to_bits of_bits of_fields
case_day = refl

case_refused : refused_line 11 0 ≡ bytes "(refused 11 0)\n"
unfolding decimal_in decimal refused_line
case_refused = refl

nan_written : hex (to_bits binary32 nan) ≡ bytes "7FC00000"
unfolding hex_byte hex_in hex to_bits
nan_written = refl

-- a search that found 0.8 in 9 rounds, with a mean that is no number
cheapest-written : cheapest_line (of_bits binary32 0x3F4CCCCD) 9 nan
    ≡ bytes "(cheapest 3F4CCCCD (rounds 9) (mean 7FC00000))\n"
unfolding decimal_in decimal hex_byte hex_in hex cheapest_line to_bits of_bits of_fields
cheapest-written = refl

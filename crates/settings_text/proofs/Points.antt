-- The scope's case and telling short texts, read by computation from the definitions.
use mathlib.Core.Path.{◌≡◌, refl}
use Prim.Native.Nat.{ℕ}
use mathlib.Core.Bool.{true, false}
use mathlib.Core.List.{List, [], ◌∷◌}
use lib.ListN.{replicate}
use Rattle.settings_text.specs.declared.Settings.{Settings}
use Rattle.std.specs.Prelude.{Result, Ok, Err}
use Rattle.settings_text.specs.declared.ReadError.{ReadError}
use Rattle.settings_text.specs.declared.ReadError.TheVariants.{Line}
use Rattle.settings_text.specs.Quoted.{bytes}
use Rattle.settings_text.specs.Text.{blank, letter, in_line, lines, onto, parts, longer, in_word}
use Rattle.settings_text.specs.Numbers.{digit, digits, value, empty, number, number32, number64, bits}
use Rattle.settings_text.specs.Forms.{name_of, place_of, ends, closes, alone, one, all, several, before, all_or}
use Rattle.settings_text.specs.Forms.{takes, form, named, line, read_as}
use Rattle.settings_text.specs.Forms.{refused_as, read_lines, reading}

-- some settings to start from
base : Settings
base = record {
  deck = 10000;
  span = 365;
  seed = 42;
  learn = 10;
  review = 9999;
  retention = 0x3F666666;
  maxcost = 0x465E6400;
  first = 1 ∷ 2 ∷ 3 ∷ 4 ∷ [];
  cost = replicate 12 5;
  parameters = replicate 34 6;
  seen = replicate 10 false;
}

-- ---- the case

case_read : reading
    (bytes "(parameters all 3F000000)\n(deck 2)\n(span 1)\n(first 00000000 00000000 00000000 3F800000)\n(maxcost 41200000)\n(cost all 41000000)\n") base ≡ record {
      settings = record {
        deck = 2;
        span = 1;
        seed = 42;
        learn = 10;
        review = 9999;
        retention = 0x3F666666;
        maxcost = 0x41200000;
        first = 0 ∷ 0 ∷ 0 ∷ 0x3F800000 ∷ [];
        cost = replicate 12 0x41000000;
        parameters = replicate 34 0x3F000000;
        seen = true ∷ true ∷ true ∷ false ∷ false ∷ false ∷ false ∷ true ∷ true ∷ true ∷ [];
      };
      verdict = Ok tt;
    }
unfolding base blank letter in_line lines onto parts longer in_word digit digits value empty number number32
    number64 bits name_of place_of ends closes alone one all several before all_or takes form named line read_as
    refused_as read_lines reading
case_read = refl

-- ---- verdicts of short texts

verdict_of : List ℕ → Result Unit ReadError
verdict_of text = (reading text base).verdict

abbrev points : List (List ℕ × Result Unit ReadError)
points =
    (bytes "", Ok tt)
    ∷ (bytes " \t\r\n\n", Ok tt)
    ∷ (bytes " ( deck\t007 ) \r", Ok tt)
    ∷ (bytes "(deck 5)", Ok tt)
    ∷ (bytes "(deck5)", Err (Line 1))
    ∷ (bytes "(deck(5))", Err (Line 1))
    ∷ (bytes "(deck 5) x", Err (Line 1))
    ∷ (bytes "(deck\n5)", Err (Line 1))
    ∷ (bytes "(deck 5)\n\n(span 1)\n(deck 5)", Err (Line 4))
    ∷ (bytes "(parameters all 00000000)\n(parameters all 00000000)", Err (Line 2))
    ∷ (bytes "(seed 18446744073709551615)(", Err (Line 1))
    ∷ (bytes "(seed 18446744073709551615)", Ok tt)
    ∷ (bytes "(seed 18446744073709551616)", Err (Line 1))
    ∷ (bytes "(deck 4294967296)", Err (Line 1))
    ∷ (bytes "(deck +5)", Err (Line 1))
    ∷ (bytes "(maxcost 3f800000)", Err (Line 1))
    ∷ (bytes "(maxcost 3F80000)", Err (Line 1))
    ∷ (bytes "(maxcost 3F8000000)", Err (Line 1))
    ∷ (bytes "(first 00000000 00000000 00000000)", Err (Line 1))
    ∷ (bytes "(cost 41000000)", Err (Line 1))
    ∷ (bytes "(deck 5)\n\u{c}", Err (Line 2))
    ∷ (bytes "(Deck 5)", Err (Line 1))
    ∷ []

abbrev Right : List (List ℕ × Result Unit ReadError) → Type 0
Right [] = Unit
Right (p ∷ ps) = (verdict_of p.0 ≡ p.1) × Right ps

all_right : Right points
unfolding verdict_of base blank letter in_line lines onto parts longer in_word digit digits value empty number
    number32 number64 bits name_of place_of ends closes alone one all several before all_or takes form named line
    read_as refused_as read_lines reading
all_right = (
  refl,
  (
    refl,
    (
      refl,
      (
        refl,
        (
          refl,
          (
            refl,
            (
              refl,
              (
                refl,
                (
                  refl,
                  (
                    refl,
                    (
                      refl,
                      (
                        refl,
                        (
                          refl,
                          (refl, (refl, (refl, (refl, (refl, (refl, (refl, (refl, (refl, tt))))))))),
                        ),
                      ),
                    ),
                  ),
                ),
              ),
            ),
          ),
        ),
      ),
    ),
  ),
)

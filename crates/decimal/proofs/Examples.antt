-- Numbers shown and read: halves go to the even one, a minus needs a digit, the largest amount, a field that is too short, and where a text is wrong.
use mathlib.Core.Path.{◌≡◌, refl}
use mathlib.Core.Bool.{true, false}
use lib.Ieee.{binary64, of_bits, round}
use Rattle.std.specs.Prelude.{Ok}
use Rattle.float.specs.Text.{ascii}
use Rattle.decimal.specs.Units.{units_of}
use Rattle.decimal.specs.Text.{whole_of, few_digits, pointed, text_of, field_of}
use Rattle.decimal.specs.Reading.{wrong, number_of, scanned}
use Rattle.decimal.specs.declared.units.Amount.TheVariants.{Count}

record Rows : Type 0 where
  half : units_of 0 (of_bits binary64 0x3fe0_0000_0000_0000) ≡ Count false 0
  one_and_a_half : units_of 0 (of_bits binary64 0x3ff8_0000_0000_0000) ≡ Count false 2
  two_and_a_half : units_of 0 (of_bits binary64 0xc004_0000_0000_0000) ≡ Count true 2
  no_minus : text_of 3 (units_of 3 (of_bits binary64 0xbf3a_36e2_eb1c_432d)) ≡ ascii "0.000"
  largest : text_of 0 (Count true 999999999999999999) ≡ ascii "-999999999999999999"
  too_large : text_of 0 (units_of 0 (of_bits binary64 0x43ab_c16d_674e_c800)) ≡ ascii "too large"
  no_number : text_of 0 (units_of 0 (of_bits binary64 0x7ff8_0000_0000_0000)) ≡ ascii "no number"
  too_short : field_of 6 (ascii "-12.500") ≡ ascii "######"
  whole : number_of 0 0 (ascii "1400") ≡ Ok (of_bits binary64 0x4095_e000_0000_0000)
  small : number_of 0 0 (ascii "0.002") ≡ Ok (of_bits binary64 0x3f60_624d_d2f1_a9fc)
  bare : number_of 0 0 (ascii "1.") ≡ wrong 2
  long : number_of 0 0 (ascii "1234567890.123456") ≡ wrong 16

rows : Rows
unfolding scanned units_of round of_bits whole_of few_digits pointed field_of
rows = record { half = refl; one_and_a_half = refl; two_and_a_half = refl; no_minus = refl; largest = refl; too_large = refl; no_number = refl; too_short = refl; whole = refl; small = refl; bare = refl; long = refl }

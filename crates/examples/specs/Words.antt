-- Doubles by their words: those that 01-scope 7 names, each under its sign and its number.
use Rattle.std.specs.Prelude.{List, map, ℕ, Float}
use Rattle.std.specs.Float.{binary64}
use Rattle.std.specs.Float.Ieee.{of_bits, to_bits}

-- the double of a word, and the word of a double: that of the NaN is 0x7ff8_0000_0000_0000
abbrev pub double : ℕ → Float
double w = of_bits binary64 w

abbrev pub doubles : List ℕ → List Float
doubles l = map double l

abbrev pub word : Float → ℕ
word x = to_bits binary64 x

abbrev pub words : List Float → List ℕ
words l = map word l

abbrev pub +0 : ℕ
+0 = 0x0

abbrev pub +1 : ℕ
+1 = 0x3ff0_0000_0000_0000

abbrev pub +2 : ℕ
+2 = 0x4000_0000_0000_0000

abbrev pub +3 : ℕ
+3 = 0x4008_0000_0000_0000

abbrev pub +4 : ℕ
+4 = 0x4010_0000_0000_0000

abbrev pub +6 : ℕ
+6 = 0x4018_0000_0000_0000

abbrev pub +7 : ℕ
+7 = 0x401c_0000_0000_0000

abbrev pub +12 : ℕ
+12 = 0x4028_0000_0000_0000

abbrev pub +24 : ℕ
+24 = 0x4038_0000_0000_0000

abbrev pub +72 : ℕ
+72 = 0x4052_0000_0000_0000

abbrev pub -0 : ℕ
-0 = 0x8000_0000_0000_0000

abbrev pub -1 : ℕ
-1 = 0xbff0_0000_0000_0000

abbrev pub -2 : ℕ
-2 = 0xc000_0000_0000_0000

abbrev pub -3 : ℕ
-3 = 0xc008_0000_0000_0000

-- Small whole numbers as floats, for worked examples: the same value in every format.
use Rattle.std.specs.Prelude.{false, pos, Float}
use Rattle.std.specs.Float.{fin}

abbrev pub zero : Float
zero = fin false 0 (pos 0)

abbrev pub one : Float
one = fin false 1 (pos 0)

abbrev pub two : Float
two = fin false 1 (pos 1)

abbrev pub four : Float
four = fin false 1 (pos 2)

abbrev pub six : Float
six = fin false 3 (pos 1)

abbrev pub seven : Float
seven = fin false 7 (pos 0)

abbrev pub twelve : Float
twelve = fin false 3 (pos 2)

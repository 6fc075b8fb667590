-- What serves the code alone.
use Rattle.std.specs.Prelude.{ℕ}
use Rattle.std.specs.Float.{Format}
use Rattle.float.specs.Ops.{ops}
use Rattle.skin.specs.declared.SkinGiven.{SkinGiven}

-- nothing but the number and the place
abbrev pub refused_of : (f : Format) (number place : ℕ) → SkinGiven
refused_of f number place = record { number = number; place = place; w = (ops f).zero }

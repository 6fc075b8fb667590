-- Texts as bytes.
use Rattle.std.specs.Prelude.{List, [], ◌∷◌, ℕ}
use Prim.Native.Char.{code}
use Prim.Native.String.{String, [] as String·[], ◌∷◌ as ◌String·∷◌}

-- the codes of a text's characters
abbrev pub ascii : String → List ℕ
ascii String·[] = []
ascii (c String·∷ s) = code c ∷ ascii s

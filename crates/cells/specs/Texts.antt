-- Cells as a person reads them.
use Rattle.std.specs.Prelude.{ℕ, List, [], ◌∷◌, codes}
use Rattle.codes.specs.Hexes.{hexes}

-- the codes in hexadecimal, one after the other, and a dot for a blank
abbrev pub cell_text : List ℕ → List ℕ
cell_text [] = codes "."
cell_text (c ∷ cs) = hexes (c ∷ cs)

-- The names of a list, one to a line.
use Rattle.std.specs.Prelude.{ℕ, List}
use Rattle.std.specs.Str.Lines.{lines}

-- a name ends at 0A, and a 0D right before that is not part of it; a last line that lacks its 0A is a name too, unless it is empty
abbrev pub names : List ℕ → List (List ℕ)
names list = lines list

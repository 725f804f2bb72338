-- What a cell may hold.
use Rattle.std.specs.Prelude.{ℕ, ◌-◌, Bool, true, cond, ◌&&◌, List, [], ◌∷◌, ◌++◌, length, replicate, ◌==◌, nat_le}
use Rattle.std.specs.List.{list_all}
use Rattle.codes.specs.Classes.{class_of, is_text}
use Rattle.cells.specs.Runs.{joins}

abbrev pub all_text : List ℕ → Bool
all_text s = list_all is_text s

-- each later code has verdict Compose after the one before it
abbrev pub chained : List ℕ → Bool
chained [] = true
chained (c ∷ []) = true
chained (c ∷ d ∷ ds) = joins (class_of c) (class_of d) && chained (d ∷ ds)

-- nothing, or one to three text codes in which each later code has verdict Compose after the one before it
abbrev pub lawful : List ℕ → Bool
lawful s = nat_le (length s) 3 && (chained s && all_text s)

-- the codes before the first 00
abbrev pub filled : List ℕ → List ℕ
filled [] = []
filled (c ∷ cs) = cond (c == 0) [] (c ∷ filled cs)

-- codes in three places, with 00 in those that are empty
abbrev pub padded : List ℕ → List ℕ
padded s = s ++ replicate (3 - length s) 0

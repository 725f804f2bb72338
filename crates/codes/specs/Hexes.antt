-- Codes as a person reads them.
use Rattle.std.specs.Prelude.{ℕ, ◌+◌, ◌/◌, ◌%◌, cond, List, [], ◌∷◌, nat_lt}
use Rattle.std.specs.List.{flat_map}

abbrev pub hex_digit : ℕ → ℕ
hex_digit d = cond (nat_lt d 10) (48 + d) (55 + d)

-- two upper-case hexadecimal digits
abbrev pub hex_of : ℕ → List ℕ
hex_of c = hex_digit (c / 16) ∷ hex_digit (c % 16) ∷ []

abbrev pub hexes : List ℕ → List ℕ
hexes s = flat_map hex_of s

-- The names of a list, by its first line.
use Rattle.std.proofs.Common.{◌≡◌, ℕ, ◌+◌, ◌<◌, ◌≤◌, Bool, false, eqb, refl, List, [], ◌∷◌, length, take, drop, Some, None, position, ap, arith}
use Rattle.std.specs.List.{onto_first, position_or_len, slice_split}
use Rattle.std.specs.Str.Lines.{lines_of_parts, strip_carriage_return}
use Rattle.std.proofs.lemmas.Bool.Decides.{nat_tests}
use Rattle.std.proofs.lemmas.List.Elements.{All-from_get_or}
use Rattle.std.proofs.lemmas.List.Splits.{length-slice_split, slice_split_first, slice_split_none}
use Rattle.std.proofs.lemmas.List.Sums.{fails_before_first}
use Rattle.names.specs.Lists.{names}

abbrev newline : ℕ → Bool
newline c = eqb c 10

-- a part with others after it is a line that ends
line_more : (line : List ℕ) (parts : List (List ℕ)) → 0 < length parts → lines_of_parts (line ∷ parts) ≡ strip_carriage_return line ∷ lines_of_parts parts
line_more line [] h = absurd (omega arith)
line_more line (next ∷ more) h = refl

-- the first line ends: its name, and those after it
pub ended : (s : List ℕ) (n : ℕ) → position newline s ≡ Some n → names s ≡ strip_carriage_return (take n s) ∷ names (drop (n + 1) s)
ended s n e = grind (arith, nat_tests, slice_split_first newline s 0, length-slice_split newline (drop (n + 1) s), line_more)

-- the last line does not end
pub unended : (s : List ℕ) → 0 < length s → position newline s ≡ None → names s ≡ s ∷ []
unended s some e =
    let past : length s ≤ position_or_len newline s = grind (arith, nat_tests) in
    let none = All-from_get_or (λ c. newline c ≡ false) s 0 (λ i h. fails_before_first newline s i 0 (omega arith)) in
    let whole = ap lines_of_parts (slice_split_none newline s none) in
    grind (arith, nat_tests)

longer : (c : ℕ) (parts : List (List ℕ)) → length (lines_of_parts (onto_first c parts)) ≤ length (lines_of_parts parts) + 1
longer c [] = grind (arith, nat_tests)
longer c (part ∷ []) = grind (arith, nat_tests)
longer c (part ∷ next ∷ more) = grind (arith, nat_tests)

-- a list has no more names than bytes
pub few_names : (s : List ℕ) → length (names s) ≤ length s
few_names [] = grind (arith, nat_tests)
few_names (c ∷ s) = grind (arith, nat_tests, few_names s, longer c (slice_split newline s), line_more [] (slice_split newline s), length-slice_split newline s)

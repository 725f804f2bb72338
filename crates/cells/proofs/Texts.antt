-- Text has no control codes, and so at most three codes for each cell.
use Rattle.std.proofs.Common.{◌≡◌, ℕ, ◌*◌, ◌≤◌, true, false, not, List, [], ◌∷◌, length}
use Rattle.std.specs.List.{AllByRecursion}
use Rattle.std.proofs.lemmas.Bool.{and_parts, not-true}
use Rattle.codes.specs.Classes.{class_of, is_control, is_text, is_unused}
use Rattle.cells.specs.Runs.{width_of}
use Rattle.cells.specs.Values.{all_text}
use Rattle.cells.proofs.Short.{three_to_a_cell}

no_control : (c : ℕ) → is_text c ≡ true → is_control (class_of c) ≡ false
unfolding is_text
no_control c e = not-true (is_control (class_of c)) (and_parts (not (is_control (class_of c))) (not (is_unused c)) e).0

no_controls : (s : List ℕ) → all_text s ≡ true → AllByRecursion (λ c. is_control (class_of c) ≡ false) s
no_controls [] e = tt
no_controls (c ∷ s) e = (no_control c (and_parts (is_text c) (all_text s) e).0, no_controls s (and_parts (is_text c) (all_text s) e).1)

pub three_to_a_text_cell : (s : List ℕ) → all_text s ≡ true → length s ≤ 3 * width_of class_of s
three_to_a_text_cell s e = three_to_a_cell class_of s (no_controls s e)

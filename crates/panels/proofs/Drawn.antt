-- A picture that is drawn column by column.
use Rattle.std.proofs.Common.{◌≡◌, ℕ, ◌+◌, ◌<◌, Bool, true, false, eqb, List, [], ◌∷◌, ◌++◌, length, get_or, drop, ap, ◌∙◌, arith}
use lib.Utf8.{encode}
use Rattle.std.proofs.lemmas.List.{at_drop_more}
use Rattle.std.proofs.lemmas.Str.{encode_ascii}
use Rattle.cells.specs.Texts.{cell_text}
use Rattle.panels.specs.Pictures.{bar, columns_text}

-- the columns from j on
pub columns_more : (cursor j : ℕ) (row : List (List ℕ)) (x : List ℕ) → j < length row → get_or row j [] ≡ x → columns_text cursor j (drop j row) ≡ (bar (eqb j cursor) ∷ cell_text x) ++ columns_text cursor (j + 1) (drop (j + 1) row)
columns_more cursor j row x within is =
    at_drop_more (columns_text cursor j) row j [] within ∙ ap (λ y. bar (eqb j cursor) ∷ (cell_text y ++ columns_text cursor (j + 1) (drop (j + 1) row))) is

pub encode_bar : (b : Bool) → encode (bar b) ≡ bar b ∷ []
encode_bar true = encode_ascii 0x3E (omega arith)
encode_bar false = encode_ascii 0x7C (omega arith)

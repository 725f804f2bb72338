-- The text of the report.
use Rattle.std.specs.Prelude.{ℕ, ◌+◌, ◌-◌, Bool, cond, List, [], ◌∷◌, ◌++◌, is_ok, Ok, Err, codes, decimal, Result, slice_index}
use Rattle.std.specs.List.{flat_map}
use Rattle.codes.specs.Classes.{class_of}
use Rattle.codes.specs.Hexes.{hex_of, hexes}
use Rattle.cells.specs.Runs.{cells, runs, width_of}
use Rattle.policies.specs.Levels.{level_numbered, level_pairs}
use Rattle.lines.specs.declared.refusal.Refusal.{Refusal}
use Rattle.lines.specs.declared.refusal.Refusal.TheVariants.{NotText, NotAdmitted, NextNotAdmitted, TooWide, NothingThere, WouldMeet}
use Rattle.lines.specs.Checks.{before, checked, number_of, place_of}
use Rattle.names.specs.declared.settings.Settings.{Settings}

abbrev pub cell_text : List ℕ → List ℕ
cell_text cell = codes " [" ++ (hexes cell ++ codes "]")

abbrev pub cells_text : List ℕ → List ℕ
cells_text s = flat_map cell_text (cells class_of (runs class_of s))

abbrev pub reason_text : Settings → List ℕ → Refusal → List ℕ
reason_text st s (NotText p) = hex_of (slice_index s p) ++ codes " is no text code"
reason_text st s (NotAdmitted p) = codes "level " ++ (decimal st.level ++ (codes " does not admit " ++ (hex_of (slice_index s p) ++ (codes " after " ++ hex_of (before s p)))))
reason_text st s (TooWide p) = decimal (width_of class_of s) ++ (codes " cells, and the panel has " ++ (decimal st.columns ++ codes " columns"))
reason_text st s (NextNotAdmitted p) = []
reason_text st s (NothingThere p) = []
reason_text st s (WouldMeet p) = []

-- what is told of a name
abbrev pub answer : Settings → List ℕ → Result ℕ Refusal
answer st s = checked (level_pairs (level_numbered st.level)) st.columns s

abbrev pub outcome_text : Settings → List ℕ → Result ℕ Refusal → List ℕ
outcome_text st s (Ok n) = codes " ok " ++ (decimal n ++ cells_text s)
outcome_text st s (Err r) = codes " refused " ++ (decimal (number_of r) ++ (codes " at " ++ (decimal (place_of r) ++ (codes ": " ++ reason_text st s r))))

-- the line of name number n
abbrev pub line_text : Settings → ℕ → List ℕ → List ℕ
line_text st n s = decimal n ++ (outcome_text st s (answer st s) ++ (10 ∷ []))

abbrev pub taken : Settings → List ℕ → Bool
taken st s = is_ok (answer st s)

-- the report on the names that are left, where n were reported and k of them are ok
abbrev pub report_text : Settings → ℕ → ℕ → List (List ℕ) → List ℕ
report_text st n k [] = decimal n ++ (codes " names, " ++ (decimal k ++ (codes " ok, " ++ (decimal (n - k) ++ (codes " refused" ++ (10 ∷ []))))))
report_text st n k (s ∷ ss) = line_text st (n + 1) s ++ report_text st (n + 1) (k + cond (taken st s) 1 0) ss

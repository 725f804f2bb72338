-- Worked examples of verdicts, of the table's letters and of widths.
use Rattle.std.specs.Prelude.{◌≡◌, ℕ, List, [], ◌∷◌}
use Rattle.codes.specs.declared.verdicts.Verdict.{Verdict}
use Rattle.codes.specs.declared.verdicts.Verdict.TheVariants.{Accept, Compose, StrictReject, Reject, NoDisplay}
use Rattle.codes.specs.Classes.{class_of}
use Rattle.codes.specs.Verdicts.{times_in_table, verdict_of}
use Rattle.cells.specs.Runs.{width_of}

pub data Example : Type 0 where
  -- the verdict on two codes
  pair : ℕ → ℕ → Verdict → Example
  -- how often a verdict stands in the table
  times : Verdict → ℕ → Example
  -- the width of a string
  wide : List ℕ → ℕ → Example

abbrev pub Holds : Example → Type 0
Holds (pair first second v) = verdict_of first second ≡ v
Holds (times v n) = times_in_table v ≡ n
Holds (wide s n) = width_of class_of s ≡ n

abbrev pub examples : List Example
examples =
    pair 0xA1 0xD4 Compose ∷
    pair 0xD4 0xE8 Compose ∷
    pair 0xE8 0xD4 Reject ∷
    pair 0xE0 0xD2 StrictReject ∷
    pair 0xD2 0xD0 StrictReject ∷
    pair 0xA1 0x0D NoDisplay ∷
    times Accept 70 ∷
    times Compose 18 ∷
    times StrictReject 32 ∷
    times Reject 152 ∷
    times NoDisplay 17 ∷
    wide (0xA1 ∷ 0xD9 ∷ 0xE8 ∷ []) 1 ∷
    wide (0xA1 ∷ 0xE8 ∷ 0xD4 ∷ []) 2 ∷
    wide (0xD4 ∷ 0xE8 ∷ []) 1 ∷
    wide (0x41 ∷ 0x0A ∷ 0xD4 ∷ []) 2 ∷
    wide [] 0 ∷ []

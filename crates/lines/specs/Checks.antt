-- What is told of a string under a policy, by the pairs f that it admits, and w columns.
use Rattle.std.specs.Prelude.{◌≡◌, ℕ, ◌+◌, ◌<◌, Bool, false, cond, ◌⊎◌, List, [], ◌∷◌, length, Some, None, Ok, Err, Option, Result, slice_index}
use Rattle.codes.specs.Classes.{class_of, is_text}
use Rattle.cells.specs.declared.division.Span.{Span}
use Rattle.cells.specs.Runs.{cell_at, width_of}
use Rattle.lines.specs.declared.refusal.Refusal.{Refusal}
use Rattle.lines.specs.declared.refusal.Refusal.TheVariants.{NotAdmitted, NotText, TooWide}
use Rattle.lines.specs.Refusals.{refusal_told}

-- the code before a place, where the start of a line counts as 00
abbrev pub before : List ℕ → ℕ → ℕ
before s i = slice_index (0 ∷ s) i

-- what is wrong with a string, in no order
pub data Flaw (f : ℕ → ℕ → Bool) (w : ℕ) (s : List ℕ) : Refusal → Type 0 where
  not_text : (i : ℕ) → i < length s → is_text (slice_index s i) ≡ false → Flaw f w s (NotText i)
  not_admitted : (i : ℕ) → i < length s → f (before s i) (slice_index s i) ≡ false → Flaw f w s (NotAdmitted i)
  too_wide : (x : Span) → w < width_of class_of s → cell_at class_of s w ≡ Some x → Flaw f w s (TooWide x.start)

abbrev pub number_of : Refusal → ℕ
number_of r = (refusal_told r).number

abbrev pub place_of : Refusal → ℕ
place_of r = (refusal_told r).place

-- which flaw is told rather than another: 9 is the last, else the lower place is first, and at one place the lower number
abbrev pub Sooner : Refusal → Refusal → Type 0
Sooner q r = (number_of q < 9) × ((number_of r ≡ 9) ⊎ ((place_of q < place_of r) ⊎ ((place_of q ≡ place_of r) × (number_of q < number_of r))))

-- the answer: the width of a string with no flaw, or else a flaw than which none is sooner
pub data Checked (f : ℕ → ℕ → Bool) (w : ℕ) (s : List ℕ) : Result ℕ Refusal → Type 0 where
  taken : ((r : Refusal) → Flaw f w s r → ⊥) → Checked f w s (Ok (width_of class_of s))
  refused : (r : Refusal) → Flaw f w s r → ((q : Refusal) → Flaw f w s q → Sooner q r → ⊥) → Checked f w s (Err r)

-- the same as a function: first the codes in turn, from a place on with the code before it
abbrev pub walked : (ℕ → ℕ → Bool) → ℕ → ℕ → List ℕ → Result (Unit {0}) Refusal
walked f at b [] = Ok tt
walked f at b (c ∷ cs) = cond (is_text c) (cond (f b c) (walked f (at + 1) c cs) (Err (NotAdmitted at))) (Err (NotText at))

-- then the width, unless there is a cell past the last column
abbrev pub fitted : Option Span → ℕ → Result ℕ Refusal
fitted (Some x) n = Err (TooWide x.start)
fitted None n = Ok n

abbrev pub after : Result (Unit {0}) Refusal → Result ℕ Refusal → Result ℕ Refusal
after (Ok u) r = r
after (Err e) r = Err e

unfoldable pub checked : (ℕ → ℕ → Bool) → ℕ → List ℕ → Result ℕ Refusal
checked f w s = after (walked f 0 0 s) (fitted (cell_at class_of s w) (width_of class_of s))

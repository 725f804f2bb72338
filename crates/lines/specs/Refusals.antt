-- The number, the place and the layer of each of the editor's refusals.
use Rattle.std.specs.Prelude.{ℕ}
use Rattle.faults.specs.declared.layer.Layer.TheVariants.{Editor}
use Rattle.faults.specs.Told.{Told}
use Rattle.lines.specs.declared.refusal.Refusal.{Refusal}
use Rattle.lines.specs.declared.refusal.Refusal.TheVariants.{NotText, NotAdmitted, NextNotAdmitted, TooWide, NothingThere, WouldMeet}

abbrev pub edited : ℕ → ℕ → Told
edited n p = record { number = n; place = p; layer = Editor }

abbrev pub refusal_told : Refusal → Told
refusal_told (NotText p) = edited 6 p
refusal_told (NotAdmitted p) = edited 7 p
refusal_told (NextNotAdmitted p) = edited 8 p
refusal_told (TooWide p) = edited 9 p
refusal_told (NothingThere p) = edited 10 p
refusal_told (WouldMeet p) = edited 11 p

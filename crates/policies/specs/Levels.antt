-- The pairs that each level of checking admits (TIS 1566, clause 4.5.2).
use Rattle.std.specs.Prelude.{ℕ, Bool, true, [], ◌∷◌, nat_lt, slice_index_or}
use Rattle.codes.specs.declared.verdicts.Verdict.{Verdict}
use Rattle.codes.specs.declared.verdicts.Verdict.TheVariants.{Accept, Compose, StrictReject, Reject, NoDisplay}
use Rattle.codes.specs.Verdicts.{verdict_of}
use Rattle.policies.specs.declared.level.Level.{Level}
use Rattle.policies.specs.declared.level.Level.TheVariants.{Passthrough, Basic, Strict}

abbrev pub level_number : Level → ℕ
level_number Passthrough = 0
level_number Basic = 1
level_number Strict = 2

-- a number above 2 is taken as 2
abbrev pub level_numbered : ℕ → Level
level_numbered n = slice_index_or (Passthrough ∷ Basic ∷ []) n Strict

-- S is refused from level 2 on, and R from level 1 on
abbrev pub passes : Level → Verdict → Bool
passes l Accept = true
passes l Compose = true
passes l StrictReject = nat_lt (level_number l) 2
passes l Reject = nat_lt (level_number l) 1
passes l NoDisplay = true

unfoldable pub level_pairs : Level → ℕ → ℕ → Bool
level_pairs l first second = passes l (verdict_of first second)

use Rattle.std.proofs.Common.{◌≡◌, drop}
use Rattle.names.specs.Asked.{number_from}
use Rattle.names.proofs.settings.number_of.Given as goal

abbrev pub invariant-loop-code : goal.invariant-loop-code
invariant-loop-code l = number_from 0 l.word ≡ number_from l.number (drop l.code-index l.word)

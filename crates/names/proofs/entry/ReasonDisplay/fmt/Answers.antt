use Rattle.names.proofs.entry.ReasonDisplay.fmt.Goals as goal

pub returns-in-NotAdmitted-clause-writes : goal.returns-in-NotAdmitted-clause-writes
returns-in-NotAdmitted-clause-writes g c =
    rw (c.in-NotAdmitted.is, ← c.code_at-second.ensures, ← c.code_before-first.ensures) c.write-in-NotAdmitted.ensures.writes

pub returns-in-TooWide-clause-writes : goal.returns-in-TooWide-clause-writes
returns-in-TooWide-clause-writes g c = rw (c.in-TooWide.is, ← c.width-cells.ensures.value) c.write-in-TooWide.ensures.writes

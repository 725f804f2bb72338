use Rattle.std.proofs.Common.{◌≡◌, ◌+◌, ◌≤◌, ◌++◌, length, string_bytes}
use Rattle.names.specs.Lists.{names}
use Rattle.names.specs.Texts.{report_text}
use Rattle.names.proofs.report.report.Given as goal

-- the report on all names is what was written, and the report on those that are left
abbrev pub invariant-loop-name : goal.invariant-loop-name
invariant-loop-name l =
    record {
      ok : l.ok ≤ l.number;
      counted : l.number + length (names l.name-iterator.rest.now) ≤ length (names l.list);
      wrote : string_bytes l.text ++ report_text l.settings l.number l.ok (names l.name-iterator.rest.now) ≡ report_text l.settings 0 0 (names l.list);
    }

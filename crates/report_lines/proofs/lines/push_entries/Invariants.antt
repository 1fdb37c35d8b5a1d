-- What was written, then the lines that are left.
use Rattle.std.proofs.Common.{◌≡◌, ◌++◌, drop, string_bytes}
use Rattle.report_lines.specs.Lines.{entry_lines}
use Rattle.report_lines.proofs.lines.push_entries.Given as goal

abbrev pub invariant-loop-at : goal.invariant-loop-at
invariant-loop-at l = string_bytes l.out ++ entry_lines l.at (drop l.at l.entries) ≡ string_bytes l.fn.out ++ entry_lines 0 l.entries

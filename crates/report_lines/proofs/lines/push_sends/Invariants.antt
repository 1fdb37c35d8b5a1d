-- What was written, then the lines that are left.
use Rattle.std.proofs.Common.{◌≡◌, ◌++◌, drop, string_bytes}
use Rattle.report_lines.specs.Lines.{send_lines}
use Rattle.report_lines.proofs.lines.push_sends.Given as goal

abbrev pub invariant-loop-at : goal.invariant-loop-at
invariant-loop-at l = string_bytes l.out ++ send_lines l.at (drop l.at l.sends) ≡ string_bytes l.fn.out ++ send_lines 0 l.sends

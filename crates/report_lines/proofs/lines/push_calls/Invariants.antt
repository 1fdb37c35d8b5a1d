-- What was written, then the lines that are left.
use Rattle.std.proofs.Common.{◌≡◌, ◌++◌, drop, string_bytes}
use Rattle.report_lines.specs.Lines.{call_lines}
use Rattle.report_lines.proofs.lines.push_calls.Given as goal

abbrev pub invariant-loop-at : goal.invariant-loop-at
invariant-loop-at l =
    string_bytes l.out ++ call_lines l.at (drop l.at l.calls) (drop l.at l.outcomes) ≡ string_bytes l.fn.out ++ call_lines 0 l.calls l.outcomes

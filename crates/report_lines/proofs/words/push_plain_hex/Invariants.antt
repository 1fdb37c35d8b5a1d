-- The bytes so far are zeros.
use Rattle.std.proofs.Common.{◌≡◌, drop, string_bytes}
use Rattle.report_lines.specs.Words.{plain_hex}
use Rattle.report_lines.proofs.words.push_plain_hex.Given as goal

abbrev pub invariant-loop-at : goal.invariant-loop-at
invariant-loop-at l = (plain_hex (drop l.at l.bytes) ≡ plain_hex l.bytes) × (string_bytes l.out ≡ string_bytes l.fn.out)

-- What was written, then the bytes that are left.
use Rattle.std.proofs.Common.{◌≡◌, ◌++◌, drop, string_bytes}
use Rattle.report_lines.specs.Words.{hex}
use Rattle.report_lines.proofs.words.push_hex.Given as goal

abbrev pub invariant-loop-byte : goal.invariant-loop-byte
invariant-loop-byte l = string_bytes l.out ++ hex (drop l.byte-index l.bytes) ≡ string_bytes l.fn.out ++ hex l.bytes

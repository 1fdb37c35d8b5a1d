-- What was written, then the writes that are left.
use Rattle.std.proofs.Common.{◌≡◌, ◌++◌, drop, map, string_bytes}
use Rattle.report_lines.specs.Words.{failed_text, listed, more_texts}
use Rattle.report_lines.proofs.details.push_each_failed.Given as goal

abbrev pub invariant-loop-write : goal.invariant-loop-write
invariant-loop-write l =
    string_bytes l.out ++ more_texts (map failed_text (drop l.write-index l.rest))
    ≡ string_bytes l.fn.out ++ listed (map failed_text l.fn.writes)
